-- The admissible choices and the award of a sound ledger: where the price is covered, some choice covers, and the award is the best one. How many
-- choices the search for it keeps.
use Rattle.std.specs.Prelude.{ℕ, ◌≤◌, ◌≡◌, refl, true, length}
use Rattle.std.proofs.Common.{suc-le-suc, zero-le, sym, subst, ◌∙◌}
use Rattle.std.proofs.Math.Path.{ap}
use mathlib.Core.List.Memᴰ
use mathlib.Core.List.{List, [], ◌∷◌, map, Memᴰ, map-map}
use Rattle.std.proofs.Math.Dec.{leb}
use Rattle.std.proofs.Math.ListN.{length-map}
use Rattle.rules_numbers.specs.Lists.{one_to, total}
use Rattle.rules_numbers.specs.ListLaws.{Each, in_keep, in_map, length_one_to, map_same}
use Rattle.rules_auction.specs.Ledger.{Ledger}
use Rattle.rules_auction.specs.Clearing.{high, low, greatest_of, supply, demand_at, covered, closing_price}
use Rattle.rules_choices.specs.Choices.{covering, IsBest}
use Rattle.rules_choices.specs.Search.{low_of, lowest_total}
use Rattle.rules_auction.specs.Award.{row, rows, admissible, covering_choices, kept_choices, award}
use Rattle.laws_ledger.specs.Sound.{started, Sound}
use Rattle.laws_ledger.specs.clearing.ClosingPrice.{closing_price_lem}
use Rattle.rules_choices.specs.Pairwise.{Distinct, rising_distinct}
use Rattle.rules_choices.specs.Count.{choice_length, covering_le, in_choices, one_of_each_map, choices_distinct}
use Rattle.rules_choices.specs.Best.{best_choice}
use Rattle.rules_choices.specs.Kept.{Levels, kept_some, kept_le, kept_one}
use Rattle.laws_ledger.specs.awards.OpenLevels.{rows_rise, high_in_row, row_not_empty, row_first}

-- no admissible choice is listed twice
pub admissible_distinct : (l : Ledger) (p : ℕ) → Distinct (admissible l p)
unfolding admissible
admissible_distinct l p = choices_distinct (rows l p) (λ r m. rising_distinct r (rows_rise l p r m))

some_length : {A : Type 0} (xs : List A) → (xs ≡ [] → ⊥) → 1 ≤ length xs
some_length [] h = absurd (h refl)
some_length (x ∷ xs) h = suc-le-suc zero-le

module _ (l : Ledger) (p : ℕ) (s : Sound l) where
  -- all projects at their highs; the total is the supply at p
  pub highs_admissible : Memᴰ (map (greatest_of (high p) l) (one_to 32)) (admissible l p)
  unfolding admissible rows
  highs_admissible = (in_choices (rows l p) _).1 (one_of_each_map (row l p) (greatest_of (high p) l) (one_to 32) (λ k m. high_in_row l p k s))

  lowest_total_is : lowest_total (rows l p) ≡ supply (low p) l
  unfolding lowest_total rows supply
  lowest_total_is = ap total (map-map low_of (row l p) (one_to 32) ∙ map_same _ _ (one_to 32) (λ k m. row_first l p k s))

  rows_levels : Each Levels (rows l p)
  unfolding rows
  rows_levels r m =
      let k = (in_map (row l p) r (one_to 32)).0 m in
      (some_length r (λ e. row_not_empty l p k.0 s (sym k.2 ∙ e)), rows_rise l p r m)

  -- kept: at most the covering choices, 1 where all lows cover (document 02, 3) ..
  pub kept_few : kept_choices l p ≤ length (covering_choices l p)
  unfolding kept_choices covering_choices admissible
  kept_few = kept_le (demand_at l p) (rows l p) rows_levels

  pub kept_at_lows : demand_at l p ≤ supply (low p) l → kept_choices l p ≡ 1
  unfolding kept_choices
  kept_at_lows h = kept_one (demand_at l p) (rows l p) rows_levels (subst (λ n. demand_at l p ≤ n) (sym lowest_total_is) h)

  module _ (e : covered l p ≡ true) where
    -- and where p is covered, it covers
    pub highs_cover : Memᴰ (map (greatest_of (high p) l) (one_to 32)) (covering_choices l p)
    unfolding covering_choices covering covered supply
    highs_cover = (in_keep (λ c. leb (demand_at l p) (total c)) _ (admissible l p)).1 (highs_admissible, e)

    pub some_cover : covering_choices l p ≡ [] → ⊥
    some_cover none = Memᴰ.not-nil (rw none at highs_cover)

    -- .. and at least 1
    pub kept_not_none : 1 ≤ kept_choices l p
    unfolding kept_choices covering_choices admissible
    kept_not_none = kept_some (demand_at l p) (rows l p) rows_levels some_cover

    pub award_is : IsBest (demand_at l p) (admissible l p) (award l p)
    unfolding award covering_choices admissible
    award_is = best_choice (demand_at l p) (rows l p) some_cover

    pub award_length : length (award l p) ≡ 32
    unfolding admissible rows
    award_length = choice_length (rows l p) (award l p) award_is.admissible ∙ length-map (one_to 32) (row l p) ∙ length_one_to 32

    pub counts : (1 ≤ length (covering_choices l p)) × (length (covering_choices l p) ≤ length (admissible l p))
    unfolding covering_choices
    counts = (some_length (covering_choices l p) some_cover, covering_le (demand_at l p) (admissible l p))

-- at the closing price, once a round was opened
pub award_at_closing : (l : Ledger) → Sound l → started l.phase ≡ true →
    IsBest (demand_at l (closing_price l)) (admissible l (closing_price l)) (award l (closing_price l))
award_at_closing l s e = award_is l (closing_price l) s (closing_price_lem l s e).passes
