-- PROMISED of the award (document 01, Closing price and award): the tie rule in words; of a sound ledger, what is open to a project, and the
-- choices of which the award is one.
use Rattle.std.specs.Prelude.{ℕ, zero, suc, ◌<◌, ◌≡◌, ◌↔◌, true, length, get_or}
use Rattle.std.proofs.Common.{inl, inr, arith}
use mathlib.Core.List.{List, [], ◌∷◌, map, Memᴰ}
use Rattle.rules_numbers.specs.Lists.{one_to, last_or}
use Rattle.rules_choices.specs.Choices.{larger, LargerWhereTheyDiffer}
use Rattle.rules_choices.specs.Pairwise.{rising_last}
use Rattle.rules_choices.specs.Larger.{larger_cons, larger_differs}
use Rattle.rules_choices.specs.Count.{product, choices_count, in_choices, one_of_each_map}
use Rattle.rules_auction.specs.Ledger.{Ledger}
use Rattle.rules_auction.specs.Clearing.{high, low, developers_of, greatest_of}
use Rattle.rules_auction.specs.Award.{open_to, row, rows, admissible}
use Rattle.laws_ledger.specs.Sound.{Sound}
use Rattle.laws_ledger.specs.awards.OpenLevels.{figure_open, highs_open, lows_open, row_rises, row_le_high, high_in_row, low_in_row}

-- ---- of equal totals

differs_larger : (b c : List ℕ) → length b ≡ length c → (i : ℕ) → ((j : ℕ) → j < i → get_or b j 0 ≡ get_or c j 0) → get_or c i 0 < get_or b i 0 → larger b c ≡ true
differs_larger [] [] e i s m = absurd (omega arith)
differs_larger [] (y ∷ c) e i s m = absurd (omega arith)
differs_larger (x ∷ b) [] e i s m = absurd (omega arith)
differs_larger (x ∷ b) (y ∷ c) e zero s m = (larger_cons x y b c).1 (inl m)
differs_larger (x ∷ b) (y ∷ c) e (suc i) s m =
    (larger_cons x y b c).1 (inr (s 0 (omega arith), differs_larger b c (omega arith) i (λ j h. s (suc j) (omega arith)) m))

-- the one with the larger level at the lowest project number where they differ is put first
pub larger_in_words : (b c : List ℕ) → length b ≡ length c → (larger b c ≡ true) ↔ LargerWhereTheyDiffer b c
larger_in_words b c e = (larger_differs b c, (λ d. differs_larger b c e d.place d.same d.more))

-- ---- open levels

module _ (l : Ledger) (p k : ℕ) (s : Sound l) where
  -- a project's high and its low are open to it
  pub high_open : (developers_of l k ≡ [] → ⊥) → open_to l p k (greatest_of (high p) l k) ≡ true
  high_open = figure_open l p k (high p) (highs_open l p k s)

  pub low_open : (developers_of l k ≡ [] → ⊥) → open_to l p k (greatest_of (low p) l k) ≡ true
  low_open = figure_open l p k (low p) (lows_open l p k s)

  -- the last of its open levels is the high
  pub row_last : last_or 0 (row l p k) ≡ greatest_of (high p) l k
  row_last = rising_last (row l p k) _ 0 (row_rises l p k) (high_in_row l p k s) (row_le_high l p k)

-- ---- admissible choices

-- as many as the product of the rows' lengths
pub choices_product : (l : Ledger) (p : ℕ) → length (admissible l p) ≡ product (map length (rows l p))
unfolding admissible
choices_product l p = choices_count (rows l p)

-- all projects at their lows is one; its total is the sum of the lows at p
pub lows_admissible : (l : Ledger) (p : ℕ) → Sound l → Memᴰ (map (greatest_of (low p) l) (one_to 32)) (admissible l p)
unfolding admissible rows
lows_admissible l p s = (in_choices (rows l p) _).1 (one_of_each_map (row l p) (greatest_of (low p) l) (one_to 32) (λ k m. low_in_row l p k s))
