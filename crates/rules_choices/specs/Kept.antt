-- The number of complete choices that the search does not set aside: at least 1 where some choice covers, at most the covering ones, and 1 where
-- all lows cover. The best total that the search finds is the best choice's.
use Prim.Native.Nat.{ℕ, suc, ◌≤◌, ◌<◌}
use Rattle.std.specs.Prelude.{◌≡◌, refl, ◌↔◌}
use Rattle.std.proofs.Common.{sym, ◌∙◌, ⊎_elim}
use Rattle.std.proofs.Math.Path.{ap}
use mathlib.Core.List.{List, [], ◌∷◌, map, Memᴰ}
use native.Mathlib.Omega.{arith}
use Rattle.std.proofs.Math.ListN.{length, get_or}
use Rattle.rules_numbers.specs.Lists.{total, any}
use Rattle.rules_numbers.specs.ListLaws.{Each}
use Rattle.rules_choices.specs.Choices.{choices, covering, best_of, IsBest}
use Rattle.rules_choices.specs.Pairwise.{StrictlyRising}
use Rattle.rules_choices.specs.Best.{best_choice}
use Rattle.rules_choices.specs.Search.{by_falling, low_of, high_of, lowest_total, highest_total, above_best, searched, found, kept}
use Rattle.rules_choices.specs.Falling.{falling_any, map_falling, each_any, total_any}
use Rattle.rules_choices.specs.Searched.{rank_of, in_order, found_in_order, lows_found}
use Rattle.rules_choices.specs.CoveringCount.{covering_from, covering_count, covering_any}
use Rattle.rules_choices.specs.EachChoice.{nth_in, Strided, row_of, Among, among_any}
use Rattle.rules_choices.specs.Numbered.{numbered, numbered_rows, numbered_from, choice_place}
use Rattle.rules_choices.specs.SearchedChoices.{found_few, found_from, found_least}

-- the open levels of a project: some, rising
abbrev pub Levels : List ℕ → Type 0
Levels row = (0 < length row) × StrictlyRising row

-- above all highs
abbrev top : List (List ℕ) → ℕ
top rows = suc (highest_total rows)

below_top : (rows : List (List ℕ)) → Each (λ row. high_of row < top rows) rows
unfolding highest_total total
below_top [] row m = absurd (mathlib.Core.List.Memᴰ.not-nil m)
below_top (r ∷ rows) row m = ⊎_elim (λ e. rw e (omega arith)) (λ k. omega (arith, below_top rows row k)) (mathlib.Core.List.Memᴰ.cases_cons m)

-- the rows in the order of the search, those with one level in front, with strides that number the choices as they are listed
abbrev ordered : List (List ℕ) → List Strided
ordered rows = by_falling (λ r. rank_of (top rows) (row_of r)) (numbered rows)

module _ (d : ℕ) (rows : List (List ℕ)) (levels : Each Levels rows) where
  found_is : found d rows ≡ searched d (in_order (top rows) rows) 0 []
  found_is = found_in_order d (top rows) rows (λ row m. (levels row m).0) (below_top rows)

  ordered_rows : map row_of (ordered rows) ≡ in_order (top rows) rows
  ordered_rows = map_falling (rank_of (top rows)) row_of (numbered rows) ∙ ap (in_order (top rows)) (numbered_rows rows)

  found_ordered : found d rows ≡ searched d (map row_of (ordered rows)) 0 []
  found_ordered = found_is ∙ ap (λ rs. searched d rs 0 []) (sym ordered_rows)

  rising : Each StrictlyRising (map row_of (ordered rows))
  rising = rw ordered_rows (falling_any (each_any StrictlyRising) (rank_of (top rows)) rows (λ row m. (levels row m).1))

  -- ---- at most the covering ones

  pub kept_le : kept d rows ≤ length (covering d (choices rows))
  unfolding kept
  kept_le =
      let same : covering_from d rows 0 ≡ covering_from d (in_order (top rows) rows) 0 = falling_any (covering_any d) (rank_of (top rows)) rows 0 in
      let few = found_few d (ordered rows) 0 0 rising in
      rw found_is (omega (arith, rw ordered_rows at few, covering_count d rows))

  -- ---- 1 where all lows cover

  pub kept_one : d ≤ lowest_total rows → kept d rows ≡ 1
  unfolding kept lowest_total above_best any
  kept_one h =
      let same : lowest_total rows ≡ lowest_total (in_order (top rows) rows) = falling_any (total_any low_of) (rank_of (top rows)) rows in
      let all : Each Levels (in_order (top rows) rows) = falling_any (each_any Levels) (rank_of (top rows)) rows levels in
      ap length (found_is ∙ lows_found d (in_order (top rows) rows) 0 [] (λ row m. (all row m).0) (λ row m. (all row m).1) (omega arith) refl)

  -- ---- the least total found is the best choice's

  same_choices : (u j : ℕ) → Among (numbered rows) 0 0 u j ↔ Among (ordered rows) 0 0 u j
  same_choices = falling_any among_any (λ r. rank_of (top rows) (row_of r)) (numbered rows) 0 0

  module _ (some : covering d (choices rows) ≡ [] → ⊥) where
    award : List ℕ
    award = best_of (covering d (choices rows))

    best : IsBest d (choices rows) award
    unfolding award
    best = best_choice d rows some

    pub found_at_least : Each (λ b. total (best_of (covering d (choices rows))) ≤ b) (found d rows)
    unfolding award
    found_at_least b m =
        let f = found_from d (ordered rows) 0 0 rising b (rw found_ordered at m) in
        let n = numbered_from rows 0 0 b f.1.0 ((same_choices b f.1.0).1 f.1.1) in
        let c : List ℕ = get_or (choices rows) n.0 [] in
        omega (arith, best.least c (nth_in [] (choices rows) n.0 n.1) (omega (arith, f.0, n.3)), n.3)

    pub best_found : Memᴰ (total (best_of (covering d (choices rows)))) (found d rows)
    unfolding award
    best_found =
        let k = choice_place rows award best.admissible in
        let f = found_least d (ordered rows) 0 0 (total award) k.0 rising ((same_choices (total award) k.0).0 k.3) best.covers in
        let m : Memᴰ f.0 (found d rows) = rw found_ordered f.1 in
        let e : f.0 ≡ total award = omega (arith, f.2, found_at_least f.0 m) in
        rw e at m

    pub kept_some : 1 ≤ kept d rows
    unfolding kept
    kept_some = some_in (found d rows) best_found
      where
        some_in : {b : ℕ} (bs : List ℕ) → Memᴰ b bs → 1 ≤ length bs
        some_in [] m = absurd (mathlib.Core.List.Memᴰ.not-nil m)
        some_in (b ∷ bs) m = omega arith
