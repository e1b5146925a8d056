-- The two orders of a table's rows that the search knows: by number, which numbers the choices as they are listed, and that of the search.
use Prim.Native.Nat.{ℕ, zero, suc, ◌+◌, ◌≤◌, ◌<◌, zero-le}
use mathlib.Core.Path.{◌≡◌, refl, sym, ap, ap₂, ◌∙◌}
use mathlib.Core.Logic.{◌↔◌}
use mathlib.Core.List.{List, ◌∷◌, map, map-map}
use native.Mathlib.Omega.{arith}
use native.Mathlib.Nat.{add-zero, zero-add}
use lib.ListN.{drop, get_or}
use Rattle.rules_choices.specs.Search.{by_falling}
use Rattle.rules_choices.specs.Searched.{rank_of, in_order}
use Rattle.rules_choices.specs.Falling.{falling_any, map_falling, each_any, length_any}
use Rattle.rules_choices.specs.CoveringCount.{choices_any}
use Rattle.rules_choices.specs.Numbered.{count, numbered}
use Rattle.rules_choices.specs.EachChoice.{Strided, row_of, Among, among_any}
use Rattle.rules_choices.specs.insertion.Numbers.{numbers_from}
use Rattle.engine_table.specs.table.Rows.{rows_in}
use Rattle.engine_table.specs.table.Places.{row_in}
use Rattle.engine_table.specs.table.PlaceLaws.{rows_numbered}
use Rattle.engine_search.specs.ordering.Ranks.{rank_in, search_order}
use Rattle.engine_search.specs.rows_behind.Behind.{Orders}
use Rattle.engine_search.specs.rows_behind.ByNumber.{by_number}
use Rattle.engine_search.specs.searching.Searches.{Searchable}
use Rattle.engine_search.proofs.searching.Rows.{strided_in}
use Rattle.engine_search.specs.rows_behind.InOrder.{from_few}

-- above all highs
abbrev pub top : ℕ
top = 4294967295

numbers_drop : (j k n : ℕ) → drop j (numbers_from k (j + n)) ≡ numbers_from (k + j) n
unfolding numbers_from
numbers_drop zero k n = rw (zero-add n, add-zero k)
numbers_drop (suc j) k n =
    let e : suc j + n ≡ suc (j + n) = omega arith in
    let f : k + suc j ≡ suc k + j = omega arith in
    rw (e, f) (numbers_drop j (suc k) n)

module _ {levels ends strides : List ℕ} (q : Searchable levels ends strides) where
  pub numbers_order : Orders levels ends (numbers_from 0 32)
  numbers_order = by_number q.table q.within_limit

  -- ---- by number: the strides number the choices as they are listed

  numbered_from : (k n : ℕ) → k + n ≡ 32 → numbered (map (row_in levels ends) (numbers_from k n)) ≡ map (strided_in levels ends strides) (numbers_from k n)
  unfolding numbers_from numbered
  numbered_from k zero e = refl
  numbered_from k (suc n) e =
      let l : 32 ≡ k + 1 + n = omega arith in
      let m : 0 + (k + 1) ≡ suc k = omega arith in
      let d : drop (k + 1) (numbers_from 0 32) ≡ numbers_from (suc k) n =
      ap (λ (j : ℕ). drop (k + 1) (numbers_from 0 j)) l ∙ numbers_drop (k + 1) 0 n ∙ ap (λ (j : ℕ). numbers_from j n) m in
      ap₂
      (λ (c : ℕ) (rs : List Strided). (c, row_in levels ends k) ∷ rs)
      (sym (q.numbers k zero-le (omega arith) ∙ ap (λ ks. count (map (row_in levels ends) ks)) d))
      (numbered_from (suc k) n (omega arith))

  numbered_is : numbered (rows_in levels 0 ends) ≡ map (strided_in levels ends strides) (numbers_from 0 32)
  numbered_is = ap numbered (rows_numbered q.table) ∙ numbered_from 0 32 refl

  pub strides_small : (k : ℕ) → k < 32 → get_or strides k 0 ≤ 65536
  strides_small k h = omega (arith, q.numbers k zero-le h, from_few q.table numbers_order (k + 1) (omega arith))

  -- ---- in the order of the search

  ordered_rows : map (row_in levels ends) (search_order levels ends) ≡ in_order top (rows_in levels 0 ends)
  unfolding search_order
  ordered_rows = map_falling (rank_of top) (row_in levels ends) (numbers_from 0 32) ∙ ap (in_order top) (sym (rows_numbered q.table))

  pub in_order_lem : Orders levels ends (search_order levels ends)
  unfolding search_order
  in_order_lem = record {
    long = sym (falling_any length_any (rank_in levels ends) (numbers_from 0 32)) ∙ numbers_order.long;
    numbers = falling_any (each_any (λ k. k < 32)) (rank_in levels ends) (numbers_from 0 32) numbers_order.numbers;
    within_limit = rw (ordered_rows, ← falling_any choices_any (rank_of top) (rows_in levels 0 ends)) q.within_limit;
  }

  -- the strided rows of the search, its rows, and the same choices as listed
  abbrev pub ordered : List Strided
  ordered = map (strided_in levels ends strides) (search_order levels ends)

  pub ordered_rows_are : map row_of ordered ≡ in_order top (rows_in levels 0 ends)
  ordered_rows_are = map-map row_of (strided_in levels ends strides) (search_order levels ends) ∙ ordered_rows

  pub same_choices : (u j : ℕ) → Among (numbered (rows_in levels 0 ends)) 0 0 u j ↔ Among ordered 0 0 u j
  unfolding search_order
  same_choices =
      let e : by_falling (λ r. rank_of top (row_of r)) (numbered (rows_in levels 0 ends)) ≡ ordered =
      ap (by_falling (λ r. rank_of top (row_of r))) numbered_is
      ∙ sym (map_falling (λ r. rank_of top (row_of r)) (strided_in levels ends strides) (numbers_from 0 32)) in
      rw e at (falling_any among_any (λ r. rank_of top (row_of r)) (numbered (rows_in levels 0 ends)) 0 0)
