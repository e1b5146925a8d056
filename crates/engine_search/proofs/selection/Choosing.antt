-- The choice at a place of the list of choices, level by level: the place is parted by the number of choices of the rows behind.
use Prim.Native.Nat.{ℕ, ◌+◌, ◌-◌, ◌*◌, ◌/◌, ◌%◌, ◌≤◌, ◌<◌, zero-le}
use mathlib.Core.Path.{◌≡◌, sym, ap, ◌∙◌}
use mathlib.Core.List.{List, [], ◌∷◌, ◌++◌, map, append_assoc, append-nil}
use native.Mathlib.Omega.{arith}
use native.Mathlib.Nat.{add-zero, zero-add, mod-lt, mod-eq_of_lt, div-eq_of_lt, div-add-mod', div-lt_iff_lt-mul}
use native.Mathlib.Numerals.{add-one}
use lib.ListN.{length, take, drop, get_or, set, length-set}
use lib.Seq.{take_all, take-suc-set, get_or-take, get_or-drop}
use Rattle.rules_choices.specs.Choices.{choices}
use Rattle.rules_choices.specs.Numbered.{count, count_row, count_some, choice_at}
use Rattle.rules_choices.specs.insertion.Numbers.{numbers_from}
use Rattle.engine_table.specs.table.Rows.{rows_in}
use Rattle.engine_table.specs.table.Places.{start_of, row_in}
use Rattle.engine_table.specs.table.PlaceLaws.{rows_numbered, row_ends, row_length}
use Rattle.engine_search.specs.searching.Searches.{Searchable}
use Rattle.engine_search.specs.rows_behind.Behind.{Orders}
use Rattle.engine_search.specs.rows_behind.ByNumber.{number_is, by_number}
use Rattle.engine_search.specs.rows_behind.InOrder.{from_cons, from_none, from_levels}

-- the rows from row i on
abbrev pub rows_from : List ℕ → List ℕ → ℕ → List (List ℕ)
rows_from levels ends i = map (row_in levels ends) (drop i (numbers_from 0 32))

-- the loop before row i: the levels so far, and then the choice at `rank` of those that are left
pub record Choosing (levels ends choice award : List ℕ) (rank i : ℕ) : Type 0 where
  pub within : i ≤ 32
  pub long : length award ≡ 32
  pub below : rank < count (rows_from levels ends i)
  pub all : choice ≡ take i award ++ get_or (choices (rows_from levels ends i)) rank []

module _ {levels ends counts : List ℕ} (q : Searchable levels ends counts) where
  pub choosing_first : (index : ℕ) (award : List ℕ) → index < count (rows_in levels 0 ends) → length award ≡ 32 →
      Choosing levels ends (get_or (choices (rows_in levels 0 ends)) index []) award index 0
  choosing_first index award h l = record { within = zero-le; long = l; below = rw (rows_numbered q.table) at h; all = rw (rows_numbered q.table) }

  orders : Orders levels ends (numbers_from 0 32)
  orders = by_number q.table q.within_limit

  module _ {choice award : List ℕ} {rank i : ℕ} (c : Choosing levels ends choice award rank i) where
    pub choosing_end : 32 ≤ i → award ≡ choice
    unfolding choices
    choosing_end h =
        let e : i ≡ 32 = omega (arith, c.within) in
        let z : rows_from levels ends i ≡ [] = ap (rows_from levels ends) e ∙ from_none q.table orders in
        let b : rank < 1 = rw z at c.below in
        let r : rank ≡ 0 = omega arith in
        sym (c.all ∙ rw (z, r, take_all i award (omega (arith, c.long)), append-nil))

    module _ (h : i < 32) where
      abbrev n : ℕ
      n = get_or counts i 0

      abbrev row : List ℕ
      row = row_in levels ends i

      abbrev behind : List (List ℕ)
      behind = rows_from levels ends (i + 1)

      n_is : n ≡ count behind
      n_is = q.numbers i zero-le h

      pub n_some : 0 < n
      n_some = omega (arith, n_is, count_some behind (λ r m. (from_levels q.table orders (i + 1) r m).0))

      here : rows_from levels ends i ≡ row ∷ behind
      here = from_cons q.table orders i h ∙ ap (λ (k : ℕ). row_in levels ends k ∷ behind) (number_is 0 32 i h ∙ zero-add i)

      level_inside : rank / n < length row
      level_inside = (div-lt_iff_lt-mul n_some).1 (rw n_is (omega (arith, c.below, ap count here, count_row row behind)))

      pub level_there : start_of ends i + rank / n < 288
      level_there = omega (arith, level_inside, row_length q.table i h, row_ends q.table i h)

      pub choosing_again : Choosing levels ends choice (set award i (get_or levels (start_of ends i + rank / n) 0)) (rank % n) (i + 1)
      choosing_again =
          let v : ℕ = get_or levels (start_of ends i + rank / n) 0 in
          let l : get_or row (rank / n) 0 ≡ v =
          get_or-take (get_or ends i 0 - start_of ends i) (drop (start_of ends i) levels) (rank / n) 0 (omega (arith, level_inside, row_length q.table i h))
          ∙ get_or-drop (start_of ends i) levels (rank / n) 0 in
          let parted : rank ≡ rank / n * count behind + rank % n = rw (← n_is) (sym (div-add-mod' rank n)) in
          let m : rank % n < count behind = omega (arith, mod-lt rank n_some, n_is) in
          let e : get_or (choices (row ∷ behind)) rank [] ≡ v ∷ get_or (choices behind) (rank % n) [] =
          ap (λ (j : ℕ). get_or (choices (row ∷ behind)) j []) parted
          ∙ choice_at row behind (rank / n) (rank % n) level_inside m
          ∙ ap (λ (x : ℕ). x ∷ get_or (choices behind) (rank % n) []) l in
          record {
            within = omega arith;
            long = length-set award i v ∙ c.long;
            below = m;
            all =
                c.all
                ∙ ap (λ (rs : List (List ℕ)). take i award ++ get_or (choices rs) rank []) here
                ∙ ap (λ (x : List ℕ). take i award ++ x) e
                ∙ (let a : i < length award = omega (arith, c.long) in rw (add-one i, take-suc-set award i v a, append_assoc));
          }

      -- a place below n is under the first level, and the place behind
      module _ (first : rank < n) where
        no_level_lem : start_of ends i + rank / n ≡ start_of ends i
        no_level_lem = rw (div-eq_of_lt first) (add-zero (start_of ends i))

        pub first_there : start_of ends i < 288
        first_there = omega (arith, level_there, no_level_lem)

        pub choosing_low : Choosing levels ends choice (set award i (get_or levels (start_of ends i) 0)) rank (i + 1)
        choosing_low = rw (no_level_lem, mod-eq_of_lt first) at choosing_again
