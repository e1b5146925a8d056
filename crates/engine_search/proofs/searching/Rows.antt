-- The rows of the search are those of a table in an order.
use Prim.Native.Nat.{ℕ, suc, ◌+◌, ◌-◌, ◌≤◌, ◌<◌, zero-le}
use mathlib.Core.Path.{◌≡◌, refl, sym, ap, ap₂, ◌∙◌}
use mathlib.Core.List.{List, [], ◌∷◌, map}
use native.Mathlib.Omega.{arith}
use lib.ListN.{length, drop, get_or, length-drop}
use lib.Seq.{get_or-drop}
use Rattle.rules_numbers.specs.Lists.{part}
use Rattle.rules_choices.specs.EachChoice.{Strided}
use Rattle.engine_table.specs.table.Places.{row_in}
use Rattle.engine_search.specs.rows_behind.Behind.{Orders, row_at, Looks, no_row, search_row}
use Rattle.engine_search.specs.declared.rows_behind.Row.{Row}
use Rattle.engine_search.specs.searching.Going.{strided, left}

-- row k of the table, with its stride
abbrev pub strided_in : List ℕ → List ℕ → List ℕ → ℕ → Strided
strided_in levels ends strides k = (get_or strides k 0, row_in levels ends k)

-- what is left at place i of the order, from the level at `at` on
abbrev pub left_in : List ℕ → List ℕ → List ℕ → List ℕ → ℕ → ℕ → List Strided
left_in levels ends order strides i at =
    (get_or strides (get_or order i 0) 0, part levels at (get_or ends (get_or order i 0) 0)) ∷ map (strided_in levels ends strides) (drop (i + 1) order)

maps_agree : {A B C : Type 0} (f : A → C) (g : B → C) (a : A) (b : B) (xs : List A) (ys : List B) → length xs ≡ length ys →
    ((j : ℕ) → j < length xs → f (get_or xs j a) ≡ g (get_or ys j b)) → map f xs ≡ map g ys
maps_agree f g a b [] [] e h = refl
maps_agree f g a b [] (y ∷ ys) e h = absurd (omega arith)
maps_agree f g a b (x ∷ xs) [] e h = absurd (omega arith)
maps_agree f g a b (x ∷ xs) (y ∷ ys) e h = ap₂ ◌∷◌ (h 0 (omega arith)) (maps_agree f g a b xs ys (omega arith) (λ j k. h (suc j) (omega arith)))

module _ {levels ends order strides : List ℕ} {rows : List Row} (o : Orders levels ends order) (l : Looks levels ends order strides rows) where
  rows_behind_lem : (i : ℕ) → i ≤ 32 → map (strided levels) (drop i rows) ≡ map (strided_in levels ends strides) (drop i order)
  rows_behind_lem i h =
      maps_agree (strided levels) (strided_in levels ends strides) no_row 0 (drop i rows) (drop i order)
      (length-drop i rows ∙ ap (λ (n : ℕ). n - i) (l.long ∙ sym o.long) ∙ sym (length-drop i order))
      (λ j k.
      let n : length (drop i rows) ≡ length rows - i = length-drop i rows in
      rw (get_or-drop i rows j no_row, get_or-drop i order j 0) (ap (strided levels) (l.rows_are (i + j) zero-le (omega (arith, l.long)))))

  pub left_is : (i at : ℕ) → i < 32 → left levels rows i at ≡ left_in levels ends order strides i at
  left_is i at h =
      let e : search_row rows i ≡ row_at levels ends order strides i = l.rows_are i zero-le h in
      ap₂ (λ (row : Row) (rs : List Strided). (row.stride, part levels at row.end) ∷ rs) e (rows_behind_lem (i + 1) (omega arith))
