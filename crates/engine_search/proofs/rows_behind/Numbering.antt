-- The strides by number, from the last row up: each row multiplies the choices of those behind it by its length.
use Prim.Native.Nat.{ℕ, ◌+◌, ◌-◌, ◌*◌, ◌≤◌, ◌<◌}
use mathlib.Core.Path.{◌≡◌, sym, ap, subst, ◌∙◌}
use mathlib.Core.List.{List, map}
use native.Mathlib.Omega.{arith}
use native.Mathlib.Nat.{zero-add}
use lib.ListN.{length, drop, get_or, set, length-set}
use Rattle.rules_choices.specs.Choices.{choices}
use Rattle.rules_choices.specs.Numbered.{count}
use Rattle.rules_choices.specs.insertion.Numbers.{numbers_from}
use Rattle.engine_table.specs.table.Places.{start_of, row_in}
use Rattle.engine_table.specs.table.PlaceLaws.{row_ends}
use Rattle.engine_search.specs.rows_behind.Behind.{Orders, rows_behind, EachBehind}
use Rattle.engine_search.specs.rows_behind.InOrder.{from_none, from_few}
use Rattle.engine_search.specs.rows_behind.ByNumber.{FewChoices, number_is, by_number}
use Rattle.engine_search.proofs.rows_behind.Looking.{stored, count_here}

-- the loop below row i: n is the number of choices of the rows from i on
pub record Numbering (ends strides : List ℕ) (n i : ℕ) : Type 0 where
  pub placed : i ≤ 32
  pub long : length strides ≡ 32
  pub behind : (levels : List ℕ) → FewChoices levels ends → EachBehind count levels ends (numbers_from 0 32) strides i
  pub n_is : (levels : List ℕ) → FewChoices levels ends → n ≡ count (map (row_in levels ends) (drop i (numbers_from 0 32)))

by_numbers : {levels ends : List ℕ} → FewChoices levels ends → Orders levels ends (numbers_from 0 32)
by_numbers f = by_number f.0 f.1

pub numbering_first : {ends : List ℕ} (strides : List ℕ) → length strides ≡ 32 → Numbering ends strides 1 32
unfolding choices
numbering_first strides l = record {
  placed = omega arith;
  long = l;
  behind = λ levels f k g h. absurd (omega arith);
  n_is = λ levels f. ap count (sym (from_none f.0 (by_numbers f)));
}

pub numbering_down : {ends strides : List ℕ} {n i : ℕ} → Numbering ends strides n i → 0 < i → Numbering ends strides n (i - 1 + 1)
numbering_down {i = i} s h = let e : i - 1 + 1 ≡ i = omega arith in rw e s

module _ {ends strides : List ℕ} {n : ℕ} (i : ℕ) (s : Numbering ends strides n (i + 1)) where
  pub row : i < 32
  row = omega (arith, s.placed)

  n_here : (levels : List ℕ) → FewChoices levels ends → n * (get_or ends i 0 - start_of ends i) ≡ count (map (row_in levels ends) (drop i (numbers_from 0 32)))
  n_here levels f =
      let e : get_or (numbers_from 0 32) i 0 ≡ i = number_is 0 32 i row ∙ zero-add i in
      ap (λ (m : ℕ). m * (get_or ends i 0 - start_of ends i)) (s.n_is levels f)
      ∙ subst
      (λ (k : ℕ). count (rows_behind levels ends (numbers_from 0 32) i) * (get_or ends k 0 - start_of ends k)
      ≡ count (map (row_in levels ends) (drop i (numbers_from 0 32))))
      e (count_here f.0 (by_numbers f) i row)

  pub numbering_again : Numbering ends (set strides i n) (n * (get_or ends i 0 - start_of ends i)) i
  numbering_again = record {
    placed = omega (arith, row);
    long = length-set strides i n ∙ s.long;
    behind = λ levels f. stored (λ j. count (rows_behind levels ends (numbers_from 0 32) j)) 0 strides i n s.long row (s.n_is levels f) (s.behind levels f);
    n_is = n_here;
  }

  -- the table shows that the number fits
  module _ (t : (levels : List ℕ) × FewChoices levels ends) where
    pub row_inside : (start_of ends i < get_or ends i 0) × (get_or ends i 0 ≤ 288)
    row_inside = row_ends t.1.0 i row

    pub number_fits : n * (get_or ends i 0 - start_of ends i) ≤ 65536
    number_fits = omega (arith, n_here t.0 t.1, from_few t.1.0 (by_numbers t.1) i (omega (arith, row)))
