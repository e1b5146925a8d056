-- What the rows behind each place of an order have, from the last place up.
use Prim.Native.Nat.{ℕ, ◌+◌, ◌-◌, ◌*◌, ◌≤◌, ◌<◌}
use mathlib.Core.Path.{◌≡◌, sym, ap, subst, ◌∙◌}
use mathlib.Core.Logic.{⊎_elim}
use mathlib.Core.List.{List, ◌∷◌, map}
use native.Mathlib.Omega.{arith}
use native.Mathlib.Nat.{mul_comm}
use lib.ListN.{length, drop, get_or, set, length-set}
use lib.Seq.{get_or-set_same, get_or-set_other}
use Rattle.rules_numbers.specs.Cases.{le_or_lt}
use Rattle.rules_numbers.specs.Lists.{total}
use Rattle.rules_choices.specs.Choices.{choices}
use Rattle.rules_choices.specs.Search.{lowest_total, highest_total}
use Rattle.rules_choices.specs.Between.{lowest_total_cons, highest_total_cons}
use Rattle.rules_choices.specs.Numbered.{count, count_row}
use Rattle.engine_table.specs.table.Places.{ValidTable, start_of, row_in}
use Rattle.engine_table.specs.table.PlaceLaws.{row_ends, row_length, row_low, row_high}
use Rattle.engine_search.specs.rows_behind.Behind.{Orders, rows_behind, row_at, no_row, RowsFrom}
use Rattle.engine_search.specs.declared.rows_behind.Row.{Row}
use Rattle.engine_search.specs.rows_behind.InOrder.{number_at, from_cons, from_none, from_few, from_fits}

-- one more is stored at place k
pub stored : {A : Type 0} (f : ℕ → A) (d : A) (out : List A) (k : ℕ) (x : A) → length out ≡ 32 → k < 32 → x ≡ f k →
    ((j : ℕ) → k + 1 ≤ j → j < 32 → get_or out j d ≡ f j) → (j : ℕ) → k ≤ j → j < 32 → get_or (set out k x) j d ≡ f j
stored f d out k x l h e b j g i =
    ⊎_elim
    (λ q. get_or-set_other out k j x d (λ d. omega arith) ∙ b j q i)
    (λ q. let m : k ≡ j = omega arith in subst (λ (m : ℕ). get_or (set out k x) m d ≡ f m) m (get_or-set_same out k x d (omega arith) ∙ e))
    (le_or_lt (k + 1) j)

-- the row at place i multiplies the choices of those behind it by its length
pub count_here : {levels ends order : List ℕ} → ValidTable levels ends → Orders levels ends order → (i : ℕ) → i < 32 →
    let k = get_or order i 0 in
    count (rows_behind levels ends order i) * (get_or ends k 0 - start_of ends k) ≡ count (map (row_in levels ends) (drop i order))
count_here {levels} {ends} {order} t o i h =
    let k : ℕ = get_or order i 0 in
    mul_comm (count (rows_behind levels ends order i)) (get_or ends k 0 - start_of ends k)
    ∙ ap (λ (m : ℕ). m * count (rows_behind levels ends order i)) (sym (row_length t k (number_at t o i h)))
    ∙ sym (ap count (from_cons t o i h) ∙ count_row (row_in levels ends k) (rows_behind levels ends order i))

-- the loop below place i: what the rows from i on have
pub record Looking (levels ends order strides : List ℕ) (rows : List Row) (n low high i : ℕ) : Type 0 where
  pub placed : i ≤ 32
  pub long : length rows ≡ 32
  pub rows_are : RowsFrom levels ends order strides rows i
  pub n_is : n ≡ count (map (row_in levels ends) (drop i order))
  pub low_is : low ≡ lowest_total (map (row_in levels ends) (drop i order))
  pub high_is : high ≡ highest_total (map (row_in levels ends) (drop i order))

pub looking_down : {levels ends order strides : List ℕ} {rows : List Row} {n low high i : ℕ} → Looking levels ends order strides rows n low high i →
    0 < i →
    Looking levels ends order strides rows n low high (i - 1 + 1)
looking_down {i = i} l h = let e : i - 1 + 1 ≡ i = omega arith in rw e l

module _ {levels ends order strides : List ℕ} (t : ValidTable levels ends) (o : Orders levels ends order) where
  pub looking_first : (rows : List Row) → length rows ≡ 32 → Looking levels ends order strides rows 1 0 0 32
  unfolding choices lowest_total highest_total total
  looking_first rows l = record {
    placed = omega arith;
    long = l;
    rows_are = λ k g h. absurd (omega arith);
    n_is = ap count (sym (from_none t o));
    low_is = ap lowest_total (sym (from_none t o));
    high_is = ap highest_total (sym (from_none t o));
  }

  module _ {rows : List Row} {n low high : ℕ} (i : ℕ) (l : Looking levels ends order strides rows n low high (i + 1)) where
    abbrev k : ℕ
    k = get_or order i 0

    abbrev start : ℕ
    start = start_of ends k

    abbrev end : ℕ
    end = get_or ends k 0

    row : i < 32
    row = omega (arith, l.placed)

    here : map (row_in levels ends) (drop i order) ≡ row_in levels ends k ∷ rows_behind levels ends order i
    here = from_cons t o i row

    pub looking_row : (k < 32) × (start < end) × (end ≤ 288)
    looking_row = let h = number_at t o i row in let b = row_ends t k h in (h, b.0, b.1)

    n_here : n * (end - start) ≡ count (map (row_in levels ends) (drop i order))
    n_here = ap (λ (m : ℕ). m * (end - start)) l.n_is ∙ count_here t o i row

    low_here : low + get_or levels start 0 ≡ lowest_total (map (row_in levels ends) (drop i order))
    low_here =
        omega (arith, l.low_is, ap lowest_total here, lowest_total_cons (row_in levels ends k) (rows_behind levels ends order i), row_low t k looking_row.0)

    high_here : high + get_or levels (end - 1) 0 ≡ highest_total (map (row_in levels ends) (drop i order))
    high_here =
        omega (
          arith,
          l.high_is,
          ap highest_total here,
          highest_total_cons (row_in levels ends k) (rows_behind levels ends order i),
          row_high t k looking_row.0,
        )

    pub looking_fits : (n * (end - start) ≤ 65536) × (low + get_or levels start 0 ≤ 32000000000) × (high + get_or levels (end - 1) 0 ≤ 32000000000)
    looking_fits =
        let f = from_fits t o i (omega (arith, row)) in
        (omega (arith, n_here, from_few t o i (omega (arith, row))), omega (arith, low_here, f.0), omega (arith, high_here, f.1))

    pub looking_again :
        let row : Row = record { start = start; end = end; stride = get_or strides k 0; ways = n; lows = low; highs = high } in
        Looking levels ends order strides (set rows i row) (n * (end - start)) (low + get_or levels start 0) (high + get_or levels (end - 1) 0) i
    looking_again = record {
      placed = omega (arith, row);
      long = simp length-set l.long;
      rows_are = stored (row_at levels ends order strides) no_row rows i _ l.long row (rw (l.n_is, l.low_is, l.high_is)) l.rows_are;
      n_is = n_here;
      low_is = low_here;
      high_is = high_here;
    }
