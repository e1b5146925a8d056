-- Where the rows of a table that is valid start and end, and that they are its rows by number.
use Rattle.std.specs.Prelude.{ℕ, zero, suc, ◌+◌, ◌-◌, ◌≤◌, ◌<◌, ◌≡◌, List, [], ◌∷◌, map, length, drop, get_or}
use Rattle.std.proofs.Common.{zero-le, sym, ap, ◌∙◌, arith, add-zero, add-one, length-take, length-drop, drop_of_length-le, drop-cons, get_or-take, get_or-drop}
use Rattle.rules_numbers.specs.Lists.{part}
use Rattle.rules_numbers.specs.ListLaws.{map_intro, last_at}
use Rattle.rules_choices.specs.Search.{low_of, high_of}
use Rattle.rules_choices.specs.insertion.Numbers.{numbers_from, numbers_in}
use Rattle.engine_table.specs.table.Rows.{rows_in, EndsRise}
use Rattle.engine_table.specs.table.Places.{ValidRow, ValidTable, start_of, row_in}

-- ---- parts of the levels

pub part_cons : (at e : ℕ) (levels : List ℕ) → at < e → at < length levels → part levels at e ≡ get_or levels at 0 ∷ part levels (at + 1) e
part_cons at e levels h k = let s : e - at ≡ suc (e - (at + 1)) = omega arith in rw (s, drop-cons levels at 0 k, add-one at)

pub part_length : (levels : List ℕ) (at e : ℕ) → e ≤ length levels → length (part levels at e) ≡ e - at
part_length levels at e h = simp (length-take, length-drop) (omega arith)

-- ---- the ends

pub rise_row : (ends : List ℕ) (i at : ℕ) → i < length ends → EndsRise at (drop i ends) 288 →
    (at < get_or ends i 0) × EndsRise (get_or ends i 0) (drop (i + 1) ends) 288
unfolding EndsRise
rise_row ends i at h r = rw add-one (rw (drop-cons ends i 0) at r)

pub rise_back : (ends : List ℕ) (i at : ℕ) → i < length ends → at < get_or ends i 0 → EndsRise (get_or ends i 0) (drop (i + 1) ends) 288 →
    EndsRise at (drop i ends) 288
unfolding EndsRise
rise_back ends i at h a r = rw (drop-cons ends i 0) (a, rw add-one at r)

pub rise_end : (at : ℕ) (es : List ℕ) → EndsRise at es 288 → at ≤ 288
unfolding EndsRise
rise_end at [] r = r
rise_end at (e ∷ es) r = omega (arith, r.0, rise_end e es r.1)

-- ---- the rows, by number

pub rows_cons : (levels ends : List ℕ) (i at : ℕ) → i < length ends →
    rows_in levels at (drop i ends) ≡ part levels at (get_or ends i 0) ∷ rows_in levels (get_or ends i 0) (drop (i + 1) ends)
unfolding rows_in
rows_cons levels ends i at h = rw (add-one i, drop-cons ends i 0 h)

rows_from_lem : (levels ends : List ℕ) (k n : ℕ) → k + n ≡ length ends → rows_in levels (start_of ends k) (drop k ends) ≡ map (row_in levels ends) (numbers_from k n)
unfolding rows_in numbers_from
rows_from_lem levels ends k zero e = rw (drop_of_length-le ends {i = k} (omega arith))
rows_from_lem levels ends k (suc n) e =
    rows_cons levels ends k (start_of ends k) (omega arith)
    ∙ rw (add-one k) (ap (λ rs. row_in levels ends k ∷ rs) (rows_from_lem levels ends (suc k) n (omega arith)))

module _ {levels ends : List ℕ} (t : ValidTable levels ends) where
  pub rows_numbered : rows_in levels 0 ends ≡ map (row_in levels ends) (numbers_from 0 32)
  rows_numbered = rows_from_lem levels ends 0 32 (sym t.long.1)

  rise_at : (k : ℕ) → k ≤ 32 → EndsRise (start_of ends k) (drop k ends) 288
  rise_at zero h = t.valid.0
  rise_at (suc k) h = rw add-one at (rise_row ends k (start_of ends k) (omega (arith, t.long.1)) (rise_at k (omega arith))).1

  -- row k is not empty, and ends within the levels
  pub row_ends : (k : ℕ) → k < 32 → (start_of ends k < get_or ends k 0) × (get_or ends k 0 ≤ 288)
  row_ends k h =
      let r = rise_row ends k (start_of ends k) (omega (arith, t.long.1)) (rise_at k (omega arith)) in
      (r.0, rise_end (get_or ends k 0) (drop (k + 1) ends) r.1)

  pub row_length : (k : ℕ) → k < 32 → length (row_in levels ends k) ≡ get_or ends k 0 - start_of ends k
  row_length k h = part_length levels (start_of ends k) (get_or ends k 0) (omega (arith, (row_ends k h).1, t.long.0))

  pub row_some : (k : ℕ) → k < 32 → 0 < length (row_in levels ends k)
  row_some k h = omega (arith, row_length k h, (row_ends k h).0)

  pub row_valid : (k : ℕ) → k < 32 → ValidRow (row_in levels ends k)
  row_valid k h = (rw rows_numbered at t.valid.1) (row_in levels ends k) (map_intro (row_in levels ends) (numbers_from 0 32) (numbers_in k 0 32 zero-le h))

  -- its two ends
  pub row_low : (k : ℕ) → k < 32 → get_or levels (start_of ends k) 0 ≡ low_of (row_in levels ends k)
  row_low k h =
      let s : ℕ = start_of ends k in
      let a = get_or-take (get_or ends k 0 - s) (drop s levels) 0 0 (omega (arith, (row_ends k h).0)) in
      sym (a ∙ get_or-drop s levels 0 0 ∙ ap (λ (j : ℕ). get_or levels j 0) (add-zero s))

  pub row_high : (k : ℕ) → k < 32 → get_or levels (get_or ends k 0 - 1) 0 ≡ high_of (row_in levels ends k)
  row_high k h =
      let s : ℕ = start_of ends k in
      let e : ℕ = get_or ends k 0 in
      let b = row_ends k h in
      sym
      (last_at 0 (row_in levels ends k) (e - s - 1) (omega (arith, row_length k h))
      ∙ get_or-take (e - s) (drop s levels) (e - s - 1) 0 (omega arith)
      ∙ get_or-drop s levels (e - s - 1) 0
      ∙ ap (λ (j : ℕ). get_or levels j 0) (omega arith))
