-- The rows of a table in some order: what stands at a place, and that the sums and the number of choices behind it fit.
use Rattle.std.specs.Prelude.{ℕ, zero, suc, ◌+◌, ◌-◌, ◌*◌, ◌≤◌, ◌<◌, ◌≡◌, refl, length, drop, get_or}
use Rattle.std.proofs.Common.{zero-le, ap, ◌∙◌, ⊎_elim, arith, mul-le-mul_right, one-mul, add-one, length-drop, drop_of_length-le, drop-cons}
use mathlib.Core.List.Memᴰ
use mathlib.Core.List.{List, [], ◌∷◌, map, Memᴰ}
use Rattle.std.proofs.lemmas.List.{length-map}
use Rattle.rules_numbers.specs.ListLaws.{Each, in_map, last_in, total_map_bound}
use Rattle.rules_choices.specs.Search.{low_of, high_of, lowest_total, highest_total}
use Rattle.rules_choices.specs.Kept.{Levels}
use Rattle.rules_choices.specs.EachChoice.{nth_in}
use Rattle.rules_choices.specs.Numbered.{count, count_row}
use Rattle.engine_table.specs.table.Places.{ValidRow, ValidTable, row_in}
use Rattle.engine_table.specs.table.PlaceLaws.{row_some, row_valid}
use Rattle.engine_search.specs.rows_behind.Behind.{Orders}

-- ---- sums of rows whose levels are at most 10^9

pub low_fits : (row : List ℕ) → ValidRow row → low_of row ≤ 1000000000
low_fits [] r = zero-le
low_fits (v ∷ vs) r = r.1 v (Memᴰ.head refl)

pub high_fits : (row : List ℕ) → ValidRow row → high_of row ≤ 1000000000
high_fits row r = ⊎_elim (λ e. omega arith) (λ k. r.1 (high_of row) k) (Memᴰ.cases_cons (last_in 0 row))

lowest_total_fits : (rows : List (List ℕ)) → Each ValidRow rows → lowest_total rows ≤ length rows * 1000000000
unfolding lowest_total
lowest_total_fits rows h = total_map_bound low_of 1000000000 rows (λ row m. low_fits row (h row m))

highest_total_fits : (rows : List (List ℕ)) → Each ValidRow rows → highest_total rows ≤ length rows * 1000000000
unfolding highest_total
highest_total_fits rows h = total_map_bound high_of 1000000000 rows (λ row m. high_fits row (h row m))

-- ---- by place

module _ {levels ends order : List ℕ} (t : ValidTable levels ends) (o : Orders levels ends order) where
  -- the rows from place i on
  abbrev pub from : ℕ → List (List ℕ)
  from i = map (row_in levels ends) (drop i order)

  pub number_at : (i : ℕ) → i < 32 → get_or order i 0 < 32
  number_at i h = o.numbers (get_or order i 0) (nth_in 0 order i (omega (arith, o.long)))

  pub order_cons : (i : ℕ) → i < 32 → drop i order ≡ get_or order i 0 ∷ drop (i + 1) order
  order_cons i h = drop-cons order i 0 (omega (arith, o.long)) ∙ rw (add-one i)

  pub from_cons : (i : ℕ) → i < 32 → from i ≡ row_in levels ends (get_or order i 0) ∷ from (i + 1)
  from_cons i h = ap (map (row_in levels ends)) (order_cons i h)

  pub from_none : from 32 ≡ []
  from_none = rw (drop_of_length-le order {i = 32} (omega (arith, o.long)))

  -- what holds of every row of the table holds of those from place i on
  pub from_each : (P : List ℕ → Type 0) → ((k : ℕ) → k < 32 → P (row_in levels ends k)) → (i : ℕ) → Each P (from i)
  from_each P h i row m = let r = (in_map (row_in levels ends) row (drop i order)).0 m in rw r.2 (h r.0 (o.numbers r.0 (in_drop i order r.1)))
    where
      in_drop : {k : ℕ} (i : ℕ) (ks : List ℕ) → Memᴰ k (drop i ks) → Memᴰ k ks
      in_drop zero ks m = m
      in_drop (suc i) [] m = m
      in_drop (suc i) (j ∷ ks) m = Memᴰ.tail (in_drop i ks m)

  pub from_levels : (i : ℕ) → Each Levels (from i)
  from_levels = from_each Levels (λ k h. (row_some t k h, (row_valid t k h).0))

  -- no row is empty, so that fewer rows have no more choices
  pub from_few : (i : ℕ) → i ≤ 32 → count (from i) ≤ 65536
  from_few zero h = o.within_limit
  from_few (suc i) h =
      let k : ℕ = get_or order i 0 in
      let n : ℕ = count (from (i + 1)) in
      let l : 1 * n ≤ length (row_in levels ends k) * n = mul-le-mul_right n (row_some t k (number_at i h)) in
      let c : count (from i) ≡ length (row_in levels ends k) * n = ap count (from_cons i h) ∙ count_row (row_in levels ends k) (from (i + 1)) in
      rw (← add-one i) (omega (arith, one-mul n, from_few i (omega arith)))

  pub from_fits : (i : ℕ) → i ≤ 32 → (lowest_total (from i) ≤ (32 - i) * 1000000000) × (highest_total (from i) ≤ (32 - i) * 1000000000)
  from_fits i h =
      let n : length (from i) ≡ 32 - i = length-map (drop i order) (row_in levels ends) ∙ length-drop i order ∙ ap (λ (l : ℕ). l - i) o.long in
      (rw n at (lowest_total_fits (from i) (from_each ValidRow (row_valid t) i)), rw n at (highest_total_fits (from i) (from_each ValidRow (row_valid t) i)))
