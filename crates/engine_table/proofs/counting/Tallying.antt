-- Counting the choices row by row, against a limit.
use Prim.Native.Nat.{ℕ, ◌+◌, ◌-◌, ◌*◌, ◌≤◌, ◌<◌}
use mathlib.Core.Path.{◌≡◌, sym, ap, ◌∙◌}
use mathlib.Core.List.{List, [], ◌∷◌}
use native.Mathlib.Omega.{arith}
use native.Mathlib.Nat.{mul-one, mul_assoc, mul-le-mul, mul-le-mul_left, one-le-mul}
use lib.ListN.{length, drop, get_or, drop_of_length-le}
use Rattle.rules_numbers.specs.Lists.{part}
use Rattle.rules_choices.specs.Choices.{choices}
use Rattle.engine_table.specs.table.Rows.{rows_in, EndsRise}
use Rattle.rules_choices.specs.Numbered.{count, count_row}
use Rattle.engine_table.specs.table.PlaceLaws.{part_length, rows_cons, rise_row, rise_end}
use Rattle.engine_table.specs.counting.Counted.{CountedTo}

-- the number of choices, by the length of the first row
rows_count : (levels ends : List ℕ) (i at : ℕ) → i < length ends → get_or ends i 0 ≤ length levels →
    count (rows_in levels at (drop i ends)) ≡ (get_or ends i 0 - at) * count (rows_in levels (get_or ends i 0) (drop (i + 1) ends))
rows_count levels ends i at h k =
    let end : ℕ = get_or ends i 0 in
    rw (rows_cons levels ends i at h, count_row (part levels at end) (rows_in levels end (drop (i + 1) ends)), part_length levels at end k)

-- where no row is empty there is a choice
some_choice : (levels : List ℕ) → length levels ≡ 288 → (at : ℕ) (es : List ℕ) → EndsRise at es 288 → 0 < count (rows_in levels at es)
unfolding rows_in EndsRise choices
some_choice levels l at [] r = omega arith
some_choice levels l at (e ∷ es) r =
    let row : List ℕ = part levels at e in
    let k : 1 ≤ length row = omega (arith, part_length levels at e (omega (arith, rise_end e es r.1)), r.0) in
    rw (count_row row (rows_in levels e es)) (one-le-mul k (some_choice levels l e es r.1))

-- the loop before row i, which starts at `at`: the rows before it have n choices
pub record Tally (ends : List ℕ) (n at i : ℕ) : Type 0 where
  pub placed : i ≤ 32
  pub small : n ≤ 65536
  pub rise : EndsRise at (drop i ends) 288
  pub all : (levels : List ℕ) → length levels ≡ 288 → count (rows_in levels 0 ends) ≡ n * count (rows_in levels at (drop i ends))

module _ {ends : List ℕ} {n at i : ℕ} (t : Tally ends n at i) (e : length ends ≡ 32) where
  module _ (h : i < 32) where
    pub tally_row : (at < get_or ends i 0) × (get_or ends i 0 ≤ 288)
    tally_row = let r = rise_row ends i at (omega arith) t.rise in (r.0, rise_end (get_or ends i 0) (drop (i + 1) ends) r.1)

    pub tally_fits : n * (get_or ends i 0 - at) ≤ 18874368
    tally_fits = let p : n * (get_or ends i 0 - at) ≤ 65536 * 288 = mul-le-mul {n₂ = 65536} {m₂ = 288} t.small (omega (arith, tally_row.1)) in omega arith

    more : (levels : List ℕ) → length levels ≡ 288 →
        count (rows_in levels 0 ends) ≡ n * (get_or ends i 0 - at) * count (rows_in levels (get_or ends i 0) (drop (i + 1) ends))
    more levels l =
        t.all levels l
        ∙ ap (λ (m : ℕ). n * m) (rows_count levels ends i at (omega arith) (omega (arith, tally_row.1)))
        ∙ sym (mul_assoc n (get_or ends i 0 - at) (count (rows_in levels (get_or ends i 0) (drop (i + 1) ends))))

    pub tally_again : n * (get_or ends i 0 - at) ≤ 65536 → Tally ends (n * (get_or ends i 0 - at)) (get_or ends i 0) (i + 1)
    tally_again k = record { placed = omega arith; small = k; rise = (rise_row ends i at (omega arith) t.rise).1; all = more }

    -- the number of choices is no smaller than that of the rows passed
    pub tally_over : (limit : ℕ) → limit < n * (get_or ends i 0 - at) → CountedTo limit ends (n * (get_or ends i 0 - at))
    tally_over limit k = record {
      within = λ levels l w.
          let m : ℕ = n * (get_or ends i 0 - at) in
          let rest : ℕ = count (rows_in levels (get_or ends i 0) (drop (i + 1) ends)) in
          let s : 0 < rest = some_choice levels l (get_or ends i 0) (drop (i + 1) ends) (rise_row ends i at (omega arith) t.rise).1 in
          let g : m * 1 ≤ m * rest = mul-le-mul_left m s in
          absurd (omega (arith, more levels l, mul-one m));
      over = λ levels l w. k;
    }

  pub tally_end : (limit : ℕ) → 32 ≤ i → CountedTo limit ends n
  unfolding choices rows_in
  tally_end limit h =
      let z : drop i ends ≡ [] = drop_of_length-le ends {i = i} (omega arith) in
      let all : (levels : List ℕ) → length levels ≡ 288 → count (rows_in levels 0 ends) ≡ n =
      λ levels l. t.all levels l ∙ ap (λ (es : List ℕ). n * count (rows_in levels at es)) z ∙ mul-one n in
      record { within = λ levels l w. sym (all levels l); over = λ levels l w. omega (arith, all levels l) }
