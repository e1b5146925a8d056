-- Testing that a table is valid: what is left passes exactly if the whole does.
use Prim.Native.Nat.{ℕ, zero, suc, ◌+◌, ◌-◌, ◌≤◌, ◌<◌}
use mathlib.Core.Path.{◌≡◌, refl, sym, ap, ◌∙◌}
use mathlib.Core.Bool.{Bool, true, false, false≢true}
use mathlib.Core.Logic.{⊎_elim}
use mathlib.Core.List.Memᴰ
use mathlib.Core.List.{List, [], ◌∷◌}
use native.Mathlib.Omega.{arith}
use native.Mathlib.Numerals.{add-one}
use lib.Dec.{leb, ltb}
use lib.ListN.{length, drop, get_or, drop_of_length-le}
use borrow.Author.Tests.{le-leb, leb-true, lt-ltb, ltb-true}
use Rattle.std.specs.List.{AllAdjacentBelow, IsAllAdjacentAnswer}
use Rattle.std.proofs.Common.{get_or-take, get_or-drop}
use Rattle.rules_numbers.specs.Lists.{part}
use Rattle.rules_numbers.specs.ListLaws.{Each}
use Rattle.rules_choices.specs.Pairwise.{StrictlyRising}
use Rattle.rules_choices.specs.EachChoice.{nth_in}
use Rattle.engine_table.specs.table.Rows.{rows_in, EndsRise}
use Rattle.engine_table.specs.table.Places.{ValidRow, ValidFrom}
use Rattle.engine_table.specs.table.PlaceLaws.{part_length, rows_cons, rise_row, rise_back, rise_end}
use Rattle.engine_table.specs.counting.Counted.{Tells}

tells_not : {P : Type 0} → (P → ⊥) → Tells false P
tells_not n = ((λ e. absurd (false≢true e)), (λ p. absurd (n p)))

-- ---- one row

-- a test of neighbours tells whether a list rises
rising_from : (xs : List ℕ) → AllAdjacentBelow (λ x y. true ≡ ltb x y) xs (length xs) → StrictlyRising xs
rising_from [] h = tt
rising_from (x ∷ []) h = ((λ y m. absurd (Memᴰ.not-nil m)), tt)
rising_from (x ∷ y ∷ xs) h =
    let a : x < y = ltb-true x y (sym (h 0 0 (omega arith))) in
    let r : StrictlyRising (y ∷ xs) = rising_from (y ∷ xs) (λ k d g. rw add-one (rw add-one at (h (suc k) d (omega arith)))) in
    ((λ z m. ⊎_elim (λ e. omega arith) (λ j. omega (arith, r.0 z j)) (Memᴰ.cases_cons m)), r)

rising_steps : (xs : List ℕ) → StrictlyRising xs → (k : ℕ) → k + 1 < length xs → get_or xs k 0 < get_or xs (k + 1) 0
rising_steps [] r k h = absurd (omega arith)
rising_steps (x ∷ []) r k h = absurd (omega arith)
rising_steps (x ∷ y ∷ xs) r zero h = r.0 y (Memᴰ.head refl)
rising_steps (x ∷ y ∷ xs) r (suc k) h = rw add-one (rw add-one at (rising_steps (y ∷ xs) r.1 k (omega arith)))

-- no number of a rising list is above its last
small_from : (b : ℕ) (xs : List ℕ) (n : ℕ) → StrictlyRising xs → length xs ≡ suc n → get_or xs n 0 ≤ b → Each (λ v. v ≤ b) xs
small_from b [] n r l h = λ v m. absurd (Memᴰ.not-nil m)
small_from b (x ∷ []) zero r l h = λ v m. omega (arith, Memᴰ.eq_of_singleton m)
small_from b (x ∷ []) (suc n) r l h = absurd (omega arith)
small_from b (x ∷ y ∷ xs) zero r l h = absurd (omega arith)
small_from b (x ∷ y ∷ xs) (suc n) r l h =
    let g : Each (λ v. v ≤ b) (y ∷ xs) = small_from b (y ∷ xs) n r.1 (omega arith) h in
    λ v m. ⊎_elim (λ e. omega (arith, r.0 y (Memᴰ.head refl), g y (Memᴰ.head refl))) (λ j. g v j) (Memᴰ.cases_cons m)

module _ (levels : List ℕ) (at end : ℕ) (l : length levels ≡ 288) (a : at < end) (e : end ≤ 288) where
  row_long : length (part levels at end) ≡ suc (end - 1 - at)
  row_long = omega (arith, part_length levels at end (omega arith))

  row_last : get_or (part levels at end) (end - 1 - at) 0 ≡ get_or levels (end - 1) 0
  row_last =
      get_or-take (end - at) (drop at levels) (end - 1 - at) 0 (omega arith)
      ∙ get_or-drop at levels (end - 1 - at) 0
      ∙ ap (λ (j : ℕ). get_or levels j 0) (omega arith)

  module _ (b : Bool) (t : IsAllAdjacentAnswer (λ x y r. r ≡ ltb x y) (part levels at end) b) where
    pub row_rising : b ≡ true → Tells (leb (get_or levels (end - 1) 0) 1000000000) (ValidRow (part levels at end))
    row_rising h =
        let r : StrictlyRising (part levels at end) = rising_from _ (rw h at t) in (
          (λ s. (r, small_from 1000000000 _ _ r row_long (omega (arith, row_last, leb-true _ _ s)))),
          (λ v. le-leb _ _ (omega (arith, row_last, v.1 _ (nth_in 0 _ (end - 1 - at) (omega (arith, row_long)))))),
        )

    pub row_falling : b ≡ false → Tells b (ValidRow (part levels at end))
    row_falling h =
        let f = rw h at t in
        rw h (tells_not λ v. false≢true (f.2 0 ∙ lt-ltb _ _ (rising_steps _ v.0 f.0 f.1)))

-- ---- all rows

-- the loop over the rows before row i, which starts at `at`
pub record Checking (levels ends : List ℕ) (at i : ℕ) : Type 0 where
  pub placed : i ≤ 32
  pub start : at ≤ 288
  pub from : ValidFrom levels at (drop i ends) → ValidFrom levels 0 ends
  pub into : ValidFrom levels 0 ends → ValidFrom levels at (drop i ends)

module _ {levels ends : List ℕ} {at i : ℕ} (c : Checking levels ends at i) (n : length ends ≡ 32) (h : i < 32) where
  rows : ValidFrom levels at (drop i ends) →
      (at < get_or ends i 0)
      × EndsRise (get_or ends i 0) (drop (i + 1) ends) 288
      × Each ValidRow (part levels at (get_or ends i 0) ∷ rows_in levels (get_or ends i 0) (drop (i + 1) ends))
  rows x = let r = rise_row ends i at (omega arith) x.0 in (r.0, r.1, rw (rows_cons levels ends i at (omega arith)) at x.1)

  pub checking_empty : get_or ends i 0 ≤ at → Tells false (ValidFrom levels 0 ends)
  checking_empty g = tells_not λ x. omega (arith, (rows (c.into x)).0)

  pub checking_long : 288 < get_or ends i 0 → Tells false (ValidFrom levels 0 ends)
  checking_long g = tells_not λ x. omega (arith, rise_end (get_or ends i 0) (drop (i + 1) ends) (rows (c.into x)).1)

  module _ (b : Bool) (t : Tells b (ValidRow (part levels at (get_or ends i 0)))) where
    pub checking_bad : b ≡ false → Tells false (ValidFrom levels 0 ends)
    checking_bad e = tells_not λ x. false≢true (sym e ∙ t.1 ((rows (c.into x)).2 (part levels at (get_or ends i 0)) (Memᴰ.head refl)))

    pub checking_again : at < get_or ends i 0 → get_or ends i 0 ≤ 288 → b ≡ true → Checking levels ends (get_or ends i 0) (i + 1)
    checking_again g k e = record {
      placed = omega arith;
      start = k;
      from = λ x. c.from (
        rise_back ends i at (omega arith) g x.0,
        rw (rows_cons levels ends i at (omega arith)) (λ r m. ⊎_elim (λ d. rw d (t.0 e)) (λ j. x.1 r j) (Memᴰ.cases_cons m)),
      );
      into = λ x. let y = rows (c.into x) in (y.1, (λ r m. y.2 r (Memᴰ.tail m)));
    }

pub checking_end : {levels ends : List ℕ} {at i : ℕ} → Checking levels ends at i → length ends ≡ 32 → 32 ≤ i → Tells true (ValidFrom levels 0 ends)
unfolding EndsRise rows_in
checking_end {levels} {ends} {at} {i} c n h = (
  (λ _. c.from (rw (drop_of_length-le ends {i = i} (omega arith)) (c.start, (λ r m. absurd (Memᴰ.not-nil m))))),
  (λ _. refl),
)
