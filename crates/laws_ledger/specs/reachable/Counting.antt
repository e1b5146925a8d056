-- A list that goes strictly down through declared levels or 0, from one of them, is no longer than the list of levels.
use Rattle.std.specs.Prelude.{ℕ, suc, ◌≤◌, ◌<◌, ◌≡◌, true, ltb, length}
use Rattle.std.proofs.Common.{zero-le, ⊎_elim, arith, lt-ltb, le-ltb}
use mathlib.Core.List.Memᴰ
use mathlib.Core.List.{List, [], ◌∷◌, Memᴰ}
use Rattle.rules_numbers.specs.Cases.{le_or_lt}
use Rattle.rules_numbers.specs.Lists.{keep}
use Rattle.rules_numbers.specs.ListLaws.{keep_le}
use Rattle.rules_auction.specs.Ledger.{declared_or_zero}
use Rattle.rules_auction.specs.Refusals.{lowering}
use Rattle.rules_auction.specs.CheckLaws.{declared_or_zero_lem, lowering_first}

-- how many of the numbers are below q
below : ℕ → List ℕ → ℕ
below q xs = length (keep (λ x. ltb x q) xs)

below_in : (q x : ℕ) (xs : List ℕ) → x < q → below q (x ∷ xs) ≡ suc (below q xs)
unfolding below keep
below_in q x xs h = rw (lt-ltb x q h)

below_out : (q x : ℕ) (xs : List ℕ) → q ≤ x → below q (x ∷ xs) ≡ below q xs
unfolding below keep
below_out q x xs h = rw (le-ltb x q h)

below_next : (q x : ℕ) (xs : List ℕ) → (below q xs ≤ below q (x ∷ xs)) × (below q (x ∷ xs) ≤ suc (below q xs))
below_next q x xs =
    ⊎_elim (λ h. let e = below_out q x xs h in (omega arith, omega arith)) (λ h. let e = below_in q x xs h in (omega arith, omega arith)) (le_or_lt q x)

below_rises : (v q : ℕ) (xs : List ℕ) → v ≤ q → below v xs ≤ below q xs
unfolding below keep
below_rises v q [] h = zero-le
below_rises v q (x ∷ xs) h = ⊎_elim
    (λ k. omega (arith, below_out v x xs k, below_next q x xs, below_rises v q xs h))
    (λ k. omega (arith, below_in v x xs k, below_in q x xs (omega arith), below_rises v q xs h))
    (le_or_lt v x)

-- v itself is below q and not below v
below_strict : (v q : ℕ) (xs : List ℕ) → Memᴰ v xs → v < q → below v xs < below q xs
below_strict v q [] m h = absurd (Memᴰ.not-nil m)
below_strict v q (x ∷ xs) m h = ⊎_elim
    (λ e. omega (arith, below_out v x xs (omega arith), below_in q x xs (omega arith), below_rises v q xs (omega arith)))
    (λ k. let r : below v xs < below q xs = below_strict v q xs k h in ⊎_elim
    (λ g. omega (arith, below_out v x xs g, below_next q x xs))
    (λ g. omega (arith, below_in v x xs g, below_in q x xs (omega arith)))
    (le_or_lt v x))
    (Memᴰ.cases_cons m)

declared_in : (v : ℕ) (ls : List ℕ) → declared_or_zero ls v ≡ true → Memᴰ v (0 ∷ ls)
declared_in v ls e = ⊎_elim Memᴰ.head Memᴰ.tail ((declared_or_zero_lem ls v).0 e)

lowering_below : (ls : List ℕ) (q : ℕ) (vs : List ℕ) → lowering ls q vs ≡ true → length vs ≤ below q (0 ∷ ls)
lowering_below ls q [] e = zero-le
lowering_below ls q (v ∷ vs) e =
    let t = lowering_first ls q v vs e in
    omega (arith, lowering_below ls v vs t.2, below_strict v q (0 ∷ ls) (declared_in v ls t.0) t.1)

pub lowering_few : (ls : List ℕ) (q : ℕ) (vs : List ℕ) → Memᴰ q (0 ∷ ls) → lowering ls q vs ≡ true → length vs ≤ length ls
unfolding below
lowering_few ls q vs m e = omega (arith, lowering_below ls q vs e, below_strict q (suc q) (0 ∷ ls) m (omega arith), keep_le (λ x. ltb x (suc q)) (0 ∷ ls))
