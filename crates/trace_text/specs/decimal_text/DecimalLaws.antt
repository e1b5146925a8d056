-- Laws of decimal digits: the last digit, and how many there are.
use Rattle.std.specs.Prelude.{ℕ, zero, suc, ◌+◌, ◌/◌, ◌%◌, ◌^◌, ◌≤◌, ◌<◌, ◌≡◌, refl, Bool, true, false, cond, ltb, length}
use Rattle.std.proofs.Common.{ap, ◌∙◌, pow-suc, arith, lt-ltb, le-ltb, ltb-true, ltb-false, length-append}
use mathlib.Core.List.{List, [], ◌∷◌, ◌++◌}
use Rattle.trace_text.specs.decimal_text.Decimal.{decimal_in, decimal}

-- more places than digits change nothing
same_in : (j k n : ℕ) → n < j → n < k → decimal_in j n ≡ decimal_in k n
unfolding decimal_in
same_in zero k n h g = absurd (omega arith)
same_in (suc j) zero n h g = absurd (omega arith)
same_in (suc j) (suc k) n h g = go (ltb n 10) refl (λ i. same_in j k (n / 10) (omega arith) (omega arith))
  where
    go : (b : Bool) → ltb n 10 ≡ b → (10 ≤ n → decimal_in j (n / 10) ≡ decimal_in k (n / 10))
        → cond b ((48 + n) ∷ []) (decimal_in j (n / 10) ++ ((48 + n % 10) ∷ [])) ≡ cond b ((48 + n) ∷ []) (decimal_in k (n / 10) ++ ((48 + n % 10) ∷ []))
    go true e f = refl
    go false e f = ap (λ (l : List ℕ). l ++ ((48 + n % 10) ∷ [])) (f (ltb-false n 10 e))

module _ (n : ℕ) where
  pub decimal_one : n < 10 → decimal n ≡ (48 + n) ∷ []
  unfolding decimal decimal_in
  decimal_one h = rw (lt-ltb n 10 h)

  pub decimal_more : 10 ≤ n → decimal n ≡ decimal (n / 10) ++ ((48 + n % 10) ∷ [])
  unfolding decimal decimal_in
  decimal_more h = rw (le-ltb n 10 h) (ap (λ (l : List ℕ). l ++ ((48 + n % 10) ∷ [])) (same_in n (suc (n / 10)) (n / 10) (omega arith) (omega arith)))

  pub length_one : n < 10 → length (decimal n) ≡ 1
  length_one h = ap length (decimal_one h)

  pub length_more : 10 ≤ n → length (decimal n) ≡ length (decimal (n / 10)) + 1
  length_more h = ap length (decimal_more h) ∙ length-append (decimal (n / 10)) ((48 + n % 10) ∷ [])

-- a number below 10^(k + 1) has at most k + 1 digits
pub decimal_length : (k n : ℕ) → n < 10 ^ suc k → length (decimal n) ≤ suc k
decimal_length zero n h = omega (arith, length_one n (rw pow-suc at h))
decimal_length (suc k) n h = go (ltb n 10) refl (decimal_length k (n / 10) (omega (arith, pow-suc 10 (suc k))))
  where
    go : (b : Bool) → ltb n 10 ≡ b → length (decimal (n / 10)) ≤ suc k → length (decimal n) ≤ suc (suc k)
    go true e f = omega (arith, length_one n (ltb-true n 10 e))
    go false e f = omega (arith, length_more n (ltb-false n 10 e))

-- of 64 bits: at most 20
pub decimal_short : (n : ℕ) → n < 2 ^ 64 → length (decimal n) ≤ 20
decimal_short n h = decimal_length 19 n (omega arith)
