-- Exact demand times CE, by its two formulas; Dem is it over CE, rounded up, on both sides of CE.
use Rattle.std.specs.Prelude.{ℕ, ◌+◌, ◌-◌, ◌*◌, ◌/◌, ◌≤◌, ◌<◌, ◌≡◌, ◌↔◌}
use Rattle.std.proofs.Common.{sym, ap, ◌∙◌, subst, ⊎_elim, arith, mul-le-mul, mul-lt-mul_of_pos_right, le-div_iff_mul-le, le-leb}
use Rattle.std.proofs.lemmas.Bool.{lt-leb}
use Rattle.rules_numbers.specs.Cases.{le_or_lt}
use Rattle.rules_demand.specs.Demand.{dem, divided_up}
use Rattle.rules_demand.specs.Remainder.{exact_times_ce}
use Rattle.rules_demand.specs.Range.{dem_from_ce, dem_below_ce, divided_up_le}

-- numbers with the same upper bounds are equal
same_bounds : (a b : ℕ) → ((y : ℕ) → (a ≤ y) ↔ (b ≤ y)) → a ≡ b
same_bounds a b f = let h : b ≤ a = (f a).0 (omega arith) in let g : a ≤ b = (f b).1 (omega arith) in omega arith

split_sum : (y r k x : ℕ) → ((y + r) * k - x ≤ y * k) ↔ (r * k ≤ x)
split_sum y r k x = ((λ h. omega arith), (λ h. omega arith))

split_plus : (d r k n : ℕ) → (d * k + n ≤ (d + r) * k) ↔ (n ≤ r * k)
split_plus d r k n = ((λ h. omega arith), (λ h. omega arith))

module _ (d k : ℕ) (some : 0 < k) where
  up_of_less : (x : ℕ) → divided_up (d * k - x) k ≡ d - x / k
  up_of_less x = same_bounds _ _ (λ y. ⊎_elim (within y) (beyond y) (le_or_lt y d))
    where
      within : (y : ℕ) → y ≤ d → (divided_up (d * k - x) k ≤ y) ↔ (d - x / k ≤ y)
      within y h = (
        (λ g. let q : d - y ≤ x / k = (le-div_iff_mul-le some).1
            ((split_sum y (d - y) k x).0 (subst (λ (n : ℕ). n * k - x ≤ y * k) e ((divided_up_le _ k y some).0 g))) in omega arith),
        (λ g. (divided_up_le _ k y some).1 (subst (λ (n : ℕ). n * k - x ≤ y * k) (sym e)
            ((split_sum y (d - y) k x).1 ((le-div_iff_mul-le some).0 (omega arith))))),
      )
        where
          e : d ≡ y + (d - y)
          e = omega arith

      beyond : (y : ℕ) → d < y → (divided_up (d * k - x) k ≤ y) ↔ (d - x / k ≤ y)
      beyond y h = (
        (λ g. omega arith),
        (λ g. (divided_up_le _ k y some).1
            (let w : d * k ≤ y * k = mul-le-mul {n₂ = y} {m₂ = k} (omega arith) (omega arith) in omega arith)),
      )

  up_of_more : (n : ℕ) → divided_up (d * k + n) k ≡ d + divided_up n k
  up_of_more n = same_bounds _ _ (λ y. ⊎_elim (within y) (beyond y) (le_or_lt d y))
    where
      within : (y : ℕ) → d ≤ y → (divided_up (d * k + n) k ≤ y) ↔ (d + divided_up n k ≤ y)
      within y h = (
        (λ g. let q : divided_up n k ≤ y - d = (divided_up_le n k (y - d) some).1
            ((split_plus d (y - d) k n).0 (subst (λ (m : ℕ). d * k + n ≤ m * k) e ((divided_up_le _ k y some).0 g))) in omega arith),
        (λ g. (divided_up_le _ k y some).1 (subst (λ (m : ℕ). d * k + n ≤ m * k) (sym e)
            ((split_plus d (y - d) k n).1 ((divided_up_le n k (y - d) some).0 (omega arith))))),
      )
        where
          e : y ≡ d + (y - d)
          e = omega arith

      beyond : (y : ℕ) → y < d → (divided_up (d * k + n) k ≤ y) ↔ (d + divided_up n k ≤ y)
      beyond y h = (
        (λ g. absurd (let w : d * k + n ≤ y * k = (divided_up_le _ k y some).0 g in let v : y * k < d * k = mul-lt-mul_of_pos_right h some in omega arith)),
        (λ g. absurd (omega arith)),
      )

module _ (ce d m1 m2 p : ℕ) where
  pub exact_from_ce : ce ≤ p → exact_times_ce ce d m1 m2 p ≡ d * ce - (d - m1) * (p - ce)
  unfolding exact_times_ce
  exact_from_ce h = rw (le-leb ce p h)

  pub exact_below_ce : p < ce → exact_times_ce ce d m1 m2 p ≡ d * ce + 2 * (m2 - d) * (ce - p)
  unfolding exact_times_ce
  exact_below_ce h = rw (lt-leb ce p h)

  pub dem_rounds_up : 0 < ce → dem ce d m1 m2 p ≡ divided_up (exact_times_ce ce d m1 m2 p) ce
  dem_rounds_up some = ⊎_elim from below (le_or_lt ce p)
    where
      from : ce ≤ p → dem ce d m1 m2 p ≡ divided_up (exact_times_ce ce d m1 m2 p) ce
      from h = dem_from_ce ce d m1 m2 p h ∙ sym (up_of_less d ce some ((d - m1) * (p - ce))) ∙ ap (λ (n : ℕ). divided_up n ce) (sym (exact_from_ce h))

      below : p < ce → dem ce d m1 m2 p ≡ divided_up (exact_times_ce ce d m1 m2 p) ce
      below h = dem_below_ce ce d m1 m2 p h ∙ sym (up_of_more d ce some (2 * (m2 - d) * (ce - p))) ∙ ap (λ (n : ℕ). divided_up n ce) (sym (exact_below_ce h))
