-- Dem is the inverse of the curve: below 2 CE, a quantity is at least Dem(p) exactly when the curve prices it at most p.
-- The parts of the curve are compared by cross-multiplying, over natural numbers in which each difference is a variable.
use Rattle.std.specs.Prelude.{ℕ, ◌+◌, ◌-◌, ◌*◌, ◌/◌, ◌≤◌, ◌<◌, ◌≡◌, ◌↔◌, true}
use Rattle.std.proofs.Common.{sym, subst₂, ⊎_elim, arith, mul-le-mul, mul-le-mul_left, mul-lt-mul_of_pos_right, le-div_iff_mul-le}
use Rattle.rules_numbers.specs.Cases.{le_or_lt}
use Rattle.rules_demand.specs.Curve.{priced}
use Rattle.rules_demand.specs.Demand.{dem, divided_up, InBounds, InRange}
use Rattle.rules_demand.specs.Signs.{priced_below, priced_upper, priced_lower, priced_above}
use Rattle.rules_demand.specs.Range.{dem_from_ce, dem_below_ce, divided_up_le, range_from_ce, range_below_ce, dem_range}

-- with a = D - M1, t = p - CE, r = D - q
cross_upper : (ce a t r : ℕ) → (r * ce ≤ a * t) ↔ (ce * (r + a) ≤ (ce + t) * a)
cross_upper ce a t r = ((λ g. omega arith), (λ g. omega arith))

-- with CE = p + t, r = q - D, s = 2 M2 - D - q, so that r + s = 2 (M2 - D)
cross_lower : (p t r s : ℕ) → ((r + s) * t ≤ r * (p + t)) ↔ ((p + t) * s ≤ p * (r + s))
cross_lower p t r s = ((λ g. omega arith), (λ g. omega arith))

pub both : {X Y : Type 0} → X → Y → X ↔ Y
both x y = ((λ _. y), (λ _. x))

pub neither : {X Y : Type 0} → (X → ⊥) → (Y → ⊥) → X ↔ Y
neither x y = ((λ h. absurd (x h)), (λ h. absurd (y h)))

pub iff_common : {X Y Z : Type 0} → X ↔ Y → Z ↔ Y → X ↔ Z
iff_common f g = ((λ x. g.1 (f.0 x)), (λ z. f.1 (g.0 z)))

module _ (ce d m1 m2 p : ℕ) (s : InBounds ce d m1 m2) (a : InRange ce p) where
  abbrev Inverse : ℕ → Type 0
  Inverse q = (dem ce d m1 m2 p ≤ q) ↔ (priced ce d m1 m2 p q ≡ true)

  some : 0 < ce
  some = omega arith

  below_m1 : p < 2 * ce → (q : ℕ) → q < m1 → Inverse q
  below_m1 top q h =
      neither (λ g. let b = dem_range ce d m1 m2 p s a in omega arith) (λ t. let k : 2 * ce ≤ p = (priced_below ce d m1 m2 q p h).0 t in omega arith)

  above_m2 : (q : ℕ) → m2 < q → Inverse q
  above_m2 q h = both (let b = dem_range ce d m1 m2 p s a in omega arith) ((priced_above ce d m1 m2 q p s.m1_d s.d_m2 h).1 (omega arith))

  -- M1 <= q <= D
  on_upper : (q : ℕ) → m1 ≤ q → q ≤ d → Inverse q
  on_upper q l g = ⊎_elim from below (le_or_lt ce p)
    where
      from : ce ≤ p → (dem ce d m1 m2 p ≤ q) ↔ (priced ce d m1 m2 p q ≡ true)
      from h = iff_common as_products (priced_upper ce d m1 m2 q p s.m1_d l g)
        where
          e₁ : 2 * d - (q + m1) ≡ (d - q) + (d - m1)
          e₁ = omega arith

          e₂ : p ≡ ce + (p - ce)
          e₂ = omega arith

          as_whole : (dem ce d m1 m2 p ≤ q) ↔ (d - q ≤ (d - m1) * (p - ce) / ce)
          as_whole = rw (dem_from_ce ce d m1 m2 p h) ((λ k. omega arith), (λ k. omega arith))

          c : ((d - q) * ce ≤ (d - m1) * (p - ce)) ↔ (ce * ((d - q) + (d - m1)) ≤ (ce + (p - ce)) * (d - m1))
          c = cross_upper ce (d - m1) (p - ce) (d - q)

          as_products : (dem ce d m1 m2 p ≤ q) ↔ (ce * (2 * d - (q + m1)) ≤ p * (d - m1))
          as_products = (
            (λ x. subst₂ (λ (u v : ℕ). ce * u ≤ v * (d - m1)) (sym e₁) (sym e₂) (c.0 ((le-div_iff_mul-le some).0 (as_whole.0 x)))),
            (λ y. as_whole.1 ((le-div_iff_mul-le some).1 (c.1 (subst₂ (λ (u v : ℕ). ce * u ≤ v * (d - m1)) e₁ e₂ y)))),
          )

      below : p < ce → (dem ce d m1 m2 p ≤ q) ↔ (priced ce d m1 m2 p q ≡ true)
      below h = neither (λ k. let b = range_below_ce ce d m1 m2 p s a h in omega arith) (λ t. too_dear ((priced_upper ce d m1 m2 q p s.m1_d l g).0 t))
        where
          too_dear : ce * (2 * d - (q + m1)) ≤ p * (d - m1) → ⊥
          too_dear k =
              let x : p * (d - m1) < ce * (d - m1) = mul-lt-mul_of_pos_right h (omega arith) in
              let y : ce * (d - m1) ≤ ce * (2 * d - (q + m1)) = mul-le-mul_left ce (omega arith) in
              omega arith

  -- D < q <= M2
  on_lower : (q : ℕ) → d < q → q ≤ m2 → Inverse q
  on_lower q l g = ⊎_elim from below (le_or_lt ce p)
    where
      from : ce ≤ p → (dem ce d m1 m2 p ≤ q) ↔ (priced ce d m1 m2 p q ≡ true)
      from h =
          both (let b = range_from_ce ce d m1 m2 p s a h in omega arith) ((priced_lower ce d m1 m2 q p s.m1_d s.d_m2 l g).1 (mul-le-mul h (omega arith)))

      below : p < ce → (dem ce d m1 m2 p ≤ q) ↔ (priced ce d m1 m2 p q ≡ true)
      below h = iff_common as_products (priced_lower ce d m1 m2 q p s.m1_d s.d_m2 l g)
        where
          n : ℕ
          n = 2 * (m2 - d) * (ce - p)

          e₁ : p + (ce - p) ≡ ce
          e₁ = omega arith

          e₂ : (q - d) + (2 * m2 - (q + d)) ≡ 2 * (m2 - d)
          e₂ = omega arith

          as_up : (dem ce d m1 m2 p ≤ q) ↔ (divided_up n ce ≤ q - d)
          as_up = rw (dem_below_ce ce d m1 m2 p h) ((λ k. omega arith), (λ k. omega arith))

          c : (n ≤ (q - d) * ce) ↔ (ce * (2 * m2 - (q + d)) ≤ p * (2 * (m2 - d)))
          c = subst₂ (λ (u v : ℕ). (v * (ce - p) ≤ (q - d) * u) ↔ (u * (2 * m2 - (q + d)) ≤ p * v)) e₁ e₂ (cross_lower p (ce - p) (q - d) (2 * m2 - (q + d)))

          as_products : (dem ce d m1 m2 p ≤ q) ↔ (ce * (2 * m2 - (q + d)) ≤ p * (2 * (m2 - d)))
          as_products = (
            (λ x. c.0 ((divided_up_le n ce (q - d) some).0 (as_up.0 x))),
            (λ y. as_up.1 ((divided_up_le n ce (q - d) some).1 (c.1 y))),
          )

  -- THE LAW of demand
  pub dem_inverse : p < 2 * ce → (q : ℕ) → (dem ce d m1 m2 p ≤ q) ↔ (priced ce d m1 m2 p q ≡ true)
  dem_inverse top q =
      ⊎_elim
      (λ h. ⊎_elim (λ g. on_upper q h g) (λ g. ⊎_elim (λ k. on_lower q g k) (λ k. above_m2 q k) (le_or_lt q m2)) (le_or_lt q d))
      (λ h. below_m1 top q h)
      (le_or_lt m1 q)
