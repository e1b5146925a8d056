-- Exact demand is the curve's exact inverse: a quantity from M1 to M2 is priced at p itself exactly when CE times it is `exact_times_ce`.
-- Counted in CE-ths of a kWh, so that M1, D and M2 are CE times as many, exact demand is the one whole quantity of that price.
use Rattle.std.specs.Prelude.{ℕ, ◌+◌, ◌-◌, ◌*◌, ◌≤◌, ◌<◌, ◌≡◌, ◌↔◌}
use Rattle.std.proofs.Common.{sym, ap, ◌∙◌, ⊎_elim, arith, mul_comm, mul-pos, mul-le-mul, mul-le-mul_left, mul-le-mul_right, mul-lt-mul_of_pos_right, le_of_mul-le-mul_right}
use Rattle.std.proofs.Math.Nat.{mul-sub}
use Rattle.rules_numbers.specs.Cases.{le_or_lt}
use Rattle.rules_demand.specs.Curve.{PricedAt}
use Rattle.rules_demand.specs.Demand.{InBounds, InRange}
use Rattle.rules_demand.specs.Remainder.{exact_times_ce}
use Rattle.rules_demand.specs.Signs.{at_upper, at_lower}
use Rattle.rules_demand.specs.Exact.{exact_from_ce, exact_below_ce}
use Rattle.rules_demand.specs.Inverse.{neither, iff_common}

-- with a = D - M1, t = p - CE, r = D - q
cross_upper : (ce a t q r : ℕ) → a * t ≤ (q + r) * ce → (q * ce ≡ (q + r) * ce - a * t) ↔ (ce * (r + a) ≡ (ce + t) * a)
cross_upper ce a t q r h = ((λ e. omega arith), (λ e. omega arith))

-- with CE = p + t, r = q - D, s = 2 M2 - D - q, so that r + s = 2 (M2 - D)
cross_lower : (p t d r s : ℕ) → ((d + r) * (p + t) ≡ d * (p + t) + (r + s) * t) ↔ ((p + t) * s ≡ p * (r + s))
cross_lower p t d r s = ((λ e. omega arith), (λ e. omega arith))

module _ (ce d m1 m2 p : ℕ) (some : 0 < ce) (m1_d : m1 < d) (d_m2 : d < m2) (high : p ≤ 2 * ce) where
  abbrev exact : ℕ
  exact = exact_times_ce ce d m1 m2 p

  abbrev Inverse : ℕ → Type 0
  Inverse q = (q * ce ≡ exact) ↔ PricedAt ce d m1 m2 p q

  fall_fits : ce ≤ p → (d - m1) * (p - ce) ≤ d * ce
  fall_fits h = mul-le-mul {n₂ = d} {m₂ = ce} (omega arith) (omega arith)

  rise_some : p < ce → 0 < 2 * (m2 - d) * (ce - p)
  rise_some h = mul-pos {m = 2 * (m2 - d)} (omega arith) (omega arith)

  -- M1 <= q <= D
  on_upper : (q : ℕ) → m1 ≤ q → q ≤ d → Inverse q
  on_upper q l g = ⊎_elim from below (le_or_lt ce p)
    where
      from : ce ≤ p → (q * ce ≡ exact) ↔ PricedAt ce d m1 m2 p q
      from h = iff_common (rw (exact_from_ce ce d m1 m2 p h) c) (at_upper ce d m1 m2 q p m1_d l g)
        where
          e₁ : (d - q) + (d - m1) ≡ 2 * d - (q + m1)
          e₁ = omega arith

          e₂ : ce + (p - ce) ≡ p
          e₂ = omega arith

          e₃ : q + (d - q) ≡ d
          e₃ = omega arith

          c : (q * ce ≡ d * ce - (d - m1) * (p - ce)) ↔ (ce * (2 * d - (q + m1)) ≡ p * (d - m1))
          c = rw (e₁, e₂, e₃) at (cross_upper ce (d - m1) (p - ce) q (d - q) (rw e₃ (fall_fits h)))

      below : p < ce → (q * ce ≡ exact) ↔ PricedAt ce d m1 m2 p q
      below h = neither
          (λ e. let r = rise_some h in let k = mul-le-mul_right ce g in let x = exact_below_ce ce d m1 m2 p h in omega arith)
          (λ t. too_dear ((at_upper ce d m1 m2 q p m1_d l g).0 t))
        where
          too_dear : ce * (2 * d - (q + m1)) ≡ p * (d - m1) → ⊥
          too_dear k =
              let x : p * (d - m1) < ce * (d - m1) = mul-lt-mul_of_pos_right h (omega arith) in
              let y : ce * (d - m1) ≤ ce * (2 * d - (q + m1)) = mul-le-mul_left ce (omega arith) in
              omega arith

  -- D < q <= M2
  on_lower : (q : ℕ) → d < q → q ≤ m2 → Inverse q
  on_lower q l g = ⊎_elim from below (le_or_lt ce p)
    where
      from : ce ≤ p → (q * ce ≡ exact) ↔ PricedAt ce d m1 m2 p q
      from h = neither
          (λ e. let k : d * ce < q * ce = mul-lt-mul_of_pos_right l some in let x = exact_from_ce ce d m1 m2 p h in omega arith)
          (λ t. too_cheap ((at_lower ce d m1 m2 q p m1_d d_m2 l g).0 t))
        where
          too_cheap : ce * (2 * m2 - (q + d)) ≡ p * (2 * (m2 - d)) → ⊥
          too_cheap k =
              let x : (2 * m2 - (q + d)) * ce < 2 * (m2 - d) * ce = mul-lt-mul_of_pos_right (omega arith) some in
              let y : ce * (2 * (m2 - d)) ≤ p * (2 * (m2 - d)) = mul-le-mul_right (2 * (m2 - d)) h in
              let z = mul_comm ce (2 * m2 - (q + d)) in
              let w = mul_comm ce (2 * (m2 - d)) in
              omega arith

      below : p < ce → (q * ce ≡ exact) ↔ PricedAt ce d m1 m2 p q
      below h = iff_common (rw (exact_below_ce ce d m1 m2 p h) c) (at_lower ce d m1 m2 q p m1_d d_m2 l g)
        where
          e₁ : p + (ce - p) ≡ ce
          e₁ = omega arith

          e₂ : (q - d) + (2 * m2 - (q + d)) ≡ 2 * (m2 - d)
          e₂ = omega arith

          e₃ : d + (q - d) ≡ q
          e₃ = omega arith

          c : (q * ce ≡ d * ce + 2 * (m2 - d) * (ce - p)) ↔ (ce * (2 * m2 - (q + d)) ≡ p * (2 * (m2 - d)))
          c = rw (e₁, e₂, e₃) at (cross_lower p (ce - p) d (q - d) (2 * m2 - (q + d)))

  -- p(q) = p exactly when q is exact demand
  pub exact_inverse : (q : ℕ) → m1 ≤ q → q ≤ m2 → (q * ce ≡ exact) ↔ PricedAt ce d m1 m2 p q
  exact_inverse q l g = ⊎_elim (λ h. on_upper q l h) (λ h. on_lower q h g) (le_or_lt q d)

-- ---- in CE-ths of a kWh

less_times : (a b k : ℕ) → (a - b) * k ≡ a * k - b * k
less_times a b k = mul_comm (a - b) k ∙ mul-sub k a b ∙ (λ i. mul_comm k a i - mul_comm k b i)

-- k times as much of every quantity makes k times as much exact demand
exact_scaled : (ce d m1 m2 p k : ℕ) → exact_times_ce ce (d * k) (m1 * k) (m2 * k) p ≡ exact_times_ce ce d m1 m2 p * k
exact_scaled ce d m1 m2 p k = ⊎_elim from below (le_or_lt ce p)
  where
    from : ce ≤ p → exact_times_ce ce (d * k) (m1 * k) (m2 * k) p ≡ exact_times_ce ce d m1 m2 p * k
    from h =
        exact_from_ce ce (d * k) (m1 * k) (m2 * k) p h
        ∙ ap (λ (x : ℕ). d * k * ce - x * (p - ce)) (sym (less_times d m1 k))
        ∙ moved (d - m1) (p - ce)
        ∙ ap (λ (x : ℕ). x * k) (sym (exact_from_ce ce d m1 m2 p h))
      where
        moved : (a t : ℕ) → d * k * ce - a * k * t ≡ (d * ce - a * t) * k
        moved a t = sym (less_times (d * ce) (a * t) k ∙ (omega arith))

    below : p < ce → exact_times_ce ce (d * k) (m1 * k) (m2 * k) p ≡ exact_times_ce ce d m1 m2 p * k
    below h =
        exact_below_ce ce (d * k) (m1 * k) (m2 * k) p h
        ∙ ap (λ (x : ℕ). d * k * ce + 2 * x * (ce - p)) (sym (less_times m2 d k))
        ∙ moved (m2 - d) (ce - p)
        ∙ ap (λ (x : ℕ). x * k) (sym (exact_below_ce ce d m1 m2 p h))
      where
        moved : (a t : ℕ) → d * k * ce + 2 * (a * k) * t ≡ (d * ce + 2 * a * t) * k
        moved a t = omega arith

module _ (ce d m1 m2 p : ℕ) (s : InBounds ce d m1 m2) (a : InRange ce p) where
  some_ce : 0 < ce
  some_ce = omega arith

  -- it is from M1 to M2
  pub exact_between : (m1 * ce ≤ exact_times_ce ce d m1 m2 p) × (exact_times_ce ce d m1 m2 p ≤ m2 * ce)
  exact_between = ⊎_elim from below (le_or_lt ce p)
    where
      from : ce ≤ p → (m1 * ce ≤ exact_times_ce ce d m1 m2 p) × (exact_times_ce ce d m1 m2 p ≤ m2 * ce)
      from h =
          let f : (d - m1) * (p - ce) ≤ (d - m1) * ce = mul-le-mul_left (d - m1) (omega arith) in
          let g : d * ce ≤ m2 * ce = mul-le-mul_right ce (omega arith) in
          let k : m1 * ce ≤ d * ce = mul-le-mul_right ce (omega arith) in
          let e = less_times d m1 ce in
          rw (exact_from_ce ce d m1 m2 p h) (omega arith, omega arith)

      below : p < ce → (m1 * ce ≤ exact_times_ce ce d m1 m2 p) × (exact_times_ce ce d m1 m2 p ≤ m2 * ce)
      below h =
          let f : (m2 - d) * (2 * (ce - p)) ≤ (m2 - d) * ce = mul-le-mul_left (m2 - d) (omega arith) in
          let g : d * ce ≤ m2 * ce = mul-le-mul_right ce (omega arith) in
          let k : m1 * ce ≤ d * ce = mul-le-mul_right ce (omega arith) in
          let e = less_times m2 d ce in
          let t : 2 * (m2 - d) * (ce - p) ≡ (m2 - d) * (2 * (ce - p)) = twice (m2 - d) (ce - p) in
          rw (exact_below_ce ce d m1 m2 p h) (omega arith, omega arith)
        where
          twice : (x t : ℕ) → 2 * x * t ≡ x * (2 * t)
          twice x t = omega arith

  -- and the curve prices it, and no other quantity there, at p
  pub exact_in_parts : (q : ℕ) → m1 * ce ≤ q → q ≤ m2 * ce → (q ≡ exact_times_ce ce d m1 m2 p) ↔ PricedAt ce (d * ce) (m1 * ce) (m2 * ce) p q
  exact_in_parts q l g = (
    (λ e. at.0 (ap (λ (x : ℕ). x * ce) e ∙ sym scaled)),
    (λ t. let k = at.1 t ∙ scaled in same (exact_times_ce ce d m1 m2 p) k),
  )
    where
      scaled : exact_times_ce ce (d * ce) (m1 * ce) (m2 * ce) p ≡ exact_times_ce ce d m1 m2 p * ce
      scaled = exact_scaled ce d m1 m2 p ce

      at : (q * ce ≡ exact_times_ce ce (d * ce) (m1 * ce) (m2 * ce) p) ↔ PricedAt ce (d * ce) (m1 * ce) (m2 * ce) p q
      at =
          exact_inverse ce (d * ce) (m1 * ce) (m2 * ce) p some_ce
          (mul-lt-mul_of_pos_right s.m1_d some_ce) (mul-lt-mul_of_pos_right s.d_m2 some_ce) a.high q l g

      same : (x : ℕ) → q * ce ≡ x * ce → q ≡ x
      same x e =
          let u : q ≤ x = le_of_mul-le-mul_right {k = ce} (omega arith) some_ce in
          let v : x ≤ q = le_of_mul-le-mul_right {k = ce} (omega arith) some_ce in
          omega arith
