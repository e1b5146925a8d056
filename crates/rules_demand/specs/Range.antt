-- Where Dem lies: from M1 to D at CE and above, above D and up to M2 below CE. And the tests of the bounds decide the bounds.
use Rattle.std.specs.Prelude.{ℕ, zero, suc, ◌+◌, ◌-◌, ◌*◌, ◌/◌, ◌%◌, ◌≤◌, ◌<◌, ◌≡◌, refl, ◌⊎◌, ◌↔◌, true, false, leb}
use Rattle.std.proofs.Common.{inl, inr, ⊎_elim, arith, mul_comm, mul_assoc, mul-pos, suc-mul, mul-le-mul_left, le_trans, le_of_eq, div-lt_iff_lt-mul}
use Rattle.std.proofs.Math.Nat.{div-le_of_le-mul}
use borrow.Author.Tests.{lt-ltb, le-leb, lt-leb, eq-eqb, leb-true, ltb-true, eqb-true}
use Rattle.rules_numbers.specs.Cases.{le_or_lt, and_true, never_true}
use Rattle.rules_demand.specs.Demand.{dem, divided_up, InBounds, InRange, in_bounds, in_range}

pub dem_from_ce : (ce d m1 m2 p : ℕ) → ce ≤ p → dem ce d m1 m2 p ≡ d - (d - m1) * (p - ce) / ce
unfolding dem
dem_from_ce ce d m1 m2 p h = rw (le-leb ce p h)

pub dem_below_ce : (ce d m1 m2 p : ℕ) → p < ce → dem ce d m1 m2 p ≡ d + divided_up (2 * (m2 - d) * (ce - p)) ce
unfolding dem
dem_below_ce ce d m1 m2 p h = rw (lt-leb ce p h)

-- n / k rounded up is at most x exactly when n <= x k
pub divided_up_le : (n k x : ℕ) → 0 < k → (divided_up n k ≤ x) ↔ (n ≤ x * k)
divided_up_le n k x h = (
  (λ g. let l : n + (k - 1) < suc x * k = (div-lt_iff_lt-mul h).0 (omega arith) in omega (arith, suc-mul x k)),
  (λ g. let l : (n + (k - 1)) / k < suc x = (div-lt_iff_lt-mul h).1 (omega (arith, suc-mul x k)) in omega arith),
)

-- so that rounding up adds less than k, times k
pub divided_up_between : (n k : ℕ) → 0 < k → (n ≤ divided_up n k * k) × (divided_up n k * k < n + k)
divided_up_between n k h = (
  (divided_up_le n k (divided_up n k) h).0 (omega arith),
  ⊎_elim (λ z. rw z (omega arith)) (λ s. above s.0 s.1) (zero_or_next (divided_up n k)),
)
  where
    zero_or_next : (x : ℕ) → (x ≡ 0) ⊎ ((y : ℕ) × (x ≡ suc y))
    zero_or_next zero = inl refl
    zero_or_next (suc y) = inr (y, refl)

    above : (y : ℕ) → divided_up n k ≡ suc y → divided_up n k * k < n + k
    above y e = ⊎_elim
        (λ l. absurd (let g : divided_up n k ≤ y = (divided_up_le n k y h).1 l in omega arith))
        (λ g. rw e (omega (arith, g, suc-mul y k)))
        (le_or_lt n (y * k))

module _ (ce d m1 m2 p : ℕ) (s : InBounds ce d m1 m2) (a : InRange ce p) where
  pub fall_le : ce ≤ p → (d - m1) * (p - ce) / ce ≤ d - m1
  fall_le h = div-le_of_le-mul ce (le_trans (mul-le-mul_left (d - m1) l) (le_of_eq (mul_comm (d - m1) ce)))
    where
      l : p - ce ≤ ce
      l = omega arith

  pub rise_bounds : p < ce → (0 < divided_up (2 * (m2 - d) * (ce - p)) ce) × (divided_up (2 * (m2 - d) * (ce - p)) ce ≤ m2 - d)
  rise_bounds h = (
    ⊎_elim (λ g. absurd (never g)) (λ g. g) (le_or_lt (divided_up n ce) 0),
    (divided_up_le n ce (m2 - d) some).1 (le_trans (le_of_eq e) (mul-le-mul_left (m2 - d) l)),
  )
    where
      n : ℕ
      n = 2 * (m2 - d) * (ce - p)

      some : 0 < ce
      some = omega arith

      l : 2 * (ce - p) ≤ ce
      l = omega arith

      e : n ≡ (m2 - d) * (2 * (ce - p))
      e = rw (mul_comm 2 (m2 - d)) (mul_assoc (m2 - d) 2 (ce - p))

      positive : 0 < n
      positive = mul-pos {m = 2 * (m2 - d)} (omega arith) (omega arith)

      never : divided_up n ce ≤ 0 → ⊥
      never g = let k : n ≤ 0 * ce = (divided_up_le n ce 0 some).0 g in omega (arith, positive)

  pub range_from_ce : ce ≤ p → (m1 ≤ dem ce d m1 m2 p) × (dem ce d m1 m2 p ≤ d)
  range_from_ce h = rw (dem_from_ce ce d m1 m2 p h) (let w = fall_le h in (omega arith, omega arith))

  pub range_below_ce : p < ce → (d < dem ce d m1 m2 p) × (dem ce d m1 m2 p ≤ m2)
  range_below_ce h = rw (dem_below_ce ce d m1 m2 p h) (let w = rise_bounds h in (omega arith, omega arith))

  -- M1 <= Dem <= M2
  pub dem_range : (m1 ≤ dem ce d m1 m2 p) × (dem ce d m1 m2 p ≤ m2)
  dem_range = ⊎_elim (λ h. let b = range_from_ce h in (omega arith, omega arith)) (λ h. let b = range_below_ce h in (omega arith, omega arith)) (le_or_lt ce p)

-- ---- tests and facts of the bounds

module _ (ce d m1 m2 : ℕ) where
  pub in_bounds_lem : in_bounds ce d m1 m2 ≡ true → InBounds ce d m1 m2
  unfolding in_bounds
  in_bounds_lem e =
      let t6 = and_true _ _ e in
      let t5 = and_true _ _ t6.0 in
      let t4 = and_true _ _ t5.0 in
      let t3 = and_true _ _ t4.0 in
      let t2 = and_true _ _ t3.0 in
      let t1 = and_true _ _ t2.0 in
      record {
        even = eqb-true (ce % 2) 0 t1.0;
        ce_low = leb-true 2 ce t1.1;
        ce_high = leb-true ce 500000 t2.1;
        m1_low = ltb-true 0 m1 t3.1;
        m1_d = ltb-true m1 d t4.1;
        d_m2 = ltb-true d m2 t5.1;
        m2_high = leb-true m2 100000000000 t6.1;
      }

  pub in_bounds_test : InBounds ce d m1 m2 → in_bounds ce d m1 m2 ≡ true
  unfolding in_bounds
  in_bounds_test s =
      rw (
        eq-eqb (ce % 2) 0 s.even,
        le-leb 2 ce s.ce_low,
        le-leb ce 500000 s.ce_high,
        lt-ltb 0 m1 s.m1_low,
        lt-ltb m1 d s.m1_d,
        lt-ltb d m2 s.d_m2,
        le-leb m2 100000000000 s.m2_high,
      )

  pub out_of_bounds : (InBounds ce d m1 m2 → ⊥) → in_bounds ce d m1 m2 ≡ false
  out_of_bounds h = never_true (in_bounds ce d m1 m2) (λ e. h (in_bounds_lem e))

module _ (ce p : ℕ) where
  pub in_range_lem : in_range ce p ≡ true → InRange ce p
  unfolding in_range
  in_range_lem e = let t = and_true (leb (ce / 2) p) (leb p (2 * ce)) e in record { low = leb-true (ce / 2) p t.0; high = leb-true p (2 * ce) t.1 }

  pub in_range_test : InRange ce p → in_range ce p ≡ true
  unfolding in_range
  in_range_test a = rw (le-leb (ce / 2) p a.low, le-leb p (2 * ce) a.high)

  pub out_of_range : (InRange ce p → ⊥) → in_range ce p ≡ false
  out_of_range h = never_true (in_range ce p) (λ e. h (in_range_lem e))
