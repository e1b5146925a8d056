-- The demand curve of numeral 3.8, as the resolution writes it (document 01, Demand): the price p(q) of a quantity q.
-- Its two sloping parts divide by M1 - D and by 2 (D - M2), which are negative.
use Rattle.std.specs.Prelude.{ℕ, ◌*◌, ◌≡◌, Bool, cond, leb, ltb, ℤ, pos, ◌+ℤ◌, ◌-ℤ◌, ◌*ℤ◌}
use Rattle.std.specs.Int.Signed.{le_z, lt_z}

-- num / den, over the integers; den may be negative
pub record Fraction : Type 0 where
  pub num : ℤ
  pub den : ℤ

-- numeral 3.8, p(q) for M1 <= q <= D: CE (q + M1 - 2 D) / (M1 - D)
abbrev pub upper : ℕ → ℕ → ℕ → ℕ → Fraction
upper ce d m1 q = record {
  num = pos ce *ℤ (pos q +ℤ pos m1 -ℤ pos 2 *ℤ pos d);
  den = pos m1 -ℤ pos d;
}

-- numeral 3.8, p(q) for D < q <= M2: CE (q + D - 2 M2) / (2 (D - M2))
abbrev pub lower : ℕ → ℕ → ℕ → ℕ → Fraction
lower ce d m2 q = record {
  num = pos ce *ℤ (pos q +ℤ pos d -ℤ pos 2 *ℤ pos m2);
  den = pos 2 *ℤ (pos d -ℤ pos m2);
}

abbrev pub whole : ℕ → Fraction
whole n = record { num = pos n; den = pos 1 }

abbrev pub half : ℕ → Fraction
half n = record { num = pos n; den = pos 2 }

-- numeral 3.8, p(q): 2 CE below M1, the two sloping parts, CE / 2 above M2
unfoldable pub demand_curve : ℕ → ℕ → ℕ → ℕ → ℕ → Fraction
demand_curve ce d m1 m2 q =
    cond (ltb q m1) (whole (2 * ce))
    (cond (leb q d) (upper ce d m1 q)
    (cond (leb q m2) (lower ce d m2 q)
    (half ce)))

-- num / den <= p. Multiplying by den keeps the order where den is above 0 and turns it round where den is below 0
abbrev pub at_most : Fraction → ℤ → Bool
at_most f p = cond (lt_z (pos 0) f.den) (le_z f.num (p *ℤ f.den)) (le_z (p *ℤ f.den) f.num)

-- p(q) <= p: the curve prices q at most p
unfoldable pub priced : ℕ → ℕ → ℕ → ℕ → ℕ → ℕ → Bool
priced ce d m1 m2 p q = at_most (demand_curve ce d m1 m2 q) (pos p)

-- num / den = p, where den is not 0
abbrev pub Equals : Fraction → ℤ → Type 0
Equals f p = f.num ≡ p *ℤ f.den

-- p(q) = p: the curve prices q at p itself
unfoldable pub PricedAt : ℕ → ℕ → ℕ → ℕ → ℕ → ℕ → Type 0
PricedAt ce d m1 m2 p q = Equals (demand_curve ce d m1 m2 q) (pos p)
