-- Numbers against widths: a number fits where nothing is left once it was divided by 16 so often.
use Prim.Native.Nat.{ℕ, ◌+◌, ◌*◌, ◌/◌, ◌^◌, ◌≤◌, ◌<◌}
use mathlib.Core.Path.{◌≡◌, sym, ap, ◌∙◌}
use mathlib.Core.Logic.{⊎_elim}
use native.Mathlib.Nat.{div-div-eq-div-mul, div-one, pow-suc, pow-zero, div-eq_of_lt, div-lt_iff_lt-mul}
use native.Mathlib.Numerals.{add-one}
use native.Mathlib.Omega.{arith}
use lib.Dec.{eqb, ltb}
use borrow.Author.Tests.{eq-eqb, ne_eqb, lt-ltb, le-ltb}
use Rattle.rules_numbers.specs.Cases.{le_or_lt}
use Rattle.rules_format.specs.HexLaws.{power_pos}

-- ---- one number

pub record Dividing (value width left i : ℕ) : Type 0 where
  pub inside : i ≤ width
  pub quotient : left ≡ value / 16 ^ i

module _ (value width : ℕ) where
  pub dividing_first : Dividing value width value 0
  dividing_first = record { inside = omega arith; quotient = simp (pow-zero, div-one) }

  module _ (left i : ℕ) (d : Dividing value width left i) where
    pub dividing_next : i < width → Dividing value width (left / 16) (i + 1)
    dividing_next h = record { inside = omega arith; quotient = rw (add-one, pow-suc, d.quotient) (div-div-eq-div-mul value (16 ^ i) 16) }

    pub dividing_end : width ≤ i → eqb left 0 ≡ ltb value (16 ^ width)
    dividing_end h =
        let m : i ≡ width = omega (arith, d.inside) in
        let q : left ≡ value / 16 ^ width = d.quotient ∙ ap (λ (n : ℕ). value / 16 ^ n) m in
        ⊎_elim
        (λ g.
        let small : value / 16 ^ width < 1 → value < 1 * 16 ^ width = (div-lt_iff_lt-mul {x = value} {y = 1} (power_pos width)).0 in
        let none : left ≡ 0 → ⊥ = λ z. let below = small (omega arith) in omega arith in
        ne_eqb left 0 none ∙ sym (le-ltb value (16 ^ width) g))
        (λ g. eq-eqb left 0 (q ∙ div-eq_of_lt g) ∙ sym (lt-ltb value (16 ^ width) g))
        (le_or_lt (16 ^ width) value)
