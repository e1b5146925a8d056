-- A sum of words over the numbers 1 to 32, number by number.
use Prim.Native.Nat.{ℕ, suc, ◌+◌, ◌*◌, ◌≤◌, ◌<◌}
use mathlib.Core.Path.{◌≡◌, refl, ap, ◌∙◌}
use mathlib.Core.List.{map}
use native.Mathlib.Omega.{arith}
use native.Mathlib.Numerals.{add-one}
use Rattle.rules_numbers.specs.Lists.{one_to, total}
use Rattle.rules_numbers.specs.Sums.{total_numbers_more}

-- the loop before number i + 1
pub record Summing (f : ℕ → ℕ) (sum i : ℕ) : Type 0 where
  pub within : i ≤ 32
  pub small : sum ≤ i * 4294967296
  pub part : sum ≡ total (map f (one_to i))

pub summing_first : (f : ℕ → ℕ) → Summing f 0 0
unfolding one_to total
summing_first f = record { within = omega arith; small = omega arith; part = refl }

module _ (f : ℕ → ℕ) (sum i : ℕ) (s : Summing f sum i) where
  pub summing_next : (x : ℕ) → i < 32 → x < 4294967296 → x ≡ f (suc i) → Summing f (sum + x) (i + 1)
  summing_next x h w e = record { within = omega arith; small = omega arith; part = rw add-one (omega (arith, s.part, total_numbers_more f i)) }

  pub summing_none : i < 32 → 0 ≡ f (suc i) → Summing f sum (i + 1)
  summing_none h e = record { within = omega arith; small = omega arith; part = rw add-one (omega (arith, s.part, total_numbers_more f i)) }

  pub summing_end : 32 ≤ i → (sum ≡ total (map f (one_to 32))) × (sum ≤ 137438953472)
  summing_end h = let e : i ≡ 32 = let k = s.within in omega arith in (s.part ∙ ap (λ (n : ℕ). total (map f (one_to n))) e, omega arith)
