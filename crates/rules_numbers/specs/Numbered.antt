-- A list by number: number n stands at place n - 1.
use Prim.Native.Nat.{ℕ, suc, ◌-◌, ◌≤◌, ◌<◌}
use Rattle.std.specs.Prelude.{◌≡◌, List, ◌∷◌, length}
use Rattle.std.proofs.Math.Path.{sym, ap}
use native.Mathlib.Omega.{arith}
use Rattle.std.proofs.Math.ListN.{get_or, get_or-eq_default}

-- what stands under number n; 0 where it has no place
unfoldable pub at_number : List ℕ → ℕ → ℕ
at_number xs n = get_or (0 ∷ xs) n 0

module _ (xs : List ℕ) (n : ℕ) where
  pub no_number : n < 1 → 0 ≡ at_number xs n
  unfolding at_number
  no_number h = let e : n ≡ 0 = omega arith in rw e

  pub number_beyond : {m : ℕ} → length xs ≡ m → m < n → 0 ≡ at_number xs n
  unfolding at_number
  number_beyond e h = sym (get_or-eq_default (0 ∷ xs) 0 {n = n} (omega arith))

  pub number_place : 1 ≤ n → get_or xs (n - 1) 0 ≡ at_number xs n
  unfolding at_number
  number_place h = let e : suc (n - 1) ≡ n = omega arith in ap (λ (k : ℕ). get_or (0 ∷ xs) k 0) e
