-- Sums of figures: over the elements that pass a test, over a list in another order, and over the numbers 1 to n.
use Prim.Native.Nat.{ℕ, zero, suc, ◌+◌}
use Rattle.std.specs.Prelude.{◌≡◌, Bool, true, false}
use Rattle.std.proofs.Math.Path.{refl, ap, ap₂}
use Rattle.std.proofs.Common.{sym, ◌∙◌, arith}
use Rattle.std.proofs.Math.Bool.{cond}
use mathlib.Core.List.{List, [], ◌∷◌, map, map-append, Permᴰ}
use Rattle.rules_numbers.specs.Lists.{one_to, keep, total}
use Rattle.rules_numbers.specs.ListLaws.{total_append}

module _ {A : Type 0} where
  pub total_add : (f g : A → ℕ) (xs : List A) → total (map (λ x. f x + g x) xs) ≡ total (map f xs) + total (map g xs)
  unfolding total
  total_add f g [] = refl
  total_add f g (x ∷ xs) = omega (arith, total_add f g xs)

  -- one that does not pass counts for 0
  pub total_kept : (f : A → ℕ) (t : A → Bool) (xs : List A) → total (map f (keep t xs)) ≡ total (map (λ x. cond (t x) (f x) 0) xs)
  unfolding total keep
  total_kept f t [] = refl
  total_kept f t (x ∷ xs) = go (t x) (total_kept f t xs)
    where
      rest : ℕ
      rest = total (map (λ y. cond (t y) (f y) 0) xs)

      go : (b : Bool) → total (map f (keep t xs)) ≡ rest → total (map f (cond b (x ∷ keep t xs) (keep t xs))) ≡ cond b (f x) 0 + rest
      go true e = ap (λ (n : ℕ). f x + n) e
      go false e = omega arith

  total_permuted : (f : A → ℕ) {xs ys : List A} → Permᴰ xs ys → total (map f xs) ≡ total (map f ys)
  unfolding total
  total_permuted f Permᴰ.nil = refl
  total_permuted f (Permᴰ.cons e d) = ap₂ ◌+◌ (ap f e) (total_permuted f d)
  total_permuted f (Permᴰ.swap e g) = omega (arith, ap f e, ap f g)
  total_permuted f (Permᴰ.trans d g) = total_permuted f d ∙ total_permuted f g

  -- whatever the order
  pub total_kept_permuted : (f : A → ℕ) (t : A → Bool) {xs ys : List A} → Permᴰ xs ys → total (map f (keep t xs)) ≡ total (map f (keep t ys))
  total_kept_permuted f t {xs} {ys} d = total_kept f t xs ∙ total_permuted (λ x. cond (t x) (f x) 0) d ∙ sym (total_kept f t ys)

-- ---- over 1 to n

-- by the last number
pub total_numbers_more : (f : ℕ → ℕ) (n : ℕ) → total (map f (one_to (suc n))) ≡ total (map f (one_to n)) + f (suc n)
unfolding one_to total
total_numbers_more f n = ap total (map-append f (one_to n) (suc n ∷ [])) ∙ total_append (map f (one_to n)) (f (suc n) ∷ []) ∙ omega arith

-- by the first one
pub total_numbers_first : (f : ℕ → ℕ) (n : ℕ) → total (map f (one_to (suc n))) ≡ f 1 + total (map (λ k. f (suc k)) (one_to n))
unfolding one_to total
total_numbers_first f zero = refl
total_numbers_first f (suc n) = omega (arith, total_numbers_more f (suc n), total_numbers_first f n, total_numbers_more (λ k. f (suc k)) n)
