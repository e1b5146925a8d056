-- Lists in which each earlier element stands in a relation to each later one: rising lists, and lists without repeats.
use Rattle.std.specs.Prelude.{ℕ, zero, suc, ◌≤◌, ◌<◌, ◌≡◌, refl, Bool, cond, get_or}
use Rattle.std.proofs.Common.{sym, subst, ⊎_elim, arith}
use Rattle.std.proofs.Math.Bool.{true, false}
use mathlib.Core.List.Memᴰ
use mathlib.Core.List.{List, [], ◌∷◌, ◌++◌, map, Memᴰ}
use Rattle.rules_numbers.specs.Lists.{one_to, keep, last_or}
use Rattle.rules_numbers.specs.ListLaws.{Each, in_keep, in_map, in_one_to}

abbrev pub Pairwise : {A : Type 0} → (A → A → Type 0) → List A → Type 0
Pairwise R [] = Unit {0}
Pairwise R (x ∷ xs) = Each (R x) xs × Pairwise R xs

-- no element twice
abbrev pub Distinct : {A : Type 0} → List A → Type 0
Distinct {A} xs = Pairwise (λ (x y : A). x ≡ y → ⊥) xs

abbrev pub StrictlyRising : List ℕ → Type 0
StrictlyRising xs = Pairwise ◌<◌ xs

module _ {A : Type 0} (R : A → A → Type 0) where
  pub pairwise_append : (s t : List A) → Pairwise R s → Pairwise R t → Each (λ x. Each (R x) t) s → Pairwise R (s ++ t)
  pairwise_append [] t p q h = q
  pairwise_append (x ∷ s) t p q h = (
    (λ y m. ⊎_elim (λ k. p.0 y k) (λ k. h x (Memᴰ.head refl) y k) (Memᴰ.append_cases s m)),
    pairwise_append s t p.1 q (λ z m. h z (Memᴰ.tail m)),
  )

  pub pairwise_map : {B : Type 0} (S : B → B → Type 0) (f : A → B) → ((x y : A) → R x y → S (f x) (f y)) → (xs : List A) → Pairwise R xs → Pairwise S (map f xs)
  pairwise_map S f h [] p = tt
  pairwise_map S f h (x ∷ xs) p = (
    (λ y m. let r = (in_map f y xs).0 m in subst (S (f x)) (sym r.2) (h x r.0 (p.0 r.0 r.1))),
    pairwise_map S f h xs p.1,
  )

  pub pairwise_keep : (t : A → Bool) (xs : List A) → Pairwise R xs → Pairwise R (keep t xs)
  unfolding keep
  pairwise_keep t [] p = tt
  pairwise_keep t (x ∷ xs) p = go (t x) (pairwise_keep t xs p.1)
    where
      go : (b : Bool) → Pairwise R (keep t xs) → Pairwise R (cond b (x ∷ keep t xs) (keep t xs))
      go true q = ((λ y m. p.0 y ((in_keep t y xs).0 m).0), q)
      go false q = q

  pub pairwise_weaken : (S : A → A → Type 0) → ((x y : A) → R x y → S x y) → (xs : List A) → Pairwise R xs → Pairwise S xs
  pairwise_weaken S h [] p = tt
  pairwise_weaken S h (x ∷ xs) p = ((λ y m. h x y (p.0 y m)), pairwise_weaken S h xs p.1)

pub rising_distinct : (xs : List ℕ) → StrictlyRising xs → Distinct xs
rising_distinct xs = pairwise_weaken ◌<◌ (λ x y. x ≡ y → ⊥) (λ x y h e. omega arith) xs

-- the last of a rising list is its greatest, the first its least
pub rising_last : (xs : List ℕ) (v d : ℕ) → StrictlyRising xs → Memᴰ v xs → Each (λ x. x ≤ v) xs → last_or d xs ≡ v
unfolding last_or
rising_last [] v d r m h = absurd (Memᴰ.not-nil m)
rising_last (x ∷ []) v d r m h = sym (Memᴰ.eq_of_singleton m)
rising_last (x ∷ y ∷ xs) v d r m h =
    ⊎_elim
    (λ e. absurd (omega (arith, r.0 y (Memᴰ.head refl), h y (Memᴰ.tail (Memᴰ.head refl)))))
    (λ k. rising_last (y ∷ xs) v x r.1 k (λ z j. h z (Memᴰ.tail j)))
    (Memᴰ.cases_cons m)

pub rising_first : (xs : List ℕ) (v d : ℕ) → StrictlyRising xs → Memᴰ v xs → Each (λ x. v ≤ x) xs → get_or xs 0 d ≡ v
rising_first [] v d r m h = absurd (Memᴰ.not-nil m)
rising_first (x ∷ xs) v d r m h = ⊎_elim (λ e. sym e) (λ k. absurd (omega (arith, r.0 v k, h x (Memᴰ.head refl)))) (Memᴰ.cases_cons m)

pub one_to_rises : (n : ℕ) → StrictlyRising (one_to n)
unfolding one_to
one_to_rises zero = tt
one_to_rises (suc n) =
    pairwise_append ◌<◌ (one_to n) (suc n ∷ []) (one_to_rises n) ((λ y m. absurd (Memᴰ.not-nil m)), tt)
    (λ x m y k. omega (arith, ((in_one_to x n).0 m).1, Memᴰ.eq_of_singleton k))
