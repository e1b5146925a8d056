-- Lists by falling f: places that rise stand by falling f and then by place; those that pass a test stay in their order if they are equal by f;
-- and exchanging neighbours that are unequal by f makes no difference.
use Rattle.std.specs.Prelude.{ℕ, ◌≤◌, ◌<◌, ◌≡◌, ◌⊎◌, Bool, ◌&&◌, ltb}
use Rattle.std.proofs.Math.Path.{refl, sym, ap}
use Rattle.std.proofs.Common.{◌∙◌}
use Rattle.std.proofs.Math.Logic.{inl, inr, ⊎_elim}
use Rattle.std.proofs.Math.Bool.{true, false, cond}
use mathlib.Core.List.Memᴰ
use mathlib.Core.List.{List, [], ◌∷◌, Memᴰ}
use native.Mathlib.Omega.{arith}
use borrow.Author.Tests.{ltb-true, ltb-false, lt-ltb, le-ltb}
use Rattle.rules_numbers.specs.Cases.{le_or_lt, three_way, and_true}
use Rattle.rules_numbers.specs.Lists.{keep, all}
use Rattle.rules_numbers.specs.ListLaws.{Each}
use Rattle.rules_choices.specs.Search.{placed, by_falling}
use Rattle.rules_choices.specs.Falling.{falling_any, each_any}
use Rattle.rules_choices.specs.Pairwise.{Pairwise, StrictlyRising}
use Rattle.rules_numbers.specs.reordering.Exchanges.{Exchanged, unchanged, neighbours, behind, further}
use Rattle.rules_numbers.specs.reordering.ExchangeLaws.{exchanged_all}

-- ---- rising places, by falling f

-- larger by f, or as large and at a lower place
abbrev pub Ahead : (ℕ → ℕ) → ℕ → ℕ → Type 0
Ahead f j k = (f k < f j) ⊎ ((f j ≡ f k) × (j < k))

module _ (f : ℕ → ℕ) where
  in_placed : {z : ℕ} (x : ℕ) (ys : List ℕ) → Memᴰ z (placed f x ys) → (z ≡ x) ⊎ Memᴰ z ys
  unfolding placed
  in_placed x [] m = Memᴰ.cases_cons m
  in_placed {z} x (y ∷ ys) m = go (ltb (f x) (f y)) (λ n. in_placed x ys n) m
    where
      go : (b : Bool) → (Memᴰ z (placed f x ys) → (z ≡ x) ⊎ Memᴰ z ys) →
          Memᴰ z (cond b (y ∷ placed f x ys) (x ∷ y ∷ ys)) → (z ≡ x) ⊎ Memᴰ z (y ∷ ys)
      go true below n =
          ⊎_elim
          (λ e. inr (Memᴰ.head e))
          (λ i. ⊎_elim (λ e. inl e) (λ j. inr (Memᴰ.tail j)) (below i))
          (Memᴰ.cases_cons n)
      go false below n = Memᴰ.cases_cons n

  -- the one placed stands at a lower place than all others
  placed_order : (x : ℕ) (ys : List ℕ) → Each (λ y. x < y) ys → Pairwise (Ahead f) ys → Pairwise (Ahead f) (placed f x ys)
  unfolding placed
  placed_order x [] h p = ((λ y m. absurd (Memᴰ.not-nil m)), tt)
  placed_order x (y ∷ ys) h p = go (ltb (f x) (f y)) refl (placed_order x ys (λ z m. h z (Memᴰ.tail m)) p.1)
    where
      ahead : (z : ℕ) → x < z → f z ≤ f x → Ahead f x z
      ahead z k l = ⊎_elim (λ e. inr (omega arith, k)) (λ e. inl e) (le_or_lt (f x) (f z))

      -- the first is the largest by f
      below : f y ≤ f x → (z : ℕ) → Memᴰ z ys → f z ≤ f x
      below l z m = ⊎_elim (λ e. omega arith) (λ e. omega (arith, e.0)) (p.0 z m)

      go : (b : Bool) → ltb (f x) (f y) ≡ b → Pairwise (Ahead f) (placed f x ys) → Pairwise (Ahead f) (cond b (y ∷ placed f x ys) (x ∷ y ∷ ys))
      go true e q = ((λ z m. ⊎_elim (λ d. inl (rw d (ltb-true (f x) (f y) e))) (λ n. p.0 z n) (in_placed x ys m)), q)
      go false e q =
          let l : f y ≤ f x = ltb-false (f x) (f y) e in
          ((λ z m. ahead z (h z m) (⊎_elim (λ d. rw d l) (λ n. below l z n) (Memᴰ.cases_cons m))), p)

  pub falling_order : (xs : List ℕ) → StrictlyRising xs → Pairwise (Ahead f) (by_falling f xs)
  unfolding by_falling
  falling_order [] r = tt
  falling_order (x ∷ xs) r = placed_order x (by_falling f xs) (falling_any (each_any (λ y. x < y)) f xs r.0) (falling_order xs r.1)

-- ---- those that pass a test, equal by f

module _ {A : Type 0} (f : A → ℕ) (t : A → Bool) (alike : (x y : A) → t x ≡ true → t y ≡ true → f x ≡ f y) where
  keep_placed : (x : A) (ys : List A) → keep t (placed f x ys) ≡ keep t (x ∷ ys)
  unfolding placed keep
  keep_placed x [] = refl
  keep_placed x (y ∷ ys) = go (ltb (f x) (f y)) refl (keep_placed x ys)
    where
      -- x goes past y only if one of them fails
      past : (a b : Bool) → t x ≡ a → t y ≡ b → f x < f y →
          cond b (y ∷ cond a (x ∷ keep t ys) (keep t ys)) (cond a (x ∷ keep t ys) (keep t ys))
          ≡ cond a (x ∷ cond b (y ∷ keep t ys) (keep t ys)) (cond b (y ∷ keep t ys) (keep t ys))
      past true true p q h = absurd (omega (arith, alike x y p q))
      past true false p q h = refl
      past false b p q h = refl

      go : (b : Bool) → ltb (f x) (f y) ≡ b → keep t (placed f x ys) ≡ keep t (x ∷ ys) →
          keep t (cond b (y ∷ placed f x ys) (x ∷ y ∷ ys)) ≡ keep t (x ∷ y ∷ ys)
      go true e h = ap (λ (zs : List A). cond (t y) (y ∷ zs) zs) h ∙ past (t x) (t y) refl refl (ltb-true (f x) (f y) e)
      go false e h = refl

  pub keep_falling : (xs : List A) → keep t (by_falling f xs) ≡ keep t xs
  unfolding by_falling keep
  keep_falling [] = refl
  keep_falling (x ∷ xs) = keep_placed x (by_falling f xs) ∙ ap (λ (zs : List A). cond (t x) (x ∷ zs) zs) (keep_falling xs)

-- ---- exchanging what is unequal by f

module _ {A : Type 0} (f : A → ℕ) where
  placed_front : (x y : A) (ys : List A) → f y ≤ f x → placed f x (y ∷ ys) ≡ x ∷ y ∷ ys
  unfolding placed
  placed_front x y ys h = rw (le-ltb (f x) (f y) h)

  placed_past : (x y : A) (zs : List A) → f x < f y → placed f x (placed f y zs) ≡ placed f y (placed f x zs)
  unfolding placed
  placed_past x y [] h = rw (lt-ltb (f x) (f y) h, le-ltb (f y) (f x) (omega arith))
  placed_past x y (z ∷ zs) h =
      ⊎_elim
      (λ g. rw (le-ltb (f y) (f z) g, lt-ltb (f x) (f y) h) (go (ltb (f x) (f z)) g))
      (λ g. rw (lt-ltb (f y) (f z) g, lt-ltb (f x) (f z) (omega arith), lt-ltb (f y) (f z) g, placed_past x y zs h))
      (le_or_lt (f z) (f y))
    where
      -- y goes in front of z, wherever x goes
      go : (b : Bool) → f z ≤ f y → y ∷ cond b (z ∷ placed f x zs) (x ∷ z ∷ zs) ≡ placed f y (cond b (z ∷ placed f x zs) (x ∷ z ∷ zs))
      go true g = sym (placed_front y z (placed f x zs) g)
      go false g = sym (placed_front y x (z ∷ zs) (omega arith))

  placed_exchanged : (x y : A) (zs : List A) → (f x ≡ f y → ⊥) → placed f x (placed f y zs) ≡ placed f y (placed f x zs)
  placed_exchanged x y zs d =
      ⊎_elim (λ e. absurd (d e)) (⊎_elim (λ h. placed_past x y zs h) (λ h. sym (placed_past y x zs h))) (three_way (f x) (f y))

  -- where, of those that pass the test t, what is n's and what is not are unequal by f
  module _ {N : Type 0} {its : N → A → Bool} (t : A → Bool)
      (apart : (n : N) (x y : A) → t x ≡ true → t y ≡ true → its n x ≡ true → its n y ≡ false → f x ≡ f y → ⊥) where
    pub falling_exchanged : {xs ys : List A} → Exchanged its xs ys → all t xs ≡ true → by_falling f xs ≡ by_falling f ys
    unfolding by_falling all
    falling_exchanged unchanged a = refl
    falling_exchanged (neighbours {x} {y} {zs} n k p q d) a =
        let b = and_true (t x) (t y && all t zs) a in
        placed_exchanged x y (by_falling f zs) (apart n x y b.0 (and_true (t y) (all t zs) b.1).0 p d)
    falling_exchanged (behind {xs} {ys} x h) a = ap (placed f x) (falling_exchanged h (and_true (t x) (all t xs) a).1)
    falling_exchanged (further h g) a = falling_exchanged h a ∙ falling_exchanged g (sym (exchanged_all t h) ∙ a)
