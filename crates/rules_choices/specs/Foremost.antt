-- The foremost of a list by an order R: going through the list, the better of two stands for both.
use Rattle.std.specs.Prelude.{◌≡◌, refl, ◌⊎◌, Bool, true, false, cond}
use Rattle.std.proofs.Common.{sym, subst, inl, inr, ⊎_elim}
use mathlib.Core.List.Memᴰ
use mathlib.Core.List.{List, [], ◌∷◌, Memᴰ}
use Rattle.rules_numbers.specs.ListLaws.{Each}

-- b is x or before it
abbrev pub Ahead : {A : Type 0} → (A → A → Type 0) → A → A → Type 0
Ahead R b x = (x ≡ b) ⊎ R b x

-- b is one of xs, and ahead of each
abbrev pub Foremost : {A : Type 0} → (A → A → Type 0) → List A → A → Type 0
Foremost R xs b = Memᴰ b xs × Each (Ahead R b) xs

module _ {A : Type 0} (R : A → A → Type 0) where
  pub foremost_one : (x : A) → Foremost R (x ∷ []) x
  foremost_one x = (Memᴰ.head refl, (λ y m. inl (Memᴰ.eq_of_singleton m)))

  of_two : (x y w : A) → Memᴰ w (x ∷ y ∷ []) → Ahead R w x → Ahead R w y → Foremost R (x ∷ y ∷ []) w
  of_two x y w m p q =
      (m, (λ z k. ⊎_elim (λ d. subst (Ahead R w) (sym d) p) (λ j. subst (Ahead R w) (sym (Memᴰ.eq_of_singleton j)) q) (Memᴰ.cases_cons k)))

  -- of x and y, as a test tells
  pub foremost_two : (x y : A) (t : Bool) → (t ≡ true → R y x) → (t ≡ false → Ahead R x y) → Foremost R (x ∷ y ∷ []) (cond t y x)
  foremost_two x y true f g = of_two x y y (Memᴰ.tail (Memᴰ.head refl)) (inr (f refl)) (inl refl)
  foremost_two x y false f g = of_two x y x (Memᴰ.head refl) (inl refl) (g refl)

  -- what holds of two and of the rest holds of the one that stands for the two, and of the rest
  pub each_foremost : (P : A → Type 0) (x y w : A) (zs : List A) → Foremost R (x ∷ y ∷ []) w → Each P (x ∷ y ∷ zs) → Each P (w ∷ zs)
  each_foremost P x y w zs f h z m =
      ⊎_elim (λ d. h z (Memᴰ.cast d (Memᴰ.append_left zs f.0))) (λ k. h z (Memᴰ.tail (Memᴰ.tail k))) (Memᴰ.cases_cons m)

module _ {A : Type 0} (R : A → A → Type 0) (trans : (a b c : A) → R a b → R b c → R a c) where
  ahead_trans : (a b c : A) → Ahead R a b → Ahead R b c → Ahead R a c
  ahead_trans a b c (inl d) k = subst (λ z. Ahead R z c) d k
  ahead_trans a b c (inr h) (inl d) = inr (subst (R a) (sym d) h)
  ahead_trans a b c (inr h) (inr k) = inr (trans a b c h k)

  -- w, the foremost of x and y, stands for both
  pub foremost_more : (x y w : A) (zs : List A) (b : A) → Foremost R (x ∷ y ∷ []) w → Foremost R (w ∷ zs) b → Foremost R (x ∷ y ∷ zs) b
  foremost_more x y w zs b f g = (
    ⊎_elim (λ d. Memᴰ.cast d (Memᴰ.append_left zs f.0)) (λ k. Memᴰ.tail (Memᴰ.tail k)) (Memᴰ.cases_cons g.0),
    (λ z m. ⊎_elim (λ k. ahead_trans b w z (g.1 w (Memᴰ.head refl)) (f.1 z k)) (λ k. g.1 z (Memᴰ.tail k)) (Memᴰ.append_cases (x ∷ y ∷ []) m)),
  )
