-- Orders that compare one number first: x is above y, or they are equal and the rest decides.
use Rattle.std.specs.Prelude.{ℕ, ◌<◌, ◌≡◌, ◌⊎◌}
use Rattle.std.proofs.Common.{sym, ◌∙◌, inl, inr, ⊎_elim, arith}
use Rattle.rules_numbers.specs.Cases.{three_way}

abbrev pub AboveOr : ℕ → ℕ → Type 0 → Type 0
AboveOr x y X = (y < x) ⊎ ((x ≡ y) × X)

pub above_trans : {x y z : ℕ} {X Y Z : Type 0} → (X → Y → Z) → AboveOr x y X → AboveOr y z Y → AboveOr x z Z
above_trans f (inl h) (inl k) = inl (omega arith)
above_trans f (inl h) (inr k) = inl (omega arith)
above_trans f (inr h) (inl k) = inl (omega arith)
above_trans f (inr h) (inr k) = inr (h.0 ∙ k.0, f h.1 k.1)

-- one is above, or they are equal and the rest is equal or decides
pub above_total : {E X Y : Type 0} (x y : ℕ) → E ⊎ (X ⊎ Y) → ((x ≡ y) × E) ⊎ (AboveOr x y X ⊎ AboveOr y x Y)
above_total {E} {X} {Y} x y h = ⊎_elim (λ e. equal e h) (⊎_elim (λ k. inr (inr (inl k))) (λ k. inr (inl (inl k)))) (three_way x y)
  where
    equal : x ≡ y → E ⊎ (X ⊎ Y) → ((x ≡ y) × E) ⊎ (AboveOr x y X ⊎ AboveOr y x Y)
    equal e (inl d) = inl (e, d)
    equal e (inr (inl d)) = inr (inl (inr (e, d)))
    equal e (inr (inr d)) = inr (inr (inr (sym e, d)))
