-- Case splits on tests, and what a test that is true or false says.
use Rattle.std.specs.Prelude.{ℕ, ◌≤◌, ◌<◌, ◌≡◌, refl, ◌⊎◌, Bool, true, false, cond, ◌&&◌, ◌||◌, leb}
use Rattle.std.proofs.Common.{sym, ◌∙◌, inl, inr, ⊎_elim, true≢false, arith, leb-true, leb-false}
use Rattle.std.proofs.lemmas.Bool.{false≢true}

pub le_or_lt : (a b : ℕ) → (a ≤ b) ⊎ (b < a)
le_or_lt a b = go (leb a b) refl
  where
    go : (t : Bool) → leb a b ≡ t → (a ≤ b) ⊎ (b < a)
    go true e = inl (leb-true a b e)
    go false e = inr (leb-false a b e)

pub three_way : (a b : ℕ) → (a ≡ b) ⊎ ((a < b) ⊎ (b < a))
three_way a b = ⊎_elim (λ h. ⊎_elim (λ g. inl (omega arith)) (λ g. inr (inl g)) (le_or_lt b a)) (λ h. inr (inr h)) (le_or_lt a b)

pub and_true : (a b : Bool) → a && b ≡ true → (a ≡ true) × (b ≡ true)
and_true true b e = (refl, e)
and_true false b e = absurd (false≢true e)

pub or_true : (a b : Bool) → a || b ≡ true → (a ≡ true) ⊎ (b ≡ true)
or_true true b e = inl refl
or_true false b e = inr e

pub or_left : (a b : Bool) → a ≡ true → a || b ≡ true
or_left true b e = refl
or_left false b e = absurd (false≢true e)

pub or_right : (a b : Bool) → b ≡ true → a || b ≡ true
or_right true b e = refl
or_right false b e = e

pub never_true : (b : Bool) → (b ≡ true → ⊥) → b ≡ false
never_true true h = absurd (h refl)
never_true false h = refl

pub clash : {b : Bool} → b ≡ true → b ≡ false → ⊥
clash e g = true≢false (sym e ∙ g)

-- one of two numbers, by a test
pub one_of : (P : ℕ → Type 0) (b : Bool) (m n : ℕ) → P m → P n → P (cond b m n)
one_of P true m n g h = g
one_of P false m n g h = h
