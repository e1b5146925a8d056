-- Neighbours that may be exchanged, exchanged all through a list: what it leads to stays, and each is answered as before. One law for calls
-- and for lines.
use Rattle.std.specs.Prelude.{ℕ, ◌≡◌, Bool, true}
use Rattle.std.proofs.Math.Path.{refl, ap, subst}
use Rattle.std.proofs.Common.{sym, ap₂, ◌∙◌}
use Rattle.std.proofs.Math.Bool.{false}
use mathlib.Core.List.{List, [], ◌∷◌, ◌++◌}
use Rattle.rules_numbers.specs.Cases.{never_true, clash}
use Rattle.rules_numbers.specs.reordering.Exchanges.{Exchanged, unchanged, neighbours, behind, further}
use Rattle.laws_arrival.specs.arrival.Arrival.{with_answers}

module _ {S A B : Type 0} (next : S → A → S) (says : S → A → B) where
  -- what a list leads to
  unfoldable pub ending : S → List A → S
  ending s [] = s
  ending s (x ∷ xs) = ending (next s x) xs

  pub with_answers_append : (s : S) (xs ys : List A) → with_answers next says s (xs ++ ys) ≡ with_answers next says s xs ++ with_answers next says (ending s xs) ys
  unfolding with_answers ending
  with_answers_append s [] ys = refl
  with_answers_append s (x ∷ xs) ys = ap (λ (ts : List (A × B)). (x, says s x) ∷ ts) (with_answers_append (next s x) xs ys)

  -- two of different developers lead to the same in both orders, and the second is answered as if the first were not there
  abbrev pub Free : (ℕ → A → Bool) → Type 0
  Free its =
      (s : S) (x y : A) (n k : ℕ) → its n x ≡ true → its k y ≡ true → its n y ≡ false →
      (next (next s x) y ≡ next (next s y) x) × (says (next s x) y ≡ says s y)

  module _ (its : ℕ → A → Bool) (once : (x : A) (n k : ℕ) → its n x ≡ true → its k x ≡ true → n ≡ k) (free : Free its) where
    pub exchanged_ending : (s : S) {xs ys : List A} → Exchanged its xs ys → ending s xs ≡ ending s ys
    unfolding ending
    exchanged_ending s unchanged = refl
    exchanged_ending s (neighbours {x} {y} {zs} n k p q d) = ap (λ (u : S). ending u zs) (free s x y n k p q d).0
    exchanged_ending s (behind x h) = exchanged_ending (next s x) h
    exchanged_ending s (further h g) = exchanged_ending s h ∙ exchanged_ending s g

    -- what was answered goes along
    pub exchanged_with_answers : (s : S) {xs ys : List A} → Exchanged its xs ys →
        Exchanged (λ n t. its n t.0) (with_answers next says s xs) (with_answers next says s ys)
    unfolding with_answers
    exchanged_with_answers s unchanged = unchanged
    exchanged_with_answers s (neighbours {x} {y} {zs} n k p q d) =
        let f = free s x y n k p q d in
        let other : its k x ≡ false = never_true (its k x) (λ e. clash (subst (λ (j : ℕ). its j y ≡ true) (once x k n e p) q) d) in
        let g = free s y x k n q p other in
        subst (λ (ts : List (A × B)). Exchanged (λ n t. its n t.0)
        ((x, says s x) ∷ (y, says (next s x) y) ∷ with_answers next says (next (next s x) y) zs) ts)
        (ap₂ (λ (b : B) (ts : List (A × B)). (y, b) ∷ ts) f.1
        (ap₂ (λ (b : B) (u : S). (x, b) ∷ with_answers next says u zs) (sym g.1) f.0))
        (neighbours n k p q d)
    exchanged_with_answers s (behind x h) = behind (x, says s x) (exchanged_with_answers (next s x) h)
    exchanged_with_answers s (further h g) = further (exchanged_with_answers s h) (exchanged_with_answers s g)
