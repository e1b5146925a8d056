-- The two orders of choices, by the larger level where they first differ and by total: what each says in words, that each is transitive,
-- and that of two different choices of one length it puts one first.
use Rattle.std.specs.Prelude.{ℕ, zero, suc, ◌<◌, ◌≡◌, refl, ◌⊎◌, ◌↔◌, Bool, true, false, cond, List, [], ◌∷◌, eqb, length, get_or}
use Rattle.std.proofs.Common.{sym, ap₂, subst, inl, inr, ⊎_elim, arith, ltb-true, lt-ltb, eqb-true, eq-eqb, ne_eqb}
use Rattle.std.proofs.Math.Logic.{⊎_map}
use Rattle.std.proofs.lemmas.Bool.{false≢true}
use Rattle.rules_numbers.specs.Cases.{three_way}
use Rattle.rules_numbers.specs.Lists.{total}
use Rattle.rules_choices.specs.Choices.{larger, before, LargerWhereTheyDiffer}
use Rattle.rules_choices.specs.AboveOr.{AboveOr, above_trans, above_total}

-- by cases on a test of equality
by_test : {x y : ℕ} {t u : Bool} → cond (eqb x y) t u ≡ true → ((x ≡ y) × (t ≡ true)) ⊎ (u ≡ true)
by_test {x} {y} {t} {u} = go (eqb x y) refl
  where
    go : (b : Bool) → eqb x y ≡ b → cond b t u ≡ true → ((x ≡ y) × (t ≡ true)) ⊎ (u ≡ true)
    go true e h = inl (eqb-true x y e, h)
    go false e h = inr h

pub larger_cons : (x y : ℕ) (c e : List ℕ) → (larger (x ∷ c) (y ∷ e) ≡ true) ↔ AboveOr x y (larger c e ≡ true)
unfolding larger
larger_cons x y c e = (
  (λ h. ⊎_elim (λ k. inr k) (λ k. inl (ltb-true y x k)) (by_test h)),
  (λ h. ⊎_elim (λ k. rw (ne_eqb x y (λ d. omega arith)) (lt-ltb y x k)) (λ k. rw (eq-eqb x y k.0) k.1) h),
)

-- a smaller total, or an equal one and the larger level where they first differ
pub before_is : (c e : List ℕ) → (before c e ≡ true) ↔ AboveOr (total e) (total c) (larger c e ≡ true)
unfolding before
before_is c e = (
  (λ h. ⊎_elim (λ k. inr (sym k.0, k.1)) (λ k. inl (ltb-true (total c) (total e) k)) (by_test h)),
  (λ h. ⊎_elim (λ k. rw (ne_eqb (total c) (total e) (λ d. omega arith)) (lt-ltb (total c) (total e) k))
      (λ k. rw (eq-eqb (total c) (total e) (sym k.0)) k.1) h),
)

-- ---- in words: the larger level at the first place where they differ

-- equal levels in front move the place behind them
behind : (x y : ℕ) (b c : List ℕ) → x ≡ y → LargerWhereTheyDiffer b c → LargerWhereTheyDiffer (x ∷ b) (y ∷ c)
behind x y b c e d = record { place = suc d.place; same = front; more = d.more }
  where
    front : (j : ℕ) → j < suc d.place → get_or (x ∷ b) j 0 ≡ get_or (y ∷ c) j 0
    front zero h = e
    front (suc j) h = d.same j (omega arith)

pub larger_differs : (b c : List ℕ) → larger b c ≡ true → LargerWhereTheyDiffer b c
unfolding larger
larger_differs [] c h = absurd (false≢true h)
larger_differs (x ∷ b) [] h = absurd (false≢true h)
larger_differs (x ∷ b) (y ∷ c) h =
    ⊎_elim (λ k. record { place = 0; same = λ j i. absurd (omega arith); more = k }) (λ k. behind x y b c k.0 (larger_differs b c k.1))
    ((larger_cons x y b c).0 h)

pub differs_asym : (b c : List ℕ) → LargerWhereTheyDiffer b c → LargerWhereTheyDiffer c b → ⊥
differs_asym b c d e =
    ⊎_elim
    (λ h. let m : get_or c e.place 0 < get_or b e.place 0 = subst (λ (i : ℕ). get_or c i 0 < get_or b i 0) h d.more in omega arith)
    (⊎_elim (λ h. omega (arith, e.same d.place h)) (λ h. omega (arith, d.same e.place h)))
    (three_way d.place e.place)

-- ---- order

larger_trans : (a b c : List ℕ) → larger a b ≡ true → larger b c ≡ true → larger a c ≡ true
unfolding larger
larger_trans [] b c h k = absurd (false≢true h)
larger_trans (x ∷ a) [] c h k = absurd (false≢true h)
larger_trans (x ∷ a) (y ∷ b) [] h k = absurd (false≢true k)
larger_trans (x ∷ a) (y ∷ b) (z ∷ c) h k = (larger_cons x z a c).1 (above_trans (larger_trans a b c) ((larger_cons x y a b).0 h) ((larger_cons y z b c).0 k))

larger_total : (c e : List ℕ) → length c ≡ length e → (c ≡ e) ⊎ ((larger c e ≡ true) ⊎ (larger e c ≡ true))
larger_total [] [] h = inl refl
larger_total [] (y ∷ e) h = absurd (omega arith)
larger_total (x ∷ c) [] h = absurd (omega arith)
larger_total (x ∷ c) (y ∷ e) h =
    ⊎_elim
    (λ k. inl (ap₂ ◌∷◌ k.0 k.1))
    (λ k. inr (⊎_map (larger_cons x y c e).1 (larger_cons y x e c).1 k))
    (above_total x y (larger_total c e (omega arith)))

pub before_trans : (a b c : List ℕ) → before a b ≡ true → before b c ≡ true → before a c ≡ true
before_trans a b c h k = (before_is a c).1 (above_trans (λ q p. larger_trans a b c p q) ((before_is b c).0 k) ((before_is a b).0 h))

pub before_total : (c e : List ℕ) → length c ≡ length e → (c ≡ e) ⊎ ((before c e ≡ true) ⊎ (before e c ≡ true))
before_total c e h =
    ⊎_elim
    (λ k. inl k.1)
    (λ k. inr (⊎_map (before_is c e).1 (before_is e c).1 k))
    (above_total (total e) (total c) (larger_total c e h))
