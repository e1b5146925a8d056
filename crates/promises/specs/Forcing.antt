-- PROMISED of who can force the price (document 02, 11): the outcome of a play is the lowest covered price of those listed, or the standing price,
-- and so is what is forced.
use Rattle.std.specs.Prelude.{ℕ, min, max, ◌≤◌, ◌≡◌, refl, ◌⊎◌, Bool, true}
use Rattle.std.proofs.Common.{subst, arith}
use Rattle.std.proofs.Math.Logic.{inl, inr, ⊎_elim}
use mathlib.Core.List.Memᴰ
use mathlib.Core.List.{List, [], ◌∷◌, Memᴰ}
use Rattle.rules_numbers.specs.Cases.{le_or_lt, one_of}
use Rattle.rules_numbers.specs.Lists.{keep}
use Rattle.rules_numbers.specs.ListLaws.{in_keep}
use Rattle.rules_auction.specs.Ledger.{Developer, Ledger}
use Rattle.rules_auction.specs.Clearing.{covered}
use Rattle.rules_forcing.specs.Game.{Side, First, Second, value}
use Rattle.rules_forcing.specs.Forcing.{may_withdraw, withdrawing, lowest_or, with_rivals, outcome_of, forced_outcome}

-- ---- the lowest of a list

lowest_in : (d : ℕ) (qs : List ℕ) → (lowest_or d qs ≡ d) ⊎ Memᴰ (lowest_or d qs) qs
unfolding lowest_or
lowest_in d [] = inl refl
lowest_in d (q ∷ qs) = ⊎_elim
    (λ h. inr (Memᴰ.head (omega arith)))
    (λ h. let e : min q (lowest_or d qs) ≡ lowest_or d qs = omega arith in rw e (behind (lowest_in d qs)))
    (le_or_lt q (lowest_or d qs))
  where
    behind : (lowest_or d qs ≡ d) ⊎ Memᴰ (lowest_or d qs) qs → (lowest_or d qs ≡ d) ⊎ Memᴰ (lowest_or d qs) (q ∷ qs)
    behind r = ⊎_elim (λ e. inl e) (λ i. inr (Memᴰ.tail i)) r

lowest_le : (d q : ℕ) (qs : List ℕ) → Memᴰ q qs → lowest_or d qs ≤ q
unfolding lowest_or
lowest_le d q [] i = absurd (Memᴰ.not-nil i)
lowest_le d q (u ∷ qs) i = ⊎_elim (λ e. omega arith) (λ k. omega (arith, lowest_le d q qs k)) (Memᴰ.cases_cons i)

-- ---- the value of a game

greater : (P : ℕ → Type 0) (u w : ℕ) → P u → P w → P (max u w)
greater P u w h k = ⊎_elim (λ o. let e : w ≡ max u w = omega arith in subst P e k) (λ o. let e : u ≡ max u w = omega arith in subst P e h) (le_or_lt u w)

lesser : (P : ℕ → Type 0) (u w : ℕ) → P u → P w → P (min u w)
lesser P u w h k = ⊎_elim (λ o. let e : u ≡ min u w = omega arith in subst P e h) (λ o. let e : w ≡ min u w = omega arith in subst P e k) (le_or_lt u w)

module _ {A : Type 0} (may : A → Bool) (leave : ℕ → A → A) (outcome : A → A → ℕ) where
  -- what holds of every outcome holds of the value
  value_each : (P : ℕ → Type 0) → ((x y : A) → P (outcome x y)) → (s : Side) (x y : A) (ps : List ℕ) → P (value may leave outcome s x y ps)
  unfolding value
  value_each P h First x y [] = h x y
  value_each P h Second x y [] = h x y
  value_each P h First x y (p ∷ ps) =
      one_of P (may x) _ _ (greater P _ _ (value_each P h Second x y ps) (value_each P h Second (leave p x) y ps)) (value_each P h Second x y ps)
  value_each P h Second x y (p ∷ ps) =
      one_of P (may y) _ _ (lesser P _ _ (value_each P h First x y ps) (value_each P h First x (leave p y) ps)) (value_each P h First x y ps)

-- ---- what a play comes to, and what is forced

module _ (l : Ledger) (m n : ℕ) (ps : List ℕ) where
  -- the outcome is the standing price or a covered listed one, and no covered listed one is lower
  pub outcome_in_lem :
      (x y : Developer) →
      (outcome_of l m n ps x y ≡ l.closing) ⊎ (Memᴰ (outcome_of l m n ps x y) ps × (covered (with_rivals l m n x y) (outcome_of l m n ps x y) ≡ true))
  unfolding outcome_of
  outcome_in_lem x y = ⊎_elim (λ e. inl e) (λ i. inr ((in_keep _ _ ps).0 i)) (lowest_in l.closing (keep (covered (with_rivals l m n x y)) ps))

  pub outcome_lowest : (x y : Developer) (q : ℕ) → Memᴰ q ps → covered (with_rivals l m n x y) q ≡ true → outcome_of l m n ps x y ≤ q
  unfolding outcome_of
  outcome_lowest x y q i e = lowest_le l.closing q _ ((in_keep _ q ps).1 (i, e))

  -- what is forced is a listed price or the standing price
  pub forced_in : (forced_outcome l m n ps ≡ l.closing) ⊎ Memᴰ (forced_outcome l m n ps) ps
  unfolding forced_outcome
  forced_in =
      value_each may_withdraw withdrawing (outcome_of l m n ps) (λ v. (v ≡ l.closing) ⊎ Memᴰ v ps)
      (λ x y. ⊎_elim (λ e. inl e) (λ r. inr r.0) (outcome_in_lem x y)) First (l.developers m) (l.developers n) ps
