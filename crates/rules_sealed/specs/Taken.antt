-- Offers taken one after the other: each with its award, and what is left behind them all.
use Rattle.std.specs.Prelude.{ℕ, ◌+◌, ◌-◌, ◌≤◌, ◌<◌, min, ◌≡◌, ◌⊎◌}
use Rattle.std.proofs.Math.Path.{refl, ap₂}
use Rattle.std.proofs.Common.{◌∙◌, arith}
use Rattle.std.proofs.Math.Logic.{inl, inr, ⊎_elim}
use mathlib.Core.List.Memᴰ
use mathlib.Core.List.{List, [], ◌∷◌, ◌++◌, map}
use borrow.Author.Tests.{lt-ltb, le-ltb, eq-eqb, ne_eqb}
use Rattle.rules_numbers.specs.Cases.{le_or_lt}
use Rattle.rules_numbers.specs.Lists.{total}
use Rattle.rules_numbers.specs.ListLaws.{map_same}
use Rattle.rules_choices.specs.Pairwise.{Distinct}
use Rattle.rules_sealed.specs.Sealed.{Offer, awarded, left_behind, left_before}

unfoldable pub taken : ℕ → List Offer → List (Offer × ℕ)
taken left [] = []
taken left (o ∷ os) = (o, awarded left o) ∷ taken (left - awarded left o) os

unfoldable pub left_after : ℕ → List Offer → ℕ
left_after left [] = left
left_after left (o ∷ os) = left_after (left - awarded left o) os

-- ---- one award

module _ (left : ℕ) (o : Offer) where
  abbrev cut : ℕ
  cut = min o.quantity left

  -- nothing, or all that it can get
  awarded_cases : ((awarded left o ≡ 0) × (cut < o.minimum)) ⊎ ((awarded left o ≡ cut) × (o.minimum ≤ cut))
  unfolding awarded
  awarded_cases =
      ⊎_elim
      (λ h. inr (rw (le-ltb cut o.minimum h), h))
      (λ h. inl (rw (lt-ltb cut o.minimum h), h))
      (le_or_lt o.minimum cut)

  awarded_le : awarded left o ≤ left
  awarded_le = ⊎_elim (λ h. omega (arith, h.0)) (λ h. omega (arith, h.0)) awarded_cases

  pub awarded_range : (awarded left o ≡ 0) ⊎ ((o.minimum ≤ awarded left o) × (awarded left o ≤ o.quantity))
  awarded_range = ⊎_elim (λ h. inl h.0) (λ h. inr (omega (arith, h.0, h.1), omega (arith, h.0))) awarded_cases

  pub awarded_lesser : o.minimum ≤ o.quantity → o.minimum ≤ left → awarded left o ≡ min o.quantity left
  awarded_lesser w l = ⊎_elim (λ h. absurd (omega (arith, h.1))) (λ h. h.0) awarded_cases

  module _ (some : 1 ≤ o.minimum) (within : o.minimum ≤ o.quantity) where
    pub awarded_nothing : (awarded left o ≡ 0 → left < o.minimum) × (left < o.minimum → awarded left o ≡ 0)
    awarded_nothing = (
      (λ e. ⊎_elim (λ h. omega (arith, h.1)) (λ h. absurd (omega (arith, h.0, h.1))) awarded_cases),
      (λ l. ⊎_elim (λ h. h.0) (λ h. absurd (omega (arith, h.1))) awarded_cases),
    )

-- ---- all of them

pub taken_sum : (left : ℕ) (os : List Offer) → total (map (λ t. t.1) (taken left os)) + left_after left os ≡ left
unfolding total taken left_after
taken_sum left [] = omega arith
taken_sum left (o ∷ os) = omega (arith, taken_sum (left - awarded left o) os, awarded_le left o)

module _ (f : ℕ → Offer) where
  pub behind_is : (left : ℕ) (ks : List ℕ) → left_behind f left ks ≡ left_after left (map f ks)
  unfolding left_behind left_after
  behind_is left [] = refl
  behind_is left (k ∷ ks) = behind_is (left - awarded left (f k)) ks

  -- place by place, where no place has two turns
  pub taken_is : (left : ℕ) (ks : List ℕ) → Distinct ks → map (λ k. (f k, awarded (left_before f left k ks) (f k))) ks ≡ taken left (map f ks)
  unfolding left_before taken
  taken_is left [] d = refl
  taken_is left (k ∷ ks) d =
      ap₂
      ◌∷◌
      (rw (eq-eqb k k refl))
      (map_same
      (λ j. (f j, awarded (left_before f left j (k ∷ ks)) (f j)))
      (λ j. (f j, awarded (left_before f (left - awarded left (f k)) j ks) (f j)))
      ks
      (λ j m. rw (ne_eqb k j (d.0 j m)))
      ∙ taken_is (left - awarded left (f k)) ks d.1)

  -- what is left at a turn, and the awards of those before it, sum to what there was
  pub before_sum :
      (left : ℕ) (front : List ℕ) (k : ℕ) (behind : List ℕ) → Distinct (front ++ (k ∷ behind)) →
      let ks = front ++ (k ∷ behind) in
      left_before f left k ks + total (map (λ j. awarded (left_before f left j ks) (f j)) front) ≡ left
  unfolding left_before total
  before_sum left [] k behind d = rw (eq-eqb k k refl) (omega arith)
  before_sum left (j ∷ front) k behind d =
      let ks = front ++ (k ∷ behind) in
      let later = left - awarded left (f j) in
      let e : map (λ i. awarded (left_before f left i (j ∷ ks)) (f i)) front ≡ map (λ i. awarded (left_before f later i ks) (f i)) front =
      map_same _ _ front (λ i m. rw (ne_eqb j i (d.0 i (Memᴰ.append_left (k ∷ behind) m)))) in
      rw (ne_eqb j k (d.0 k (Memᴰ.append_right front (Memᴰ.head refl))), eq-eqb j j refl, e)
      (omega (arith, before_sum later front k behind d.1, awarded_le left (f j)))
