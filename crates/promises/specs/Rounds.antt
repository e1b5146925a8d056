-- PROMISED of a closing (document 01, Rounds; document 02, 1, 5, 6): what it leaves of each developer, that the excess is a difference, and that a
-- preview of a refused closing shows its number alone.
use Rattle.std.specs.Prelude.{ℕ, ◌<◌, ◌≡◌, pos, ◌+ℤ◌}
use Rattle.std.proofs.Math.Path.{refl}
use mathlib.Core.List.{List, [], ◌∷◌, ◌++◌}
use Rattle.std.proofs.Common.{arith, ne_eqb}
use Rattle.std.proofs.Math.IntN.{ -ℤ-+ℤ_cancel}
use Rattle.rules_auction.specs.Ledger.{Step, Close, none, made, Ledger}
use Rattle.rules_auction.specs.Clearing.{demand_at}
use Rattle.rules_auction.specs.Refusals.{refusal}
use Rattle.rules_auction.specs.Rounds.{reached, added, last_level, supply_after, excess, answer}
use Rattle.rules_auction.specs.RoundLaws.{last_level_append, by_missing, AfterClosing, after_closing}
use Rattle.rules_auction.specs.Preview.{preview, bare_preview}

-- ---- a developer after the closing

-- it keeps its quantity and withdraws nothing
abbrev pub Keeps : Ledger → ℕ → Type 0
Keeps l n = AfterClosing l n (l.developers n).quantity []

module _ (l : Ledger) (n : ℕ) where
  -- a kind 2 developer without an offer and above 0 withdraws to 0 at the round's opening price
  pub missing_offer_withdraws : (l.developers n).declared.kind ≡ 2 → (l.developers n).offer ≡ none → 0 < (l.developers n).quantity →
      AfterClosing l n 0 (record { price = l.opening; level = 0 } ∷ [])
  unfolding last_level
  missing_offer_withdraws k e q =
      after_closing l n none _ e (by_missing (λ ws. ws ≡ record { price = l.opening; level = 0 } ∷ []) l.closing l.opening (l.developers n)
      (λ j i. refl) (λ not. absurd (not k q)))

  -- the lodged steps that the closing applies
  abbrev reached_now : List Step
  reached_now = reached l.closing l.opening (l.developers n).lodged

  by_lodged :
      ((l.developers n).declared.kind ≡ 2 → 0 < (l.developers n).quantity → ⊥) → (l.developers n).offer ≡ none →
      (ws : List Step) → reached_now ≡ ws → AfterClosing l n (last_level (l.developers n).quantity ws) ws
  by_lodged not e ws r = after_closing l n none ws e (by_missing (λ vs. vs ≡ ws) l.closing l.opening (l.developers n) (λ k q. absurd (not k q)) (λ i. r))

  -- one at 0 already stays there
  pub withdrawn_keeps : (l.developers n).quantity ≡ 0 → (l.developers n).offer ≡ none → reached_now ≡ [] → Keeps l n
  unfolding last_level
  withdrawn_keeps z e = by_lodged (λ k q. omega arith) e []

  -- an existing plant, which makes no offers, keeps its quantity where no lodged step is reached (document 02, 5)
  pub existing_keeps : (l.developers n).declared.kind ≡ 1 → (l.developers n).offer ≡ none → reached_now ≡ [] → Keeps l n
  unfolding last_level
  existing_keeps o e = by_lodged (λ k q. omega arith) e []

  -- else the steps reached are added, and the level of the last one becomes the quantity
  pub lodged_withdraws :
      (l.developers n).declared.kind ≡ 1 → (l.developers n).offer ≡ none →
      (ss : List Step) (s : Step) → reached_now ≡ ss ++ (s ∷ []) → AfterClosing l n s.level (ss ++ (s ∷ []))
  unfolding last_level
  lodged_withdraws o e ss s r = rw (last_level_append (l.developers n).quantity ss (s ∷ [])) at (by_lodged (λ k q. omega arith) e (ss ++ (s ∷ [])) r)

  -- an offer of no steps keeps the quantity too
  pub empty_offer_keeps : (l.developers n).offer ≡ made [] → Keeps l n
  unfolding last_level added
  empty_offer_keeps e = after_closing l n (made []) [] e refl

  -- an offer's steps are added, and the level of the last one becomes the quantity
  pub offer_withdraws : (ss : List Step) (s : Step) → (l.developers n).offer ≡ made (ss ++ (s ∷ [])) → AfterClosing l n s.level (ss ++ (s ∷ []))
  unfolding last_level added
  offer_withdraws ss s e = rw (last_level_append (l.developers n).quantity ss (s ∷ [])) at (after_closing l n (made (ss ++ (s ∷ []))) _ e refl)

-- ---- its answer, and the preview of it

module _ (l : Ledger) where
  -- the excess and Dem(C) make up the supply after the withdrawals at C
  pub excess_is_difference : excess l +ℤ pos (demand_at l l.closing) ≡ pos (supply_after l)
  unfolding excess
  excess_is_difference = -ℤ-+ℤ_cancel (pos (supply_after l)) (pos (demand_at l l.closing))

  -- where closing is refused, the preview has 0 and "not closed" beside the number
  pub preview_refused : (refusal l Close ≡ 0 → ⊥) → preview l ≡ bare_preview (refusal l Close)
  unfolding preview answer
  preview_refused h = rw (ne_eqb (refusal l Close) 0 h)
