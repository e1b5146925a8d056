-- A preview and the closing made next: their numbers are one, and the mark is whether the auction is closed after it.
use Rattle.std.specs.Prelude.{ℕ, ◌≡◌, refl, Bool, true, false, cond, ◌&&◌, List}
use Rattle.std.proofs.Math.Path.{sym, ap, ap₂}
use Rattle.std.proofs.Common.{◌∙◌, eqb-true}
use Rattle.std.proofs.Math.Dec.{eqb}
use Rattle.rules_auction.specs.Ledger.{Call, Close, Ledger}
use Rattle.rules_auction.specs.Refusals.{is_closed, refusal}
use Rattle.rules_auction.specs.Rounds.{step, ledger, Answered, bare_answer, granted, answer}
use Rattle.rules_auction.specs.Preview.{Previewed, preview}
use Rattle.laws_ledger.specs.reachable.Steps.{ledger_snoc}
use Rattle.engine_auction.specs.declared.Auction.{Auction}
use Rattle.engine_auction.specs.Holds.{held_auction}
use Rattle.engine_auction.specs.PhaseHeld.{phase_is}
use Rattle.engine_auction.specs.Called.{Called}
use Rattle.engine_looks.specs.readings.Readings.{Previews}
use Rattle.engine_checks.specs.clock.Held.{phase_number}
use Rattle.engine_checks.specs.clock.Reading.{phase_in}
use Rattle.engine_checks.specs.clock.PhaseNumbers.{closed_in}

-- the number that closing answers is its refusal's, or 0
answer_number : (l : Ledger) → (answer l Close).number ≡ refusal l Close
unfolding answer granted
answer_number l = go (eqb (refusal l Close) 0) refl
  where
    go : (b : Bool) → eqb (refusal l Close) 0 ≡ b → (cond b (granted l Close) (bare_answer (refusal l Close))).number ≡ refusal l Close
    go true e = sym (eqb-true (refusal l Close) 0 e)
    go false e = refl

module _ (cs : List Call) (a b : Auction) (r : Answered) (c : Called Close a b r) (h : a ≡ held_auction (ledger cs)) where
  -- the mark, by the closing's number and the phase that it leaves
  pub mark_is : eqb r.number 0 && is_closed (phase_in b.clock.phase) ≡ (preview (ledger cs)).closed
  unfolding preview
  mark_is = ap₂ (λ (n : ℕ) (t : Bool). eqb n 0 && t)
      (ap (λ (x : Answered). x.number) (c.answer cs h) ∙ answer_number (ledger cs))
      (ap is_closed (phase_is b (step (ledger cs) Close) (c.next cs h ∙ ap held_auction (ledger_snoc cs Close))))

  pub previewed : (p : Previewed) → Previews a p → (p.answered ≡ r) × (p.closed ≡ eqb r.number 0 && eqb (phase_number b.clock.phase) 4)
  unfolding preview
  previewed p q = let e = q.preview_is cs h in (
    ap (λ (x : Previewed). x.answered) e ∙ sym (c.answer cs h),
    ap (λ (x : Previewed). x.closed) e ∙ sym mark_is
        ∙ ap (λ (t : Bool). eqb r.number 0 && t) (closed_in b.clock.phase),
  )
