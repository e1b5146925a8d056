-- The phase of the ledger that an auction holds, and its tests by the phase's number.
use Rattle.std.specs.Prelude.{ℕ, ◌≡◌, refl, Bool, eqb}
use Rattle.std.proofs.Common.{sym, ◌∙◌}
use Rattle.std.proofs.Math.Path.{ap}
use Rattle.rules_auction.specs.Ledger.{Phase, Fresh, Ready, Round, Between, Closed, Ledger}
use Rattle.rules_auction.specs.Refusals.{is_fresh, in_round, is_closed}
use Rattle.engine_checks.specs.clock.Held.{phase_number}
use Rattle.engine_checks.specs.clock.Reading.{phase_in}
use Rattle.engine_checks.specs.clock.ReadingLaws.{phase_read}
use Rattle.engine_checks.specs.clock.PhaseNumbers.{by_number}
use Rattle.engine_auction.specs.declared.Auction.{Auction}
use Rattle.engine_auction.specs.Holds.{held_auction}

module _ (a : Auction) (l : Ledger) (h : a ≡ held_auction l) where
  pub phase_is : phase_in a.clock.phase ≡ l.phase
  unfolding held_auction
  phase_is = ap (λ (x : Auction). phase_in x.clock.phase) h ∙ phase_read l.phase

  -- a test that says of each phase what another says of its number
  pub phase_by_number :
      (t : Phase → Bool) (u : ℕ → Bool) → t Fresh ≡ u 0 → t Ready ≡ u 1 → t Round ≡ u 2 → t Between ≡ u 3 → t Closed ≡ u 4 →
      t l.phase ≡ u (phase_number a.clock.phase)
  unfolding held_auction
  phase_by_number t u fresh ready round between closed =
      by_number t u fresh ready round between closed l.phase ∙ ap (λ (x : Auction). u (phase_number x.clock.phase)) (sym h)

  pub fresh_is : is_fresh l.phase ≡ eqb (phase_number a.clock.phase) 0
  fresh_is = phase_by_number is_fresh (λ n. eqb n 0) refl refl refl refl refl

  pub round_is : in_round l.phase ≡ eqb (phase_number a.clock.phase) 2
  round_is = phase_by_number in_round (λ n. eqb n 2) refl refl refl refl refl

  pub closed_is : is_closed l.phase ≡ eqb (phase_number a.clock.phase) 4
  closed_is = phase_by_number is_closed (λ n. eqb n 4) refl refl refl refl refl
