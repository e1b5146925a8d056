-- Looking before closing (document 02, 6): what closing a copy of the auction would answer, and whether that copy is then closed.
use Rattle.std.specs.Prelude.{ℕ, ◌+◌, ◌<◌, ◌≡◌, refl, ◌⊎◌, ◌↔◌, Bool, true, false, ◌&&◌, eqb}
use Rattle.std.proofs.Common.{ap}
use borrow.Author.Tests.{eqb-true, eq-eqb}
use Rattle.rules_numbers.specs.Cases.{and_true}
use Rattle.rules_auction.specs.Ledger.{Close, Phase, Fresh, Ready, Round, Between, Closed, Ledger}
use Rattle.rules_auction.specs.Clearing.{demand_at}
use Rattle.rules_auction.specs.Refusals.{is_closed, floor, refusal}
use Rattle.rules_auction.specs.Rounds.{supply_after, step, Answered, bare_answer, answer}
use Rattle.rules_auction.specs.RoundLaws.{closed_when}

pub record Previewed : Type 0 where
  pub answered : Answered
  pub closed : Bool

-- the closing's own answer, and whether the auction is closed after it; not closed, where the closing is refused
unfoldable pub preview : Ledger → Previewed
preview l = record { answered = answer l Close; closed = eqb (refusal l Close) 0 && is_closed (step l Close).phase }

-- a refusal: 0 and "not closed" in every other place
abbrev pub bare_preview : ℕ → Previewed
bare_preview n = record { answered = bare_answer n; closed = false }

-- ---- in words

is_closed_lem : (p : Phase) → (is_closed p ≡ true) ↔ (p ≡ Closed)
is_closed_lem Fresh = ((λ e. cc), (λ e. ap is_closed e))
is_closed_lem Ready = ((λ e. cc), (λ e. ap is_closed e))
is_closed_lem Round = ((λ e. cc), (λ e. ap is_closed e))
is_closed_lem Between = ((λ e. cc), (λ e. ap is_closed e))
is_closed_lem Closed = ((λ e. refl), (λ e. refl))

module _ (l : Ledger) where
  -- it says "closed" exactly where closing is accepted and the excess after the withdrawals at C is below 1,000 kWh or C is the floor
  pub preview_closed : ((preview l).closed ≡ true) ↔ ((refusal l Close ≡ 0) × ((supply_after l < demand_at l l.closing + 1000) ⊎ (l.closing ≡ floor l)))
  unfolding preview step
  preview_closed = (
    (λ e.
        let t = and_true (eqb (refusal l Close) 0) _ e in
        let z : refusal l Close ≡ 0 = eqb-true _ 0 t.0 in
        (z, (closed_when l).0 ((is_closed_lem _).0 (rw (eq-eqb _ 0 z) at t.1)))),
    (λ w. rw (eq-eqb _ 0 w.0) ((is_closed_lem _).1 ((closed_when l).1 w.1))),
  )
