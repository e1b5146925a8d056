-- The phases by their numbers, as a host reads them.
use Rattle.std.specs.Prelude.{ℕ, ◌≡◌, refl, Bool, true, false, ◌||◌, eqb}
use Rattle.std.proofs.Common.{◌∙◌, eq-eqb, ne_eqb}
use Rattle.rules_auction.specs.Ledger as rules
use Rattle.rules_auction.specs.Refusals.{is_ready, may_open, in_round, is_between, is_closed}
use Rattle.engine_checks.specs.declared.clock.Phase.{Phase}
use Rattle.engine_checks.specs.declared.clock.Phase.TheVariants.{Fresh, Ready, Round, Between, Closed}
use Rattle.engine_checks.specs.clock.Held.{held_phase, phase_number}
use Rattle.engine_checks.specs.clock.Reading.{phase_in}

-- a test that says of each phase what another says of its number
pub by_number :
    (t : rules.Phase → Bool) (u : ℕ → Bool) → t rules.Fresh ≡ u 0 → t rules.Ready ≡ u 1 → t rules.Round ≡ u 2 → t rules.Between ≡ u 3 → t rules.Closed ≡ u 4 →
    (p : rules.Phase) → t p ≡ u (phase_number (held_phase p))
by_number t u fresh ready round between closed rules.Fresh = fresh
by_number t u fresh ready round between closed rules.Ready = ready
by_number t u fresh ready round between closed rules.Round = round
by_number t u fresh ready round between closed rules.Between = between
by_number t u fresh ready round between closed rules.Closed = closed

ready_in : (p : Phase) → is_ready (phase_in p) ≡ eqb (phase_number p) 1
ready_in Fresh = refl
ready_in Ready = refl
ready_in Round = refl
ready_in Between = refl
ready_in Closed = refl

pub is_ready_lem : (p : Phase) → phase_number p ≡ 1 → is_ready (phase_in p) ≡ true
is_ready_lem p e = ready_in p ∙ eq-eqb (phase_number p) 1 e

pub not_ready : (p : Phase) → (phase_number p ≡ 1 → ⊥) → is_ready (phase_in p) ≡ false
not_ready p e = ready_in p ∙ ne_eqb (phase_number p) 1 e

round_in : (p : Phase) → in_round (phase_in p) ≡ eqb (phase_number p) 2
round_in Fresh = refl
round_in Ready = refl
round_in Round = refl
round_in Between = refl
round_in Closed = refl

pub is_round : (p : Phase) → phase_number p ≡ 2 → in_round (phase_in p) ≡ true
is_round p e = round_in p ∙ eq-eqb (phase_number p) 2 e

pub not_round : (p : Phase) → (phase_number p ≡ 2 → ⊥) → in_round (phase_in p) ≡ false
not_round p e = round_in p ∙ ne_eqb (phase_number p) 2 e

pub between_in : (p : Phase) → is_between (phase_in p) ≡ eqb (phase_number p) 3
between_in Fresh = refl
between_in Ready = refl
between_in Round = refl
between_in Between = refl
between_in Closed = refl

pub closed_in : (p : Phase) → is_closed (phase_in p) ≡ eqb (phase_number p) 4
closed_in Fresh = refl
closed_in Ready = refl
closed_in Round = refl
closed_in Between = refl
closed_in Closed = refl

pub may_open_or : (p : rules.Phase) → may_open p ≡ is_ready p || is_between p
may_open_or rules.Fresh = refl
may_open_or rules.Ready = refl
may_open_or rules.Round = refl
may_open_or rules.Between = refl
may_open_or rules.Closed = refl
