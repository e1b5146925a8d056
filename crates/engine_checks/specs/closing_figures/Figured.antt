-- The figures of a closing: the excess, the remainder of Dem(C) and the phase after it (`rules_auction`, Rounds), of the quantities that it leaves.
use Rattle.std.specs.Prelude.{ℕ, ◌≡◌, refl, List, [], length}
use Rattle.rules_numbers.specs.Lists.{keep, last_or}
use Rattle.rules_demand.specs.Demand.{InBounds, InRange}
use Rattle.rules_auction.specs.Ledger.{Ledger}
use Rattle.rules_auction.specs.Clearing.{remainder_at}
use Rattle.rules_auction.specs.Rounds.{withdraws_all, reached, added, last_level, applied, supply_after, phase_after, excess}
use Rattle.engine_held.specs.supply.ByProject.{supply_of}
use Rattle.engine_checks.specs.clock.Held.{held_phase}
use Rattle.engine_checks.specs.clock.Reading.{ledger_in}
use Rattle.engine_checks.specs.clock.ReadingLaws.{supply_in}
use Rattle.engine_checks.specs.declared.clock.Phase.TheVariants.{Round}
use Rattle.engine_checks.specs.declared.clock.Settings.{Settings}
use Rattle.engine_checks.specs.declared.clock.Clock.{Clock}
use Rattle.engine_checks.specs.declared.closing_figures.Figures.{Figures}

abbrev pub figures_of : Ledger → Figures
figures_of l = record { excess = excess l; remainder = remainder_at l l.closing; phase = held_phase (phase_after l) }

abbrev pub round_at : Settings → ℕ → Clock
round_at s c = record { phase = Round; settings = s; opening = 0; closing = c }

-- the ledger of an open round in which everyone stands at these quantities already, with nothing to withdraw
abbrev pub left_in : Settings → ℕ → List ℕ → List ℕ → Ledger
left_in s c projects quantities = ledger_in (round_at s c) projects [] quantities

-- where Dem(C) is defined
pub record Figured (s : Settings) (c : ℕ) (projects quantities : List ℕ) (r : Figures) : Type 0 where
  pub as_ruled : InBounds s.ce s.d s.m1 s.m2 → InRange s.ce c → r ≡ figures_of (left_in s c projects quantities)

-- supply after the withdrawals is that of the quantities
pub supply_left :
    (s : Settings) (c : ℕ) (ks qs : List ℕ) → length ks ≡ 32 → length qs ≡ 32 →
    supply_of ks qs ≡ supply_after (left_in s c ks qs)
unfolding supply_after applied added withdraws_all reached keep last_level last_or
supply_left s c ks qs ek eq = supply_in (round_at s c) ks [] qs ek eq (λ x. (applied c 0 x).quantity) (λ i. refl)
