-- How the engine holds the phase, the settings and the clock of a ledger.
use Rattle.std.specs.Prelude.{ℕ}
use Rattle.rules_auction.specs.Ledger.{Ledger}
use Rattle.rules_auction.specs.Ledger as rules
use Rattle.engine_checks.specs.declared.clock.Phase.{Phase}
use Rattle.engine_checks.specs.declared.clock.Phase.TheVariants.{Fresh, Ready, Round, Between, Closed}
use Rattle.engine_checks.specs.declared.clock.Settings.{Settings}
use Rattle.engine_checks.specs.declared.clock.Clock.{Clock}

abbrev pub held_phase : rules.Phase → Phase
held_phase rules.Fresh = Fresh
held_phase rules.Ready = Ready
held_phase rules.Round = Round
held_phase rules.Between = Between
held_phase rules.Closed = Closed

abbrev pub held_settings : rules.Settings → Settings
held_settings s = record { ce = s.ce; d = s.d; m1 = s.m1; m2 = s.m2; a = s.a }

abbrev pub held_clock : Ledger → Clock
held_clock l = record { phase = held_phase l.phase; settings = held_settings l.settings; opening = l.opening; closing = l.closing }

-- the number of a phase, as a host reads it
abbrev pub phase_number : Phase → ℕ
phase_number Fresh = 0
phase_number Ready = 1
phase_number Round = 2
phase_number Between = 3
phase_number Closed = 4
