-- The number of an opening, by what an auction holds.
use Rattle.std.specs.Prelude.{ℕ, ◌≡◌, Bool, true, List, []}
use Rattle.rules_auction.specs.Ledger.{Open}
use Rattle.rules_auction.specs.Refusals.{is_ready, settings_ok, start_covered, refusal}
use Rattle.engine_checks.specs.declared.clock.Clock.{Clock}
use Rattle.engine_checks.specs.clock.Reading.{phase_in, settings_in, ledger_in}

-- before the first round the settings are sound
abbrev pub SetUp : Clock → Type 0
SetUp k = is_ready (phase_in k.phase) ≡ true → settings_ok (settings_in k.settings) ≡ true

-- whether A is covered, if the next round is the first
pub record StartCovered (k : Clock) (projects quantities : List ℕ) (r : Bool) : Type 0 where
  pub as_ruled : SetUp k → r ≡ start_covered (ledger_in k projects [] quantities)

-- the number of an opening that announces n
pub record OpeningNumber (n : ℕ) (k : Clock) (projects quantities : List ℕ) (r : ℕ) : Type 0 where
  pub as_ruled : SetUp k → r ≡ refusal (ledger_in k projects [] quantities) (Open n)
