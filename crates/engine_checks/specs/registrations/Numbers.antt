-- The number of a registration, by the phase and the arrays that it reads.
use Rattle.std.specs.Prelude.{ℕ, ◌≡◌, Bool, ◌&&◌, List, []}
use Rattle.rules_auction.specs.Ledger.{Agency, agent_for, Register, Ledger}
use Rattle.rules_auction.specs.Refusals.{is_number, refusal}
use Rattle.engine_checks.specs.declared.clock.Phase.{Phase}
use Rattle.engine_checks.specs.declared.clock.Clock.{Clock}
use Rattle.engine_checks.specs.clock.Reading.{no_settings, ledger_in}

-- a clock of which the phase alone is read
abbrev pub in_phase : Phase → Clock
in_phase p = record { phase = p; settings = no_settings; opening = 0; closing = 0 }

abbrev pub books_in : Phase → List ℕ → List ℕ → Ledger
books_in p projects kinds = ledger_in (in_phase p) projects kinds []

-- of developer n of project k, by any agent (document 02, 10), where `numbered` says whether all three have good numbers
pub record RegistrationNumber (p : Phase) (projects kinds : List ℕ) (numbered : Bool) (k n kind : ℕ) (ls : List ℕ) (r : ℕ) : Type 0 where
  pub as_ruled :
      (w : Agency) (study day : ℕ) → numbered ≡ is_number k && is_number n && is_number (agent_for n w) →
      r ≡ refusal (books_in p projects kinds) (Register n w (record { project = k; kind = kind; study = study; day = day; levels = ls }))
