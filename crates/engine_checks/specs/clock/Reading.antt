-- What the engine holds, read in the ledger's words: the contract of a test or a number is an equation with the rule of what it reads so. What it
-- does not read is 0, or an empty array.
use Rattle.std.specs.Prelude.{ℕ, zero, suc, ◌-◌, cond, List, [], ◌∷◌, get_or}
use Rattle.rules_demand.specs.Answer.{Answer, demand_answer}
use Rattle.rules_auction.specs.Ledger.{Developer, Ledger, nobody, with_developers, newcomer}
use Rattle.rules_auction.specs.Ledger as rules
use Rattle.rules_auction.specs.Refusals.{is_number}
use Rattle.engine_checks.specs.declared.clock.Phase.{Phase}
use Rattle.engine_checks.specs.declared.clock.Phase.TheVariants.{Fresh, Ready, Round, Between, Closed}
use Rattle.engine_checks.specs.declared.clock.Settings.{Settings}
use Rattle.engine_checks.specs.declared.clock.Clock.{Clock}

-- ---- the clock

-- a number that is no phase's is read as Fresh
abbrev pub phase_of : ℕ → rules.Phase
phase_of zero = rules.Fresh
phase_of (suc zero) = rules.Ready
phase_of (suc (suc zero)) = rules.Round
phase_of (suc (suc (suc zero))) = rules.Between
phase_of (suc (suc (suc (suc zero)))) = rules.Closed
phase_of (suc (suc (suc (suc (suc n))))) = rules.Fresh

abbrev pub phase_in : Phase → rules.Phase
phase_in Fresh = rules.Fresh
phase_in Ready = rules.Ready
phase_in Round = rules.Round
phase_in Between = rules.Between
phase_in Closed = rules.Closed

abbrev pub settings_in : Settings → rules.Settings
settings_in s = record { ce = s.ce; d = s.d; m1 = s.m1; m2 = s.m2; a = s.a }

abbrev pub no_settings : Settings
no_settings = record { ce = 0; d = 0; m1 = 0; m2 = 0; a = 0 }

-- the ledger of the clock alone
abbrev pub clock_in : Clock → Ledger
clock_in k = record { phase = phase_in k.phase; settings = settings_in k.settings; opening = k.opening; closing = k.closing; developers = λ _. nobody }

-- the demand call's answer at p: Dem(p) and its remainder, 0 beyond the bounds
abbrev pub demanded_at : Settings → ℕ → Answer
demanded_at s p = demand_answer s.ce s.d s.m1 s.m2 p

-- ---- the developers

-- one of project k and this kind that stands at q, as if it had declared this level alone
abbrev pub standing_at : ℕ → ℕ → ℕ → Developer
standing_at k kind q = newcomer 0 (record { project = k; kind = kind; study = 0; day = 0; levels = q ∷ [] })

-- developer n, of 1 to 32, at place n - 1 of each array
unfoldable pub developers_in : List ℕ → List ℕ → List ℕ → ℕ → Developer
developers_in projects kinds quantities n =
    cond (is_number n) (standing_at (get_or projects (n - 1) 0) (get_or kinds (n - 1) 0) (get_or quantities (n - 1) 0)) nobody

abbrev pub ledger_in : Clock → List ℕ → List ℕ → List ℕ → Ledger
ledger_in k projects kinds quantities = with_developers (clock_in k) (developers_in projects kinds quantities)
