-- The one auction that holds a ledger: developer n stands at place n - 1 of each array, what is not used is zero; and the
-- supply curve, computed from the histories.
use Rattle.std.specs.Prelude.{◌≡◌}
use Rattle.rules_auction.specs.Ledger.{Ledger}
use Rattle.rules_auction.specs.Clearing.{of_each}
use Rattle.laws_ledger.specs.Sound.{Sound}
use Rattle.rules_supply_curve.specs.Curve.{supply_curve}
use Rattle.engine_held.specs.levels.Held.{held_levels}
pub use Rattle.engine_moves.specs.closing_entries.Courses.{held_course}
use Rattle.engine_curve.specs.kept_curve.Held.{held_curve}
pub use Rattle.engine_checks.specs.clock.Held.{held_phase, held_settings, held_clock}
use Rattle.engine_auction.specs.declared.Auction.{Auction}

unfoldable pub held_auction : Ledger → Auction
held_auction l = record {
  clock = held_clock l;
  projects = of_each (λ x. x.declared.project) l;
  kinds = of_each (λ x. x.declared.kind) l;
  agents = of_each (λ x. x.agent) l;
  studies = of_each (λ x. x.declared.study) l;
  days = of_each (λ x. x.declared.day) l;
  quantities = of_each (λ x. x.quantity) l;
  declared = of_each (λ x. held_levels x.declared.levels) l;
  histories = of_each held_course l;
  curve = held_curve (supply_curve l);
}

-- P of every sound ledger that the auction holds
abbrev pub Holding : Auction → (Ledger → Type 0) → Type 0
Holding a P = (l : Ledger) → Sound l → a ≡ held_auction l → P l
