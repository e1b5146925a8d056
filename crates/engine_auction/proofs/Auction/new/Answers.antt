-- A fresh auction holds the empty ledger: every array is a repeat of what stands for nobody, and the curve has no point.
use mathlib.Core.Path.{refl, sym, ap, ◌∙◌}
use Rattle.rules_auction.specs.Ledger.{start}
use Rattle.rules_auction.specs.Rounds.{step_all, ledger}
use Rattle.rules_supply_curve.specs.Closings.{curve_empty}
use Rattle.engine_curve.specs.kept_curve.Held.{held_curve}
use Rattle.engine_held.specs.levels.Held.{held_levels}
use Rattle.engine_auction.specs.Holds.{held_course, held_auction}
use Rattle.engine_moves.specs.closing_entries.Places.{fresh_places}
use Rattle.engine_auction.proofs.Auction.new.Goals as goal

pub returns : goal.returns
unfolding held_auction ledger step_all
returns c = λ i. record {
  clock = c.new.ensures i;
  projects = fresh_places (λ x. x.declared.project) 0 refl i;
  kinds = fresh_places (λ x. x.declared.kind) 0 refl i;
  agents = fresh_places (λ x. x.agent) 0 refl i;
  studies = fresh_places (λ x. x.declared.study) 0 refl i;
  days = fresh_places (λ x. x.declared.day) 0 refl i;
  quantities = fresh_places (λ x. x.quantity) 0 refl i;
  declared = fresh_places (λ x. held_levels x.declared.levels) c.none-none.result c.none-none.ensures i;
  histories = fresh_places held_course c.new-empty.result c.new-empty.ensures i;
  curve = (c.new-2.ensures ∙ ap held_curve (sym (curve_empty start (λ n. refl)))) i;
}
