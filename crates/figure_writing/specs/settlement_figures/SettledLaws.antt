-- Of an accepted settling they are the settlement's.
use Rattle.std.specs.Prelude.{◌≡◌, refl}
use Rattle.rules_auction.specs.Settling.{Settlement}
use Rattle.rules_seats.specs.figures.Figures.{settlement_figures}
use Rattle.engine_settling.specs.Settles.{settled_as}
use Rattle.figure_writing.specs.settlement_figures.Settled.{settled_figures}

pub settled_figures_lem : (s : Settlement) → settled_figures (settled_as s) ≡ settlement_figures s
unfolding settled_figures settlement_figures
settled_figures_lem s = refl
