-- The numbers of a settling's answer.
use Rattle.std.specs.Prelude.{ℕ, List, [], ◌∷◌}
use Rattle.rules_seats.specs.figures.Figures.{one_if}
use Rattle.engine_settling.specs.Settles.{Settled}

unfoldable pub settled_figures : Settled → List ℕ
settled_figures s =
    s.price ∷ s.demand ∷ s.remainder ∷ s.total ∷ s.choices ∷ s.covering ∷ s.kept ∷ s.second
    ∷ one_if s.short ∷ one_if s.insufficient ∷ s.paid ∷ s.records ∷ []
