-- The numbers of what a seat reads, of any struct's value.
use Rattle.std.specs.Prelude.{ℕ, min, List, [], ◌∷◌, ◌++◌, take, Option, Some, None}
use Rattle.rules_replies.specs.Replies.{twos_complement}
use Rattle.engine_checks.specs.clock.Held.{phase_number}
use Rattle.hall.specs.declared.seat_readings.StandingOffer.{StandingOffer}
use Rattle.hall.specs.declared.seat_readings.Reading.{Reading}

-- opening, closing, excess, phase
unfoldable pub published_in : Reading → List ℕ
published_in r = r.opening ∷ r.closing ∷ twos_complement r.excess ∷ phase_number r.phase ∷ []

-- so many levels
unfoldable pub level_figures : List ℕ → ℕ → List ℕ
level_figures values count = count ∷ take count values

-- prices and levels in turn
unfoldable pub steps_in : List ℕ → List ℕ → List ℕ
steps_in [] qs = []
steps_in (p ∷ ps) [] = []
steps_in (p ∷ ps) (q ∷ qs) = p ∷ q ∷ steps_in ps qs

-- two zeros where none stands, else so many steps
unfoldable pub offer_figures_in : Option StandingOffer → ℕ → List ℕ
offer_figures_in None count = 0 ∷ 0 ∷ []
offer_figures_in (Some o) count = 1 ∷ count ∷ steps_in (take count o.prices) (take count o.levels)

-- how many: a struct has room for eight
abbrev pub steps_of : Option StandingOffer → ℕ
steps_of None = 0
steps_of (Some o) = min o.count 8

unfoldable pub own_figures : Reading → ℕ → ℕ → List ℕ
own_figures r levels steps = published_in r ++ level_figures r.levels.values levels ++ offer_figures_in r.offer steps

-- all that a developer reads: a struct has room for eight levels
unfoldable pub own_in : Reading → List ℕ
own_in r = own_figures r (min r.levels.count 8) (steps_of r.offer)
