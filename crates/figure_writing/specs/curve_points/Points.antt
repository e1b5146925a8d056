-- The numbers of a supply curve's words, as the engine keeps them.
use Rattle.std.specs.Prelude.{ℕ, ◌/◌, ◌%◌, List, [], ◌∷◌}

-- of each word the price, supply before it and supply after it; `before` is that before the first
unfoldable pub points_from : ℕ → List ℕ → List ℕ
points_from before [] = []
points_from before (w ∷ ws) = w / 1099511627776 ∷ before ∷ w % 1099511627776 ∷ points_from (w % 1099511627776) ws
