-- The awards entered place by place as the offers are taken.
use Rattle.std.specs.Prelude.{ℕ, ◌-◌, List, [], ◌∷◌, set}
use Rattle.rules_sealed.specs.Sealed.{Offer, awarded}

-- the offers at the places ks, taken in turn: each award at its place of `out`
unfoldable pub served : (ℕ → Offer) → ℕ → List ℕ → List ℕ → List ℕ
served f left [] out = out
served f left (k ∷ ks) out = served f (left - awarded left (f k)) ks (set out k (awarded left (f k)))
