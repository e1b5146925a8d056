-- Insufficient participation (document 02, 10): the ledger that is judged, as far as arrays hold it, the grants of an award by arrays, and what the
-- price paid is promised to be.
use Rattle.std.specs.Prelude.{ℕ, ◌≡◌, Bool, cond, not, List, [], ◌∷◌, map, eqb}
use Rattle.rules_numbers.specs.Lists.{total}
use Rattle.rules_auction.specs.Ledger.{settings_of, Ledger, start, with_settings}
use Rattle.rules_auction.specs.Clearing.{highest}
use Rattle.rules_auction.specs.Participation.{existing_plants, Grant, sufficient, price_paid}
use Rattle.engine_held.specs.supply.Reading.{with_kinds, with_highest, with_agents}

-- the developers' agents, kinds and highest levels
abbrev pub plants_in : List ℕ → List ℕ → List ℕ → Ledger
plants_in agents kinds highest = with_highest (with_kinds (with_agents start agents) kinds) highest

-- these, and D
abbrev pub judged_in : ℕ → List ℕ → List ℕ → List ℕ → Ledger
judged_in d agents kinds highest = with_settings (plants_in agents kinds highest) (settings_of 0 d 0 0 0)

-- the sum of the highest levels of agent g's existing plants
abbrev pub existing_levels : Ledger → ℕ → ℕ
existing_levels l g = total (map (λ n. highest (l.developers n)) (existing_plants l g))

abbrev pub grant_of : ℕ → ℕ → Grant
grant_of n v = record { developer = n; quantity = v }

-- what levels vs give to the developers ns: one grant for each above 0
unfoldable pub grants_in : List ℕ → List ℕ → List Grant
grants_in [] ns = []
grants_in (v ∷ vs) [] = []
grants_in (v ∷ vs) (n ∷ ns) = cond (eqb v 0) (grants_in vs ns) (grant_of n v ∷ grants_in vs ns)

-- the price paid to existing plants, whose closing price is p, in every ledger with this CE and for all grants by which participation is so
pub record Pays (insufficient : Bool) (ce p r : ℕ) : Type 0 where
  pub paid : (l : Ledger) (gs : List Grant) → insufficient ≡ not (sufficient l gs) → ce ≡ l.settings.ce → r ≡ price_paid l p gs
