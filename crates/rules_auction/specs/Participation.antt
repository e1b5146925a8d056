-- Insufficient participation (document 02, 10; document 002, article 8): who is small, what goes to new plants, and the price paid to existing
-- ones. The closing price and the award are those of document 01.
use Rattle.std.specs.Prelude.{ℕ, suc, min, ◌*◌, ◌/◌, Bool, cond, ◌&&◌, List, [], ◌∷◌, map, leb, ltb, eqb}
use Rattle.rules_numbers.specs.Lists.{one_to, keep, total}
use Rattle.rules_auction.specs.Ledger.{Ledger}
use Rattle.rules_auction.specs.Clearing.{highest}
use Rattle.rules_auction.specs.Award.{award, winner}

-- the existing plants of agent g
unfoldable pub existing_plants : Ledger → ℕ → List ℕ
existing_plants l g = keep (λ n. eqb (l.developers n).agent g && eqb (l.developers n).declared.kind 1) (one_to 32)

-- small: 100 times the sum of its existing plants' highest levels is below 15 times D
unfoldable pub is_small : Ledger → ℕ → Bool
is_small l g = ltb (100 * total (map (λ n. highest (l.developers n)) (existing_plants l g))) (15 * l.settings.d)

-- what an award gives: a quantity to a developer
pub record Grant : Type 0 where
  pub developer : ℕ
  pub quantity : ℕ

-- of the levels vs of the projects from k on: one for each above 0
unfoldable pub grants_from : Ledger → ℕ → ℕ → List ℕ → List Grant
grants_from l p k [] = []
grants_from l p k (v ∷ vs) = cond (eqb v 0) (grants_from l p (suc k) vs) (record { developer = winner l p k v; quantity = v } ∷ grants_from l p (suc k) vs)

-- of the award at p
unfoldable pub grants : Ledger → ℕ → List Grant
grants l p = grants_from l p 1 (award l p)

abbrev pub quantities : List Grant → ℕ
quantities gs = total (map (λ g. g.quantity) gs)

-- it goes to a developer of kind 2
abbrev pub is_new : Ledger → Grant → Bool
is_new l g = eqb (l.developers g.developer).declared.kind 2

-- it goes to a developer whose agent is small
abbrev pub is_to_small : Ledger → Grant → Bool
is_to_small l g = is_small l (l.developers g.developer).agent

-- the new award: what goes to developers of kind 2
unfoldable pub new_award : Ledger → List Grant → ℕ
new_award l gs = quantities (keep (is_new l) gs)

-- that part of it which is given to small agents
unfoldable pub new_to_small : Ledger → List Grant → ℕ
new_to_small l gs = quantities (keep (λ g. is_new l g && is_to_small l g) gs)

-- participation is sufficient: twice the new award given to small agents is at least the whole new award; with none it is
unfoldable pub sufficient : Ledger → List Grant → Bool
sufficient l gs = leb (new_award l gs) (2 * new_to_small l gs)

-- the price paid to existing plants, whose closing price is p: if participation is insufficient, the lower of it and CE x 11 / 10 rounded down
unfoldable pub price_paid : Ledger → ℕ → List Grant → ℕ
price_paid l p gs = cond (sufficient l gs) p (min p (l.settings.ce * 11 / 10))
