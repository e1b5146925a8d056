-- The developers of the awarded levels.
use Rattle.std.specs.Prelude.{ℕ, suc, cond, List, [], ◌∷◌, eqb}
use Rattle.rules_auction.specs.Ledger.{Ledger}
use Rattle.rules_auction.specs.Award.{winner}

-- the developers of the levels vs of the projects from k on; 0 for a level 0
unfoldable pub winners_from : Ledger → ℕ → ℕ → List ℕ → List ℕ
winners_from l p k [] = []
winners_from l p k (v ∷ vs) = cond (eqb v 0) 0 (winner l p k v) ∷ winners_from l p (suc k) vs
