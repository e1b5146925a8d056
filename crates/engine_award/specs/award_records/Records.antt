-- The award records of levels and developers.
use Rattle.std.specs.Prelude.{ℕ, suc, cond, List, [], ◌∷◌, ltb, eqb, length}
use Rattle.rules_numbers.specs.Lists.{keep}
use Rattle.rules_auction.specs.Settling.{record_of}

-- how many levels are above 0
abbrev pub award_count : List ℕ → ℕ
award_count vs = length (keep (ltb 0) vs)

-- the records of the levels vs with the developers ns of the projects from k on: one for each level above 0
unfoldable pub records_of : ℕ → List ℕ → List ℕ → List (List ℕ)
records_of k [] ns = []
records_of k (v ∷ vs) [] = []
records_of k (v ∷ vs) (n ∷ ns) = cond (eqb v 0) (records_of (suc k) vs ns) (record_of k n v ∷ records_of (suc k) vs ns)
