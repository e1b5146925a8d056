-- The developers' projects and numbers as the engine holds them, in lists of 32; what is taken project by project.
use Rattle.std.specs.Prelude.{ℕ, ◌-◌, Bool, cond, ◌&&◌, List, [], ◌∷◌, map, eqb}
use Rattle.rules_numbers.specs.Lists.{one_to, total, greatest, all}
use Rattle.rules_auction.specs.Refusals.{is_number}

-- of the numbers xs, those at the places where ps has k
unfoldable pub of_project : ℕ → List ℕ → List ℕ → List ℕ
of_project k [] xs = []
of_project k (p ∷ ps) [] = []
of_project k (p ∷ ps) (x ∷ xs) = cond (eqb p k) (x ∷ of_project k ps xs) (of_project k ps xs)

-- the greatest quantity of each of the projects 1 to 32
unfoldable pub greatest_by_project : List ℕ → List ℕ → List ℕ
greatest_by_project ps qs = map (λ k. greatest (of_project k ps qs)) (one_to 32)

-- the place of project k, and what its developer's quantity counts for; of a number that is no project's, the first place and 0
unfoldable pub place_of : ℕ → ℕ
place_of k = cond (is_number k) (k - 1) 0

unfoldable pub counted_of : ℕ → ℕ → ℕ
counted_of k q = cond (is_number k) q 0

-- the sum over the projects 1 to 32 of the greatest quantity among each one's developers
unfoldable pub supply_of : List ℕ → List ℕ → ℕ
supply_of ps qs = total (greatest_by_project ps qs)

-- a developer of this kind may join project k
unfoldable pub joins : List ℕ → List ℕ → ℕ → ℕ → Bool
joins ps kinds k kind = all (λ x. eqb kind 2 && eqb x 2) (of_project k ps kinds)
