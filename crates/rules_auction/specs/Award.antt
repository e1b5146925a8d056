-- Open levels, admissible choices, the award and its developers (document 01, Closing price and award).
use Rattle.std.specs.Prelude.{ℕ, Bool, cond, ◌&&◌, ◌||◌, List, [], ◌∷◌, map, leb, ltb, eqb}
use Rattle.rules_numbers.specs.Lists.{one_to, keep, is_empty, any}
use Rattle.rules_auction.specs.Ledger.{declared_or_zero, Developer, Ledger}
use Rattle.rules_auction.specs.Clearing.{high, low, developers_of, greatest_of, demand_at}
use Rattle.rules_choices.specs.Choices.{choices, covering, best_of}
use Rattle.rules_choices.specs.Search.{kept}

-- open to a developer: declared by it, or 0, and from its own low to its own high
unfoldable pub open_between : List ℕ → ℕ → ℕ → ℕ → Bool
open_between levels low high v = declared_or_zero levels v && leb low v && leb v high

-- at p
unfoldable pub open_to_developer : ℕ → Developer → ℕ → Bool
open_to_developer p x v = open_between x.declared.levels (low p x) (high p x) v

-- open, a term of document 01: open to some developer of the project, and not below the project's low
unfoldable pub open_to : Ledger → ℕ → ℕ → ℕ → Bool
open_to l p k v = leb (greatest_of (low p) l k) v && any (λ n. open_to_developer p (l.developers n) v) (developers_of l k)

-- a number put in its place in a rising list, once
unfoldable pub insert : ℕ → List ℕ → List ℕ
insert v [] = v ∷ []
insert v (x ∷ xs) = cond (ltb v x) (v ∷ x ∷ xs) (cond (eqb v x) (x ∷ xs) (x ∷ insert v xs))

unfoldable pub insert_all : List ℕ → List ℕ → List ℕ
insert_all [] xs = xs
insert_all (v ∷ vs) xs = insert v (insert_all vs xs)

-- 0 and all levels that the developers ns declare, rising, each once
unfoldable pub declared_by : Ledger → List ℕ → List ℕ
declared_by l [] = 0 ∷ []
declared_by l (n ∷ ns) = insert_all (l.developers n).declared.levels (declared_by l ns)

-- the levels open to project k, rising
unfoldable pub open_levels : Ledger → ℕ → ℕ → List ℕ
open_levels l p k = keep (open_to l p k) (declared_by l (developers_of l k))

-- what a choice may give to number k: a level open to it; a number without a developer stands in every choice as 0
unfoldable pub row : Ledger → ℕ → ℕ → List ℕ
row l p k = cond (is_empty (developers_of l k)) (0 ∷ []) (open_levels l p k)

-- the rows of all numbers, 1 to 32
unfoldable pub rows : Ledger → ℕ → List (List ℕ)
rows l p = map (row l p) (one_to 32)

-- admissible, a term of document 01: one level open to it for each project that has a developer. A choice lists the levels of 1 to 32
unfoldable pub admissible : Ledger → ℕ → List (List ℕ)
admissible l p = choices (rows l p)

-- those that cover, a term of document 01: a choice covers if its total is at least Dem(P)
unfoldable pub covering_choices : Ledger → ℕ → List (List ℕ)
covering_choices l p = covering (demand_at l p) (admissible l p)

-- how many complete choices the search for the award does not set aside (document 02, 3)
unfoldable pub kept_choices : Ledger → ℕ → ℕ
kept_choices l p = kept (demand_at l p) (rows l p)

-- the award, a term of document 01: the covering choice of least total; of equal totals the one with the larger level at the lowest
-- project number where they differ
unfoldable pub award : Ledger → ℕ → List ℕ
award l p = best_of (covering_choices l p)

-- x is preferred to y: a higher study value, or the same and an earlier start day (3.15.2 iii)
unfoldable pub preferred : Developer → Developer → Bool
preferred x y = ltb y.declared.study x.declared.study || (eqb x.declared.study y.declared.study && ltb x.declared.day y.declared.day)

-- the preferred one of n and ns; the first of equals, which is the lowest number (3.15.2 iii)
unfoldable pub most_preferred : Ledger → ℕ → List ℕ → ℕ
most_preferred l n [] = n
most_preferred l n (m ∷ ns) = most_preferred l (cond (preferred (l.developers m) (l.developers n)) m n) ns

unfoldable pub first_preferred : Ledger → List ℕ → ℕ
first_preferred l [] = 0
first_preferred l (n ∷ ns) = most_preferred l n ns

-- the developer that gets level v of project k: of those to whom it is open
unfoldable pub winner : Ledger → ℕ → ℕ → ℕ → ℕ
winner l p k v = first_preferred l (keep (λ n. open_to_developer p (l.developers n) v) (developers_of l k))
