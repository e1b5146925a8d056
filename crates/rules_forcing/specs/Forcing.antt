-- Who can force the price (document 02, 11): the game of two developers from an auction between rounds, over the ledger and document 01's terms.
use Rattle.std.specs.Prelude.{ℕ, min, Bool, not, ◌&&◌, List, [], ◌∷◌, ◌++◌, leb, ltb, eqb, length}
use Rattle.rules_numbers.specs.Lists.{keep}
use Rattle.rules_auction.specs.Ledger.{with_course, Developer, Ledger, with_developer}
use Rattle.rules_auction.specs.Clearing.{covered}
use Rattle.rules_auction.specs.Refusals.{is_between, floor, is_of_kind, falling, check}
use Rattle.rules_forcing.specs.Game.{GameMove, First, value, best, Forced}

-- one at 0 can only keep
unfoldable pub may_withdraw : Developer → Bool
may_withdraw x = ltb 0 x.quantity

-- a rival that withdraws to 0 at price p
unfoldable pub withdrawing : ℕ → Developer → Developer
withdrawing p x = with_course x 0 (x.withdrawals ++ (record { price = p; level = 0 } ∷ [])) x.offer x.lodged

-- the lowest of prices, or p of none; all are below p
unfoldable pub lowest_or : ℕ → List ℕ → ℕ
lowest_or p [] = p
lowest_or p (q ∷ qs) = min q (lowest_or p qs)

-- the ledger with the first developer, of number m, and the second, of number n, as they stand in the game; all others keep theirs
abbrev pub with_rivals : Ledger → ℕ → ℕ → Developer → Developer → Ledger
with_rivals l m n x y = with_developer (with_developer l m x) n y

-- the outcome: the lowest covered listed price, or the standing price, which is the last C, if no listed one is covered
unfoldable pub outcome_of : Ledger → ℕ → ℕ → List ℕ → Developer → Developer → ℕ
outcome_of l m n listed x y = lowest_or l.closing (keep (covered (with_rivals l m n x y)) listed)

-- two different developers of kind 2 in different projects
unfoldable pub pair_ok : Ledger → ℕ → ℕ → Bool
pair_ok l m n =
    is_of_kind 2 m (l.developers m).declared.kind && is_of_kind 2 n (l.developers n).declared.kind
    && not (eqb m n) && not (eqb (l.developers m).declared.project (l.developers n).declared.project)

-- 1 to 10 strictly falling prices from the floor to the standing price less 1
unfoldable pub list_ok : Ledger → List ℕ → Bool
list_ok l ps = leb 1 (length ps) && leb (length ps) 10 && falling (floor l) l.closing ps

-- the checks in their order: 2, 17
unfoldable pub forcing_refusal : Ledger → ℕ → ℕ → List ℕ → ℕ
forcing_refusal l m n ps = check (is_between l.phase) 2 (check (pair_ok l m n && list_ok l ps) 17 0)

-- the outcome that the first can force and the second can hold it to, and a best first move
unfoldable pub forced_outcome : Ledger → ℕ → ℕ → List ℕ → ℕ
forced_outcome l m n ps = value may_withdraw withdrawing (outcome_of l m n ps) First (l.developers m) (l.developers n) ps

unfoldable pub first_move : Ledger → ℕ → ℕ → List ℕ → GameMove
first_move l m n ps = best may_withdraw withdrawing (outcome_of l m n ps) (l.developers m) (l.developers n) ps

-- what these two say, by strategies
abbrev pub ForcedBy : Ledger → ℕ → ℕ → List ℕ → ℕ → GameMove → Type 0
ForcedBy l m n ps = Forced may_withdraw withdrawing (outcome_of l m n ps) (l.developers m) (l.developers n) ps
