-- High, low, covered, passed and the closing price (document 01, Closing price and award).
use Rattle.std.specs.Prelude.{ℕ, ◌-◌, Bool, cond, List, [], ◌∷◌, map, leb, ltb, eqb}
use Rattle.rules_numbers.specs.Least.{least_from}
use Rattle.rules_numbers.specs.Lists.{one_to, keep, total, greatest}
use Rattle.rules_demand.specs.Demand.{dem}
use Rattle.rules_demand.specs.Remainder.{remainder}
use Rattle.rules_auction.specs.Ledger.{highest_declared, Step, Developer, Ledger}

-- the highest level declared
abbrev pub highest : Developer → ℕ
highest x = highest_declared x.declared

-- the quantity q after those of the withdrawals whose price passes the test
unfoldable pub quantity_after : (ℕ → Bool) → ℕ → List Step → ℕ
quantity_after t q [] = q
quantity_after t q (w ∷ ws) = quantity_after t (cond (t w.price) w.level q) ws

-- high at p, a term of document 01: a developer's quantity after all withdrawals at prices above p
unfoldable pub high : ℕ → Developer → ℕ
high p x = quantity_after (ltb p) (highest x) x.withdrawals

-- low at p, a term of document 01: its quantity after all withdrawals at p or above
unfoldable pub low : ℕ → Developer → ℕ
low p x = quantity_after (leb p) (highest x) x.withdrawals

-- the developers of project k, by number
unfoldable pub developers_of : Ledger → ℕ → List ℕ
developers_of l k = keep (λ n. eqb (l.developers n).declared.project k) (one_to 32)

-- a project's high, low or quantity: the greatest among its developers (3.15.2 i)
unfoldable pub greatest_of : (Developer → ℕ) → Ledger → ℕ → ℕ
greatest_of f l k = greatest (map (λ n. f (l.developers n)) (developers_of l k))

-- the sum over the projects
unfoldable pub supply : (Developer → ℕ) → Ledger → ℕ
supply f l = total (map (greatest_of f l) (one_to 32))

-- Dem(p) of the ledger's settings
abbrev pub demand_at : Ledger → ℕ → ℕ
demand_at l p = dem l.settings.ce l.settings.d l.settings.m1 l.settings.m2 p

-- its remainder, in CE-ths of a kWh (document 02, 4)
abbrev pub remainder_at : Ledger → ℕ → ℕ
remainder_at l p = remainder l.settings.ce l.settings.d l.settings.m1 l.settings.m2 p

-- covered, a term of document 01: the sum of the projects' highs at p is at least Dem(p)
unfoldable pub covered : Ledger → ℕ → Bool
covered l p = leb (demand_at l p) (supply (high p) l)

-- the closing price P: the lowest covered price among those passed. Passed, a term of document 01: the prices from the last C to A, both
-- included
unfoldable pub closing_price : Ledger → ℕ
closing_price l = least_from (covered l) l.closing (l.settings.a - l.closing)

-- a figure of each developer, 1 to 32
abbrev pub of_each : {A : Type 0} → (Developer → A) → Ledger → List A
of_each f l = map (λ n. f (l.developers n)) (one_to 32)
