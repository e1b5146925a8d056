-- The award records and the settling's answer (document 01, Closing price and award).
use Rattle.std.specs.Prelude.{ℕ, suc, min, ◌*◌, ◌/◌, ◌%◌, Bool, cond, not, List, [], ◌∷◌, leb, eqb, length}
use Rattle.rules_numbers.specs.Lists.{total}
use Rattle.rules_auction.specs.Ledger.{Ledger}
use Rattle.rules_auction.specs.Clearing.{demand_at, remainder_at, closing_price}
use Rattle.rules_auction.specs.Refusals.{check, is_closed}
use Rattle.rules_auction.specs.Second.{short, second_price}
use Rattle.rules_auction.specs.Award.{admissible, covering_choices, kept_choices, award, winner}
use Rattle.rules_auction.specs.Participation.{grants, sufficient, price_paid}

-- an award record, 6 bytes: project, developer, quantity with the high byte first
abbrev pub record_of : ℕ → ℕ → ℕ → List ℕ
record_of k n v = k ∷ n ∷ v / 16777216 % 256 ∷ v / 65536 % 256 ∷ v / 256 % 256 ∷ v % 256 ∷ []

-- the records of the levels vs of the projects from k on, by rising project: one for each above 0
unfoldable pub records_from : Ledger → ℕ → ℕ → List ℕ → List (List ℕ)
records_from l p k [] = []
records_from l p k (v ∷ vs) = cond (eqb v 0) (records_from l p (suc k) vs) (record_of k (winner l p k v) v ∷ records_from l p (suc k) vs)

unfoldable pub records : Ledger → ℕ → List (List ℕ)
records l p = records_from l p 1 (award l p)

-- the checks of settling in their order, 2, 10, 11 (document 01, The twelve numbers); a limit above 65,536 means 65,536
unfoldable pub settling_refusal : Ledger → ℕ → ℕ → ℕ
settling_refusal l limit room =
    check (is_closed l.phase) 2
    (check (leb (length (admissible l (closing_price l))) (min limit 65536)) 10
    (check (leb (6 * length (records l (closing_price l))) room) 11 0))

-- P, Dem(P) with its remainder (document 02, 4), the award's total, the numbers of admissible, of covering and of kept choices, the second
-- price with its mark (document 02, 5), the mark of insufficient participation and the price paid to existing plants (document 02, 10), and the
-- award records
pub record Settlement : Type 0 where
  pub price : ℕ
  pub demand : ℕ
  pub remainder : ℕ
  pub total : ℕ
  pub choices : ℕ
  pub covering : ℕ
  pub kept : ℕ
  pub second : ℕ
  pub short : Bool
  pub insufficient : Bool
  pub paid : ℕ
  pub records : List (List ℕ)

unfoldable pub settlement_at : Ledger → ℕ → Settlement
settlement_at l p = record {
  price = p;
  demand = demand_at l p;
  remainder = remainder_at l p;
  total = total (award l p);
  choices = length (admissible l p);
  covering = length (covering_choices l p);
  kept = kept_choices l p;
  second = second_price l;
  short = short l;
  insufficient = not (sufficient l (grants l p));
  paid = price_paid l p (grants l p);
  records = records l p;
}

unfoldable pub settlement : Ledger → Settlement
settlement l = settlement_at l (closing_price l)
