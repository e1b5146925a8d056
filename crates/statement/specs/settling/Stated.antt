-- What is stated of settling (demand 3), in the words of the ledger l after a list of calls. `old` and `new` are the lent buffer before and
-- after, `r` is the answer.
use Rattle.std.specs.Prelude.{ℕ, min, ◌*◌, ◌/◌, ◌≤◌, ◌<◌, ◌≡◌, ◌↔◌, true, false, not, length}
use mathlib.Core.List.{List, flatten, Memᴰ}
use Rattle.rules_numbers.specs.Lists.{total}
use Rattle.rules_numbers.specs.Least.{Least}
use Rattle.rules_numbers.specs.Tails.{laid}
use Rattle.rules_choices.specs.Choices.{IsBest}
use Rattle.rules_choices.specs.Pairwise.{Distinct}
use Rattle.rules_auction.specs.Ledger.{Ledger}
use Rattle.rules_auction.specs.Clearing.{low, supply, covered, demand_at, remainder_at, closing_price}
use Rattle.rules_auction.specs.Refusals.{is_closed}
use Rattle.rules_auction.specs.Award.{admissible, covering_choices, kept_choices, award, winner}
use Rattle.rules_auction.specs.Second.{taken_out, remaining, short, second_price}
use Rattle.rules_auction.specs.Participation.{grants, new_award, new_to_small, sufficient, price_paid}
use Rattle.rules_auction.specs.Settling.{records}
use Rattle.laws_ledger.specs.awards.ParticipationLaws.{Recorded}
use Rattle.engine_settling.specs.Settles.{Settled, refused_with}
use Rattle.statement.specs.settling.AwardRecords.{awarded_level, Goes, first_byte, quantity_of, ByRisingProject}

-- the admissible choices do not outnumber the limit, capped at 65,536
abbrev pub Within : Ledger → ℕ → Type 0
Within l limit = length (admissible l (closing_price l)) ≤ min limit 65536

-- the records fit the buffer
abbrev pub Fit : Ledger → List ℕ → Type 0
Fit l old = 6 * length (records l (closing_price l)) ≤ length old

-- accepted: every value of the answer, and the buffer
pub record Accepted (l : Ledger) (old new : List ℕ) (r : Settled) : Type 0 where
  -- the price is the lowest covered price that the clock passed
  pub price : Least (covered l) l.closing l.settings.a r.price
  -- demand there, and its remainder, which is below CE (document 02, 4)
  pub demand : r.demand ≡ demand_at l r.price
  pub remainder : r.remainder ≡ remainder_at l r.price
  pub remainder_small : r.remainder < l.settings.ce
  -- the award is admissible and covers, every other admissible choice that covers has at least its total, ties as document 01 says
  pub best : IsBest (demand_at l r.price) (admissible l r.price) (award l r.price)
  pub total_is : r.total ≡ total (award l r.price)
  -- the admissible choices, none listed twice, and those that cover
  pub choices : r.choices ≡ length (admissible l r.price)
  pub distinct : Distinct (admissible l r.price)
  pub covering : r.covering ≡ length (covering_choices l r.price)
  -- as many as the search does not set aside: at least 1, at most the covering ones, and 1 where the choice of all lows covers
  pub kept : r.kept ≡ kept_choices l r.price
  pub kept_some : 1 ≤ r.kept
  pub kept_few : r.kept ≤ r.covering
  pub kept_one : demand_at l r.price ≤ supply (low r.price) l → r.kept ≡ 1
  -- the second price (document 02, 5): the lowest covered price passed when the projects with an applied lodged step are taken out; A, marked
  -- short, where A is then not covered. It is never below the first, and the first where no lodged step was applied
  pub second : r.second ≡ second_price l
  pub short : r.short ≡ short l
  pub second_least : r.short ≡ false → Least (covered (remaining l)) l.closing l.settings.a r.second
  pub second_short : r.short ≡ true → (covered (remaining l) l.settings.a ≡ false) × (r.second ≡ l.settings.a)
  pub second_not_below : r.price ≤ r.second
  pub second_first : ((k : ℕ) → taken_out l k ≡ false) → (r.second ≡ r.price) × (r.short ≡ false)
  -- insufficient participation (document 02, 10): marked exactly where twice the new award given to small agents is below the whole new award,
  -- so never without one, as judged by the developers and quantities of the award records
  pub insufficient : r.insufficient ≡ not (sufficient l (grants l r.price))
  pub insufficient_exactly : (r.insufficient ≡ true) ↔ (2 * new_to_small l (grants l r.price) < new_award l (grants l r.price))
  pub judged : Recorded (grants l r.price) (records l r.price)
  -- the price paid to existing plants: marked, the lower of the price and CE x 11 / 10 rounded down; else the price
  pub paid : r.paid ≡ price_paid l r.price (grants l r.price)
  pub paid_insufficient : r.insufficient ≡ true → r.paid ≡ min r.price (l.settings.ce * 11 / 10)
  pub paid_sufficient : r.insufficient ≡ false → r.paid ≡ r.price
  pub paid_at_most : r.paid ≤ r.price
  -- each level above 0 goes to the preferred developer, and has one record
  pub goes : (k : ℕ) → 1 ≤ k → k ≤ 32 → let v = awarded_level l r.price k in 0 < v → Goes l r.price k v (winner l r.price k v)
  pub count : r.records ≡ length (records l r.price)
  -- the whole buffer: the records by rising project number, then the bytes that stood behind them (document 02, 8)
  pub rising : ByRisingProject (records l r.price)
  -- the four bytes of a record, put together, are the level awarded to its project
  pub reads : (b : List ℕ) → Memᴰ b (records l r.price) → quantity_of b ≡ awarded_level l r.price (first_byte b)
  pub written : new ≡ laid (flatten (records l r.price)) old

-- all that is stated of settling
pub record Stated (l : Ledger) (limit : ℕ) (old new : List ℕ) (r : Settled) : Type 0 where
  pub not_closed : is_closed l.phase ≡ false → r.number ≡ 2
  -- closed: accepted exactly when the choices are within the limit and the records fit; else refused by 10, or by 11
  pub exactly : is_closed l.phase ≡ true → (r.number ≡ 0) ↔ (Within l limit × Fit l old)
  pub by_10 : is_closed l.phase ≡ true → (Within l limit → ⊥) → r.number ≡ 10
  pub by_11 : is_closed l.phase ≡ true → Within l limit → (Fit l old → ⊥) → r.number ≡ 11
  pub refused : (r.number ≡ 0 → ⊥) → (r ≡ refused_with r.number) × (new ≡ old)
  pub accepted : is_closed l.phase ≡ true → r.number ≡ 0 → Accepted l old new r
