-- What settling ensures. `a` is the auction, `old` and `new` the lent buffer before and after, `r` the answer.
use Rattle.std.specs.Prelude.{ℕ, ◌*◌, ◌≡◌, Bool, false, length, drop, Result, Ok, Err}
use mathlib.Core.List.{List, flatten}
use Rattle.rules_auction.specs.Ledger.{Call}
use Rattle.rules_auction.specs.Rounds.{ledger}
use Rattle.rules_auction.specs.Settling.{settlement, settling_refusal}
use Rattle.rules_auction.specs.Settling as rules
use Rattle.engine_auction.specs.Holds.{held_auction}
use Rattle.engine_auction.specs.declared.Auction.{Auction}
use Rattle.engine_refusals.specs.Numbers.{number_of}
use Rattle.engine_refusals.specs.declared.Refusal.{Refusal}
use Rattle.rules_numbers.specs.Tails.{laid}
use Rattle.engine_settling.specs.declared.Settlement.{Settlement}

-- a settling's answer in numbers: 0 and its figures, or a refusal's number
pub record Settled : Type 0 where
  pub number : ℕ
  pub price : ℕ
  pub demand : ℕ
  pub remainder : ℕ
  pub total : ℕ
  pub choices : ℕ
  pub covering : ℕ
  pub kept : ℕ
  pub second : ℕ
  pub short : Bool
  pub insufficient : Bool
  pub paid : ℕ
  pub records : ℕ

-- a refusal: its number, every other number 0
abbrev pub refused_with : ℕ → Settled
refused_with n =
    record {
      number = n;
      price = 0;
      demand = 0;
      remainder = 0;
      total = 0;
      choices = 0;
      covering = 0;
      kept = 0;
      second = 0;
      short = false;
      insufficient = false;
      paid = 0;
      records = 0;
    }

-- the numbers of an accepted settling
abbrev pub accepted_in : Settlement → Settled
accepted_in s = record {
  number = 0;
  price = s.price;
  demand = s.demand;
  remainder = s.remainder;
  total = s.total;
  choices = s.choices;
  covering = s.covering;
  kept = s.kept;
  second = s.second;
  short = s.short;
  insufficient = s.insufficient;
  paid = s.paid;
  records = s.records;
}

-- the numbers of an answer
abbrev pub settled_in : Result Settlement Refusal → Settled
settled_in (Ok s) = accepted_in s
settled_in (Err e) = refused_with (number_of e)

-- an acceptance, in the numbers of the settlement
abbrev pub settled_as : rules.Settlement → Settled
settled_as s = record {
  number = 0;
  price = s.price;
  demand = s.demand;
  remainder = s.remainder;
  total = s.total;
  choices = s.choices;
  covering = s.covering;
  kept = s.kept;
  second = s.second;
  short = s.short;
  insufficient = s.insufficient;
  paid = s.paid;
  records = length s.records;
}

-- On every value of the struct: refused, every other number is 0 and the buffer stays; accepted or not, the buffer keeps its length and the
-- bytes behind the records. And for every list of calls whose ledger the auction holds: the number is the ledger's; accepted, the answer is the
-- settlement's and the buffer holds its records, then its old bytes
pub record Settles (a : Auction) (limit : ℕ) (old new : List ℕ) (r : Settled) : Type 0 where
  pub same : (r.number ≡ 0 → ⊥) → (r ≡ refused_with r.number) × (new ≡ old)
  pub behind : (length new ≡ length old) × (drop (6 * r.records) new ≡ drop (6 * r.records) old)
  pub number : (cs : List Call) → a ≡ held_auction (ledger cs) → r.number ≡ settling_refusal (ledger cs) limit (length old)
  pub answer : (cs : List Call) → a ≡ held_auction (ledger cs) → r.number ≡ 0 → r ≡ settled_as (settlement (ledger cs))
  pub buffer : (cs : List Call) → a ≡ held_auction (ledger cs) → r.number ≡ 0 → new ≡ laid (flatten (settlement (ledger cs)).records) old
