-- What the question who can force the price (document 02, 11) answers. `a` is the auction, `r` what the answer says.
use Rattle.std.specs.Prelude.{ℕ, ◌≡◌, Bool, false, List, Result, Ok, Err}
use Rattle.rules_auction.specs.Ledger.{Call, Ledger}
use Rattle.rules_auction.specs.Rounds.{ledger}
use Rattle.rules_forcing.specs.Forcing.{forcing_refusal, forced_outcome, first_move}
use Rattle.engine_looks.specs.rivals.Plain.{withdraws_by}
use Rattle.engine_auction.specs.declared.Auction.{Auction}
use Rattle.engine_auction.specs.Holds.{held_auction}
use Rattle.engine_refusals.specs.Numbers.{number_of}
use Rattle.engine_refusals.specs.declared.Refusal.{Refusal}
use Rattle.engine_looks.specs.declared.forcing.Forcing.{Forcing}

-- 0 or a refusal's number; the outcome that the first can force and the second can hold it to; whether the first's best move is to withdraw
pub record Forced : Type 0 where
  pub number : ℕ
  pub outcome : ℕ
  pub withdraws : Bool

abbrev pub refused_forcing : ℕ → Forced
refused_forcing n = record { number = n; outcome = 0; withdraws = false }

-- the number and values of an answer
abbrev pub forced_in : Result Forcing Refusal → Forced
forced_in (Ok x) = record { number = 0; outcome = x.outcome; withdraws = x.withdraws }
forced_in (Err e) = refused_forcing (number_of e)

-- what developer m can force against n and n can hold it to, and whether the best first move is to withdraw
abbrev pub forced_as : Ledger → ℕ → ℕ → List ℕ → Forced
forced_as l m n ps = record { number = 0; outcome = forced_outcome l m n ps; withdraws = withdraws_by (first_move l m n ps) }

-- Refused, on every value of the struct: every other place is 0. And for every list of calls whose ledger the auction holds: the number is the
-- ledger's, and the answer is what its definitions report
pub record ForcesPrice (a : Auction) (m n : ℕ) (ps : List ℕ) (r : Forced) : Type 0 where
  pub same : (r.number ≡ 0 → ⊥) → r ≡ refused_forcing r.number
  pub number : (cs : List Call) → a ≡ held_auction (ledger cs) → r.number ≡ forcing_refusal (ledger cs) m n ps
  pub answer : (cs : List Call) → a ≡ held_auction (ledger cs) → r.number ≡ 0 → r ≡ forced_as (ledger cs) m n ps
