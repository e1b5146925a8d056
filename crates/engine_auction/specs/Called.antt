-- What each call of the auction ensures. `a` is the auction before, `b` the auction after, `r` the answer.
use Rattle.std.specs.Prelude.{ℕ, ◌≡◌, List, [], ◌∷◌, ◌++◌, Result, Ok, Err}
use Rattle.rules_auction.specs.Ledger.{settings_of, Agency, Own, Named, Call, SetUp, Register, Close}
use Rattle.rules_auction.specs.Rounds.{ledger, Answered, bare_answer, answer}
use Rattle.engine_auction.specs.declared.Auction.{Auction}
use Rattle.engine_refusals.specs.Numbers.{number_of, number_in, after}
use Rattle.engine_refusals.specs.declared.Refusal.{Refusal}
use Rattle.engine_auction.specs.declared.Closing.{Closing}
use Rattle.engine_auction.specs.Holds.{held_auction}

-- Refused, on every value of the struct: the auction stays, and every other number is 0. And for every list of calls whose ledger the
-- auction holds: the answer is the ledger's, and the next auction holds the ledger with this call added
pub record Called (c : Call) (a b : Auction) (r : Answered) : Type 0 where
  pub same : (r.number ≡ 0 → ⊥) → b ≡ a
  pub zero : (r.number ≡ 0 → ⊥) → r ≡ bare_answer r.number
  pub answer : (cs : List Call) → a ≡ held_auction (ledger cs) → r ≡ answer (ledger cs) c
  pub next : (cs : List Call) → a ≡ held_auction (ledger cs) → b ≡ held_auction (ledger (cs ++ (c ∷ [])))

-- the numbers and values of an answer
abbrev pub answer_in : {T : Type 0} → Result T Refusal → Answered
answer_in r = bare_answer (number_in r)

abbrev pub closing_in : Result Closing Refusal → Answered
closing_in (Ok x) = record { number = 0; excess = x.excess; remainder = x.remainder }
closing_in (Err e) = bare_answer (number_of e)

-- the auction after a closing: the one before where it is refused
abbrev pub after_closing : Auction → Result Closing Refusal → Auction
after_closing a (Ok x) = x.auction
after_closing a (Err e) = a

-- a call that answers with the next auction alone
abbrev pub AnswersCall : Call → Auction → Result Auction Refusal → Type 0
AnswersCall c a r = Called c a (after a r) (answer_in r)

-- a closing
abbrev pub AnswersClosing : Auction → Result Closing Refusal → Type 0
AnswersClosing a r = Called Close a (after_closing a r) (closing_in r)

abbrev pub sets_up : ℕ → ℕ → ℕ → ℕ → ℕ → Call
sets_up ce d m1 m2 a = SetUp (settings_of ce d m1 m2 a)

abbrev pub registers_by : Agency → ℕ → ℕ → ℕ → ℕ → ℕ → List ℕ → Call
registers_by w k n kind study day ls = Register n w (record { project = k; kind = kind; study = study; day = day; levels = ls })

-- the agent has the developer's number
abbrev pub registers : ℕ → ℕ → ℕ → ℕ → ℕ → List ℕ → Call
registers = registers_by Own

-- the agent g is named (document 02, 10)
abbrev pub registers_for : ℕ → ℕ → ℕ → ℕ → ℕ → ℕ → List ℕ → Call
registers_for k n kind g study day ls = registers_by (Named g) k n kind study day ls
