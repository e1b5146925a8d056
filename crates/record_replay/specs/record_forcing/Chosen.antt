-- Who can force the price (document 02, 11), told with the best first move in a lent buffer.
use Rattle.std.specs.Prelude.{ℕ, ◌≡◌, cond, List, [], ◌∷◌, Result, Ok, Err, ltb, eqb, length}
use Rattle.rules_numbers.specs.Tails.{laid}
use Rattle.rules_auction.specs.Ledger.{Ledger}
use Rattle.rules_auction.specs.Refusals.{check}
use Rattle.rules_forcing.specs.Game.{GameMove, Keep, Withdraw}
use Rattle.rules_forcing.specs.Forcing.{forcing_refusal, forced_outcome, first_move}
use Rattle.engine_refusals.specs.Numbers.{number_of}
use Rattle.engine_refusals.specs.declared.Refusal.{Refusal}

-- what is told: 0 and the outcome, or a refusal's number and 0
pub record Told : Type 0 where
  pub number : ℕ
  pub outcome : ℕ

-- the number and the outcome of an answer
abbrev pub told_in : Result ℕ Refusal → Told
told_in (Ok x) = record { number = 0; outcome = x }
told_in (Err e) = record { number = number_of e; outcome = 0 }

-- 2 and 17 in their order, and last 11 where the buffer has no byte for the move
unfoldable pub told_refusal : Ledger → ℕ → ℕ → List ℕ → ℕ → ℕ
told_refusal l m n ps room =
    let refused = forcing_refusal l m n ps in
    cond (eqb refused 0) (check (ltb 0 room) 11 0) refused

-- the outcome, 0 in a refusal
unfoldable pub told_outcome : Ledger → ℕ → ℕ → List ℕ → ℕ → ℕ
told_outcome l m n ps room = cond (eqb (told_refusal l m n ps room) 0) (forced_outcome l m n ps) 0

-- a move as a byte
abbrev pub move_byte : GameMove → ℕ
move_byte Keep = 0
move_byte Withdraw = 1

-- the buffer afterwards: the move, then its old bytes; a refusal leaves every byte
unfoldable pub chosen_in : Ledger → ℕ → ℕ → List ℕ → List ℕ → List ℕ
chosen_in l m n ps old = cond (eqb (told_refusal l m n ps (length old)) 0) (laid (move_byte (first_move l m n ps) ∷ []) old) old

pub record Tells (l : Ledger) (m n : ℕ) (ps old new : List ℕ) (r : Told) : Type 0 where
  pub number : r.number ≡ told_refusal l m n ps (length old)
  pub outcome : r.outcome ≡ told_outcome l m n ps (length old)
  pub buffer : new ≡ chosen_in l m n ps old
