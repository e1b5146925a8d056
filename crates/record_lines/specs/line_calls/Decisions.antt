-- What a frame asks, and what the decision of its call leaves; and what a line makes of an auction.
use Rattle.std.specs.Prelude.{ℕ, ◌<◌, ◌≡◌, Bool, true, ◌||◌, List, ◌++◌, Result, IfOk, eqb, get_or}
use Rattle.rules_auction.specs.Ledger.{Call, Developer, Move, By, Ledger}
use Rattle.rules_auction.specs.Rounds.{ledger}
use Rattle.rules_replies.specs.Orders.{Order, Asks, ordered}
use Rattle.rules_replies.specs.Replies.{call_kind, reply_to}
use Rattle.rules_replies.specs.record_calls.Calls.{asked_calls}
use Rattle.frame_reading.specs.frames.Decoded.{call_in}
use Rattle.frame_reading.specs.declared.frames.Frame.{Frame}
use Rattle.frame_reading.specs.arguments.FrameFields.{fields_in, Reads}
use Rattle.engine_held.specs.declared.history.History.{History}
use Rattle.engine_refusals.specs.declared.Refusal.{Refusal}
use Rattle.engine_checks.specs.declared.clock.Clock.{Clock}
use Rattle.engine_moves.specs.moves.Entries.{Moves}
use Rattle.engine_auction.specs.Called.{Called, answer_in}
use Rattle.engine_auction.specs.Holds.{held_auction}
use Rattle.engine_auction.specs.Decided.{AnswersClock, with_round, with_books, after_newcomer}
use Rattle.engine_auction.specs.declared.Auction.{Auction}
use Rattle.engine_auction.specs.declared.Newcomer.{Newcomer}

-- 04 offer, 09 cancellation, 07 lodging
abbrev pub is_move : ℕ → Bool
is_move k = eqb k 4 || (eqb k 9 || eqb k 7)

-- 02, and 08 with its agent
abbrev pub is_registration : ℕ → Bool
is_registration k = eqb k 2 || eqb k 8

-- 03 opening, 01 set-up
abbrev pub is_clock : ℕ → Bool
is_clock k = eqb k 3 || eqb k 1

-- a frame that a line reads as, of one of these kinds
pub record FrameOf (kinds : ℕ → Bool) (f : Frame) : Type 0 where
  pub reads : Reads f
  pub kind : kinds f.kind ≡ true

abbrev pub MoveFrame : Frame → Type 0
MoveFrame = FrameOf is_move

abbrev pub RegistrationFrame : Frame → Type 0
RegistrationFrame = FrameOf is_registration

abbrev pub ClockFrame : Frame → Type 0
ClockFrame = FrameOf is_clock

-- c is the call that the frame asks, and its reply is of the frame's kind, which adds nothing to kind and answer
pub record Asked (f : Frame) (c : Call) : Type 0 where
  pub order : ordered (call_in f) ≡ Asks c
  pub kind : call_kind c ≡ f.kind
  pub bare : f.kind ≡ 5 → ⊥

abbrev pub developer_of : Frame → ℕ
developer_of f = get_or (fields_in f) 0 0

-- a move: its number k, and the history h behind it
pub record DecidesMove (f : Frame) (held : Ledger → Developer → Type 0) (k : ℕ) (h : History) : Type 0 where
  pub move : Move
  pub asked : Asked f (By (developer_of f) move)
  pub moves : Moves (developer_of f) move held k h

-- a registration, in every auction of this phase, these projects and kinds: refused it leaves the auction, else it enters the newcomer at its place
pub record DecidesRegistration (f : Frame) (a : Auction) (r : Result Newcomer Refusal) : Type 0 where
  pub call : Call
  pub asked : Asked f call
  pub inside : IfOk r (λ x. x.place < 32)
  pub entered : (b : Auction) → Called call (with_books b a) (after_newcomer (with_books b a) r) (answer_in r)

-- a set-up or an opening, in every auction of this clock, these projects and quantities
pub record DecidesClock (f : Frame) (a : Auction) (r : Result Clock Refusal) : Type 0 where
  pub call : Call
  pub asked : Asked f call
  pub answers : (b : Auction) → AnswersClock call (with_round b a) r

-- ---- an order

-- t is the reply to the order and b the auction behind it, for every list of calls whose ledger the auction holds
pub record Takes (a : Auction) (o : Order) (b : Auction) (t : List ℕ) : Type 0 where
  pub text : (cs : List Call) → a ≡ held_auction (ledger cs) → t ≡ reply_to (ledger cs) o
  pub next : (cs : List Call) → a ≡ held_auction (ledger cs) → b ≡ held_auction (ledger (cs ++ asked_calls o))
