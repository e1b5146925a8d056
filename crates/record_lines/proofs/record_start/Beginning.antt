-- What a set-up makes of the fresh auction, and the reply to it.
use Prim.Native.Nat.{ℕ, ◌+◌, ◌≤◌}
use mathlib.Core.Path.{◌≡◌, refl, ap, subst}
use mathlib.Core.Bool.{false}
use mathlib.Core.List.{List, [], ◌∷◌}
use mathlib.Core.Option.{some}
use Rattle.std.specs.Prelude.{Ok}
use native.Mathlib.Omega.{arith}
use lib.ListN.{length}
use Rattle.rules_numbers.specs.Lists.{part}
use Rattle.rules_format.specs.Fields.{raw_call, read}
use Rattle.rules_format.specs.Lines.{line_start, line_end}
use Rattle.rules_auction.specs.Ledger.{start}
use Rattle.rules_auction.specs.Rounds.{step_all, ledger, Answered, bare_answer}
use Rattle.rules_replies.specs.Orders.{Asks, order_of, ordered, order_in}
use Rattle.rules_replies.specs.Replies.{answer_line, reply_to}
use Rattle.rules_seats.specs.sessions.LinesRead.{order_as}
use Rattle.rules_seats.specs.sessions.LinesReadLaws.{plain_free}
use Rattle.engine_checks.specs.clock.Held.{held_clock}
use Rattle.engine_checks.specs.declared.clock.Clock.{Clock}
use Rattle.engine_auction.specs.Called.{Called, sets_up}
use Rattle.engine_auction.specs.Holds.{held_auction}
use Rattle.engine_auction.specs.Parts.{with_clock}
use Rattle.engine_auction.specs.Decided.{AnswersClock}
use Rattle.engine_auction.specs.declared.Auction.{Auction}
use Rattle.record_lines.specs.line_calls.Decisions.{Takes}
use Rattle.reply_writing.specs.Placed.{Puts}
use Rattle.record_lines.specs.record_start.Progress.{Progress, progress_first, progress_taken}

abbrev fresh : Auction
fresh = held_auction start

-- nothing read yet
pub begun_not : (s : List ℕ) (limit : ℕ) (o : List ℕ) (none : Clock) → none ≡ held_clock start → Progress false [] s 0 limit 0 o o (with_clock fresh none) 0 0
unfolding held_auction ledger step_all
begun_not s limit o none e = rw e (progress_first false [] s 0 limit 0 o fresh refl)

module _ (none : Clock) (en : none ≡ held_clock start) (l : List ℕ) (ce d m1 m2 a : ℕ) (asks : read l ≡ some (raw_call 1 (ce ∷ d ∷ m1 ∷ m2 ∷ a ∷ []))) where
  order : order_in l ≡ Asks (sets_up ce d m1 m2 a)
  unfolding order_in ordered order_of
  order = ap ordered asks

  module _ (t : Clock) (w : (x : Auction) → AnswersClock (sets_up ce d m1 m2 a) (with_clock x none) (Ok t)) where
    abbrev set_up : Auction
    set_up = with_clock fresh t

    called : Called (sets_up ce d m1 m2 a) fresh set_up (bare_answer 0)
    unfolding held_auction
    called = rw en at (w fresh)

    takes : Takes fresh (order_as false l) set_up (answer_line 1 0 [])
    unfolding reply_to order_as
    takes = rw order record {
      text = λ cs h. ap (λ (y : Answered). answer_line 1 y.number []) (called.answer cs h);
      next = λ cs h. called.next cs h;
    }

    pub begun : (s : List ℕ) (limit : ℕ) (o out : List ℕ) (n : ℕ) → 48 ≤ length s → l ≡ part s (line_start s 0) (line_end s 0) →
        Puts (answer_line 1 0 []) limit 0 o out n → Progress false [] s 0 limit 0 o out set_up (length l + 1) n
    unfolding ledger step_all
    begun s limit o out n h el p =
        subst (λ (k : ℕ). Progress false [] s 0 limit 0 o out set_up k n) (omega arith)
        (progress_taken s l 0 (omega arith) el false [] 0 limit 0 o o fresh 0 (progress_first false [] s 0 limit 0 o fresh refl) (answer_line 1 0 []) out n set_up p (plain_free l)
        takes)
