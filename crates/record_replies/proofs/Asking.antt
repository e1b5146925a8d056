-- What a set-up or opening leaves, the orders of frames 05 and 06, and the reply to an accepted closing.
use mathlib.Core.Path.{◌≡◌, refl, sym, ap, ◌∙◌}
use native.Mathlib.Omega.{arith}
use Prim.Native.Nat.{ℕ}
use lib.ListN.{get_or}
use Rattle.rules_auction.specs.Ledger.{Close}
use Rattle.rules_auction.specs.Rounds.{Answered}
use Rattle.rules_replies.specs.Orders.{Asks, Settle, order_of, ordered}
use Rattle.frame_reading.specs.frames.Decoded.{call_in}
use Rattle.frame_reading.specs.declared.frames.Frame.{Frame}
use Rattle.frame_reading.specs.arguments.FrameFields.{fields_in}
use Rattle.std.specs.Prelude.{Result, Ok, Err, []}
use Rattle.std.specs.Result.{result_unwrap_or}
use Rattle.rules_replies.specs.Replies.{answer_line}
use Rattle.engine_refusals.specs.Numbers.{number_in, after}
use Rattle.engine_refusals.specs.declared.Refusal.{Refusal}
use Rattle.engine_checks.specs.declared.clock.Clock.{Clock}
use Rattle.engine_auction.specs.Called.{Called}
use Rattle.engine_auction.specs.Parts.{with_clock}
use Rattle.engine_auction.specs.declared.Auction.{Auction}
use Rattle.reply_writing.specs.reply_sizes.Texts.{text_of}
use Rattle.reply_writing.specs.declared.reply_sizes.Reply.{Reply}
use Rattle.reply_values.specs.Shows.{ShowsClosing}
use Rattle.reply_values.specs.ShowsLaws.{closing_replied}
use Rattle.record_lines.specs.line_calls.Decisions.{DecidesClock, Takes}
use Rattle.record_lines.specs.line_calls.DecisionLaws.{ordered_as, takes_call}

-- ---- a set-up or an opening: what it leaves is stored

left : {A : Type 0} (x : A) (r : Result A Refusal) → result_unwrap_or r x ≡ after x r
left x (Ok y) = refl
left x (Err e) = refl

pub takes_clock : (f : Frame) (a : Auction) (r : Result Clock Refusal) (t : Clock) (k : ℕ) → DecidesClock f a r → t ≡ result_unwrap_or r a.clock → k ≡ number_in r →
    Takes a (ordered (call_in f)) (with_clock a t) (answer_line f.kind k [])
takes_clock f a r t k w et ek = rw (et ∙ left a.clock r, ek) (takes_call f w.call a (with_clock a (after a.clock r)) (number_in r) w.asked (w.answers a))

-- ---- closings and settlings

pub asks_close : (f : Frame) → f.kind ≡ 5 → ordered (call_in f) ≡ Asks Close
unfolding order_of
asks_close f e = ordered_as f 5 _ (λ z. omega arith) e refl

pub asks_settling : (f : Frame) (n : ℕ) → f.kind ≡ 6 → n ≡ get_or (fields_in f) 0 0 → ordered (call_in f) ≡ Settle n
unfolding order_of
asks_settling f n e en = ordered_as f 6 _ (λ z. omega arith) e refl ∙ ap Settle (sym en)

pub takes_closing : (a b : Auction) (x : Answered) (r : Reply) → Called Close a b x → ShowsClosing x.number x.excess x.remainder r →
    Takes a (Asks Close) b (text_of r)
takes_closing a b x r w shows = record { text = λ cs h. closing_replied w shows cs h; next = λ cs h. w.next cs h }
