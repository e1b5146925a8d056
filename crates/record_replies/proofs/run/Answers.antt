-- Each line's reply behind those before, from the auction that holds the ledger of the calls so far.
use Prim.Native.Nat.{ℕ, ◌+◌, ◌≤◌}
use mathlib.Core.Path.{◌≡◌, refl, sym, ap, ◌∙◌, subst}
use mathlib.Core.Bool.{false}
use mathlib.Core.List.{List}
use Rattle.std.proofs.Common.{arith, rules}
use mir.Facts.{to_z-of_z}
use mir.Syntax.{w64}
use mir.Val.{SFits, to_z}
use lib.IntN.{ℤ}
use lib.ListN.{length, get_or}
use Rattle.rules_format.specs.Fields.{fixed, read}
use Rattle.rules_format.specs.FieldLaws.{formed}
use Rattle.rules_replies.specs.Orders.{Order, Settle, ordered}
use Rattle.rules_replies.specs.record_calls.Calls.{asked_calls}
use Rattle.rules_seats.specs.sessions.LinesRead.{order_as, barred_as}
use Rattle.frame_reading.specs.frames.Decoded.{call_in}
use Rattle.frame_reading.specs.declared.frames.Frame.{Frame}
use Rattle.frame_reading.specs.arguments.FrameFields.{fields_in, Reads}
use Rattle.frame_reading.specs.arguments.FieldColumns.{below}
use Rattle.engine_refusals.specs.NumberLaws.{number_not_0}
use Rattle.engine_auction.specs.Decided.{rounded_in, with_rounded}
use Rattle.engine_auction.specs.Parts.{with_clock}
use Rattle.engine_auction.specs.declared.Auction.{Auction}
use Rattle.record_lines.specs.line_calls.Decisions.{Takes}
use Rattle.record_lines.specs.line_calls.DecisionLaws.{framed, none_asked, takes_call, takes_move, takes_refused_move, takes_malformed, takes_no_round, takes_not_closed}
use Rattle.record_lines.specs.line_seats.FrameParts.{frame_part}
use Rattle.record_lines.specs.line_seats.FramePartLaws.{order_read, barred_by_lem, barred_as_asked}
use Rattle.reply_values.specs.Shows.{ShowsClosing}
use Rattle.reply_writing.specs.Placed.{Puts}
use Rattle.record_replies.proofs.Counting.{Counts, counts_nothing, counts_asked, counts_no_round, counts_closing}
use Rattle.record_replies.proofs.Running.{Run, run_first, run_again, run_barred, run_skipped, run_settled, run_kept_accepted, run_kept_refused, run_end}
use Rattle.record_replies.proofs.Asking.{takes_clock, asks_close, asks_settling, takes_closing}
use Rattle.record_replies.proofs.run.Goals as goal
use Rattle.record_replies.proofs.run.Goals.{After-decode-frame, After-is_barred, Else-is_barred}

abbrev line : After-decode-frame → List ℕ
line c = c.next_line-line.result.now

abbrev frame : After-decode-frame → Frame
frame c = c.decode-frame.result

-- the frame is the line's
called : (c : After-decode-frame) → call_in (frame c) ≡ read (frame_part c.args.seated (line c))
called c = c.decode-frame.ensures.0 ∙ ap read c.frame_part.ensures

ordering : (c : After-decode-frame) → order_as c.args.seated (line c) ≡ ordered (call_in (frame c))
ordering c = order_read (line c) (frame c) c.args.seated (called c)

reading : (c : After-decode-frame) → Reads (frame c)
reading c = λ k e. formed _ k (sym c.decode-frame.ensures.0 ∙ e)

-- the test says whether the line is barred
barring : (c : After-is_barred) → c.is_barred.result ≡ barred_as c.args.seated c.next_line-line.result.now
barring c =
    let d = (goal.at.After-is_barred c).After-decode-frame in
    c.is_barred.ensures ∙ barred_by_lem (line d) (frame d) d.args.seated (called d)

-- the place behind the test whether the line is barred, from which each branch goes
abbrev dec : Else-is_barred → After-decode-frame
dec c = (goal.at.Else-is_barred c).After-decode-frame

-- the run behind the line
abbrev Behind : After-decode-frame → List ℕ → Auction → ℤ → ℕ → ℕ → Type 0
Behind c out b e n r =
    Run c.args.start c.args.bytes.now c.args.seated c.args.from c.args.limit c.args.end c.args.out.now out b e n c.loop-read.settled
    c.loop-read.awards (c.loop-read.read + length (line c) + 1) r

free : (c : Else-is_barred) → barred_as c.args.seated c.next_line-line.result.now ≡ false
free c = sym (barring (goal.at.Else-is_barred c).After-is_barred) ∙ c.if-is_barred.false

-- a line that settles nothing
counting : (c : Else-is_barred) (t out : List ℕ) (r : ℕ) (b : Auction) (e : ℤ) (n : ℕ) (o : Order) → n ≤ c.loop-read.closings + 1 →
    ordered (call_in c.decode-frame.result) ≡ o → Takes c.loop-read.auction o b t →
    Counts c.loop-read.auction (asked_calls o) (to_z w64 c.loop-read.excess-bits) c.loop-read.closings e n →
    Puts t c.args.limit c.loop-read.written c.loop-read.out out r → Behind (dec c) out b e n r
counting c t out r b e n o m eo w k p =
    let eq = sym (ordering (dec c) ∙ eo) in
    run_again _ _ _ _ _ _ _ _ _ _ _ _ _ _ _ _ c.loop-read.invariant c.loop-read-test.true c.next_line-line.ensures t out r p b e n m (free c)
    (subst (λ (x : Order). Takes c.loop-read.auction x b t) eq w)
    (subst (λ (x : Order). Counts c.loop-read.auction (asked_calls x) (to_z w64 c.loop-read.excess-bits) c.loop-read.closings e n) eq k)

-- and closes no round
again : (c : Else-is_barred) (t out : List ℕ) (r : ℕ) (b : Auction) (o : Order) → ordered (call_in c.decode-frame.result) ≡ o →
    Takes c.loop-read.auction o b t → ((e : ℤ) (n : ℕ) → Counts c.loop-read.auction (asked_calls o) e n e n) →
    Puts t c.args.limit c.loop-read.written c.loop-read.out out r →
    Behind (dec c) out b (to_z w64 c.loop-read.excess-bits) c.loop-read.closings r
again c t out r b o eo w k p = counting c t out r b _ _ o (omega arith) eo w (k _ _) p

-- the order of a frame 06
settling_order : (c : After-decode-frame) (n : ℕ) → (frame c).kind ≡ 6 → n ≡ get_or (fields_in (frame c)) 0 0 → order_as c.args.seated (line c) ≡ Settle n
settling_order c n e en = ordering c ∙ asks_settling _ n e en

pub loop-read-init : goal.loop-read-init
loop-read-init c = run_first _ _ _ _ _ _ _ _ refl

pub mover-place-requires : goal.mover-place-requires
mover-place-requires c = record { reads = reading (goal.at.mover-place-requires c).After-decode-frame; kind = sym c.is_move.ensures ∙ c.if-is_move.true }

pub decide_move-requires : goal.decide_move-requires
decide_move-requires c = record {
  reads = reading (goal.at.decide_move-requires c).After-decode-frame;
  kind = sym c.is_move.ensures ∙ c.if-is_move.true;
}

pub decide_registration-requires : goal.decide_registration-requires
decide_registration-requires c = record {
  reads = reading (goal.at.decide_registration-requires c).After-decode-frame;
  kind = sym c.is_registration.ensures ∙ c.if-is_registration.true;
}

pub decide_clock-turned-requires : goal.decide_clock-turned-requires
decide_clock-turned-requires c = record {
  reads = reading (goal.at.decide_clock-turned-requires c).After-decode-frame;
  kind = sym c.is_clock.ensures ∙ c.if-is_clock.true;
}

pub word-asked-requires : goal.word-asked-requires
unfolding fixed
word-asked-requires c =
    below 6 _ (framed 6 _ (reading (goal.at.word-asked-requires c).After-decode-frame) (λ z. omega arith) c.if-kind-eq6.true) 0 4294967296 refl

-- ---- a barred line

pub loop-read-preserved-then-is_barred : goal.loop-read-preserved-then-is_barred
loop-read-preserved-then-is_barred c =
    let b = (goal.at.loop-read-preserved-then-is_barred c).After-is_barred in
    let d = (goal.at.loop-read-preserved-then-is_barred c).After-decode-frame in
    let barred = sym (barring b) ∙ c.if-is_barred.true in
    run_barred _ _ _ _ _ _ _ _ _ _ _ _ _ _ _ _ c.loop-read.invariant c.loop-read-test.true c.next_line-line.ensures
    _ _ _ _ c.refusal_at-written.ensures barred (barred_as_asked (line d) (frame d) c.args.seated (called d) barred) refl

-- ---- a move

pub loop-read-preserved-in-Err : goal.loop-read-preserved-in-Err
loop-read-preserved-in-Err c =
    let w = c.in-Err.ensures in
    again (goal.at.loop-read-preserved-in-Err c).Else-is_barred _ _ _ _ _ refl
    (takes_refused_move c.decode-frame.result _ _ _ _ c.mover-place.ensures.0 c.entry-entry.ensures w (number_not_0 c.in-Err.refused))
    (λ e n. counts_asked _ e n c.decode-frame.result _ w.asked) c.refusal_at-written-in-Err.ensures

pub loop-read-preserved-then-is_move : goal.loop-read-preserved-then-is_move
loop-read-preserved-then-is_move c =
    let w = c.in-Ok.ensures in
    again (goal.at.loop-read-preserved-then-is_move c).Else-is_barred _ _ _ _ _ refl
    (takes_move c.decode-frame.result _ _ 0 _ c.mover-place.ensures.0 c.entry-entry.ensures w)
    (λ e n. counts_asked _ e n c.decode-frame.result _ w.asked) c.plain_at-written.ensures

-- ---- a registration

pub loop-read-preserved-in-Err-decide_registration : goal.loop-read-preserved-in-Err-decide_registration
loop-read-preserved-in-Err-decide_registration c =
    let w = c.in-Err-decide_registration.ensures in
    again (goal.at.loop-read-preserved-in-Err-decide_registration c).Else-is_barred _ _ _ _ _ refl
    (takes_call c.decode-frame.result w.call _ _ _ w.asked (w.entered c.loop-read.auction))
    (λ e n. counts_asked _ e n c.decode-frame.result _ w.asked) c.refusal_at-written-in-Err-decide_registration.ensures

pub loop-read-preserved-then-is_registration : goal.loop-read-preserved-then-is_registration
loop-read-preserved-then-is_registration c =
    let w = c.in-Ok-decide_registration.ensures in
    again (goal.at.loop-read-preserved-then-is_registration c).Else-is_barred _ _ _ _ _ refl
    (takes_call c.decode-frame.result w.call _ _ 0 w.asked (w.entered c.loop-read.auction))
    (λ e n. counts_asked _ e n c.decode-frame.result _ w.asked) c.plain_at-written-then-is_registration.ensures

-- ---- the clock

pub loop-read-preserved-then-is_clock : goal.loop-read-preserved-then-is_clock
loop-read-preserved-then-is_clock c =
    let f = c.decode-frame.result in
    let w = c.decide_clock-turned.ensures in
    let a = c.loop-read.auction in
    again (goal.at.loop-read-preserved-then-is_clock c).Else-is_barred _ _ _ (with_clock a c.unwrap_or-auction.result) _ refl
    (takes_clock f a c.decide_clock-turned.result c.unwrap_or-auction.result _ w c.unwrap_or-auction.ensures c.answer_number-number.ensures)
    (λ e n. counts_asked a e n f _ w.asked) c.plain_at-written-then-is_clock.ensures

-- ---- a closing

pub loop-read-preserved-then-not-in_round : goal.loop-read-preserved-then-not-in_round
loop-read-preserved-then-not-in_round c =
    let shut = sym c.in_round.ensures ∙ c.if-not-in_round.true in
    again (goal.at.loop-read-preserved-then-not-in_round c).Else-is_barred _ _ _ _ _ (asks_close _ c.if-kind-eq5.true)
    (takes_no_round _ shut) (λ e n. counts_no_round _ e n shut) c.refusal_at-written-then-not-in_round.ensures

pub loop-read-preserved-then-kind-eq5 : goal.loop-read-preserved-then-kind-eq5
loop-read-preserved-then-kind-eq5 c =
    let rounded = c.closing_round-rounded in
    let shown = c.closing_reply-reply in
    let fits : SFits w64 rounded.result.excess = search rules in
    let shows : ShowsClosing 0 rounded.result.excess rounded.result.remainder shown.result = rw (to_z-of_z fits) at shown.ensures in
    let a = c.loop-read.auction in
    let b = with_rounded a rounded.result in
    let closes = rounded.ensures.closes a (sym c.in_round.ensures ∙ c.if-not-in_round.false) in
    counting (goal.at.loop-read-preserved-then-kind-eq5 c).Else-is_barred _ _ _ b _ _ _ (omega arith) (asks_close _ c.if-kind-eq5.true)
    (takes_closing a b (rounded_in rounded.result) _ closes shows)
    (rw (to_z-of_z fits) (counts_closing a _ _ b (rounded_in rounded.result) closes refl)) c.reply_at-written.ensures

-- ---- a settling

pub loop-read-preserved-then-limit-written : goal.loop-read-preserved-then-limit-written
loop-read-preserved-then-limit-written c =
    let d = (goal.at.loop-read-preserved-then-limit-written c).Else-is_barred in
    run_skipped _ _ _ _ _ _ _ _ _ _ _ _ _ _ _ _ c.loop-read.invariant c.loop-read-test.true c.next_line-line.ensures _
    (free d) (settling_order (dec d) _ c.if-kind-eq6.true refl) c.if-limit-written.true

pub loop-read-preserved-then-not-is_closed : goal.loop-read-preserved-then-not-is_closed
loop-read-preserved-then-not-is_closed c =
    again (goal.at.loop-read-preserved-then-not-is_closed c).Else-is_barred _ _ _ _ _ (asks_settling _ _ c.if-kind-eq6.true refl)
    (takes_not_closed _ _ (sym c.is_closed.ensures ∙ c.if-not-is_closed.true)) (λ e n. counts_nothing _ e n)
    c.refusal_at-written-then-not-is_closed.ensures

pub loop-read-preserved-in-Err-check_again : goal.loop-read-preserved-in-Err-check_again
loop-read-preserved-in-Err-check_again c =
    let d = (goal.at.loop-read-preserved-in-Err-check_again c).Else-is_barred in
    rw (← c.in-Some.is)
    (run_kept_refused _ _ _ _ _ _ _ _ _ _ _ _ _ _ _ _ c.loop-read.invariant c.loop-read-test.true c.next_line-line.ensures _
    (free d) (settling_order (dec d) _ c.if-kind-eq6.true c.word-asked.ensures) c.in-Some.settlement _ _ c.in-Some.is
    _ c.in-Err-check_again.ensures (number_not_0 c.in-Err-check_again.refusal) c.refusal_at-written-in-Err-check_again.ensures)

pub loop-read-preserved-in-Some : goal.loop-read-preserved-in-Some
loop-read-preserved-in-Some c =
    let d = (goal.at.loop-read-preserved-in-Some c).Else-is_barred in
    let within = rw c.in_default-check_again.is at c.check_again.ensures in
    rw (← c.in-Some.is)
    (run_kept_accepted _ _ _ _ _ _ _ _ _ _ _ _ _ _ _ _ c.loop-read.invariant c.loop-read-test.true c.next_line-line.ensures _
    (free d) (settling_order (dec d) _ c.if-kind-eq6.true c.word-asked.ensures) c.in-Some.settlement _ _ c.in-Some.is
    _ c.settling_reply-again.ensures (sym within) c.reply_at-written-in-Some.ensures)

pub loop-read-preserved-then-kind-eq6 : goal.loop-read-preserved-then-kind-eq6
loop-read-preserved-then-kind-eq6 c =
    let d = (goal.at.loop-read-preserved-then-kind-eq6 c).Else-is_barred in
    run_settled _ _ _ _ _ _ _ _ _ _ _ _ _ _ _ _ c.loop-read.invariant c.loop-read-test.true c.next_line-line.ensures _
    (free d) (settling_order (dec d) _ c.if-kind-eq6.true c.word-asked.ensures)
    c.settle-answer.result _ _ _ _ _ c.settle-answer.ensures c.ok-settled.ensures.value c.settling_reply-reply.ensures c.reply_at-written-then-kind-eq6.ensures

-- ---- a malformed line

pub loop-read-preserved : goal.loop-read-preserved
loop-read-preserved c =
    again (goal.at.loop-read-preserved c).Else-is_barred _ _ _ _ _
    (none_asked _ (sym c.is_move.ensures ∙ c.if-is_move.false) (sym c.is_registration.ensures ∙ c.if-is_registration.false)
    (sym c.is_clock.ensures ∙ c.if-is_clock.false) c.if-kind-eq5.false c.if-kind-eq6.false)
    (takes_malformed _ _ refl) (λ e n. counts_nothing _ e n) c.refusal_at-written-in-loop-read.ensures

pub returns : goal.returns
returns c = run_end _ _ _ _ _ _ _ _ _ _ c.loop-read.invariant c.loop-read-test.false
