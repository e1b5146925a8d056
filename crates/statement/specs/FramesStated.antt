-- FRAMES OUT AS WELL AS IN (document 02, 2), for every order, writable or not, and every lent buffer. Each of the nine writing calls is stated by its
-- own arguments, through its own contract, which it meets: it writes the order that they ask. An accepted one lays over the buffer's start a frame
-- that reads back to that order, and every well-formed line read and then written is the same bytes. So the replies to a record written order by
-- order are those to the orders.
use Rattle.std.specs.Prelude.{ℕ, ◌≡◌, refl, Bool, true, false, length, Result}
use Rattle.std.proofs.Math.Path.{sym, ap}
use Rattle.std.proofs.Common.{◌∙◌, arith}
use Rattle.std.proofs.Math.Bool.{cond}
use mathlib.Core.List.{List, [], ◌∷◌, ◌++◌, map, flatten}
use Rattle.std.proofs.Math.Dec.{eqb}
use borrow.Author.Tests.{eq-eqb, ne_eqb}
use contract.Lifetimes.{Lfts}
use denote.Triple.Clauses.{AtExit}
use borrow.Fn.World.{ArgsD}
use borrow.Fn.Kinds.{ended_of}
use Rattle.rules_numbers.specs.Lists.{all}
use Rattle.rules_numbers.specs.Tails.{laid}
use Rattle.rules_format.specs.FieldLaws.{WellFormed}
use Rattle.rules_format.specs.Written.{line_of, writing_refusal, written, lent_frame}
use Rattle.rules_auction.specs.Ledger.{start, Offer, Lodge, Cancel, Open, By, Close}
use Rattle.rules_replies.specs.Orders.{Order, Malformed, Asks, Settle, order_in}
use Rattle.rules_replies.specs.WrittenOrders.{raw_of, writable_order, frame_of_order}
use Rattle.rules_replies.specs.WrittenOrderLaws.{order_reads, line_writes, well_formed_asks, replies_to, record_replies}
use Rattle.rules_replies.specs.Replies.{replies}
use Rattle.engine_auction.specs.Called.{sets_up, registers, registers_for}
use Rattle.engine_refusals.specs.declared.Refusal.{Refusal}
use Rattle.frame_writing.specs.Encodes.{Written, written_in}
use Rattle.frame_writing.specs.each_call.Writes.{Writes}
use Rattle.frame_writing.specs.contracts.each_call.write_set_up.{signature as set_up_signature}
use Rattle.frame_writing.specs.contracts.each_call.write_registration.{signature as registration_signature}
use Rattle.frame_writing.specs.contracts.each_call.write_registration_for.{signature as registration_for_signature}
use Rattle.frame_writing.specs.contracts.each_call.write_opening.{signature as opening_signature}
use Rattle.frame_writing.specs.contracts.each_call.write_offer.{signature as offer_signature}
use Rattle.frame_writing.specs.contracts.each_call.write_lodging.{signature as lodging_signature}
use Rattle.frame_writing.specs.contracts.each_call.write_cancellation.{signature as cancellation_signature}
use Rattle.frame_writing.specs.contracts.each_call.write_closing.{signature as closing_signature}
use Rattle.frame_writing.specs.contracts.each_call.write_settling.{signature as settling_signature}
use Rattle.frame_writing.proofs.each_call.write_set_up.Kinds as set_up_kinds
use Rattle.frame_writing.proofs.each_call.write_registration.Kinds as registration_kinds
use Rattle.frame_writing.proofs.each_call.write_registration_for.Kinds as registration_for_kinds
use Rattle.frame_writing.proofs.each_call.write_opening.Kinds as opening_kinds
use Rattle.frame_writing.proofs.each_call.write_offer.Kinds as offer_kinds
use Rattle.frame_writing.proofs.each_call.write_lodging.Kinds as lodging_kinds
use Rattle.frame_writing.proofs.each_call.write_cancellation.Kinds as cancellation_kinds
use Rattle.frame_writing.proofs.each_call.write_closing.Kinds as closing_kinds
use Rattle.frame_writing.proofs.each_call.write_settling.Kinds as settling_kinds
use Rattle.frame_writing.proofs.each_call.write_set_up.Reads as set_up_reads
use Rattle.frame_writing.proofs.each_call.write_registration.Reads as registration_reads
use Rattle.frame_writing.proofs.each_call.write_registration_for.Reads as registration_for_reads
use Rattle.frame_writing.proofs.each_call.write_opening.Reads as opening_reads
use Rattle.frame_writing.proofs.each_call.write_offer.Reads as offer_reads
use Rattle.frame_writing.proofs.each_call.write_lodging.Reads as lodging_reads
use Rattle.frame_writing.proofs.each_call.write_cancellation.Reads as cancellation_reads
use Rattle.frame_writing.proofs.each_call.write_closing.Reads as closing_reads
use Rattle.frame_writing.proofs.each_call.write_settling.Reads as settling_reads
use Rattle.frame_writing.proofs.each_call.write_set_up.Statement as set_up_states
use Rattle.frame_writing.proofs.each_call.write_registration.Statement as registration_states
use Rattle.frame_writing.proofs.each_call.write_registration_for.Statement as registration_for_states
use Rattle.frame_writing.proofs.each_call.write_opening.Statement as opening_states
use Rattle.frame_writing.proofs.each_call.write_offer.Statement as offer_states
use Rattle.frame_writing.proofs.each_call.write_lodging.Statement as lodging_states
use Rattle.frame_writing.proofs.each_call.write_cancellation.Statement as cancellation_states
use Rattle.frame_writing.proofs.each_call.write_closing.Statement as closing_states
use Rattle.frame_writing.proofs.each_call.write_settling.Statement as settling_states
use Rattle.frame_writing.proofs.each_call.write_set_up.Met as set_up_met
use Rattle.frame_writing.proofs.each_call.write_registration.Met as registration_met
use Rattle.frame_writing.proofs.each_call.write_registration_for.Met as registration_for_met
use Rattle.frame_writing.proofs.each_call.write_opening.Met as opening_met
use Rattle.frame_writing.proofs.each_call.write_offer.Met as offer_met
use Rattle.frame_writing.proofs.each_call.write_lodging.Met as lodging_met
use Rattle.frame_writing.proofs.each_call.write_cancellation.Met as cancellation_met
use Rattle.frame_writing.proofs.each_call.write_closing.Met as closing_met
use Rattle.frame_writing.proofs.each_call.write_settling.Met as settling_met

-- each writing call, in every model
pub record WritersMeet (M : Type 1) : Type 2 where
  pub set_up_meets : set_up_states.statement M
  pub registration_meets : registration_states.statement M
  pub registration_for_meets : registration_for_states.statement M
  pub opening_meets : opening_states.statement M
  pub offer_meets : offer_states.statement M
  pub lodging_meets : lodging_states.statement M
  pub cancellation_meets : cancellation_states.statement M
  pub closing_meets : closing_states.statement M
  pub settling_meets : settling_states.statement M

-- `old` and `new` are the lent buffer before and after: 14 where the order is not writable, then 13 where the buffer is too short
pub record FrameWritten (o : Order) (old new : List ℕ) (r : Written) : Type 0 where
  pub number : r.number ≡ writing_refusal (writable_order o) (frame_of_order o) (length old)
  pub refused : (r.number ≡ 0 → ⊥) → (r.bytes ≡ 0) × (new ≡ old)
  pub accepted : r.number ≡ 0 → (r.bytes ≡ length (frame_of_order o)) × (new ≡ laid (frame_of_order o) old) × (order_in (line_of (raw_of o)) ≡ o)

-- each writing call by its arguments x, named above each clause, and the buffer last; y: the same at the call's end. The call that a frame asks is the
-- one that EveryList makes by the same arguments
pub record WritersStated : Type 1 where
  -- CE, D, M1, M2, A
  pub set_up_written :
      (κs : Lfts 1) (x : ArgsD set_up_signature κs) (r : Result ℕ Refusal) (y : AtExit (ended_of 1 set_up_kinds.ps set_up_kinds.r) κs) →
      set_up_reads.Post κs x r y →
      FrameWritten (Asks (sets_up x.0 x.1.0 x.1.1.0 x.1.1.1.0 x.1.1.1.1.0))
      x.1.1.1.1.1.0.now y.1.1.1.1.1.0.now (written_in r)
  -- project, developer, kind, study value, start day, levels
  pub registration_written :
      (κs : Lfts 2) (x : ArgsD registration_signature κs) (r : Result ℕ Refusal) (y : AtExit (ended_of 2 registration_kinds.ps registration_kinds.r) κs) →
      registration_reads.Post κs x r y →
      FrameWritten (Asks (registers x.0 x.1.0 x.1.1.0 x.1.1.1.0 x.1.1.1.1.0 x.1.1.1.1.1.0.now))
      x.1.1.1.1.1.1.0.now y.1.1.1.1.1.1.0.now (written_in r)
  -- the same with the agent behind the kind (document 02, 10)
  pub registration_for_written :
      (κs : Lfts 2) (x : ArgsD registration_for_signature κs) (r : Result ℕ Refusal)
      (y : AtExit (ended_of 2 registration_for_kinds.ps registration_for_kinds.r) κs) →
      registration_for_reads.Post κs x r y →
      FrameWritten (Asks (registers_for x.0 x.1.0 x.1.1.0 x.1.1.1.0 x.1.1.1.1.0 x.1.1.1.1.1.0 x.1.1.1.1.1.1.0.now))
      x.1.1.1.1.1.1.1.0.now y.1.1.1.1.1.1.1.0.now (written_in r)
  -- C
  pub opening_written :
      (κs : Lfts 1) (x : ArgsD opening_signature κs) (r : Result ℕ Refusal) (y : AtExit (ended_of 1 opening_kinds.ps opening_kinds.r) κs) →
      opening_reads.Post κs x r y →
      FrameWritten (Asks (Open x.0)) x.1.0.now y.1.0.now (written_in r)
  -- developer, prices, levels
  pub offer_written :
      (κs : Lfts 3) (x : ArgsD offer_signature κs) (r : Result ℕ Refusal) (y : AtExit (ended_of 3 offer_kinds.ps offer_kinds.r) κs) →
      offer_reads.Post κs x r y →
      FrameWritten (Asks (By x.0 (Offer x.1.0.now x.1.1.0.now))) x.1.1.1.0.now y.1.1.1.0.now (written_in r)
  -- the same, lodged (document 02, 5)
  pub lodging_written :
      (κs : Lfts 3) (x : ArgsD lodging_signature κs) (r : Result ℕ Refusal) (y : AtExit (ended_of 3 lodging_kinds.ps lodging_kinds.r) κs) →
      lodging_reads.Post κs x r y →
      FrameWritten (Asks (By x.0 (Lodge x.1.0.now x.1.1.0.now))) x.1.1.1.0.now y.1.1.1.0.now (written_in r)
  -- developer (document 02, 7)
  pub cancellation_written :
      (κs : Lfts 1) (x : ArgsD cancellation_signature κs) (r : Result ℕ Refusal) (y : AtExit (ended_of 1 cancellation_kinds.ps cancellation_kinds.r) κs) →
      cancellation_reads.Post κs x r y →
      FrameWritten (Asks (By x.0 Cancel)) x.1.0.now y.1.0.now (written_in r)
  -- the buffer alone
  pub closing_written :
      (κs : Lfts 1) (x : ArgsD closing_signature κs) (r : Result ℕ Refusal) (y : AtExit (ended_of 1 closing_kinds.ps closing_kinds.r) κs) →
      closing_reads.Post κs x r y →
      FrameWritten (Asks Close) x.0.now y.0.now (written_in r)
  -- limit
  pub settling_written :
      (κs : Lfts 1) (x : ArgsD settling_signature κs) (r : Result ℕ Refusal) (y : AtExit (ended_of 1 settling_kinds.ps settling_kinds.r) κs) →
      settling_reads.Post κs x r y →
      FrameWritten (Settle x.0) x.1.0.now y.1.0.now (written_in r)

pub record FramesStated (M : Type 1) : Type 2 where
  pub meets : WritersMeet M
  pub by_arguments : WritersStated
  -- `Writes`, which all nine contracts say, in these words
  pub answered : (o : Order) (old new : List ℕ) (r : Written) → Writes o old new r → FrameWritten o old new r
  -- each well-formed line asks something, and written again it is the same bytes, 0A added
  pub asks : (l : List ℕ) → WellFormed l → order_in l ≡ Malformed → ⊥
  pub again : (l : List ℕ) (o : Order) → order_in l ≡ o → (o ≡ Malformed → ⊥) → (frame_of_order o ≡ l ++ (10 ∷ [])) × (writable_order o ≡ true)
  pub replied : (os : List Order) → all writable_order os ≡ true → replies (flatten (map frame_of_order os)) ≡ replies_to start os

writers_meet : {M : Type 1} → WritersMeet M
writers_meet = record {
  set_up_meets = set_up_met.met;
  registration_meets = registration_met.met;
  registration_for_meets = registration_for_met.met;
  opening_meets = opening_met.met;
  offer_meets = offer_met.met;
  lodging_meets = lodging_met.met;
  cancellation_meets = cancellation_met.met;
  closing_meets = closing_met.met;
  settling_meets = settling_met.met;
}

not_unwritable : (ok : Bool) (frame : List ℕ) (room : ℕ) → writing_refusal ok frame room ≡ 0 → ok ≡ true
unfolding writing_refusal
not_unwritable true frame room e = refl
not_unwritable false frame room e = absurd (omega (arith, e))

module _ (o : Order) (old new : List ℕ) (r : Written) (w : Writes o old new r) where
  abbrev n : ℕ
  n = writing_refusal (writable_order o) (frame_of_order o) (length old)

  frame_written : FrameWritten o old new r
  unfolding written lent_frame
  frame_written = record {
    number = w.number;
    refused = λ h.
        let t : eqb n 0 ≡ _ = ne_eqb n 0 (λ z. h (w.number ∙ z)) in
        (w.bytes ∙ ap (λ (u : Bool). cond u (length (frame_of_order o)) 0) t, w.buffer ∙ ap (λ (u : Bool). cond u (laid (frame_of_order o) old) old) t);
    accepted = λ z.
        let e : n ≡ 0 = sym w.number ∙ z in
        let t : eqb n 0 ≡ _ = eq-eqb n 0 e in (
          w.bytes ∙ ap (λ (u : Bool). cond u (length (frame_of_order o)) 0) t,
          w.buffer ∙ ap (λ (u : Bool). cond u (laid (frame_of_order o) old) old) t,
          order_reads o (not_unwritable (writable_order o) (frame_of_order o) (length old) e),
        );
  }

by_their_arguments : WritersStated
by_their_arguments = record {
  set_up_written = λ κs x r y w. frame_written _ _ _ (written_in r) w;
  registration_written = λ κs x r y w. frame_written _ _ _ (written_in r) w;
  registration_for_written = λ κs x r y w. frame_written _ _ _ (written_in r) w;
  opening_written = λ κs x r y w. frame_written _ _ _ (written_in r) w;
  offer_written = λ κs x r y w. frame_written _ _ _ (written_in r) w;
  lodging_written = λ κs x r y w. frame_written _ _ _ (written_in r) w;
  cancellation_written = λ κs x r y w. frame_written _ _ _ (written_in r) w;
  closing_written = λ κs x r y w. frame_written _ _ _ (written_in r) w;
  settling_written = λ κs x r y w. frame_written _ _ _ (written_in r) w;
}

pub frames_stated : {M : Type 1} → FramesStated M
frames_stated = record {
  meets = writers_meet;
  by_arguments = by_their_arguments;
  answered = frame_written;
  asks = well_formed_asks;
  again = line_writes;
  replied = record_replies;
}
