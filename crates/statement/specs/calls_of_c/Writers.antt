-- Frames written for C (document 02, 2): for all numbers, lists and lent buffers, each of the nine calls writes the order that its own arguments ask.
-- It gives 2^64 less 14 where the order is not writable, then 2^64 less 13 where the buffer is too short, and leaves the buffer; else the number of
-- bytes of the frame, which stands over the buffer's start and reads back to that order. Each call asks nothing and meets its contract.
use Rattle.std.specs.Prelude.{ℕ, ◌-◌, ◌^◌, ◌≤◌, ◌<◌, ◌≡◌, refl, Bool, true, false, List, length}
use Rattle.std.proofs.Common.{sym, ◌∙◌, ⊎_elim, arith}
use Rattle.std.proofs.Math.Path.{ap}
use borrow.Author.Tests.{le-leb, lt-leb, eq-eqb, ne_eqb}
use contract.Lifetimes.{Lfts}
use denote.Triple.Clauses.{AtExit}
use borrow.Fn.World.{ArgsD}
use borrow.Fn.Kinds.{ended_of}
use Rattle.rules_numbers.specs.Cases.{le_or_lt}
use Rattle.rules_numbers.specs.Tails.{laid}
use Rattle.rules_format.specs.Written.{line_of, writing_refusal, written, lent_frame}
use Rattle.rules_auction.specs.Ledger.{settings_of, Offer, Lodge, Cancel, SetUp, Open, By, Close}
use Rattle.rules_replies.specs.Orders.{Order, Asks, Settle, order_in}
use Rattle.rules_replies.specs.WrittenOrders.{raw_of, writable_order, frame_of_order}
use Rattle.rules_replies.specs.WrittenOrderLaws.{order_reads}
use Rattle.frame_writing.specs.each_call.Writes.{registration, registration_for}
use Rattle.host.specs.Writing.{host_bytes, HostWrites}
use Rattle.statement.specs.calls_of_c.HostValues.{accepted_value, refused_value}
use Rattle.host.specs.contracts.write_set_up.{signature as set_up_signature}
use Rattle.host.specs.contracts.write_registration.{signature as registration_signature}
use Rattle.host.specs.contracts.write_registration_for.{signature as registration_for_signature}
use Rattle.host.specs.contracts.write_opening.{signature as opening_signature}
use Rattle.host.specs.contracts.write_offer.{signature as offer_signature}
use Rattle.host.specs.contracts.write_lodging.{signature as lodging_signature}
use Rattle.host.specs.contracts.write_cancellation.{signature as cancellation_signature}
use Rattle.host.specs.contracts.write_closing.{signature as closing_signature}
use Rattle.host.specs.contracts.write_settling.{signature as settling_signature}
use Rattle.host.proofs.write_set_up.Kinds as set_up_kinds
use Rattle.host.proofs.write_registration.Kinds as registration_kinds
use Rattle.host.proofs.write_registration_for.Kinds as registration_for_kinds
use Rattle.host.proofs.write_opening.Kinds as opening_kinds
use Rattle.host.proofs.write_offer.Kinds as offer_kinds
use Rattle.host.proofs.write_lodging.Kinds as lodging_kinds
use Rattle.host.proofs.write_cancellation.Kinds as cancellation_kinds
use Rattle.host.proofs.write_closing.Kinds as closing_kinds
use Rattle.host.proofs.write_settling.Kinds as settling_kinds
use Rattle.host.proofs.write_set_up.Reads as set_up_reads
use Rattle.host.proofs.write_registration.Reads as registration_reads
use Rattle.host.proofs.write_registration_for.Reads as registration_for_reads
use Rattle.host.proofs.write_opening.Reads as opening_reads
use Rattle.host.proofs.write_offer.Reads as offer_reads
use Rattle.host.proofs.write_lodging.Reads as lodging_reads
use Rattle.host.proofs.write_cancellation.Reads as cancellation_reads
use Rattle.host.proofs.write_closing.Reads as closing_reads
use Rattle.host.proofs.write_settling.Reads as settling_reads
use Rattle.host.proofs.write_set_up.Statement as set_up_states
use Rattle.host.proofs.write_registration.Statement as registration_states
use Rattle.host.proofs.write_registration_for.Statement as registration_for_states
use Rattle.host.proofs.write_opening.Statement as opening_states
use Rattle.host.proofs.write_offer.Statement as offer_states
use Rattle.host.proofs.write_lodging.Statement as lodging_states
use Rattle.host.proofs.write_cancellation.Statement as cancellation_states
use Rattle.host.proofs.write_closing.Statement as closing_states
use Rattle.host.proofs.write_settling.Statement as settling_states
use Rattle.host.proofs.write_set_up.Met as set_up_met
use Rattle.host.proofs.write_registration.Met as registration_met
use Rattle.host.proofs.write_registration_for.Met as registration_for_met
use Rattle.host.proofs.write_opening.Met as opening_met
use Rattle.host.proofs.write_offer.Met as offer_met
use Rattle.host.proofs.write_lodging.Met as lodging_met
use Rattle.host.proofs.write_cancellation.Met as cancellation_met
use Rattle.host.proofs.write_closing.Met as closing_met
use Rattle.host.proofs.write_settling.Met as settling_met

-- of the order o; `old` and `new` are the lent buffer before and after, r is what C gets
pub record FrameReturned (o : Order) (old new : List ℕ) (r : ℕ) : Type 0 where
  pub unwritable : writable_order o ≡ false → (r ≡ 2 ^ 64 - 14) × (new ≡ old)
  pub too_short : writable_order o ≡ true → length old < length (frame_of_order o) → (r ≡ 2 ^ 64 - 13) × (new ≡ old)
  pub accepted :
      writable_order o ≡ true → length (frame_of_order o) ≤ length old →
      (r ≡ length (frame_of_order o)) × (new ≡ laid (frame_of_order o) old) × (order_in (line_of (raw_of o)) ≡ o)

pub record WritersMeet (M : Type 1) : Type 2 where
  pub write_set_up : set_up_states.statement M
  pub write_registration : registration_states.statement M
  pub write_registration_for : registration_for_states.statement M
  pub write_opening : opening_states.statement M
  pub write_offer : offer_states.statement M
  pub write_lodging : lodging_states.statement M
  pub write_cancellation : cancellation_states.statement M
  pub write_closing : closing_states.statement M
  pub write_settling : settling_states.statement M

pub record WritersAsk : Type 1 where
  pub write_set_up : (κs : Lfts 1) (x : ArgsD set_up_signature κs) → set_up_reads.Pre κs x × set_up_reads.Asked κs x
  pub write_registration : (κs : Lfts 2) (x : ArgsD registration_signature κs) → registration_reads.Pre κs x × registration_reads.Asked κs x
  pub write_registration_for : (κs : Lfts 2) (x : ArgsD registration_for_signature κs) → registration_for_reads.Pre κs x × registration_for_reads.Asked κs x
  pub write_opening : (κs : Lfts 1) (x : ArgsD opening_signature κs) → opening_reads.Pre κs x × opening_reads.Asked κs x
  pub write_offer : (κs : Lfts 3) (x : ArgsD offer_signature κs) → offer_reads.Pre κs x × offer_reads.Asked κs x
  pub write_lodging : (κs : Lfts 3) (x : ArgsD lodging_signature κs) → lodging_reads.Pre κs x × lodging_reads.Asked κs x
  pub write_cancellation : (κs : Lfts 1) (x : ArgsD cancellation_signature κs) → cancellation_reads.Pre κs x × cancellation_reads.Asked κs x
  pub write_closing : (κs : Lfts 1) (x : ArgsD closing_signature κs) → closing_reads.Pre κs x × closing_reads.Asked κs x
  pub write_settling : (κs : Lfts 1) (x : ArgsD settling_signature κs) → settling_reads.Pre κs x × settling_reads.Asked κs x

-- the arguments x: as the order names them, then the buffer; y: the same at the call's end
pub record WritersReturn : Type 1 where
  pub write_set_up :
      (κs : Lfts 1) (x : ArgsD set_up_signature κs) (r : ℕ) (y : AtExit (ended_of 1 set_up_kinds.ps set_up_kinds.r) κs) →
      set_up_reads.Post κs x r y →
      FrameReturned (Asks (SetUp (settings_of x.0 x.1.0 x.1.1.0 x.1.1.1.0 x.1.1.1.1.0)))
      x.1.1.1.1.1.0.now y.1.1.1.1.1.0.now r
  pub write_registration :
      (κs : Lfts 2) (x : ArgsD registration_signature κs) (r : ℕ) (y : AtExit (ended_of 2 registration_kinds.ps registration_kinds.r) κs) →
      registration_reads.Post κs x r y →
      FrameReturned (registration x.0 x.1.0 x.1.1.0 x.1.1.1.0 x.1.1.1.1.0 x.1.1.1.1.1.0.now)
      x.1.1.1.1.1.1.0.now y.1.1.1.1.1.1.0.now r
  pub write_registration_for :
      (κs : Lfts 2) (x : ArgsD registration_for_signature κs) (r : ℕ) (y : AtExit (ended_of 2 registration_for_kinds.ps registration_for_kinds.r) κs) →
      registration_for_reads.Post κs x r y →
      FrameReturned (registration_for x.0 x.1.0 x.1.1.0 x.1.1.1.0 x.1.1.1.1.0 x.1.1.1.1.1.0 x.1.1.1.1.1.1.0.now)
      x.1.1.1.1.1.1.1.0.now y.1.1.1.1.1.1.1.0.now r
  pub write_opening :
      (κs : Lfts 1) (x : ArgsD opening_signature κs) (r : ℕ) (y : AtExit (ended_of 1 opening_kinds.ps opening_kinds.r) κs) →
      opening_reads.Post κs x r y → FrameReturned (Asks (Open x.0)) x.1.0.now y.1.0.now r
  pub write_offer :
      (κs : Lfts 3) (x : ArgsD offer_signature κs) (r : ℕ) (y : AtExit (ended_of 3 offer_kinds.ps offer_kinds.r) κs) →
      offer_reads.Post κs x r y → FrameReturned (Asks (By x.0 (Offer x.1.0.now x.1.1.0.now))) x.1.1.1.0.now y.1.1.1.0.now r
  pub write_lodging :
      (κs : Lfts 3) (x : ArgsD lodging_signature κs) (r : ℕ) (y : AtExit (ended_of 3 lodging_kinds.ps lodging_kinds.r) κs) →
      lodging_reads.Post κs x r y → FrameReturned (Asks (By x.0 (Lodge x.1.0.now x.1.1.0.now))) x.1.1.1.0.now y.1.1.1.0.now r
  pub write_cancellation :
      (κs : Lfts 1) (x : ArgsD cancellation_signature κs) (r : ℕ) (y : AtExit (ended_of 1 cancellation_kinds.ps cancellation_kinds.r) κs) →
      cancellation_reads.Post κs x r y → FrameReturned (Asks (By x.0 Cancel)) x.1.0.now y.1.0.now r
  pub write_closing :
      (κs : Lfts 1) (x : ArgsD closing_signature κs) (r : ℕ) (y : AtExit (ended_of 1 closing_kinds.ps closing_kinds.r) κs) →
      closing_reads.Post κs x r y → FrameReturned (Asks Close) x.0.now y.0.now r
  pub write_settling :
      (κs : Lfts 1) (x : ArgsD settling_signature κs) (r : ℕ) (y : AtExit (ended_of 1 settling_kinds.ps settling_kinds.r) κs) →
      settling_reads.Post κs x r y → FrameReturned (Settle x.0) x.1.0.now y.1.0.now r

pub record WritersExported (M : Type 1) : Type 2 where
  pub meets : WritersMeet M
  pub asks : WritersAsk
  pub returns : WritersReturn
  -- what is stated leaves nothing free
  pub determined :
      (o : Order) (old new new' : List ℕ) (r r' : ℕ) → FrameReturned o old new r → FrameReturned o old new' r' → (r ≡ r') × (new ≡ new')

-- ---- the proofs

module _ (o : Order) (old : List ℕ) where
  abbrev n : ℕ
  n = writing_refusal (writable_order o) (frame_of_order o) (length old)

  not_writable : writable_order o ≡ false → n ≡ 14
  unfolding writing_refusal
  not_writable e = rw e

  no_room : writable_order o ≡ true → length old < length (frame_of_order o) → n ≡ 13
  unfolding writing_refusal
  no_room e h = rw (e, lt-leb (length (frame_of_order o)) (length old) h)

  room : writable_order o ≡ true → length (frame_of_order o) ≤ length old → n ≡ 0
  unfolding writing_refusal
  room e h = rw (e, le-leb (length (frame_of_order o)) (length old) h)

  refused_as : (v : ℕ) → n ≡ v → (n ≡ 0 → ⊥) → (host_bytes o old ≡ 2 ^ 64 - v) × (lent_frame (writable_order o) (frame_of_order o) old ≡ old)
  unfolding host_bytes lent_frame
  refused_as v e z = (refused_value n (written (writable_order o) (frame_of_order o) (length old)) z ∙ ap (λ (k : ℕ). 2 ^ 64 - k) e, rw (ne_eqb n 0 z))

  bytes_written : n ≡ 0 → host_bytes o old ≡ length (frame_of_order o)
  unfolding host_bytes written
  bytes_written z = accepted_value n (written (writable_order o) (frame_of_order o) (length old)) z ∙ rw (eq-eqb n 0 z)

  frame_laid : n ≡ 0 → lent_frame (writable_order o) (frame_of_order o) old ≡ laid (frame_of_order o) old
  unfolding lent_frame
  frame_laid z = rw (eq-eqb n 0 z)

frame_returned : (o : Order) (old new : List ℕ) (r : ℕ) → HostWrites o old new r → FrameReturned o old new r
frame_returned o old new r w = record {
  unwritable = λ e. let k = not_writable o old e in let t = refused_as o old 14 k (λ z. omega arith) in (w.bytes ∙ t.0, w.buffer ∙ t.1);
  too_short = λ e h. let k = no_room o old e h in let t = refused_as o old 13 k (λ z. omega arith) in (w.bytes ∙ t.0, w.buffer ∙ t.1);
  accepted = λ e h. let z = room o old e h in (w.bytes ∙ bytes_written o old z, w.buffer ∙ frame_laid o old z, order_reads o e);
}

-- and nothing else is
frame_determined : (o : Order) (old new new' : List ℕ) (r r' : ℕ) → FrameReturned o old new r → FrameReturned o old new' r' → (r ≡ r') × (new ≡ new')
frame_determined o old new new' r r' x y = go (writable_order o) refl
  where
    go : (t : Bool) → writable_order o ≡ t → (r ≡ r') × (new ≡ new')
    go true e = ⊎_elim
        (λ h. let a = x.accepted e h in let b = y.accepted e h in (a.0 ∙ sym b.0, a.1 ∙ sym b.1))
        (λ h. let a = x.too_short e h in let b = y.too_short e h in (a.0 ∙ sym b.0, a.1 ∙ sym b.1))
        (le_or_lt (length (frame_of_order o)) (length old))
    go false e = let a = x.unwritable e in let b = y.unwritable e in (a.0 ∙ sym b.0, a.1 ∙ sym b.1)

-- ---- together

writers_meet : {M : Type 1} → WritersMeet M
writers_meet = record {
  write_set_up = set_up_met.met;
  write_registration = registration_met.met;
  write_registration_for = registration_for_met.met;
  write_opening = opening_met.met;
  write_offer = offer_met.met;
  write_lodging = lodging_met.met;
  write_cancellation = cancellation_met.met;
  write_closing = closing_met.met;
  write_settling = settling_met.met;
}

writers_ask : WritersAsk
writers_ask = record {
  write_set_up = λ κs x. (tt, tt);
  write_registration = λ κs x. (tt, tt);
  write_registration_for = λ κs x. (tt, tt);
  write_opening = λ κs x. (tt, tt);
  write_offer = λ κs x. (tt, tt);
  write_lodging = λ κs x. (tt, tt);
  write_cancellation = λ κs x. (tt, tt);
  write_closing = λ κs x. (tt, tt);
  write_settling = λ κs x. (tt, tt);
}

writers_return : WritersReturn
writers_return = record {
  write_set_up = λ κs x r y w. frame_returned _ _ _ r w;
  write_registration = λ κs x r y w. frame_returned _ _ _ r w;
  write_registration_for = λ κs x r y w. frame_returned _ _ _ r w;
  write_opening = λ κs x r y w. frame_returned _ _ _ r w;
  write_offer = λ κs x r y w. frame_returned _ _ _ r w;
  write_lodging = λ κs x r y w. frame_returned _ _ _ r w;
  write_cancellation = λ κs x r y w. frame_returned _ _ _ r w;
  write_closing = λ κs x r y w. frame_returned _ _ _ r w;
  write_settling = λ κs x r y w. frame_returned _ _ _ r w;
}

pub writers_exported : {M : Type 1} → WritersExported M
writers_exported = record { meets = writers_meet; asks = writers_ask; returns = writers_return; determined = frame_determined }
