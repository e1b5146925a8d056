-- READ OUT, frames written for C (document 02, 2): what a host in C may conclude of the nine calls that write frames, from the statement alone. What is
-- returned is said once for all nine: each writes the order that its arguments ask.
use Rattle.std.specs.Prelude.{ℕ, ◌-◌, ◌^◌, ◌≤◌, ◌<◌, ◌≡◌, true, false, List, length}
use contract.Lifetimes.{Lfts}
use denote.Triple.Clauses.{AtExit}
use borrow.Fn.World.{ArgsD}
use borrow.Fn.Kinds.{ended_of}
use Rattle.rules_numbers.specs.Tails.{laid}
use Rattle.rules_format.specs.Written.{line_of}
use Rattle.rules_auction.specs.Ledger.{settings_of, Offer, Lodge, Cancel, SetUp, Open, By, Close}
use Rattle.rules_replies.specs.Orders.{Order, Asks, Settle, order_in}
use Rattle.rules_replies.specs.WrittenOrders.{raw_of, writable_order, frame_of_order}
use Rattle.frame_writing.specs.each_call.Writes.{registration, registration_for}
use Rattle.host.specs.contracts.write_set_up.{signature as set_up_signature}
use Rattle.host.specs.contracts.write_registration.{signature as registration_signature}
use Rattle.host.specs.contracts.write_registration_for.{signature as registration_for_signature}
use Rattle.host.specs.contracts.write_opening.{signature as opening_signature}
use Rattle.host.specs.contracts.write_offer.{signature as offer_signature}
use Rattle.host.specs.contracts.write_lodging.{signature as lodging_signature}
use Rattle.host.specs.contracts.write_cancellation.{signature as cancellation_signature}
use Rattle.host.specs.contracts.write_closing.{signature as closing_signature}
use Rattle.host.specs.contracts.write_settling.{signature as settling_signature}
use Rattle.host.proofs.write_set_up.Kinds as set_up_kinds
use Rattle.host.proofs.write_registration.Kinds as registration_kinds
use Rattle.host.proofs.write_registration_for.Kinds as registration_for_kinds
use Rattle.host.proofs.write_opening.Kinds as opening_kinds
use Rattle.host.proofs.write_offer.Kinds as offer_kinds
use Rattle.host.proofs.write_lodging.Kinds as lodging_kinds
use Rattle.host.proofs.write_cancellation.Kinds as cancellation_kinds
use Rattle.host.proofs.write_closing.Kinds as closing_kinds
use Rattle.host.proofs.write_settling.Kinds as settling_kinds
use Rattle.host.proofs.write_set_up.Reads as set_up_reads
use Rattle.host.proofs.write_registration.Reads as registration_reads
use Rattle.host.proofs.write_registration_for.Reads as registration_for_reads
use Rattle.host.proofs.write_opening.Reads as opening_reads
use Rattle.host.proofs.write_offer.Reads as offer_reads
use Rattle.host.proofs.write_lodging.Reads as lodging_reads
use Rattle.host.proofs.write_cancellation.Reads as cancellation_reads
use Rattle.host.proofs.write_closing.Reads as closing_reads
use Rattle.host.proofs.write_settling.Reads as settling_reads
use Rattle.host.proofs.write_set_up.Statement as set_up_states
use Rattle.host.proofs.write_registration.Statement as registration_states
use Rattle.host.proofs.write_registration_for.Statement as registration_for_states
use Rattle.host.proofs.write_opening.Statement as opening_states
use Rattle.host.proofs.write_offer.Statement as offer_states
use Rattle.host.proofs.write_lodging.Statement as lodging_states
use Rattle.host.proofs.write_cancellation.Statement as cancellation_states
use Rattle.host.proofs.write_closing.Statement as closing_states
use Rattle.host.proofs.write_settling.Statement as settling_states
use Rattle.statement.specs.calls_of_c.Writers.{FrameReturned, WritersMeet, WritersAsk, WritersReturn, WritersExported}
use Rattle.statement.specs.EngineCorrect.{EngineCorrect}

-- the nine calls
pub data Writer : Type 0 where
  set_up_lem registering registering_for opening offer lodging cancellation closing settling : Writer

-- `Writes c o old new r`: the call c, with arguments that ask the order o and a lent buffer of the bytes `old`, gave r and left the bytes `new`, as its
-- own contract has it. Equal arguments ask one order
pub data Writes : Writer → (o : Order) (old new : List ℕ) → ℕ → Type 0 where
  writes_set_up :
      (κs : Lfts 1) (x : ArgsD set_up_signature κs) (r : ℕ) (y : AtExit (ended_of 1 set_up_kinds.ps set_up_kinds.r) κs) → set_up_reads.Post κs x r y →
      Writes set_up_lem (Asks (SetUp (settings_of x.0 x.1.0 x.1.1.0 x.1.1.1.0 x.1.1.1.1.0)))
      x.1.1.1.1.1.0.now y.1.1.1.1.1.0.now r
  writes_registration :
      (κs : Lfts 2) (x : ArgsD registration_signature κs) (r : ℕ) (y : AtExit (ended_of 2 registration_kinds.ps registration_kinds.r) κs) →
      registration_reads.Post κs x r y →
      Writes registering (registration x.0 x.1.0 x.1.1.0 x.1.1.1.0 x.1.1.1.1.0 x.1.1.1.1.1.0.now)
      x.1.1.1.1.1.1.0.now y.1.1.1.1.1.1.0.now r
  writes_registration_for :
      (κs : Lfts 2) (x : ArgsD registration_for_signature κs) (r : ℕ) (y : AtExit (ended_of 2 registration_for_kinds.ps registration_for_kinds.r) κs) →
      registration_for_reads.Post κs x r y →
      Writes registering_for
      (registration_for x.0 x.1.0 x.1.1.0 x.1.1.1.0 x.1.1.1.1.0 x.1.1.1.1.1.0 x.1.1.1.1.1.1.0.now)
      x.1.1.1.1.1.1.1.0.now y.1.1.1.1.1.1.1.0.now r
  writes_opening :
      (κs : Lfts 1) (x : ArgsD opening_signature κs) (r : ℕ) (y : AtExit (ended_of 1 opening_kinds.ps opening_kinds.r) κs) → opening_reads.Post κs x r y →
      Writes opening (Asks (Open x.0)) x.1.0.now y.1.0.now r
  writes_offer :
      (κs : Lfts 3) (x : ArgsD offer_signature κs) (r : ℕ) (y : AtExit (ended_of 3 offer_kinds.ps offer_kinds.r) κs) → offer_reads.Post κs x r y →
      Writes offer (Asks (By x.0 (Offer x.1.0.now x.1.1.0.now))) x.1.1.1.0.now y.1.1.1.0.now r
  writes_lodging :
      (κs : Lfts 3) (x : ArgsD lodging_signature κs) (r : ℕ) (y : AtExit (ended_of 3 lodging_kinds.ps lodging_kinds.r) κs) → lodging_reads.Post κs x r y →
      Writes lodging (Asks (By x.0 (Lodge x.1.0.now x.1.1.0.now))) x.1.1.1.0.now y.1.1.1.0.now r
  writes_cancellation :
      (κs : Lfts 1) (x : ArgsD cancellation_signature κs) (r : ℕ) (y : AtExit (ended_of 1 cancellation_kinds.ps cancellation_kinds.r) κs) →
      cancellation_reads.Post κs x r y →
      Writes cancellation (Asks (By x.0 Cancel)) x.1.0.now y.1.0.now r
  writes_closing :
      (κs : Lfts 1) (x : ArgsD closing_signature κs) (r : ℕ) (y : AtExit (ended_of 1 closing_kinds.ps closing_kinds.r) κs) → closing_reads.Post κs x r y →
      Writes closing (Asks Close) x.0.now y.0.now r
  writes_settling :
      (κs : Lfts 1) (x : ArgsD settling_signature κs) (r : ℕ) (y : AtExit (ended_of 1 settling_kinds.ps settling_kinds.r) κs) → settling_reads.Post κs x r y →
      Writes settling (Settle x.0) x.1.0.now y.1.0.now r

-- ---- the parts of the statement

pub of_writers : {M : Type 1} → EngineCorrect M → WritersExported M
of_writers s = s.exported.writers

module _ {M : Type 1} (e : WritersExported M) where
  pub writers_meet : WritersMeet M
  writers_meet = e.meets

  pub writers_ask : WritersAsk
  writers_ask = e.asks

  pub writers_return : WritersReturn
  writers_return = e.returns

  pub frame_decided :
      (o : Order) (old new new' : List ℕ) (r r' : ℕ) → FrameReturned o old new r → FrameReturned o old new' r' → (r ≡ r') × (new ≡ new')
  frame_decided o old new new' r r' w v = e.determined o old new new' r r' w v

-- ---- each meets its contract

module _ {M : Type 1} (e : WritersMeet M) where
  pub set_up_meets : set_up_states.statement M
  set_up_meets = e.write_set_up

  pub registration_meets : registration_states.statement M
  registration_meets = e.write_registration

  pub registration_for_meets : registration_for_states.statement M
  registration_for_meets = e.write_registration_for

  pub opening_meets : opening_states.statement M
  opening_meets = e.write_opening

  pub offer_meets : offer_states.statement M
  offer_meets = e.write_offer

  pub lodging_meets : lodging_states.statement M
  lodging_meets = e.write_lodging

  pub cancellation_meets : cancellation_states.statement M
  cancellation_meets = e.write_cancellation

  pub closing_meets : closing_states.statement M
  closing_meets = e.write_closing

  pub settling_meets : settling_states.statement M
  settling_meets = e.write_settling

-- ---- and asks nothing

module _ (e : WritersAsk) where
  pub set_up_asks_nothing : (κs : Lfts 1) (x : ArgsD set_up_signature κs) → set_up_reads.Pre κs x × set_up_reads.Asked κs x
  set_up_asks_nothing κs x = e.write_set_up κs x

  pub registration_asks_nothing : (κs : Lfts 2) (x : ArgsD registration_signature κs) → registration_reads.Pre κs x × registration_reads.Asked κs x
  registration_asks_nothing κs x = e.write_registration κs x

  pub registration_for_asks_nothing :
      (κs : Lfts 2) (x : ArgsD registration_for_signature κs) → registration_for_reads.Pre κs x × registration_for_reads.Asked κs x
  registration_for_asks_nothing κs x = e.write_registration_for κs x

  pub opening_asks_nothing : (κs : Lfts 1) (x : ArgsD opening_signature κs) → opening_reads.Pre κs x × opening_reads.Asked κs x
  opening_asks_nothing κs x = e.write_opening κs x

  pub offer_asks_nothing : (κs : Lfts 3) (x : ArgsD offer_signature κs) → offer_reads.Pre κs x × offer_reads.Asked κs x
  offer_asks_nothing κs x = e.write_offer κs x

  pub lodging_asks_nothing : (κs : Lfts 3) (x : ArgsD lodging_signature κs) → lodging_reads.Pre κs x × lodging_reads.Asked κs x
  lodging_asks_nothing κs x = e.write_lodging κs x

  pub cancellation_asks_nothing : (κs : Lfts 1) (x : ArgsD cancellation_signature κs) → cancellation_reads.Pre κs x × cancellation_reads.Asked κs x
  cancellation_asks_nothing κs x = e.write_cancellation κs x

  pub closing_asks_nothing : (κs : Lfts 1) (x : ArgsD closing_signature κs) → closing_reads.Pre κs x × closing_reads.Asked κs x
  closing_asks_nothing κs x = e.write_closing κs x

  pub settling_asks_nothing : (κs : Lfts 1) (x : ArgsD settling_signature κs) → settling_reads.Pre κs x × settling_reads.Asked κs x
  settling_asks_nothing κs x = e.write_settling κs x

-- ---- what it returns

module _ (e : WritersReturn) where
  pub set_up_returned : {o : Order} {old new : List ℕ} {r : ℕ} → Writes set_up_lem o old new r → FrameReturned o old new r
  set_up_returned (writes_set_up κs x r y q) = e.write_set_up κs x r y q

  pub registration_returned : {o : Order} {old new : List ℕ} {r : ℕ} → Writes registering o old new r → FrameReturned o old new r
  registration_returned (writes_registration κs x r y q) = e.write_registration κs x r y q

  pub registration_for_returned : {o : Order} {old new : List ℕ} {r : ℕ} → Writes registering_for o old new r → FrameReturned o old new r
  registration_for_returned (writes_registration_for κs x r y q) = e.write_registration_for κs x r y q

  pub opening_returned : {o : Order} {old new : List ℕ} {r : ℕ} → Writes opening o old new r → FrameReturned o old new r
  opening_returned (writes_opening κs x r y q) = e.write_opening κs x r y q

  pub offer_returned : {o : Order} {old new : List ℕ} {r : ℕ} → Writes offer o old new r → FrameReturned o old new r
  offer_returned (writes_offer κs x r y q) = e.write_offer κs x r y q

  pub lodging_returned : {o : Order} {old new : List ℕ} {r : ℕ} → Writes lodging o old new r → FrameReturned o old new r
  lodging_returned (writes_lodging κs x r y q) = e.write_lodging κs x r y q

  pub cancellation_returned : {o : Order} {old new : List ℕ} {r : ℕ} → Writes cancellation o old new r → FrameReturned o old new r
  cancellation_returned (writes_cancellation κs x r y q) = e.write_cancellation κs x r y q

  pub closing_returned : {o : Order} {old new : List ℕ} {r : ℕ} → Writes closing o old new r → FrameReturned o old new r
  closing_returned (writes_closing κs x r y q) = e.write_closing κs x r y q

  pub settling_returned : {o : Order} {old new : List ℕ} {r : ℕ} → Writes settling o old new r → FrameReturned o old new r
  settling_returned (writes_settling κs x r y q) = e.write_settling κs x r y q

  pub frame_returned : (c : Writer) {o : Order} {old new : List ℕ} {r : ℕ} → Writes c o old new r → FrameReturned o old new r
  frame_returned set_up_lem w = set_up_returned w
  frame_returned registering w = registration_returned w
  frame_returned registering_for w = registration_for_returned w
  frame_returned opening w = opening_returned w
  frame_returned offer w = offer_returned w
  frame_returned lodging w = lodging_returned w
  frame_returned cancellation w = cancellation_returned w
  frame_returned closing w = closing_returned w
  frame_returned settling w = settling_returned w

module _ {o : Order} {old new : List ℕ} {r : ℕ} (w : FrameReturned o old new r) where
  -- refused by 14 where the order is not writable, then by 13 where the buffer is too short
  pub frame_unwritable : writable_order o ≡ false → (r ≡ 2 ^ 64 - 14) × (new ≡ old)
  frame_unwritable e = w.unwritable e

  pub frame_too_long : writable_order o ≡ true → length old < length (frame_of_order o) → (r ≡ 2 ^ 64 - 13) × (new ≡ old)
  frame_too_long e h = w.too_short e h

  -- else the number of bytes of the frame, which stands over the buffer's start and reads back to the order
  pub frame_written :
      writable_order o ≡ true → length (frame_of_order o) ≤ length old →
      (r ≡ length (frame_of_order o)) × (new ≡ laid (frame_of_order o) old) × (order_in (line_of (raw_of o)) ≡ o)
  frame_written e h = w.accepted e h

module _ {M : Type 1} (s : EngineCorrect M) where
  pub frame_stated : (c : Writer) {o : Order} {old new : List ℕ} {r : ℕ} → Writes c o old new r → FrameReturned o old new r
  frame_stated c w = frame_returned (writers_return (of_writers s)) c w

  -- one order into buffers of equal bytes gives one number and one buffer, whichever of the calls asks it
  pub same_frame :
      (c c' : Writer) {o : Order} {old new new' : List ℕ} {r r' : ℕ} → Writes c o old new r → Writes c' o old new' r' → (r ≡ r') × (new ≡ new')
  same_frame c c' w v = frame_decided (of_writers s) _ _ _ _ _ _ (frame_stated c w) (frame_stated c' v)
