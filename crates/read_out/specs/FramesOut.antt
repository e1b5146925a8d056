-- READ OUT, frames written and read (document 02, 2): each writing call, by its own arguments x with the buffer last, writes the one frame of what they
-- ask, or leaves the buffer; and what is written is read back.
use Rattle.std.specs.Prelude.{ℕ, ◌≡◌, ◌⊎◌, List, length, Result}
use Rattle.std.proofs.Common.{sym, ◌∙◌, inl, inr}
use Rattle.std.proofs.Math.Decide.{ℕ_discrete as dec_eq}
use contract.Lifetimes.{Lfts}
use borrow.Fn.World.{ArgsD}
use Rattle.rules_numbers.specs.Tails.{laid}
use Rattle.rules_format.specs.Written.{line_of, writing_refusal}
use Rattle.rules_auction.specs.Ledger.{Offer, Lodge, Cancel, Open, By, Close}
use Rattle.rules_replies.specs.Orders.{Order, Asks, Settle, order_in}
use Rattle.rules_replies.specs.WrittenOrders.{raw_of, writable_order, frame_of_order}
use Rattle.engine_auction.specs.Called.{sets_up, registers, registers_for}
use Rattle.engine_refusals.specs.declared.Refusal.{Refusal}
use Rattle.frame_writing.specs.Encodes.{Written, written_in}
use Rattle.frame_writing.specs.each_call.Writes.{Writes}
use Rattle.frame_writing.specs.contracts.each_call.write_set_up.{signature as set_up_signature}
use Rattle.frame_writing.specs.contracts.each_call.write_registration.{signature as registration_signature}
use Rattle.frame_writing.specs.contracts.each_call.write_registration_for.{signature as registration_for_signature}
use Rattle.frame_writing.specs.contracts.each_call.write_opening.{signature as opening_signature}
use Rattle.frame_writing.specs.contracts.each_call.write_offer.{signature as offer_signature}
use Rattle.frame_writing.specs.contracts.each_call.write_lodging.{signature as lodging_signature}
use Rattle.frame_writing.specs.contracts.each_call.write_cancellation.{signature as cancellation_signature}
use Rattle.frame_writing.specs.contracts.each_call.write_closing.{signature as closing_signature}
use Rattle.frame_writing.specs.contracts.each_call.write_settling.{signature as settling_signature}
use Rattle.frame_writing.proofs.each_call.write_set_up.Reads as set_up_lem
use Rattle.frame_writing.proofs.each_call.write_registration.Reads as registration
use Rattle.frame_writing.proofs.each_call.write_registration_for.Reads as registration_for_lem
use Rattle.frame_writing.proofs.each_call.write_opening.Reads as opening
use Rattle.frame_writing.proofs.each_call.write_offer.Reads as offer
use Rattle.frame_writing.proofs.each_call.write_lodging.Reads as lodging
use Rattle.frame_writing.proofs.each_call.write_cancellation.Reads as cancellation
use Rattle.frame_writing.proofs.each_call.write_closing.Reads as closing
use Rattle.frame_writing.proofs.each_call.write_settling.Reads as settling
use Rattle.statement.specs.SameResults.{written_determines}
use Rattle.statement.specs.FramesStated.{FrameWritten}
use Rattle.statement.specs.EngineCorrect.{EngineCorrect}

-- ---- what is said of a frame: `old` and `new` are the lent buffer before and after

module _ {o : Order} {old new : List ℕ} {r : Written} (f : FrameWritten o old new r) where
  -- refused by 14 where the order is not writable, then by 13 where the buffer is too short
  pub frame_number : r.number ≡ writing_refusal (writable_order o) (frame_of_order o) (length old)
  frame_number = f.number

  -- written: it is laid over the buffer's start, and reads back to the order
  pub frame_laid : r.number ≡ 0 → (r.bytes ≡ length (frame_of_order o)) × (new ≡ laid (frame_of_order o) old) × (order_in (line_of (raw_of o)) ≡ o)
  frame_laid z = f.accepted z

  -- refused: nothing is told, and the buffer is as it was
  pub frame_refused : (r.number ≡ 0 → ⊥) → (r.bytes ≡ 0) × (new ≡ old)
  frame_refused z = f.refused z

-- a call, by what its contract says of its arguments (`Post`), writes the frame of this order
abbrev pub WritesFrame : {Y : Type 0} → (Result ℕ Refusal → Y → Type 0) → Order → List ℕ → (Y → List ℕ) → Type 0
WritesFrame {Y} Post o old buffer = (r : Result ℕ Refusal) (y : Y) → Post r y → FrameWritten o old (buffer y) (written_in r)

-- so for one set of arguments there is one answer and one buffer: the bytes of the frame are laid, or it is refused and the buffer left
module _ {Y : Type 0} {Post : Result ℕ Refusal → Y → Type 0} {o : Order} {old : List ℕ} {buffer : Y → List ℕ} (writes : WritesFrame Post o old buffer) where
  pub laid_or_left :
      (r : Result ℕ Refusal) (y : Y) → Post r y →
      (((written_in r).number ≡ 0) × (buffer y ≡ laid (frame_of_order o) old)) ⊎ (((written_in r).number ≡ 0 → ⊥) × (buffer y ≡ old))
  laid_or_left r y q = go (dec_eq (written_in r).number 0)
    where
      go :
          Dec ((written_in r).number ≡ 0) →
          (((written_in r).number ≡ 0) × (buffer y ≡ laid (frame_of_order o) old)) ⊎ (((written_in r).number ≡ 0 → ⊥) × (buffer y ≡ old))
      go (yes z) = inl (z, (frame_laid (writes r y q) z).1)
      go (no z) = inr (z, (frame_refused (writes r y q) z).1)

  pub one_frame : (r r' : Result ℕ Refusal) (y y' : Y) → Post r y → Post r' y' → (r ≡ r') × (buffer y ≡ buffer y')
  one_frame r r' y y' q q' = go (dec_eq (written_in r).number 0)
    where
      same : (written_in r).number ≡ (written_in r').number
      same = frame_number (writes r y q) ∙ sym (frame_number (writes r' y' q'))

      alike : (written_in r).bytes ≡ (written_in r').bytes → r ≡ r'
      alike e = written_determines r r' (λ i. record { number = same i; bytes = e i })

      go : Dec ((written_in r).number ≡ 0) → (r ≡ r') × (buffer y ≡ buffer y')
      go (yes z) =
          let a = frame_laid (writes r y q) z in
          let b = frame_laid (writes r' y' q') (sym same ∙ z) in
          (alike (a.0 ∙ sym b.0), a.1 ∙ sym b.1)
      go (no z) =
          let a = frame_refused (writes r y q) z in
          let b = frame_refused (writes r' y' q') (λ h. z (same ∙ h)) in
          (alike (a.0 ∙ sym b.0), a.1 ∙ sym b.1)

module _ {M : Type 1} (s : EngineCorrect M) where
  -- ---- the nine writing calls, in the order of an auction's life; `laid_or_left` and `one_frame` conclude of each

  -- CE, D, M1, M2, A
  pub set_up_frame : (κs : Lfts 1) (x : ArgsD set_up_signature κs) →
      WritesFrame (set_up_lem.Post κs x) (Asks (sets_up x.0 x.1.0 x.1.1.0 x.1.1.1.0 x.1.1.1.1.0))
      x.1.1.1.1.1.0.now (λ y. y.1.1.1.1.1.0.now)
  set_up_frame κs x = s.frames.by_arguments.set_up_written κs x

  -- project, developer, kind, study value, start day, levels
  pub registration_frame : (κs : Lfts 2) (x : ArgsD registration_signature κs) →
      WritesFrame (registration.Post κs x) (Asks (registers x.0 x.1.0 x.1.1.0 x.1.1.1.0 x.1.1.1.1.0 x.1.1.1.1.1.0.now))
      x.1.1.1.1.1.1.0.now (λ y. y.1.1.1.1.1.1.0.now)
  registration_frame κs x = s.frames.by_arguments.registration_written κs x

  -- the same with the agent behind the kind (document 02, 10)
  pub registration_for_frame : (κs : Lfts 2) (x : ArgsD registration_for_signature κs) →
      WritesFrame (registration_for_lem.Post κs x)
      (Asks (registers_for x.0 x.1.0 x.1.1.0 x.1.1.1.0 x.1.1.1.1.0 x.1.1.1.1.1.0 x.1.1.1.1.1.1.0.now))
      x.1.1.1.1.1.1.1.0.now (λ y. y.1.1.1.1.1.1.1.0.now)
  registration_for_frame κs x = s.frames.by_arguments.registration_for_written κs x

  -- C
  pub opening_frame : (κs : Lfts 1) (x : ArgsD opening_signature κs) →
      WritesFrame (opening.Post κs x) (Asks (Open x.0)) x.1.0.now (λ y. y.1.0.now)
  opening_frame κs x = s.frames.by_arguments.opening_written κs x

  -- developer, prices, levels
  pub offer_frame : (κs : Lfts 3) (x : ArgsD offer_signature κs) →
      WritesFrame (offer.Post κs x) (Asks (By x.0 (Offer x.1.0.now x.1.1.0.now))) x.1.1.1.0.now (λ y. y.1.1.1.0.now)
  offer_frame κs x = s.frames.by_arguments.offer_written κs x

  -- the same, lodged (document 02, 5)
  pub lodging_frame : (κs : Lfts 3) (x : ArgsD lodging_signature κs) →
      WritesFrame (lodging.Post κs x) (Asks (By x.0 (Lodge x.1.0.now x.1.1.0.now))) x.1.1.1.0.now (λ y. y.1.1.1.0.now)
  lodging_frame κs x = s.frames.by_arguments.lodging_written κs x

  -- developer (document 02, 7)
  pub cancellation_frame : (κs : Lfts 1) (x : ArgsD cancellation_signature κs) →
      WritesFrame (cancellation.Post κs x) (Asks (By x.0 Cancel)) x.1.0.now (λ y. y.1.0.now)
  cancellation_frame κs x = s.frames.by_arguments.cancellation_written κs x

  -- the buffer alone
  pub closing_frame : (κs : Lfts 1) (x : ArgsD closing_signature κs) → WritesFrame (closing.Post κs x) (Asks Close) x.0.now (λ y. y.0.now)
  closing_frame κs x = s.frames.by_arguments.closing_written κs x

  -- limit
  pub settling_frame : (κs : Lfts 1) (x : ArgsD settling_signature κs) → WritesFrame (settling.Post κs x) (Settle x.0) x.1.0.now (λ y. y.1.0.now)
  settling_frame κs x = s.frames.by_arguments.settling_written κs x

  -- whatever writes an order as all nine contracts say writes its frame
  pub order_frame : (o : Order) (old : List ℕ) → WritesFrame (λ r new. Writes o old new (written_in r)) o old (λ new. new)
  order_frame o old r new w = s.frames.answered o old new (written_in r) w
