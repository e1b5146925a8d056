-- The frame of a line asks what the line asks, says by its kind and first field whether the line is barred, and is then of the reply's kind.
use Rattle.std.specs.Prelude.{ℕ, ◌≡◌, Bool, List, get_or}
use Rattle.std.proofs.Math.Path.{refl, sym, ap}
use Rattle.std.proofs.Common.{subst, ◌∙◌}
use Rattle.std.proofs.Math.Bool.{true, false}
use Rattle.std.proofs.lemmas.Bool.{false≢true}
use Rattle.std.proofs.Math.Dec.{eqb}
use borrow.Author.Tests.{eqb-true, eqb-false}
use Rattle.rules_format.specs.Fields.{read}
use Rattle.rules_format.specs.SessionLines.{seat_kind, seat_number}
use Rattle.rules_replies.specs.Orders.{Order, ordered, order_in}
use Rattle.rules_seats.specs.Seats.{Seat}
use Rattle.rules_seats.specs.sessions.Sessions.{seat_by}
use Rattle.rules_seats.specs.sessions.SeatedLines.{order_kind, is_barred}
use Rattle.rules_seats.specs.sessions.LinesRead.{order_as, barred_as}
use Rattle.rules_seats.specs.sessions.LinesReadLaws.{barred_frame, kind_barred}
use Rattle.seats.specs.session_lines.FramePartLaws.{frame_asks, barred_read, unread_free}
use Rattle.frame_reading.specs.frames.Decoded.{call_in, call_none, call_some}
use Rattle.frame_reading.specs.declared.frames.Frame.{Frame}
use Rattle.frame_reading.specs.arguments.FrameFields.{fields_in}
use Rattle.record_lines.specs.line_seats.FrameParts.{frame_part, barred_by}

module _ (line : List ℕ) (f : Frame) where
  pub order_read : (seated : Bool) → call_in f ≡ read (frame_part seated line) → order_as seated line ≡ ordered (call_in f)
  unfolding order_as order_in
  order_read false e = sym (ap ordered e)
  order_read true e = sym (frame_asks line) ∙ sym (ap ordered e)

  pub barred_by_lem : (seated : Bool) → call_in f ≡ read (frame_part seated line) → barred_by seated line f.kind (get_or (fields_in f) 0 0) ≡ barred_as seated line
  unfolding barred_as fields_in
  barred_by_lem false e = refl
  barred_by_lem true e = go (eqb f.kind 0) refl
    where
      go : (b : Bool) → eqb f.kind 0 ≡ b → barred_by true line f.kind (get_or (fields_in f) 0 0) ≡ barred_as true line
      go true z = let k = eqb-true f.kind 0 z in rw k (unread_free line _ (sym e ∙ call_none f k))
      go false z = barred_read line f.kind (fields_in f) (sym e ∙ call_some f (eqb-false f.kind 0 z))

  pub barred_as_asked : (seated : Bool) → call_in f ≡ read (frame_part seated line) → barred_as seated line ≡ true → order_kind (order_as seated line) ≡ f.kind
  unfolding barred_as is_barred ordered fields_in order_as
  barred_as_asked false e t = absurd (false≢true t)
  barred_as_asked true e t = ap order_kind o ∙ go (eqb f.kind 0) refl (subst (λ (x : Order). is_barred seat x ≡ true) o (barred_frame line t))
    where
      seat : Seat
      seat = seat_by (seat_kind line) (seat_number line)

      o : order_as true line ≡ ordered (call_in f)
      o = order_read true e

      go : (b : Bool) → eqb f.kind 0 ≡ b → is_barred seat (ordered (call_in f)) ≡ true → order_kind (ordered (call_in f)) ≡ f.kind
      go true z h = absurd (false≢true (rw (call_none f (eqb-true f.kind 0 z)) at h))
      go false z h = let q = call_some f (eqb-false f.kind 0 z) in rw q (kind_barred seat f.kind (fields_in f) (rw q at h))
