-- Laws of a session's line as a loop reads it: it has room for its seat, its frame asks what the line asks, and that frame's kind and first field say
-- whether the seat is barred, and so whether the plain record keeps it.
use Rattle.std.specs.Prelude.{ℕ, ◌≤◌, ◌<◌, Bool, cond, not, ◌&&◌, List, [], ◌∷◌, length, get_or}
use Rattle.std.proofs.Math.Path.{◌≡◌, refl, sym, ap}
use Rattle.std.proofs.Common.{◌∙◌, leb-true}
use Rattle.std.proofs.Math.Bool.{true, false, not-not}
use Rattle.std.proofs.lemmas.Bool.{false≢true}
use Rattle.std.proofs.Math.Option.{Option, none, some}
use native.Mathlib.Omega.{arith}
use Rattle.rules_numbers.specs.Cases.{and_true}
use Rattle.rules_numbers.specs.Lists.{any}
use Rattle.rules_format.specs.Fields.{known, RawCall, raw_call, read}
use Rattle.rules_format.specs.FieldLaws.{reads_none, was_read}
use Rattle.rules_format.specs.SessionLines.{seat_width, seat_kind, seat_number, frame_in, names_seat}
use Rattle.rules_replies.specs.Orders.{Order, Malformed, Asks, Settle, ordered, order_in}
use Rattle.rules_replies.specs.WrittenOrderLaws.{well_formed_asks}
use Rattle.rules_seats.specs.Seats.{Seat, may_make, may_settle}
use Rattle.rules_seats.specs.sessions.Sessions.{seat_by, Unread, asked_through, is_permitted}
use Rattle.rules_seats.specs.sessions.SessionLaws.{seated_order_is, allowed}
use Rattle.rules_seats.specs.sessions.SeatedLines.{is_barred, order_behind, line_barred, barred_by_kind, barred_by_kind_lem}
use Rattle.seats.specs.session_lines.FrameParts.{frame_behind}

-- a line that names a seat has its four characters
pub seat_fits : (line : List ℕ) → names_seat line ≡ true → seat_width ≤ length line
unfolding names_seat
seat_fits line e = leb-true seat_width (length line) (and_true _ _ (and_true _ _ e).0).0

-- nothing is malformed
pub nothing_read : read [] ≡ none
nothing_read = reads_none [] (λ w. omega (arith, w.exact))

-- so the frame asks what the line asks
pub frame_asks : (line : List ℕ) → order_in (frame_behind line) ≡ order_behind line
unfolding frame_behind order_behind order_in ordered
frame_asks line = go (names_seat line)
  where
    go : (b : Bool) → ordered (read (cond b (frame_in line) [])) ≡ cond b (ordered (read (frame_in line))) Malformed
    go true = refl
    go false = ap ordered nothing_read

-- ---- what bars a line, by the call that its frame reads as

abbrev named_seat : List ℕ → Seat
named_seat line = seat_by (seat_kind line) (seat_number line)

by_first : (s : Seat) (k : ℕ) (ns : List ℕ) → barred_by_kind s k (get_or ns 0 0 ∷ []) ≡ barred_by_kind s k ns
unfolding barred_by_kind
by_first s k ns = refl

module _ (line : List ℕ) where
  abbrev s : Seat
  s = named_seat line

  -- the call's kind and first field
  pub barred_read :
      (k : ℕ) (ns : List ℕ) → read (frame_behind line) ≡ some (raw_call k ns) → names_seat line && barred_by_kind s k (get_or ns 0 0 ∷ []) ≡ line_barred line
  unfolding frame_behind line_barred order_in ordered
  barred_read k ns e = go (names_seat line) e
    where
      go :
          (b : Bool) → read (cond b (frame_in line) []) ≡ some (raw_call k ns) →
          b && barred_by_kind s k (get_or ns 0 0 ∷ []) ≡ b && is_barred s (ordered (read (frame_in line)))
      go true h = by_first s k ns ∙ sym (barred_by_kind_lem s k ns) ∙ sym (ap (λ (r : Option RawCall). is_barred s (ordered r)) h)
      go false h = refl

  -- none of what cannot be read, of which the kind is 0
  pub unread_free : (first : ℕ) → read (frame_behind line) ≡ none → names_seat line && barred_by_kind s 0 (first ∷ []) ≡ line_barred line
  unfolding frame_behind line_barred order_in ordered barred_by_kind is_barred known any
  unread_free first e = go (names_seat line) e
    where
      go :
          (b : Bool) → read (cond b (frame_in line) []) ≡ none →
          b && barred_by_kind s 0 (first ∷ []) ≡ b && is_barred s (ordered (read (frame_in line)))
      go true h = sym (ap (λ (r : Option RawCall). is_barred s (ordered r)) h)
      go false h = refl

-- ---- which lines the plain record keeps

-- what can be read and is not barred
permits : (s : Seat) (o : Order) → (o ≡ Malformed → ⊥) → is_permitted (asked_through s o) ≡ not (is_barred s o)
unfolding is_permitted is_barred
permits s Malformed h = absurd (h refl)
permits s (Asks c) h = sym (not-not (may_make s c))
permits s (Settle limit) h = sym (not-not (may_settle s))

module _ (line : List ℕ) where
  pub unread_left : read (frame_behind line) ≡ none → allowed line ≡ false
  unfolding frame_behind order_in ordered is_permitted
  unread_left e = ap is_permitted (seated_order_is line) ∙ go (names_seat line) e
    where
      go : (b : Bool) → read (cond b (frame_in line) []) ≡ none → is_permitted (cond b (asked_through (named_seat line) (order_in (frame_in line))) Unread) ≡ false
      go true h = ap (λ (r : Option RawCall). is_permitted (asked_through (named_seat line) (ordered r))) h
      go false h = refl

  pub read_allowed : (c : RawCall) → read (frame_behind line) ≡ some c → (allowed line ≡ not (line_barred line)) × (frame_behind line ≡ frame_in line)
  unfolding frame_behind line_barred
  read_allowed c e = let g = go (names_seat line) e in (ap is_permitted (seated_order_is line) ∙ g.0, g.1)
    where
      no : ◌≡◌ {A = Option RawCall} none (some c) → ⊥
      no h = let z : ◌≡◌ {A = ℕ} 0 1 = cc in omega arith

      go :
          (b : Bool) → read (cond b (frame_in line) []) ≡ some c →
          (is_permitted (cond b (asked_through (named_seat line) (order_in (frame_in line))) Unread) ≡ not (b && is_barred (named_seat line) (order_in (frame_in line))))
          × (cond b (frame_in line) [] ≡ frame_in line)
      go true h = (permits (named_seat line) (order_in (frame_in line)) (well_formed_asks (frame_in line) (was_read (frame_in line) c h).0), refl)
      go false h = absurd (no (sym nothing_read ∙ h))

-- and a kept frame is not empty
pub kept_frame_lem : (line : List ℕ) → allowed line ≡ true → 0 < length (frame_in line)
kept_frame_lem line e = go (read (frame_behind line)) refl
  where
    go : (r : Option RawCall) → read (frame_behind line) ≡ r → 0 < length (frame_in line)
    go none h = absurd (false≢true (sym (unread_left line h) ∙ e))
    go (some c) h =
        let w = (was_read (frame_in line) c (ap read (sym (read_allowed line c h).1) ∙ h)).0 in
        omega (arith, w.exact)
