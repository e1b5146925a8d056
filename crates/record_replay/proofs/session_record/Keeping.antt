-- What the plain record has of a line, as it is read and written: nothing, or the frame and then its 0A into the tail behind it.
use Prim.Native.Nat.{ℕ, ◌+◌, ◌-◌, ◌≤◌, ◌<◌}
use mathlib.Core.Path.{◌≡◌, refl, sym, ap, ◌∙◌}
use mathlib.Core.Bool.{Bool, true, false, cond, not, ◌&&◌, ◌||◌}
use mathlib.Core.Logic.{⊎_elim}
use mathlib.Core.List.{List, [], ◌∷◌, ◌++◌}
use mathlib.Core.Option.{some}
use native.Mathlib.Omega.{arith}
use lib.Dec.{eqb}
use lib.ListN.{length, take, drop, get_or, length-drop}
use borrow.Author.Tests.{eqb-true}
use borrow.Rule.Slice.PartMut.{put_mid, mid_of}
use Rattle.rules_numbers.specs.Cases.{or_true}
use Rattle.rules_numbers.specs.Tails.{laid, length_laid, tail_is, grow}
use Rattle.rules_format.specs.Hex.{hex_number}
use Rattle.rules_format.specs.Fields.{known, fixed, fields_at, kind_of, asked_widths, call_of, read}
use Rattle.rules_format.specs.FieldLaws.{WellFormed, reads}
use Rattle.rules_format.specs.SessionLines.{seat_kind, seat_number, names_seat}
use Rattle.rules_seats.specs.Seats.{Seat, may_conduct, may_offer_for, may_settle}
use Rattle.rules_seats.specs.sessions.Sessions.{seat_by}
use Rattle.rules_seats.specs.sessions.SeatedLines.{line_barred, barred_by_kind}
use Rattle.frame_reading.specs.frames.KindsRead.{kind_in, kind_formed, none_read, some_read, first_there}
use Rattle.seats.specs.session_lines.FrameParts.{frame_behind}
use Rattle.seats.specs.session_lines.FramePartLaws.{barred_read}
use Rattle.record_replay.specs.session_record.KeptFrames.{kept_frame, kept_text}
use Rattle.record_replay.specs.session_record.KeptFrameLaws.{none_kept, barred_left, frame_kept, no_text, text_is, text_long}

-- ---- the frame

-- offers and cancellations are barred by the developer behind their kind, all else by the kind alone
module _ (s : Seat) (l : List ℕ) (w : WellFormed l) (first : ℕ) (g : 4 ≤ length l → first ≡ hex_number (take 2 (drop 2 l))) where
  abbrev k : ℕ
  k = kind_of l

  abbrev fields : List ℕ
  fields = fields_at (asked_widths l) (drop 2 l)

  named : (j : ℕ) (ws : List ℕ) → fixed j ≡ 2 ∷ ws → eqb k j ≡ true → first ≡ get_or fields 0 0
  named j ws f e = let there = first_there l w j ws (eqb-true k j e) f in g there.0 ∙ there.1

  barred_by_developer : barred_by_kind s k (first ∷ []) ≡ barred_by_kind s k (get_or fields 0 0 ∷ [])
  unfolding barred_by_kind fixed
  barred_by_developer = go (eqb k 4 || eqb k 9) refl
    where
      go :
          (b : Bool) → eqb k 4 || eqb k 9 ≡ b →
          cond b (not (may_offer_for s first)) (cond (eqb k 6) (not (may_settle s)) (known k && not (may_conduct s)))
          ≡ cond b (not (may_offer_for s (get_or fields 0 0))) (cond (eqb k 6) (not (may_settle s)) (known k && not (may_conduct s)))
      go true e = ap (λ (d : ℕ). not (may_offer_for s d)) (⊎_elim (named 4 _ refl) (named 9 _ refl) (or_true (eqb k 4) (eqb k 9) e))
      go false e = refl

module _ (line : List ℕ) (kind : ℕ) (e : kind ≡ kind_in (frame_behind line)) where
  pub nothing_kept : kind ≡ 0 → kept_frame line ≡ []
  nothing_kept z = none_kept line (none_read (frame_behind line) (sym e ∙ z))

  -- b says whether the line is barred, by the frame's kind and the developer behind it
  module _
      (h : kind ≡ 0 → ⊥) (first : ℕ) (g : 4 ≤ length (frame_behind line) → first ≡ hex_number (take 2 (drop 2 (frame_behind line)))) (b : Bool)
      (t : b ≡ names_seat line && barred_by_kind (seat_by (seat_kind line) (seat_number line)) kind (first ∷ [])) where
    formed : WellFormed (frame_behind line)
    formed = some_read (frame_behind line) (λ z. h (e ∙ z))

    pub frame_there : 0 < length (frame_behind line)
    frame_there = omega (arith, formed.exact)

    call : read (frame_behind line) ≡ some (call_of (frame_behind line))
    call = reads (frame_behind line) formed

    barred : b ≡ line_barred line
    unfolding call_of
    barred =
        let s : Seat = seat_by (seat_kind line) (seat_number line) in
        let k : kind ≡ kind_of (frame_behind line) = e ∙ sym (kind_formed (frame_behind line) formed) in
        t ∙ ap (λ (x : Bool). names_seat line && x)
        (ap (λ (j : ℕ). barred_by_kind s j (first ∷ [])) k ∙ barred_by_developer s (frame_behind line) formed first g)
        ∙ barred_read line _ _ call

    pub barred_dropped : b ≡ true → kept_frame line ≡ []
    barred_dropped z = barred_left line _ call (sym barred ∙ z)

    pub frame_stays : b ≡ false → frame_behind line ≡ kept_frame line
    frame_stays z = sym (frame_kept line _ call (sym barred ∙ z))

-- ---- its text

module _ (line : List ℕ) (e : kept_frame line ≡ []) where
  pub size_none : 0 ≡ length (kept_text line)
  size_none = sym (ap length (no_text line (ap length e)))

  pub put_none : (old : List ℕ) → (0 ≡ length (kept_text line)) × (old ≡ laid (kept_text line) old)
  unfolding laid
  put_none old = (size_none, ap (λ (t : List ℕ). laid t old) (sym (no_text line (ap length e))))

module _ (line frame : List ℕ) (e : frame ≡ kept_frame line) where
  some_kept : 0 < length frame → length (kept_frame line) ≡ 0 → ⊥
  some_kept h z = omega (arith, h, ap length e, z)

  pub size_some : 0 < length frame → length frame + 1 ≡ length (kept_text line)
  size_some h = ap (λ (x : List ℕ). length x + 1) e ∙ sym (text_long line (some_kept h))

  -- in a buffer that it fits
  module _ (old : List ℕ) (room : length (kept_text line) ≤ length old) where
    abbrev Put : ℕ → List ℕ → Type 0
    Put n new = (n ≡ length (kept_text line)) × (new ≡ laid (kept_text line) old)

    module _ (h : 0 < length frame) where
      pub frame_room : length frame + 1 ≤ length old
      frame_room = omega (arith, size_some h)

      -- the frame stands there
      module _ (xs : List ℕ) (there : xs ≡ laid frame old) where
        pub frame_same : length xs ≡ length old
        frame_same = ap length there ∙ length_laid frame old (omega (arith, frame_room))

        pub end_room : 1 ≤ length (mid_of (length frame) (length xs - length frame) xs)
        end_room = rw tail_is (omega (arith, frame_room, frame_same, length-drop (length frame) xs))

        pub put_some :
            (ys : List ℕ) → ys ≡ laid (10 ∷ []) (mid_of (length frame) (length xs - length frame) xs) →
            Put (length frame + 1) (put_mid (length frame) (length xs - length frame) xs ys)
        put_some ys then = (
          size_some h,
          grow frame (10 ∷ []) old xs ys (length frame) there refl then
              ∙ ap (λ (t : List ℕ). laid t old) (ap (λ (x : List ℕ). x ++ (10 ∷ [])) e ∙ sym (text_is line (some_kept h))),
        )
