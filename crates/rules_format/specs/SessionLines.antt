-- The lines of a session (docs/FORMAT.md, sessions): each names a seat by four digits, then comes a frame. A session's lines end as a record's do, and
-- its frames are by the same table.
use Rattle.std.specs.Prelude.{ℕ, ◌+◌, ◌^◌, Bool, cond, ◌&&◌, List, ◌++◌, leb, ltb, eqb, length, take, drop}
use Rattle.std.proofs.Math.Option.{Option, none, some}
use Rattle.rules_format.specs.Hex.{all_hex, digits, hex_number}
use Rattle.rules_format.specs.Fields.{RawCall, read, longest_line}
use Rattle.rules_format.specs.Written.{line_of, frame_of, writable}

-- ---- the seat

-- 00 the auctioneer and 01 the auditor, both with number 00; 02 the developer of the number, whichever it is
unfoldable pub is_seat : ℕ → ℕ → Bool
is_seat kind number = cond (leb kind 1) (eqb number 0) (eqb kind 2)

-- a seat, 2 digits the kind and 2 the number
unfoldable pub seat_text : ℕ → ℕ → List ℕ
seat_text kind number = digits 2 kind ++ digits 2 number

-- a seat whose number has two digits. What writing it into a lent buffer answers is as for frames: 14 where it is not writable, 13 where the buffer is
-- shorter than its four digits (`refusal`, `written` and `lent_frame` in Written)
unfoldable pub writable_seat : ℕ → ℕ → Bool
writable_seat kind number = is_seat kind number && ltb number (16 ^ 2)

-- ---- reading

-- the characters that name the seat; with the longest frame behind them a line has at most 164
abbrev pub seat_width : ℕ
seat_width = 4

abbrev pub longest_session_line : ℕ
longest_session_line = seat_width + longest_line

unfoldable pub seat_kind : List ℕ → ℕ
seat_kind l = hex_number (take 2 l)

unfoldable pub seat_number : List ℕ → ℕ
seat_number l = hex_number (take 2 (drop 2 l))

-- the frame, behind the seat
abbrev pub frame_in : List ℕ → List ℕ
frame_in l = drop seat_width l

-- the line begins with four digits that name a seat
unfoldable pub names_seat : List ℕ → Bool
names_seat l = leb seat_width (length l) && all_hex (take seat_width l) && is_seat (seat_kind l) (seat_number l)

-- a call through a seat as its line says it
pub record RawSeated : Type 0 where
  pub kind : ℕ
  pub number : ℕ
  pub call : RawCall

abbrev pub raw_seated : ℕ → ℕ → RawCall → RawSeated
raw_seated k n c = record { kind = k; number = n; call = c }

abbrev pub with_seat : ℕ → ℕ → Option RawCall → Option RawSeated
with_seat k n none = none
with_seat k n (some c) = some (raw_seated k n c)

-- the seat and the call of a line; none of one that names no seat, or whose frame is malformed
unfoldable pub read_seated : List ℕ → Option RawSeated
read_seated l = cond (names_seat l) (with_seat (seat_kind l) (seat_number l) (read (frame_in l))) none

-- ---- writing: the seat, and the frame behind it

unfoldable pub writable_seated : RawSeated → Bool
writable_seated s = writable_seat s.kind s.number && writable s.call

unfoldable pub seated_line_of : RawSeated → List ℕ
seated_line_of s = seat_text s.kind s.number ++ line_of s.call

unfoldable pub seated_frame_of : RawSeated → List ℕ
seated_frame_of s = seat_text s.kind s.number ++ frame_of s.call
