-- The frame of a call, which calls are writable, and what writing a frame into a lent buffer answers (document 02, 2).
use Rattle.std.specs.Prelude.{ℕ, ◌^◌, Bool, true, false, cond, ◌&&◌, List, [], ◌∷◌, ◌++◌, leb, ltb, eqb, length}
use Rattle.rules_numbers.specs.Tails.{laid}
use Rattle.rules_format.specs.Hex.{digits}
use Rattle.rules_format.specs.Fields.{RawCall, known, repeats, layout, text_at, longest_line}

-- ---- the frame

-- the widths that a call's own kind and count ask
unfoldable pub written_widths : RawCall → List ℕ
written_widths c = layout c.kind (repeats c.kind c.fields)

-- the kind in 2 digits, then the fields at their widths, by the table that the reader uses
unfoldable pub line_of : RawCall → List ℕ
line_of c = digits 2 c.kind ++ text_at (written_widths c) c.fields

-- the line with its 0A
unfoldable pub frame_of : RawCall → List ℕ
frame_of c = line_of c ++ (10 ∷ [])

-- ---- what is writable

-- a field for each width, and each fits its own
unfoldable pub fit : List ℕ → List ℕ → Bool
fit [] [] = true
fit [] (n ∷ ns) = false
fit (w ∷ ws) [] = false
fit (w ∷ ws) (n ∷ ns) = ltb n (16 ^ w) && fit ws ns

-- a kind of the table, fields that fit, and at most 160 characters
unfoldable pub writable : RawCall → Bool
writable c = known c.kind && fit (written_widths c) c.fields && leb (length (line_of c)) longest_line

-- ---- what writing answers

-- 14 where the call is not writable, tested first; 13 where the buffer is too short for the frame, tested last; else 0
unfoldable pub writing_refusal : Bool → List ℕ → ℕ → ℕ
writing_refusal ok frame room = cond ok (cond (leb (length frame) room) 0 13) 14

-- the number of bytes written, 0 in a refusal
unfoldable pub written : Bool → List ℕ → ℕ → ℕ
written ok frame room = cond (eqb (writing_refusal ok frame room) 0) (length frame) 0

-- the lent buffer afterwards: the frame, then its old bytes; a refusal leaves every byte
unfoldable pub lent_frame : Bool → List ℕ → List ℕ → List ℕ
lent_frame ok frame old = cond (eqb (writing_refusal ok frame (length old)) 0) (laid frame old) old
