-- Laws of writing, as the code writes: each answer by its test.
use Rattle.std.specs.Prelude.{ℕ, ◌+◌, ◌≤◌, ◌<◌, ◌≡◌, Bool, true, false, List, length, Some, None, Ok, Err}
use Rattle.std.proofs.Common.{sym, arith}
use Rattle.rules_numbers.specs.Tails.{laid}
use Rattle.rules_format.specs.Fields.{RawCall, raw_call}
use Rattle.rules_format.specs.Written.{line_of, frame_of, writable}
use Rattle.rules_format.specs.WrittenLaws as laws
use Rattle.rules_format.specs.WrittenLaws.{length_line, length_frame}
use Rattle.engine_refusals.specs.declared.Refusal.TheVariants.{FrameBufferTooShort, NotWritable}
use Rattle.frame_writing.specs.frame_sizes.FrameSizes.{frame_size}
use Rattle.frame_writing.specs.frame_sizes.FrameSizeLaws.{size_none, size_some}
use Rattle.frame_writing.specs.Encodes.{written_in, WritesFrame, Encodes}

-- ---- refused, or written

module _ (ok : Bool) (frame old : List ℕ) where
  pub not_writable : ok ≡ false → WritesFrame ok frame old old (written_in (Err NotWritable))
  not_writable e = let a = laws.not_writable ok frame old e in record { number = sym a.0; bytes = sym a.1; buffer = sym a.2 }

  too_short : ok ≡ true → length old < length frame → WritesFrame ok frame old old (written_in (Err FrameBufferTooShort))
  too_short e h = let a = laws.too_short ok frame old e h in record { number = sym a.0; bytes = sym a.1; buffer = sym a.2 }

  is_written : (n : ℕ) → n ≡ length frame → ok ≡ true → length frame ≤ length old → WritesFrame ok frame old (laid frame old) (written_in (Ok n))
  is_written n b e h = let a = laws.is_written ok frame old e h in record { number = sym a.0; bytes = rw b (sym a.1); buffer = sym a.2 }

-- ---- by the size of the frame

module _ (k : ℕ) (ns old : List ℕ) where
  abbrev c : RawCall
  c = raw_call k ns

  pub encode_none : frame_size c ≡ None → Encodes c old old (written_in (Err NotWritable))
  encode_none e = not_writable _ _ _ (size_none k ns e)

  -- a frame of this size: the call is writable, and its frame is its line and one byte more
  module _ (size : ℕ) (e : frame_size c ≡ Some size) where
    pub encode_size : (writable c ≡ true) × (size ≡ length (frame_of c)) × (size ≡ length (line_of c) + 1)
    encode_size = let w = size_some k ns size e in (w.0, w.1, omega (arith, w.1, length_frame c, length_line c))

    pub encode_short : length old < size → Encodes c old old (written_in (Err FrameBufferTooShort))
    encode_short h = let w = encode_size in too_short _ _ _ w.0 (omega (arith, w.1))

    pub encode_written : size ≤ length old → Encodes c old (laid (frame_of c) old) (written_in (Ok size))
    encode_written h = let w = encode_size in is_written _ _ _ size w.1 w.0 (omega (arith, w.1))
