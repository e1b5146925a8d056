-- A move's steps stand in two columns, prices and levels, as many as the frame's line has room for.
use Rattle.std.specs.Prelude.{ℕ, ◌+◌, ◌*◌, ◌≤◌, ◌<◌, ◌^◌, ◌≡◌, refl, [], ◌∷◌, get_or}
use Rattle.std.proofs.Math.Path.{ap}
use native.Mathlib.Omega.{arith}
use Rattle.std.proofs.Math.ListN.{length}
use Rattle.rules_numbers.specs.Lists.{total}
use Rattle.rules_format.specs.Fields.{listed, fixed, each}
use Rattle.frame_reading.specs.declared.frames.Frame.{Frame}
use Rattle.frame_reading.specs.arguments.FrameFields.{fields_in, Framed, Stepped}
use Rattle.frame_reading.specs.arguments.FieldColumns.{below, below_behind, listed_count}

-- the kinds of the table that are so
pub offer_stepped : (f : Frame) → Framed 4 f → Stepped f
unfolding fixed each
offer_stepped f w = record { of = 4; framed = w; widths = refl; pairs = refl }

pub lodge_stepped : (f : Frame) → Framed 7 f → Stepped f
unfolding fixed each
lodge_stepped f w = record { of = 7; framed = w; widths = refl; pairs = refl }

module _ (f : Frame) (w : Stepped f) where
  -- how many follow
  pub counted : (length (fields_in f) ≡ 2 + 2 * get_or (fields_in f) 1 0) × (get_or (fields_in f) 1 0 ≤ 9)
  unfolding total
  counted =
      let some : 0 < length (fixed w.of) = omega (arith, ap length w.widths) in
      let n = rw (w.widths, w.pairs) at (listed_count w.of f w.framed some) in
      (omega arith, omega arith)

  pub byte_below : (j : ℕ) → 16 ^ get_or (2 ∷ 2 ∷ []) j listed ≡ 256 → get_or (fields_in f) j 0 < 256
  byte_below j e = below w.of f w.framed j 256 (rw w.widths e)

  pub word_below : (j : ℕ) → 2 ≤ j → get_or (fields_in f) j 0 < 2 ^ 32
  word_below j h = below_behind w.of f w.framed j (rw w.widths h)
