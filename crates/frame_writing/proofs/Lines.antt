-- A line written: the kind's digits, then the text of the fields into the tail behind them.
use Prim.Native.Nat.{ℕ, ◌-◌, ◌≤◌, ◌<◌}
use mathlib.Core.Path.{◌≡◌, sym, ap, ◌∙◌}
use mathlib.Core.List.{List, [], ◌∷◌, ◌++◌}
use native.Mathlib.Omega.{arith}
use borrow.Rule.Slice.PartMut.{put_mid, mid_of}
use lib.ListN.{length, length-drop}
use Rattle.rules_numbers.specs.Lists.{total}
use Rattle.rules_numbers.specs.Tails.{laid, length_laid, tail_is, grow}
use Rattle.rules_format.specs.Hex.{digits}
use Rattle.rules_format.specs.HexLaws.{length_digits}
use Rattle.rules_format.specs.Fields.{text_at, raw_call}
use Rattle.rules_format.specs.Written.{written_widths, line_of, frame_of}
use Rattle.rules_format.specs.WrittenLaws.{length_line}

-- in a buffer that the line fits
module _ (k : ℕ) (ns old : List ℕ) (room : length (line_of (raw_call k ns)) ≤ length old) where
  pub kind_room : 2 ≤ length old
  kind_room = omega (arith, length_line (raw_call k ns))

  -- the kind's digits stand there
  module _ (xs : List ℕ) (there : xs ≡ laid (digits 2 k) old) where
    pub kind_same : length xs ≡ length old
    kind_same = ap length there ∙ length_laid (digits 2 k) old (omega (arith, length_digits 2 k, kind_room))

    module _ (ws : List ℕ) (e : ws ≡ written_widths (raw_call k ns)) where
      pub fields_room : total ws ≤ length (mid_of 2 (length xs - 2) xs)
      fields_room = rw tail_is (omega (arith, length_line (raw_call k ns), ap total e, kind_same, length-drop 2 xs))

      pub line_there : (ys : List ℕ) → ys ≡ laid (text_at ws ns) (mid_of 2 (length xs - 2) xs)
          → put_mid 2 (length xs - 2) xs ys ≡ laid (line_of (raw_call k ns)) old
      unfolding line_of
      line_there ys f =
          grow (digits 2 k) (text_at ws ns) old xs ys 2 there (sym (length_digits 2 k)) f
          ∙ ap (λ (vs : List ℕ). laid (digits 2 k ++ text_at vs ns) old) e

-- a tail that is not empty has room for the 0A
pub tail_room : (xs : List ℕ) (n : ℕ) → n < length xs → 1 ≤ length (mid_of n (length xs - n) xs)
tail_room xs n h = rw tail_is (omega (arith, length-drop n xs))

-- the 0A goes into the tail behind the line
pub frame_there : (k : ℕ) (ns old xs ys : List ℕ) (n : ℕ) → n ≡ length (line_of (raw_call k ns)) → xs ≡ laid (line_of (raw_call k ns)) old
    → ys ≡ laid (10 ∷ []) (mid_of n (length xs - n) xs) → put_mid n (length xs - n) xs ys ≡ laid (frame_of (raw_call k ns)) old
unfolding frame_of
frame_there k ns old xs ys n e there f = grow (line_of (raw_call k ns)) (10 ∷ []) old xs ys n there e f
