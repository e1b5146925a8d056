-- A seat written: each refusal by its test, and else the digits of its kind, then those of its number into the tail behind them.
use Prim.Native.Nat.{ℕ, ◌-◌, ◌^◌, ◌≤◌, ◌<◌}
use mathlib.Core.Path.{◌≡◌, refl, sym, ◌∙◌}
use mathlib.Core.Bool.{Bool, true, false, ◌&&◌}
use mathlib.Core.List.{List}
use native.Mathlib.Omega.{arith}
use lib.ListN.{length}
use borrow.Author.Tests.{lt-ltb, le-ltb}
use borrow.Rule.Slice.PartMut.{put_mid, mid_of}
use Rattle.rules_numbers.specs.Tails.{laid, grow}
use Rattle.rules_format.specs.Hex.{digits}
use Rattle.rules_format.specs.HexLaws.{length_digits}
use Rattle.rules_format.specs.Written.{writing_refusal, lent_frame}
use Rattle.rules_format.specs.WrittenLaws.{not_writable, too_short, is_written}
use Rattle.rules_format.specs.SessionLines.{is_seat, seat_text, writable_seat}
use Rattle.rules_format.specs.SessionLineLaws.{length_seat}

-- ---- whether it is writable, by its number

module _ (k n : ℕ) where
  pub long_number : 255 < n → false ≡ writable_seat k n
  unfolding writable_seat
  long_number h = rw (le-ltb n (16 ^ 2) (omega arith)) (ends (is_seat k n))
    where
      ends : (b : Bool) → false ≡ b && false
      ends true = refl
      ends false = refl

  pub by_seat : n ≤ 255 → is_seat k n ≡ writable_seat k n
  unfolding writable_seat
  by_seat h = rw (lt-ltb n (16 ^ 2) (omega arith)) (same (is_seat k n))
    where
      same : (b : Bool) → b ≡ b && true
      same true = refl
      same false = refl

  -- ---- the answer, and the buffer afterwards

  module _ (old : List ℕ) where
    abbrev Answers : ℕ → List ℕ → Type 0
    Answers number new =
        (number ≡ writing_refusal (writable_seat k n) (seat_text k n) (length old)) × (new ≡ lent_frame (writable_seat k n) (seat_text k n) old)

    pub no_seat : writable_seat k n ≡ false → Answers 14 old
    no_seat e = let a = not_writable (writable_seat k n) (seat_text k n) old e in (sym a.0, sym a.2)

    module _ (e : writable_seat k n ≡ true) where
      pub seat_short : length old < 4 → Answers 13 old
      seat_short short = let a = too_short (writable_seat k n) (seat_text k n) old e (omega (arith, length_seat k n)) in (sym a.0, sym a.2)

      pub seat_laid :
          4 ≤ length old → (xs ys : List ℕ) → xs ≡ laid (digits 2 k) old → ys ≡ laid (digits 2 n) (mid_of 2 (length xs - 2) xs) →
          Answers 0 (put_mid 2 (length xs - 2) xs ys)
      unfolding seat_text
      seat_laid room xs ys there then =
          let a = is_written (writable_seat k n) (seat_text k n) old e (omega (arith, length_seat k n)) in
          (sym a.0, grow (digits 2 k) (digits 2 n) old xs ys 2 there (sym (length_digits 2 k)) then ∙ sym a.2)
