-- A text put at its place of a buffer, where it fits.
use Prim.Native.Nat.{ℕ, ◌+◌, ◌-◌, ◌≤◌, ◌<◌}
use mathlib.Core.Path.{◌≡◌, refl, sym, ap, ◌∙◌}
use mathlib.Core.Bool.{Bool, true, false, cond}
use mathlib.Core.List.{List, [], ◌∷◌, ◌++◌, append-nil}
use lib.Dec.{eqb}
use native.Mathlib.Omega.{arith}
use borrow.Rule.Slice.PartMut.{put_mid, mid_of}
use lib.ListN.{length, take, drop, length-append, length-drop, take-append-drop}
use lib.Seq.{length-take-le}
use Rattle.rules_numbers.specs.Tails.{laid, grow, length_laid, tail_is}
use Rattle.rules_format.specs.Hex.{digits}
use Rattle.rules_format.specs.HexLaws.{length_digits}
use Rattle.rules_replies.specs.Replies.{answer_line}
use Rattle.reply_writing.specs.Placed.{Puts, most}

-- a place above the limit stays one
pub puts_beyond : (t : List ℕ) (limit at : ℕ) (o : List ℕ) → limit < at → Puts t limit at o o at
puts_beyond t limit at o h = record {
  fits = λ w. absurd (omega arith);
  over = λ w. h;
  text = λ w. absurd (omega arith);
  same = refl;
}

module _ (t : List ℕ) (limit at : ℕ) (o : List ℕ) (n : ℕ) (en : n ≡ length t) where
  pub puts_over : limit - at < n → at ≤ limit → limit < most → Puts t limit at o o most
  puts_over h low few = record {
    fits = λ w. absurd (omega arith);
    over = λ w. few;
    text = λ w. absurd (omega arith);
    same = refl;
  }

  pub puts_outside : n ≤ limit - at → at ≤ limit → length o < at + n → Puts t limit at o o (at + n)
  puts_outside h low far = record {
    fits = λ w. omega arith;
    over = λ w. absurd (omega arith);
    text = λ w v. absurd (omega arith);
    same = refl;
  }

  pub puts_tail : at + n ≤ length o → length t ≤ length (mid_of at (length o - at) o)
  puts_tail h = rw tail_is (omega (arith, length-drop at o))

  pub puts_length : at + n ≤ length o → (ys : List ℕ) → ys ≡ laid t (mid_of at (length o - at) o) → length (put_mid at (length o - at) o ys) ≡ length o
  unfolding laid
  puts_length h ys ey =
      let lt : length (take at o) ≡ at = length-take-le at o (omega arith) in
      let eo : o ≡ laid (take at o) o = sym (ap (λ (k : ℕ). take at o ++ drop k o) lt ∙ take-append-drop at o) in
      ap length (grow (take at o) t o o ys at eo (sym lt) ey) ∙ length_laid (take at o ++ t) o (omega (arith, length-append (take at o) t))

  pub puts_inside : n ≤ limit - at → at ≤ limit → at + n ≤ length o → (ys : List ℕ) → ys ≡ laid t (mid_of at (length o - at) o)
      → Puts t limit at o (put_mid at (length o - at) o ys) (at + n)
  puts_inside h low near ys ey = record {
    fits = λ w. omega arith;
    over = λ w. absurd (omega arith);
    text = λ w v s old eo ea. grow s t old o ys at eo ea ey;
    same = puts_length near ys ey;
  }

-- ---- kind, answer and 0A

pub bare_line : (k n : ℕ) → (digits 2 k ++ digits 2 n) ++ (10 ∷ []) ≡ answer_line k n []
unfolding answer_line
bare_line k n = go (eqb n 0)
  where
    go : (b : Bool) → (digits 2 k ++ digits 2 n) ++ (10 ∷ []) ≡ ((digits 2 k ++ digits 2 n) ++ cond b [] []) ++ (10 ∷ [])
    go true = ap (λ (x : List ℕ). x ++ (10 ∷ [])) (sym (append-nil (digits 2 k ++ digits 2 n)))
    go false = ap (λ (x : List ℕ). x ++ (10 ∷ [])) (sym (append-nil (digits 2 k ++ digits 2 n)))

pub bare_length : (k n : ℕ) → 5 ≡ length (answer_line k n [])
bare_length k n = rw (← bare_line) (simp (length-append, length_digits) (omega arith))
