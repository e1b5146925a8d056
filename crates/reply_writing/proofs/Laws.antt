-- Parts written one behind the other into the tails of a buffer, over plain lists.
use Prim.Native.Nat.{ℕ, ◌+◌, ◌-◌, ◌*◌, ◌≤◌, ◌<◌}
use mathlib.Core.Path.{◌≡◌, refl, sym, ap, ◌∙◌}
use mathlib.Core.List.{List, [], ◌∷◌, ◌++◌, flatten, append-nil}
use native.Mathlib.Numerals.{add-one}
use native.Mathlib.Omega.{arith}
use lib.ListN.{length, take, get_or, length-append, length-drop}
use lib.Seq.{take-suc, length-take-le}
use borrow.Rule.Slice.PartMut.{put_mid, mid_of}
use Rattle.rules_format.specs.Hex.{digits}
use Rattle.rules_numbers.specs.Tails.{laid, grow, length_laid, tail_is}
use Rattle.rules_replies.specs.Replies.{record_digits}
use Rattle.rules_replies.specs.Lengths.{bytes_append, bytes_length}

-- ---- part by part: the buffer xs holds the text P over its old bytes o, and the next part starts at a

pub record Held (P o xs : List ℕ) (a : ℕ) : Type 0 where
  pub holds : xs ≡ laid P o
  pub start : a ≡ length P
  pub same : length xs ≡ length o

pub held_first : (t o xs : List ℕ) (a : ℕ) → xs ≡ laid t o → a ≡ length t → a ≤ length o → Held t o xs a
held_first t o xs a e s h = record { holds = e; start = s; same = ap length e ∙ length_laid t o (omega arith) }

module _ {P o xs : List ℕ} {a : ℕ} (h : Held P o xs a) where
  -- room for so many bytes more
  pub held_room : (n : ℕ) → a + n ≤ length o → n ≤ length (mid_of a (length xs - a) xs)
  held_room n g = rw tail_is (omega (arith, h.same, length-drop a xs))

  -- a part of n bytes more
  pub held_next : (t : List ℕ) (n : ℕ) {ys : List ℕ} → n ≡ length t → a + n ≤ length o → ys ≡ laid t (mid_of a (length xs - a) xs)
      → Held (P ++ t) o (put_mid a (length xs - a) xs ys) (a + n)
  held_next t n {ys} m g e =
      let k : length (P ++ t) ≡ a + n = omega (arith, h.start, length-append P t) in
      held_first (P ++ t) o (put_mid a (length xs - a) xs ys) (a + n) (grow P t o xs ys a h.holds h.start e) (sym k) g

-- ---- the bytes' loop: the buffer holds the digits of the bytes passed, and behind them what it held

pub record Passed (o : List ℕ) (n : ℕ) (bytes out : List ℕ) (i : ℕ) : Type 0 where
  pub within : i ≤ n
  pub written : out ≡ laid (record_digits (take i bytes)) o
  pub same : length out ≡ length o

module _ (o : List ℕ) (n : ℕ) (bytes : List ℕ) where
  pub passed_none : Passed o n bytes o 0
  unfolding laid flatten
  passed_none = record { within = omega arith; written = refl; same = refl }

  module _ (long : n ≤ length bytes) (room : 2 * n ≤ length o) where
    one_more : (i : ℕ) → i < n → record_digits (take (i + 1) bytes) ≡ record_digits (take i bytes) ++ digits 2 (get_or bytes i 0)
    unfolding flatten
    one_more i h =
        rw (add-one, take-suc bytes i 0 (omega arith)) (bytes_append (take i bytes) (get_or bytes i 0 ∷ []))
        ∙ ap (λ (l : List ℕ). record_digits (take i bytes) ++ l) (append-nil (digits 2 (get_or bytes i 0)))

    pub passed_one : (out ys : List ℕ) (i : ℕ) → Passed o n bytes out i → i < n
        → ys ≡ laid (digits 2 (get_or bytes i 0)) (mid_of (2 * i) (length out - 2 * i) out)
        → Passed o n bytes (put_mid (2 * i) (length out - 2 * i) out ys) (i + 1)
    passed_one out ys i p h e =
        let at : 2 * i ≡ length (record_digits (take i bytes)) = omega (arith, bytes_length (take i bytes), length-take-le i bytes (omega arith)) in
        let w : put_mid (2 * i) (length out - 2 * i) out ys ≡ laid (record_digits (take (i + 1) bytes)) o =
        grow (record_digits (take i bytes)) (digits 2 (get_or bytes i 0)) o out ys (2 * i) p.written at e
        ∙ ap (λ (l : List ℕ). laid l o) (sym (one_more i h)) in
        let l : length (record_digits (take (i + 1) bytes)) ≡ 2 * (i + 1) =
        bytes_length (take (i + 1) bytes) ∙ ap (λ (k : ℕ). 2 * k) (length-take-le (i + 1) bytes (omega arith)) in
        record { within = omega arith; written = w; same = ap length w ∙ length_laid (record_digits (take (i + 1) bytes)) o (omega arith) }

    pub passed_all : (out : List ℕ) (i : ℕ) → Passed o n bytes out i → n ≤ i → out ≡ laid (record_digits (take n bytes)) o
    passed_all out i p h = let e : i ≡ n = omega (arith, p.within) in p.written ∙ ap (λ (k : ℕ). laid (record_digits (take k bytes)) o) e
