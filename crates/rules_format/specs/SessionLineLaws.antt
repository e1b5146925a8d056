-- Laws of a session's lines: what is written for a seat and a call reads back to them, each line that is read is written back to the same bytes, and a
-- session written line by line has those lines.
use Prim.Native.Nat.{ℕ, ◌^◌, ◌≤◌, ◌<◌}
use Rattle.std.specs.Prelude.{◌≡◌, Bool, ◌&&◌, eqb, take}
use Rattle.std.proofs.Math.Path.{refl, ap, ap₂}
use Rattle.std.proofs.Common.{sym, ◌∙◌, subst, arith, length-drop, take_at}
use Rattle.std.proofs.Math.Bool.{true, false, cond}
use mathlib.Core.List.{List, [], ◌∷◌, ◌++◌, map, flatten, append_assoc}
use Rattle.std.proofs.Math.Option.{Option, none, some}
use Rattle.std.proofs.Math.Dec.{leb}
use Rattle.std.proofs.Math.ListN.{length, drop, length-append}
use borrow.Author.Tests.{leb-true, le-leb, ltb-true, lt-ltb, eqb-true}
use Rattle.rules_numbers.specs.Cases.{and_true}
use Rattle.rules_format.specs.Hex.{all_hex, digits, hex_number}
use Rattle.rules_format.specs.HexLaws.{field_fits, hex_digits, hex_append, hex_parts, number_digits, digits_number}
use Rattle.rules_format.specs.Lines.{lines}
use Rattle.rules_format.specs.Fields.{RawCall, read}
use Rattle.rules_format.specs.FieldLaws.{was_read}
use Rattle.rules_format.specs.Written.{line_of, frame_of, writable}
use Rattle.rules_format.specs.WrittenLaws.{reads_back, writes_back, hex_line, hex_first}
use Rattle.rules_format.specs.SessionLines.{is_seat, seat_text, writable_seat, seat_width, longest_session_line, seat_kind, seat_number, frame_in, names_seat}
use Rattle.rules_format.specs.SessionLines.{RawSeated, raw_seated, with_seat, read_seated, writable_seated, seated_line_of, seated_frame_of}

-- ---- a seat written, and whatever stands behind it

module _ (k n : ℕ) where
  pub length_seat : length (seat_text k n) ≡ seat_width
  unfolding seat_text digits
  length_seat = refl

  pub hex_seat : all_hex (seat_text k n) ≡ true
  unfolding seat_text
  hex_seat = hex_append (digits 2 k) (digits 2 n) (hex_digits 2 k) (hex_digits 2 n)

  seat_kind_fits : is_seat k n ≡ true → k < 16 ^ 2
  unfolding is_seat
  seat_kind_fits e = go (leb k 1) refl e
    where
      go : (b : Bool) → leb k 1 ≡ b → cond b (eqb n 0) (eqb k 2) ≡ true → k < 16 ^ 2
      go true t h = omega (arith, leb-true k 1 t)
      go false t h = omega (arith, eqb-true k 2 h)

  module _ (rest : List ℕ) where
    pub behind_seat : frame_in (seat_text k n ++ rest) ≡ rest
    unfolding seat_text digits
    behind_seat = refl

    module _ (w : writable_seat k n ≡ true) where
      pub seat_kind_lem : seat_kind (seat_text k n ++ rest) ≡ k
      unfolding writable_seat seat_text seat_kind digits
      seat_kind_lem = number_digits 2 k (seat_kind_fits (and_true _ _ w).0)

      pub seat_number_lem : seat_number (seat_text k n ++ rest) ≡ n
      unfolding writable_seat seat_text seat_number digits
      seat_number_lem = number_digits 2 n (ltb-true n (16 ^ 2) (and_true (is_seat k n) _ w).1)

      pub names_seat_lem : names_seat (seat_text k n ++ rest) ≡ true
      unfolding names_seat writable_seat
      names_seat_lem =
          let l : List ℕ = seat_text k n ++ rest in
          let a : leb seat_width (length l) ≡ true = le-leb seat_width (length l) (omega (arith, length-append (seat_text k n) rest, length_seat)) in
          let b : all_hex (take seat_width l) ≡ true = ap all_hex (take_at (seat_text k n) rest seat_width length_seat) ∙ hex_seat in
          let c : is_seat (seat_kind l) (seat_number l) ≡ true = ap₂ is_seat seat_kind_lem seat_number_lem ∙ (and_true (is_seat k n) _ w).0 in
          rw (a, b, c)

-- ---- a seat read

-- the first four bytes are those that are written for the seat that they name
module _ (l : List ℕ) (e : names_seat l ≡ true) where
  abbrev k : ℕ
  k = seat_kind l

  abbrev n : ℕ
  n = seat_number l

  parts : (seat_width ≤ length l) × (all_hex (take seat_width l) ≡ true) × (is_seat k n ≡ true)
  unfolding names_seat
  parts =
      let t : (leb seat_width (length l) && all_hex (take seat_width l) ≡ true) × (is_seat k n ≡ true) = and_true _ _ e in
      let u : (leb seat_width (length l) ≡ true) × (all_hex (take seat_width l) ≡ true) = and_true _ _ t.0 in
      (leb-true seat_width (length l) u.0, u.1, t.1)

  pub seat_writable : writable_seat k n ≡ true
  unfolding writable_seat seat_number
  seat_writable = rw (parts.2, lt-ltb n (16 ^ 2) (field_fits 2 (drop 2 l)))

  pub seat_written : seat_text k n ++ frame_in l ≡ l
  unfolding seat_text seat_kind seat_number
  seat_written = go l parts.0 parts.1
    where
      go : (cs : List ℕ) → seat_width ≤ length cs → all_hex (take seat_width cs) ≡ true →
          (digits 2 (hex_number (take 2 cs)) ++ digits 2 (hex_number (take 2 (drop 2 cs)))) ++ drop seat_width cs ≡ cs
      go [] h x = absurd (omega arith)
      go (a ∷ []) h x = absurd (omega arith)
      go (a ∷ b ∷ []) h x = absurd (omega arith)
      go (a ∷ b ∷ c ∷ []) h x = absurd (omega arith)
      go (a ∷ b ∷ c ∷ d ∷ cs) h x =
          let p = hex_parts 2 (a ∷ b ∷ c ∷ d ∷ []) x in
          ap₂ (λ (xs ys : List ℕ). (xs ++ ys) ++ cs) (digits_number 2 (a ∷ b ∷ []) p.0 refl) (digits_number 2 (c ∷ d ∷ []) p.1 refl)

-- ---- a line read

-- what a line was read as: it names that seat, and that call's frame stands behind it
pub record SeatedRead (l : List ℕ) (s : RawSeated) : Type 0 where
  pub named : names_seat l ≡ true
  pub kind : seat_kind l ≡ s.kind
  pub number : seat_number l ≡ s.number
  pub frame : read (frame_in l) ≡ some s.call

pub reads_seated : (l : List ℕ) (c : RawCall) → names_seat l ≡ true → read (frame_in l) ≡ some c → read_seated l ≡ some (raw_seated (seat_kind l) (seat_number l) c)
unfolding read_seated
reads_seated l c e r = rw (e, r)

pub was_seated : (l : List ℕ) (s : RawSeated) → read_seated l ≡ some s → SeatedRead l s
unfolding read_seated
was_seated l s e = go (names_seat l) refl (read (frame_in l)) refl e
  where
    no : ◌≡◌ {A = Option RawSeated} none (some s) → ⊥
    no h = let z : ◌≡◌ {A = ℕ} 0 1 = cc in omega arith

    same : (x : RawSeated) → ◌≡◌ {A = Option RawSeated} (some x) (some s) → x ≡ s
    same x h = cc

    go :
        (b : Bool) → names_seat l ≡ b → (r : Option RawCall) → read (frame_in l) ≡ r →
        cond b (with_seat (seat_kind l) (seat_number l) r) none ≡ some s → SeatedRead l s
    go false t r f h = absurd (no h)
    go true t none f h = absurd (no h)
    go true t (some c) f h = subst (SeatedRead l) (same _ h) (record { named = t; kind = refl; number = refl; frame = f })

-- at most 164 characters
pub seated_short : (l : List ℕ) (s : RawSeated) → read_seated l ≡ some s → length l ≤ longest_session_line
seated_short l s e =
    let r = was_seated l s e in
    let w = (was_read (frame_in l) s.call r.frame).0 in
    omega (arith, w.short, length-drop seat_width l)

-- ---- the round trip

pub seated_reads_back : (s : RawSeated) → writable_seated s ≡ true → read_seated (seated_line_of s) ≡ some s
unfolding writable_seated seated_line_of
seated_reads_back s e =
    let t = and_true (writable_seat s.kind s.number) (writable s.call) e in
    let rest : List ℕ = line_of s.call in
    let f : read (frame_in (seat_text s.kind s.number ++ rest)) ≡ some s.call =
    ap read (behind_seat s.kind s.number rest) ∙ reads_back s.call t.1 in
    reads_seated _ s.call (names_seat_lem s.kind s.number rest t.0) f
    ∙ ap₂ (λ (k n : ℕ). some (raw_seated k n s.call)) (seat_kind_lem s.kind s.number rest t.0) (seat_number_lem s.kind s.number rest t.0)

pub seated_writes_back : (l : List ℕ) (s : RawSeated) → read_seated l ≡ some s → (seated_line_of s ≡ l) × (writable_seated s ≡ true)
unfolding writable_seated seated_line_of
seated_writes_back l s e =
    let r = was_seated l s e in
    let w = writes_back (frame_in l) s.call r.frame in
    let a : writable_seat s.kind s.number ≡ true = ap₂ writable_seat (sym r.kind) (sym r.number) ∙ seat_writable l r.named in (
      ap₂ (λ (k n : ℕ). seat_text k n ++ line_of s.call) (sym r.kind) (sym r.number)
          ∙ ap (λ (f : List ℕ). seat_text (seat_kind l) (seat_number l) ++ f) w.0
          ∙ seat_written l r.named,
      rw (a, w.1),
    )

-- ---- a session written line by line

pub hex_seated : (s : RawSeated) → all_hex (seated_line_of s) ≡ true
unfolding seated_line_of
hex_seated s = hex_append (seat_text s.kind s.number) (line_of s.call) (hex_seat s.kind s.number) (hex_line s.call)

pub seated_first : (s : RawSeated) (rest : List ℕ) → lines (seated_frame_of s ++ rest) ≡ seated_line_of s ∷ lines rest
unfolding seated_frame_of seated_line_of frame_of
seated_first s rest =
    let seat : List ℕ = seat_text s.kind s.number in
    let line : List ℕ = line_of s.call in
    ap lines (ap (λ (xs : List ℕ). xs ++ rest) (sym (append_assoc seat line (10 ∷ []))) ∙ append_assoc (seat ++ line) (10 ∷ []) rest)
    ∙ hex_first (seat ++ line) rest (hex_seated s)

pub session_lines : (ss : List RawSeated) → lines (flatten (map seated_frame_of ss)) ≡ map seated_line_of ss
unfolding flatten lines
session_lines [] = refl
session_lines (s ∷ ss) = seated_first s (flatten (map seated_frame_of ss)) ∙ ap (λ (ls : List (List ℕ)). seated_line_of s ∷ ls) (session_lines ss)
