-- Laws of a reply's text: how long it is, and what an accepted closing or settling adds, in the words of the rules.
use Prim.Native.Nat.{ℕ, min, ◌+◌, ◌*◌, ◌≤◌}
use Rattle.std.specs.Prelude.{◌≡◌, refl, Bool, true, false, cond, eqb}
use Rattle.std.proofs.Math.Path.{ap}
use Rattle.std.proofs.Common.{ap₂, ◌∙◌, eq-eqb, ne_eqb, eqb-true, length-append, length-take}
use mathlib.Core.List.{List, [], ◌++◌, flatten, append-nil}
use native.Mathlib.Omega.{arith}
use Rattle.std.proofs.lemmas.Bool.{eqb-false}
use Rattle.std.proofs.Math.ListN.{length, take}
use Rattle.std.proofs.Math.Seq.{take_at}
use Rattle.rules_numbers.specs.Lists.{total, padded}
use Rattle.rules_numbers.specs.ListLaws.{Each, flat_length}
use Rattle.rules_numbers.specs.Tails.{laid}
use Rattle.rules_format.specs.Fields.{text_at}
use Rattle.rules_format.specs.HexLaws.{length_digits}
use Rattle.rules_format.specs.WidthLaws.{length_text, text_padded, values_padded}
use Rattle.rules_auction.specs.Rounds.{Answered}
use Rattle.rules_auction.specs.Settling.{Settlement}
use Rattle.rules_replies.specs.Replies.{Field, widths_of, values_of, fields_text, closing_fields, settling_head, settling_tail, record_digits}
use Rattle.rules_replies.specs.Replies.{closing_text, settling_text, answer_line, award_room}
use Rattle.rules_replies.specs.Lengths.{head_widths, room_of, tail_widths, bare, most_of, bytes_length, flat_digits}
use Rattle.reply_writing.specs.declared.reply_sizes.Form.{Form}
use Rattle.reply_writing.specs.declared.reply_sizes.Reply.{Reply}
use Rattle.reply_writing.specs.reply_sizes.Texts.{FormOf, Valued, shown, size_of, added_text, shown_text, text_of}

-- ---- lengths

-- the widths and the room of every kind are small
pub record Small (k : ℕ) : Type 0 where
  pub head : total (head_widths k) ≤ 128
  pub room : room_of k ≤ award_room
  pub tail : total (tail_widths k) ≤ 128

pub small : (k : ℕ) → Small k
unfolding head_widths room_of tail_widths total
small k = record { head = head (eqb k 5) (eqb k 6); room = room (eqb k 6); tail = tail (eqb k 6) }
  where
    head : (a b : Bool) → total (cond a (widths_of closing_fields) (cond b (widths_of settling_head) [])) ≤ 128
    head true b = omega arith
    head false true = omega arith
    head false false = omega arith

    room : (b : Bool) → cond b award_room 0 ≤ award_room
    room true = omega arith
    room false = omega arith

    tail : (b : Bool) → total (cond b (widths_of settling_tail) []) ≤ 128
    tail true = omega arith
    tail false = omega arith

pub most_size : (k : ℕ) → size_of k award_room ≡ most_of k
unfolding size_of most_of
most_size k = let s = small k in omega arith

pub text_length : (r : Reply) → length (text_of r) ≡ bare + length (shown_text r)
unfolding text_of answer_line shown_text
text_length r = simp (length-append, length_digits) (omega arith)

-- ---- what is shown, by the answer

module _ (r : Reply) where
  pub shown_refused : (r.number ≡ 0 → ⊥) → shown_text r ≡ []
  unfolding shown_text
  shown_refused h = rw (ne_eqb r.number 0 h)

  pub shown_accepted : r.number ≡ 0 → shown_text r ≡ added_text r
  unfolding shown_text
  shown_accepted h = rw (eq-eqb r.number 0 h)

  pub added_length : length r.awards ≡ award_room → bare + length (added_text r) ≡ size_of r.kind r.filled
  unfolding added_text size_of
  added_length e = let s = small r.kind in simp (length-append, length_text, bytes_length, length-take) (omega arith)

-- an accepted reply part by part, as the code holds its form
pub record Parts (r : Reply) (f : Form) (n : ℕ) : Type 0 where
  pub text : shown_text r ≡ text_at f.head r.values.head ++ record_digits (take n r.awards) ++ text_at f.tail r.values.tail
  pub size : length (shown_text r) ≡ total f.head + 2 * n + total f.tail
  pub within_room : n ≤ award_room

pub parts : (r : Reply) (f : Form) (n : ℕ) → FormOf r.kind f → n ≡ min r.filled f.room → r.number ≡ 0 → length r.awards ≡ award_room
    → Parts r f n
unfolding added_text
parts r f n w e z l =
    let k : ℕ = r.kind in
    let m : n ≡ shown k r.filled = e ∙ ap (min r.filled) w.room in
    let h : text_at f.head r.values.head ≡ text_at (head_widths k) r.values.head = rw w.head (text_padded 8 (head_widths k) r.values.head) in
    let t : text_at f.tail r.values.tail ≡ text_at (tail_widths k) r.values.tail = rw w.tail (text_padded 8 (tail_widths k) r.values.tail) in
    let g : shown_text r ≡ text_at f.head r.values.head ++ record_digits (take n r.awards) ++ text_at f.tail r.values.tail =
    shown_accepted r z ∙ rw (m, h, t) in
    let few : n ≤ award_room = omega (arith, (small k).room) in
    record { text = g; size = ap length g ∙ simp (length-append, length_text, bytes_length, length-take) (omega arith); within_room = few }

-- ---- the tie to the rules

-- fields by their values
fields_held : {A : Type 0} (fs : List (Field A)) (x : A) (vs : List ℕ) → vs ≡ padded 8 (values_of fs x) → text_at (widths_of fs) vs ≡ fields_text fs x
fields_held fs x vs e = rw e (values_padded 8 (widths_of fs) (values_of fs x))

module _ (r : Reply) where
  -- by the kind
  added_at : (k : ℕ) → r.kind ≡ k → let n = shown k r.filled in
      added_text r ≡ text_at (head_widths k) r.values.head ++ record_digits (take n r.awards) ++ text_at (tail_widths k) r.values.tail
  unfolding added_text
  added_at k e = rw e

  -- a closing, by the values of its fields
  pub closing_added : (x : Answered) → r.kind ≡ 5 → r.values.head ≡ padded 8 (values_of closing_fields x) → added_text r ≡ closing_text x
  unfolding closing_text head_widths room_of tail_widths text_at flatten
  closing_added x k e =
      let z : min r.filled 0 ≡ 0 = omega arith in
      let h : text_at (widths_of closing_fields) r.values.head ≡ closing_text x = fields_held closing_fields x r.values.head e in
      added_at 5 k ∙ rw (z, h) (simp append-nil)

  -- a settling, by the values of its fields, where the awards start with its records
  pub settling_added : (s : Settlement) (old : List ℕ) → r.kind ≡ 6 → Valued s r.values
      → r.filled ≡ 6 * min (length s.records) 32 → r.awards ≡ laid (flatten s.records) old → 6 * length s.records ≤ award_room
      → Each (λ x. length x ≡ 6) s.records → added_text r ≡ settling_text s
  unfolding settling_text head_widths room_of tail_widths laid
  settling_added s old k v ef ea few six =
      let n : ℕ = 6 * length s.records in
      let m : shown 6 r.filled ≡ n = omega arith in
      let h : text_at (widths_of settling_head) r.values.head ≡ fields_text settling_head s = fields_held settling_head s r.values.head v.head in
      let t : text_at (widths_of settling_tail) r.values.tail ≡ fields_text settling_tail s = fields_held settling_tail s r.values.tail v.tail in
      let a : take n r.awards ≡ flatten s.records = ap (take n) ea ∙ take_at (flatten s.records) _ n (flat_length 6 s.records six) in
      added_at 6 k ∙ rw (m, h, t, a, flat_digits s.records)

-- ---- the line of a reply

-- what is added to an accepted reply is read only there
added_line : (k n : ℕ) (x y : List ℕ) → (n ≡ 0 → x ≡ y) → answer_line k n x ≡ answer_line k n y
unfolding answer_line
added_line k n x y e = go (eqb n 0) refl
  where
    go : (b : Bool) → eqb n 0 ≡ b → answer_line k n x ≡ answer_line k n y
    go true z = ap (answer_line k n) (e (eqb-true n 0 z))
    go false z = rw (ne_eqb n 0 (eqb-false n 0 z))

pub text_of_lem : (r : Reply) (kind n : ℕ) (added : List ℕ) → r.kind ≡ kind → r.number ≡ n → (n ≡ 0 → added_text r ≡ added) → text_of r ≡ answer_line kind n added
unfolding text_of
text_of_lem r kind n added ek en e = ap₂ (λ (k m : ℕ). answer_line k m (added_text r)) ek en ∙ added_line kind n (added_text r) added e
