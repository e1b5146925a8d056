-- The text of a reply in numbers.
use Rattle.std.specs.Prelude.{ℕ, min, ◌+◌, ◌*◌, ◌≡◌, cond, List, [], ◌++◌, eqb, take}
use Rattle.rules_numbers.specs.Lists.{total, padded}
use Rattle.rules_format.specs.Fields.{text_at}
use Rattle.rules_auction.specs.Settling.{Settlement}
use Rattle.rules_replies.specs.Replies.{values_of, settling_head, settling_tail, record_digits, answer_line}
use Rattle.rules_replies.specs.Lengths.{head_widths, room_of, tail_widths, bare}
use Rattle.reply_writing.specs.declared.reply_sizes.Form.{Form}
use Rattle.reply_writing.specs.declared.reply_sizes.Reply.{Reply}
use Rattle.reply_writing.specs.declared.reply_sizes.Values.{Values}

-- what a reply of a kind can add, as the code holds it
pub record FormOf (k : ℕ) (f : Form) : Type 0 where
  pub head : f.head ≡ padded 8 (head_widths k)
  pub room : f.room ≡ room_of k
  pub tail : f.tail ≡ padded 8 (tail_widths k)

-- the values of a settling's fields
pub record Valued (s : Settlement) (v : Values) : Type 0 where
  pub head : v.head ≡ padded 8 (values_of settling_head s)
  pub tail : v.tail ≡ padded 8 (values_of settling_tail s)

-- the bytes of award records that a reply shows, of so many
abbrev pub shown : ℕ → ℕ → ℕ
shown k n = min n (room_of k)

-- the size of an accepted reply of this kind
unfoldable pub size_of : ℕ → ℕ → ℕ
size_of k n = bare + total (head_widths k) + 2 * shown k n + total (tail_widths k)

-- what is added to an accepted reply: its fields at the widths of its kind, and between them its award records
unfoldable pub added_text : Reply → List ℕ
added_text r =
    text_at (head_widths r.kind) r.values.head
    ++ record_digits (take (shown r.kind r.filled) r.awards)
    ++ text_at (tail_widths r.kind) r.values.tail

-- what stands between the answer and 0A: nothing in a refusal
unfoldable pub shown_text : Reply → List ℕ
shown_text r = cond (eqb r.number 0) (added_text r) []

unfoldable pub text_of : Reply → List ℕ
text_of r = answer_line r.kind r.number (added_text r)
