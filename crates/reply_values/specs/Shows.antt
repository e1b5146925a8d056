-- What the replies to a closing and to a settling show.
use Rattle.std.specs.Prelude.{ℕ, ◌*◌, ◌≤◌, ◌≡◌, ℤ, length}
use mathlib.Core.List.{List, flatten}
use Rattle.rules_numbers.specs.ListLaws.{Each}
use Rattle.rules_numbers.specs.Tails.{laid}
use Rattle.rules_auction.specs.Rounds.{Answered}
use Rattle.rules_auction.specs.Settling.{Settlement}
use Rattle.rules_replies.specs.Replies.{closing_text, settling_text, answer_line, award_room}
use Rattle.engine_settling.specs.Settles.{Settled, settled_as}
use Rattle.reply_writing.specs.reply_sizes.Texts.{text_of}
use Rattle.reply_writing.specs.declared.reply_sizes.Reply.{Reply}

-- the excess and the remainder, which are read in an accepted closing only
pub record ShowsClosing (n : ℕ) (excess : ℤ) (remainder : ℕ) (r : Reply) : Type 0 where
  pub text : (x : Answered) → excess ≡ x.excess → remainder ≡ x.remainder → text_of r ≡ answer_line 5 n (closing_text x)

-- an accepted settling's answer, and bytes that start with its records, of 6 bytes each
pub record HoldsAwards (m : Settlement) (s : Settled) (bytes : List ℕ) : Type 0 where
  pub answer : s ≡ settled_as m
  pub old : List ℕ
  pub buffer : bytes ≡ laid (flatten m.records) old
  pub within_room : 6 * length m.records ≤ award_room
  pub six : Each (λ x. length x ≡ 6) m.records

-- the settlement, which is read in an accepted settling only
pub record ShowsSettling (s : Settled) (bytes : List ℕ) (r : Reply) : Type 0 where
  pub text : (m : Settlement) → (s.number ≡ 0 → HoldsAwards m s bytes) → text_of r ≡ answer_line 6 s.number (settling_text m)
