-- What stands around a reply in words and decimal numbers, an item a line: a name, and its numbers with a blank between them.
use Rattle.std.specs.Prelude.{ℕ, Bool, cond, false, Option, Result, Ok, Err, pos, List, [], ◌++◌, eqb}
use Rattle.rules_auction.specs.Preview.{Previewed}
use Rattle.rules_replies.specs.Replies.{twos_complement}
use Rattle.engine_refusals.specs.declared.Refusal.{Refusal}
use Rattle.engine_looks.specs.readings.Readings.{preview_in}
use Rattle.engine_looks.specs.declared.readings.Preview.{Preview}
use Rattle.engine_settling.specs.declared.Settlement.{Settlement}
use Rattle.trace_text.specs.decimal_text.Decimal.{bytes_of}
use Rattle.trace_text.specs.decimal_text.Items.{number_item, signed, item, signed_item}
use Rattle.trace_text.specs.settling_text.SettledLines.{settled_lines}

-- zeros: where no preview is looked at, and in the places of a refused one
abbrev pub no_preview : Preview
no_preview = record { excess = pos 0; remainder = 0; closed = false }

-- below an accepted closing
unfoldable pub closing_lines : Preview → List ℕ
closing_lines p = signed_item (bytes_of "excess ") (twos_complement p.excess) ++ item (bytes_of "remainder ") p.remainder

-- by its preview, which answers as the closing does: zeros of a refused one
unfoldable pub closed_lines : Result Preview Refusal → List ℕ
closed_lines (Ok p) = closing_lines p
closed_lines (Err e) = closing_lines no_preview

-- what the preview of a closing says (document 02, 6): its number, excess and remainder, and 1 where the auction would then be closed
unfoldable pub previewed_line : Previewed → List ℕ
previewed_line p =
    bytes_of "preview " ++ number_item p.answered.number 32 ++ signed (twos_complement p.answered.excess) 32 ++ number_item p.answered.remainder 32
    ++ number_item (cond p.closed 1 0) 10

-- of an answer: of a refused one its number, and zeros
unfoldable pub preview_line : Result Preview Refusal → List ℕ
preview_line r = previewed_line (preview_in r)

-- a point of the supply curve (document 02, 9): its price, and total supply before and after it
unfoldable pub point_line : ℕ → ℕ → ℕ → List ℕ
point_line price before after = bytes_of "curve " ++ number_item price 32 ++ number_item before 32 ++ number_item after 10

-- before a reply, by its kind: that line where it is a closing's, accepted or refused
unfoldable pub lines_before : ℕ → Result Preview Refusal → List ℕ
lines_before kind p = cond (eqb kind 5) (preview_line p) []

-- below a reply, by its kind, whether it is accepted, the preview of a closing and the settlement behind the line: nothing if it is refused or of another
-- kind
unfoldable pub lines_below : ℕ → Bool → Result Preview Refusal → Option Settlement → List ℕ → List ℕ
lines_below kind accepted p settled awards =
    cond accepted (cond (eqb kind 5) (closed_lines p) (cond (eqb kind 6) (settled_lines settled awards) [])) []
