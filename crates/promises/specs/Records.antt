-- PROMISED of records (document 01, Frames; document 02, 2, 11): the ledger that the replies to a record end with is that of the calls that its lines
-- ask; and frames one behind the other are lines.
use Rattle.std.specs.Prelude.{ℕ, ◌≡◌, refl}
use Rattle.std.proofs.Common.{ap, ◌∙◌}
use mathlib.Core.List.{List, [], ◌∷◌, map, flatten}
use Rattle.rules_format.specs.Lines.{lines}
use Rattle.rules_format.specs.Fields.{RawCall}
use Rattle.rules_format.specs.Written.{line_of, frame_of}
use Rattle.rules_format.specs.WrittenLaws.{frame_first}
use Rattle.rules_auction.specs.Ledger.{Ledger, start}
use Rattle.rules_auction.specs.Rounds.{step_all, ledger}
use Rattle.laws_ledger.specs.reachable.Steps.{step_all_append}
use Rattle.rules_replies.specs.Orders.{order_in}
use Rattle.rules_replies.specs.Replies.{ledger_after}
use Rattle.rules_replies.specs.record_calls.Calls.{calls_of, calls_in}
use Rattle.rules_replies.specs.record_calls.CallLaws.{step_asked}

-- ---- a record read

-- the ledger after lines, as `replies_from` goes
unfoldable pub ledger_behind : Ledger → List (List ℕ) → Ledger
ledger_behind l [] = l
ledger_behind l (line ∷ rest) = ledger_behind (ledger_after l (order_in line)) rest

behind_lines : (l : Ledger) (ls : List (List ℕ)) → ledger_behind l ls ≡ step_all l (calls_of ls)
unfolding ledger_behind calls_of step_all
behind_lines l [] = refl
behind_lines l (line ∷ rest) =
    behind_lines (ledger_after l (order_in line)) rest ∙ rw (step_all_append, step_asked)

pub record_ledger : (bytes : List ℕ) → ledger_behind start (lines bytes) ≡ ledger (calls_in bytes)
unfolding ledger calls_in
record_ledger bytes = behind_lines start (lines bytes)

-- ---- a record written call by call

-- the lines of frames one behind the other are those frames without their 0A
pub record_lines : (cs : List RawCall) → lines (flatten (map frame_of cs)) ≡ map line_of cs
unfolding flatten lines
record_lines [] = refl
record_lines (c ∷ cs) = frame_first c (flatten (map frame_of cs)) ∙ ap (λ (ls : List (List ℕ)). line_of c ∷ ls) (record_lines cs)
