-- `write_awards` lays the records over the buffer's start: the loop keeps which bytes are laid and which are left, so that there is room
-- for each record that is left.
use Rattle.engine_award.proofs.award_records.Writing.{Writing}
use Rattle.engine_award.proofs.award_records.write_awards.Given as goal

abbrev pub invariant-loop-i : goal.invariant-loop-i
invariant-loop-i l = Writing l.award l.winners l.initial.awards l.awards l.used l.i
