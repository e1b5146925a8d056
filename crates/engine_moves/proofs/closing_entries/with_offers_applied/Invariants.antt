-- The offers applied from developer 1 to 32, in place: those that a closing cannot move stay as they are.
use Rattle.engine_moves.proofs.closing_entries.ApplyingOffers.{Turn}
use Rattle.engine_moves.proofs.closing_entries.with_offers_applied.Given as goal

abbrev pub invariant-loop-i : goal.invariant-loop-i
invariant-loop-i l = Turn l.kinds l.initial.next.quantities l.initial.next.histories l.opening l.closing l.next l.i
