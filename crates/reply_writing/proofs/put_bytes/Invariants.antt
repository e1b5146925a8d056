-- Each turn writes two digits into the tail behind those of the bytes passed.
use Rattle.reply_writing.proofs.Laws.{Passed}
use Rattle.reply_writing.proofs.put_bytes.Given as goal

abbrev pub invariant-loop-i : goal.invariant-loop-i
invariant-loop-i l = Passed l.initial.out l.n l.fn.bytes l.out l.i
