-- The digits are written from the low end; the loop keeps `Writing`.
use Prim.Native.Nat.{◌-◌}
use Rattle.frame_bytes.proofs.field_writing.Writing.{Writing}
use Rattle.frame_bytes.proofs.field_writing.put_hex.Given as goal

abbrev pub invariant-loop-i : goal.invariant-loop-i
invariant-loop-i l = Writing l.initial.out l.value l.width l.out l.left (l.width - l.i)
