-- The loop keeps that the digits left, read on behind the number so far, make the number; no number on the way is larger.
use mathlib.Core.Path.{◌≡◌}
use lib.ListN.{drop}
use Rattle.rules_format.specs.Hex.{hex_number, number_from}
use Rattle.frame_bytes.proofs.field_reading.number_of.Given as goal

abbrev pub invariant-loop-c : goal.invariant-loop-c
invariant-loop-c l = number_from l.n (drop l.c-index l.digits) ≡ hex_number l.digits
