-- The loop keeps that the line is all digits exactly if the bytes passed and those left are.
use mathlib.Core.Path.{◌≡◌}
use mathlib.Core.Bool.{◌&&◌}
use lib.ListN.{drop}
use Rattle.rules_format.specs.Hex.{all_hex}
use Rattle.frame_bytes.proofs.field_reading.all_hex.Given as goal

abbrev pub invariant-loop-c : goal.invariant-loop-c
invariant-loop-c l = l.all && all_hex (drop l.c-index l.line) ≡ all_hex l.line
