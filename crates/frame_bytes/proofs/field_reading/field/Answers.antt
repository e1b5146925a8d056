-- The part from start to start + width is what the contract takes.
use Prim.Native.Nat.{ℕ, ◌+◌, ◌-◌}
use mathlib.Core.Path.{◌≡◌, ap, ◌∙◌}
use Rattle.std.proofs.Common.{arith}
use lib.ListN.{take, drop}
use Rattle.rules_format.specs.Hex.{hex_number}
use Rattle.frame_bytes.proofs.field_reading.field.Goals as goal

pub returns : goal.returns
returns c =
    let a = c.args in
    let e : a.start + a.width - a.start ≡ a.width = omega arith in
    c.number_of.ensures ∙ ap (λ (n : ℕ). hex_number (take n (drop a.start a.line.now))) e
