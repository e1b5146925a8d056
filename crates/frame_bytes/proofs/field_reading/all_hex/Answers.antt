-- The loop keeps that the line is all digits exactly if the bytes passed and those left are.
use Prim.Native.Nat.{◌+◌}
use mathlib.Core.Path.{◌≡◌, refl, ap, sym, ◌∙◌}
use mathlib.Core.Bool.{Bool, true, false, ◌&&◌}
use lib.ListN.{drop, drop_of_length-le}
use Rattle.rules_numbers.specs.Lists as lists
use Rattle.rules_format.specs.Hex.{all_hex}
use Rattle.rules_format.specs.HexLaws.{hex_step}
use Rattle.frame_bytes.proofs.field_reading.all_hex.Goals as goal

and_assoc : (a b c : Bool) → (a && b) && c ≡ a && (b && c)
and_assoc true b c = refl
and_assoc false b c = refl

and_end : (a : Bool) → a && true ≡ a
and_end true = refl
and_end false = refl

pub loop-c-preserved : goal.loop-c-preserved
loop-c-preserved c =
    let s = c.args.line.now in
    let l = c.loop-c in
    let left = all_hex (drop (l.c-index + 1) s) in
    let h = ap (λ (b : Bool). b && left) c.is_hex-all.ensures ∙ sym (hex_step s l.c-index c.loop-c-test.true) in
    and_assoc l.all _ left ∙ ap (λ (b : Bool). l.all && b) h ∙ l.invariant

pub returns : goal.returns
unfolding lists.all
returns c =
    let l = c.loop-c in
    let none = ap all_hex (drop_of_length-le c.args.line.now c.loop-c-test.false) in
    sym (and_end l.all) ∙ ap (λ (b : Bool). l.all && b) (sym none) ∙ l.invariant
