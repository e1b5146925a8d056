-- A name and four numbers behind it; of a refused closing all but the first are 0.
use Prim.Native.Nat.{ℕ}
use mathlib.Core.Path.{◌≡◌, ◌∙◌, refl, ap}
use mir.Facts.{to_z-of_z}
use mir.Syntax.{w64}
use mir.Val.{SFits}
use Rattle.std.specs.Prelude.{Result, Ok, Err}
use Rattle.std.specs.Result.{result_unwrap_or}
use Rattle.std.proofs.Common.{rules, arith}
use Rattle.rules_auction.specs.Preview.{Previewed}
use Rattle.rules_replies.specs.Replies.{twos_complement}
use Rattle.engine_refusals.specs.declared.Refusal.{Refusal}
use Rattle.engine_refusals.specs.Numbers.{number_in}
use Rattle.engine_looks.specs.readings.Readings.{preview_in}
use Rattle.engine_looks.specs.declared.readings.Preview.{Preview}
use Rattle.trace_text.specs.Words.{no_preview, previewed_line, preview_line}
use Rattle.trace_text.specs.decimal_text.PutsLaws.{puts_as, puts_then}
use Rattle.trace_text.proofs.put_preview.Goals as goal

abbrev shown : ℕ → Preview → Previewed
shown n p = record { answered = record { number = n; excess = p.excess; remainder = p.remainder }; closed = p.closed }

shown_lem :
    (r : Result Preview Refusal) (n : ℕ) (p : Preview) → n ≡ number_in r →
    p ≡ result_unwrap_or r no_preview → shown n p ≡ preview_in r
shown_lem (Ok x) n p e f = rw (e, f) refl
shown_lem (Err x) n p e f = rw (e, f) refl

pub returns : goal.returns
unfolding preview_line previewed_line
returns c =
    let n = c.answer_number-number in
    let p = c.unwrap_or-shown in
    let s : SFits w64 p.result.excess = search rules in
    let bits = c.bits_of-bits.ensures ∙ ap twos_complement (to_z-of_z s) in
    let p2 = puts_then c.put_name-named.ensures c.put_number-numbered.ensures in
    let p4 = puts_then (puts_then p2 (rw bits at c.put_signed-excess.ensures)) c.put_number-remainder.ensures in
    puts_as (puts_then p4 (rw c.mark.ensures at c.put_number.ensures)) _ _ (ap previewed_line (shown_lem c.args.preview n.result p.result n.ensures p.ensures)) (omega arith)
