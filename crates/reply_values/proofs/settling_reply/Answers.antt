-- The values of a settlement's fields, and its records.
use Prim.Native.Nat.{min, ◌*◌}
use mathlib.Core.Path.{refl, ap, ◌∙◌}
use Rattle.rules_replies.specs.Replies.{settling_text}
use Rattle.engine_refusals.specs.NumberLaws.{number_not_0}
use Rattle.engine_settling.specs.Settles.{Settled}
use Rattle.reply_writing.specs.reply_sizes.TextLaws.{text_of_lem, settling_added}
use Rattle.reply_values.proofs.settling_reply.Goals as goal

pub returns-in-Ok : goal.returns-in-Ok
returns-in-Ok c = rw c.in-Ok.is record {
  text = λ m w.
      text_of_lem _ 6 _ (settling_text m) refl refl (λ z.
      let h = w z in
      settling_added _ m h.old refl (c.settling_values.ensures m h.answer)
      (c.award_bytes.ensures ∙ ap (λ (x : Settled). 6 * min x.records 32) h.answer) h.buffer h.within_room h.six);
}

pub returns-in-Err : goal.returns-in-Err
returns-in-Err c = rw c.in-Err.is record {
  text = λ m w.
      let b = c.blank.ensures.kind_value in
      text_of_lem _ 6 _ (settling_text m) b.0 (b.1 ∙ c.from.ensures) (λ z. absurd (number_not_0 c.in-Err.refusal z));
}
