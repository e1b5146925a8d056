use Rattle.reply_values.proofs.closing_values.Goals as goal

pub returns : goal.returns
returns c = λ x e f. rw (e, f)
