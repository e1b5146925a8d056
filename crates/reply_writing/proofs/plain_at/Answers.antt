-- Beyond the limit already, above it now, outside the buffer, or written.
use mathlib.Core.List.{[]}
use Rattle.rules_replies.specs.Replies.{answer_line}
use Rattle.std.proofs.Common.{arith}
use Rattle.reply_writing.proofs.Placing.{bare_length, puts_beyond, puts_over, puts_outside, puts_tail, puts_length, puts_inside}
use Rattle.reply_writing.proofs.plain_at.Goals as goal

pub returns-then-limit-at-lt5 : goal.returns-then-limit-at-lt5
returns-then-limit-at-lt5 c =
    puts_over _ _ _ _ 5 (bare_length _ _) c.if-limit-at-lt5.true c.if-limit-at.false c.requires

pub returns-then-out-end : goal.returns-then-out-end
returns-then-out-end c = puts_outside _ _ _ _ 5 (bare_length _ _) c.if-limit-at-lt5.false c.if-limit-at.false c.if-out-end.true

pub put_plain-requires : goal.put_plain-requires
put_plain-requires c =
    let s = c.args in
    let e = bare_length s.kind s.number in
    omega (arith, e, puts_tail (answer_line s.kind s.number []) s.limit s.at s.out.now 5 e c.if-out-end.false)

pub shape_of-out : goal.shape_of-out
shape_of-out c =
    let s = c.args in
    puts_length _ s.limit _ _ 5 (bare_length s.kind s.number) c.if-out-end.false _ c.put_plain.ensures

pub returns : goal.returns
returns c =
    puts_inside _ _ _ _ 5 (bare_length _ _) c.if-limit-at-lt5.false c.if-limit-at.false c.if-out-end.false _ c.put_plain.ensures

pub returns-then-limit-at : goal.returns-then-limit-at
returns-then-limit-at c = puts_beyond _ _ _ _ c.if-limit-at.true
