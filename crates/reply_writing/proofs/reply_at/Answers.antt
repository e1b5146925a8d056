-- Beyond the limit already, above it now, outside the buffer, or written.
use Rattle.reply_writing.specs.reply_sizes.Texts.{text_of}
use Rattle.reply_writing.proofs.Placing.{puts_beyond, puts_over, puts_outside, puts_tail, puts_length, puts_inside}
use Rattle.reply_writing.proofs.reply_at.Goals as goal

pub returns-then-limit-at-2 : goal.returns-then-limit-at-2
returns-then-limit-at-2 c =
    puts_over _ _ _ _ _ c.size-n.ensures c.if-limit-at-2.true c.if-limit-at.false c.requires

pub returns-then-out-end : goal.returns-then-out-end
returns-then-out-end c = puts_outside _ _ _ _ _ c.size-n.ensures c.if-limit-at-2.false c.if-limit-at.false c.if-out-end.true

pub put-requires : goal.put-requires
put-requires c =
    let s = c.args in
    puts_tail (text_of s.reply) s.limit s.at s.out.now _ c.size-n.ensures c.if-out-end.false

pub shape_of-out : goal.shape_of-out
shape_of-out c =
    puts_length _ c.args.limit _ _ _ c.size-n.ensures c.if-out-end.false _
    c.put.ensures.out_after

pub returns : goal.returns
returns c =
    puts_inside _ _ _ _ _ c.size-n.ensures c.if-limit-at-2.false c.if-limit-at.false c.if-out-end.false _
    c.put.ensures.out_after

pub returns-then-limit-at : goal.returns-then-limit-at
returns-then-limit-at c = puts_beyond _ _ _ _ c.if-limit-at.true
