-- The order's kind and fields are those that are written.
use Rattle.rules_replies.specs.WrittenOrders.{lists_match, writable_order, frame_of_order}
use Rattle.frame_writing.proofs.each_call.write_settling.Goals as goal

pub returns : goal.returns
unfolding lists_match writable_order frame_of_order
returns c = c.encode.ensures
