-- `lodge` stores the list as an offer behind no withdrawals, and holds its steps as lodged.
use Rattle.engine_held.proofs.history.Writing.{lodge_list}
use Rattle.engine_held.proofs.history.History.lodge.Goals as goal

pub returns : goal.returns
returns c = lodge_list _ _ _ _ c.new.ensures c.offer.ensures
