-- A registration that makes the agent the developer's own number.
use Rattle.engine_auction.proofs.Registering.{own_named}
use Rattle.engine_auction.proofs.Auction.register.Goals as goal

pub returns : goal.returns
returns c = own_named _ _ _ _ _ _ _ _ _ c.register_for.ensures
