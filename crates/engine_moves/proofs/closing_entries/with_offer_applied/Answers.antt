-- What the functions over histories ensure, put together.
use Rattle.engine_moves.proofs.closing_entries.ApplyingOffers.{offer_applied}
use Rattle.engine_moves.proofs.closing_entries.with_offer_applied.Goals as goal

pub returns : goal.returns
returns c =
    offer_applied _ _ _ _ _ _ _ _ _ c.withdraws-missing.ensures c.reach-reached.ensures c.close-applied.ensures
    c.last_level.ensures
