-- No A above the top price is at most 2 CE.
use Rattle.engine_auction.proofs.SettingUp.{above_top}
use Rattle.engine_auction.proofs.may_set_up.Goals as goal

pub returns-then-a : goal.returns-then-a
returns-then-a c = above_top _ _ _ _ _ c.if-a.true

pub returns : goal.returns
returns c = c.settings_ok.ensures
