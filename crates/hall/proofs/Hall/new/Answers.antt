-- A fresh auction in the hall.
use lib.IntN.{pos}
use Rattle.rules_auction.specs.Rounds.{step_all, ledger}
use Rattle.hall.proofs.Hall.new.Goals as goal

pub returns : goal.returns
unfolding ledger step_all
returns c = λ i. record { auction = c.new.ensures i; excess = pos 0 }
