-- The calls that an order asks give the ledger that the replies go on with.
use Rattle.std.specs.Prelude.{◌≡◌, refl, List, ◌++◌}
use Rattle.std.proofs.Common.{◌∙◌}
use Rattle.rules_auction.specs.Ledger.{Call, Ledger}
use Rattle.rules_auction.specs.Rounds.{step_all, ledger}
use Rattle.laws_ledger.specs.reachable.Steps.{ledger_append}
use Rattle.rules_replies.specs.Orders.{Order, Malformed, Asks, Settle}
use Rattle.rules_replies.specs.Replies.{ledger_after}
use Rattle.rules_replies.specs.record_calls.Calls.{asked_calls}

-- the calls that an order asks give the ledger after it
pub step_asked : (l : Ledger) (o : Order) → step_all l (asked_calls o) ≡ ledger_after l o
unfolding ledger_after step_all
step_asked l Malformed = refl
step_asked l (Asks c) = refl
step_asked l (Settle limit) = refl

pub after_asked : (cs : List Call) (o : Order) → ledger (cs ++ asked_calls o) ≡ ledger_after (ledger cs) o
after_asked cs o = ledger_append cs (asked_calls o) ∙ step_asked (ledger cs) o
