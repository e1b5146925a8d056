-- The test of every price.
use lib.Dec.{leb}
use Rattle.std.proofs.Common.{rules, tests}
use Rattle.std.proofs.lemmas.Iterator.{YieldsList-from_slice}
use Rattle.std.proofs.lemmas.Iterator.Search.{all_from_yields_List}
use Rattle.engine_sealed.proofs.sealed_checks.EveryPlace.{all_is}
use Rattle.engine_sealed.proofs.sealed_checks.within_ceiling.Goals as goal

pub returns : goal.returns
returns c =
    rw (all_is (λ p. leb p c.args.ceiling) c.args.prices.now)
    (all_from_yields_List (λ p. leb p c.args.ceiling) _ _ _ c.all.ensures.ran (YieldsList-from_slice c.args.prices.now cc) (λ x b q k. search (rules, tests)))
