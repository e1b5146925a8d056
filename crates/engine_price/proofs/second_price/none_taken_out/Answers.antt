-- No pair of a kind and a history is of a developer that is taken out.
use Rattle.std.proofs.Common.{ℕ, ◌≡◌, true, false, rules}
use borrow.Author.Tests.{tests}
use Rattle.std.proofs.lemmas.Iterator.{cases_from_all, YieldsList-from_slice, YieldsList-from_zip}
use Rattle.rules_auction.specs.Second.{lodged_applied}
use Rattle.engine_held.specs.declared.history.History.{History}
use Rattle.engine_price.specs.second_price.Taken.{plant_in}
use Rattle.engine_price.proofs.second_price.Taking.{none_read}
use Rattle.engine_price.proofs.second_price.none_taken_out.Goals as goal

pub returns : goal.returns
returns c =
    let a = c.args.auction.now in
    none_read a.kinds a.histories c.all.result _ (cases_from_all c.all.new.self _ _
    (λ (x : ℕ × History). lodged_applied (plant_in x.0 x.1.count) ≡ false)
    (λ (x : ℕ × History). lodged_applied (plant_in x.0 x.1.count) ≡ true)
    c.all.ensures.ran (YieldsList-from_zip (YieldsList-from_slice a.kinds (cc)) (YieldsList-from_slice a.histories (cc)))
    (λ x q k. search (rules, tests)) (λ x q k. search (rules, tests)))
