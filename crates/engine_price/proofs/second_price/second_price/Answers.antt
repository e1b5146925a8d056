-- The first price where nobody is taken out, else the price and the mark by the projects that remain.
use Rattle.engine_price.proofs.second_price.Taking.{second_first, second}
use Rattle.engine_price.proofs.second_price.second_price.Goals as goal

pub returns-then-none_taken_out : goal.returns-then-none_taken_out
returns-then-none_taken_out c = second_first _ _ _ _ _ _ _ _ c.if-none_taken_out.true c.none_taken_out.ensures

pub returns : goal.returns
returns c = second _ _ _ _ _ _ _ _ _ _ c.remaining_projects-remaining.ensures c.covered_by-covered.ensures c.price_by.ensures
