-- The four sums.
use Rattle.engine_looks.proofs.forcing.supplies_of.Goals as goal

pub returns : goal.returns
returns c = λ i. record {
  both = c.supply.ensures.0 i;
  first = c.supply-2.ensures.0 i;
  second = c.supply-3.ensures.0 i;
  neither = c.supply-4.ensures.0 i;
}
