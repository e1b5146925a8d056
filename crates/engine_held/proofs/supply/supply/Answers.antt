-- `supply` is `supply_of`: the sum of the projects' greatest, each below 2^32.
use Rattle.std.proofs.Common.{rules, arith, ◌≤◌, ◌≡◌, ◌∙◌, ap, sum}
use Rattle.std.proofs.iter.runs.Sources.{sums}
use Rattle.std.proofs.lemmas.List.Sums.{sum_by-le}
use Rattle.std.proofs.lemmas.List.Elements.{All-from_get_or}
use mir.Syntax.{w32}
use Rattle.rules_numbers.specs.Lists.{total}
use Rattle.engine_held.specs.supply.ByProject.{supply_of}
use Rattle.engine_held.specs.supply.Words.{words_length, words_below}
use Rattle.engine_held.proofs.supply.Summing.{sum_total}
use Rattle.engine_held.proofs.supply.supply.Goals as goal

pub sum-requires-clause-fits : goal.sum-requires-clause-fits
sum-requires-clause-fits c = search (rules, sums)

pub returns : goal.returns
unfolding supply_of
returns c =
    let best = c.greatest_by_project in
    let e : c.sum.result ≡ sum best.result = search (rules, sums) in
    let long = words_length w32 32 best.result _ best.type_inv in
    let word = words_below w32 32 best.result _ best.type_inv (omega arith) in
    let small = sum_by-le (λ x. x) 4294967295 best.result (All-from_get_or (λ x. x ≤ 4294967295) best.result 0 (λ i h. omega (arith, word i))) in
    (e ∙ sum_total best.result ∙ ap total best.ensures, omega (arith, e, long, small))
