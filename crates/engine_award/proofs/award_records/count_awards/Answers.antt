-- `count_awards` counts the levels above 0, which are at most as many as there are places.
use Rattle.std.proofs.Common.{ℕ, ◌≡◌, ◌∙◌, length, arith, rules}
use Rattle.std.specs.List.{count_by}
use Rattle.std.proofs.lemmas.List.Sums.{count_by-le-length}
use lib.Dec.{ltb}
use Rattle.engine_award.proofs.award_records.Counting.{counted}
use Rattle.engine_award.proofs.award_records.count_awards.Goals as goal

pub returns : goal.returns
returns c =
    let e : c.count.result ≡ count_by (ltb 0) c.args.award = search rules in
    let places : length {A = ℕ} c.args.award ≡ 32 = search rules in
    (e ∙ counted c.args.award, omega (arith, count_by-le-length (ltb 0) c.args.award))
