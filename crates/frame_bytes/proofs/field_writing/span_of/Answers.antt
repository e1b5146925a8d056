-- The sum is the total.
use Prim.Native.Nat.{ℕ, ◌<◌, ◌+◌, ◌^◌}
use mathlib.Core.Path.{◌≡◌, ◌∙◌}
use mathlib.Core.List.{List, [], ◌∷◌}
use Rattle.std.specs.Prelude.{sum}
use Rattle.std.specs.List.{fold}
use Rattle.std.proofs.Common.{arith, rules}
use Rattle.std.proofs.iter.runs.Made.{chains}
use Rattle.std.proofs.iter.runs.Sources.{sums}
use Rattle.rules_numbers.specs.Lists.{total}
use Rattle.frame_bytes.proofs.field_writing.span_of.Goals as goal

added : (xs : List ℕ) (a : ℕ) → fold ◌+◌ a xs ≡ a + total xs
unfolding total
added [] a = omega arith
added (x ∷ xs) a = omega (arith, added xs (a + x))

total_sum : (xs : List ℕ) → sum xs ≡ total xs
total_sum xs = omega (arith, added xs 0)

pub sum-requires-clause-fits : goal.sum-requires-clause-fits
sum-requires-clause-fits c =
    let h : sum c.args.widths.now < 2 ^ 64 = omega (arith, total_sum c.args.widths.now, c.requires) in
    search (rules, sums)

pub returns : goal.returns
returns c = let e : c.sum.result ≡ sum c.args.widths.now = search (rules, chains) in e ∙ total_sum c.args.widths.now
