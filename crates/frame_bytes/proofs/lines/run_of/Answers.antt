-- The first 0A is where the run ends.
use Prim.Native.Nat.{ℕ, suc, ◌+◌}
use mathlib.Core.Path.{◌≡◌, refl, ap, ◌∙◌}
use mathlib.Core.Bool.{Bool, true, false, cond}
use mathlib.Core.List.{List, [], ◌∷◌}
use Rattle.std.specs.Prelude.{eqb}
use Rattle.std.specs.List.{position_from}
use Rattle.std.specs.Option.{unwrap_or}
use Rattle.std.proofs.Common.{zero-add, arith, rules, Some, Option}
use Rattle.std.proofs.lemmas.Iterator.{YieldsList-from_slice}
use Rattle.std.proofs.lemmas.Iterator.Adapters.{position_from-zero}
use Rattle.std.proofs.lemmas.Iterator.Search.{position_from_yields_List}
use borrow.Author.Tests.{tests}
use lib.ListN.{length}
use Rattle.rules_format.specs.Lines.{run}
use Rattle.rules_format.specs.LineLaws.{run_le}
use Rattle.frame_bytes.proofs.lines.run_of.Goals as goal

first : (cs : List ℕ) (i : ℕ) → unwrap_or (position_from (λ c. eqb c 10) i cs) (i + length cs) ≡ i + run cs
unfolding run
first [] i = refl
first (c ∷ cs) i = go (eqb c 10) (first cs (i + 1))
  where
    go : (t : Bool) → unwrap_or (position_from (λ c. eqb c 10) (i + 1) cs) (i + 1 + length cs) ≡ i + 1 + run cs
        → unwrap_or (cond t (Some i) (position_from (λ c. eqb c 10) (i + 1) cs)) (i + length (c ∷ cs)) ≡ i + cond t 0 (suc (run cs))
    go true h = omega arith
    go false h = let e : i + 1 + length cs ≡ i + suc (length cs) = omega arith in omega (arith, rw e at h)

first_run : (cs : List ℕ) → unwrap_or (position_from (λ c. eqb c 10) 0 cs) (length cs) ≡ run cs
first_run cs = simp zero-add at (first cs 0)

pub returns : goal.returns
returns c =
    let s = c.args.bytes.now in
    let h : c.position.result ≡ position_from (λ x. eqb x 10) 0 s =
    position_from_yields_List (λ x. eqb x 10) _ _ _ c.position.ensures.ran (YieldsList-from_slice s cc) (λ x b q k. search (rules, tests)) ∙ position_from-zero (λ x. eqb x 10) s in
    let e : c.unwrap_or.result ≡ run s = c.unwrap_or.ensures ∙ ap (λ (o : Option ℕ). unwrap_or o (length s)) h ∙ first_run s in
    (e, omega (arith, e, run_le s))
