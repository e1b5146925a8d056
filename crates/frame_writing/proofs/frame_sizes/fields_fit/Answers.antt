-- All pairs of a width and a field fit.
use Prim.Native.Nat.{ℕ, ◌^◌}
use mathlib.Core.Path.{◌≡◌, refl, ap, ◌∙◌}
use mathlib.Core.Bool.{Bool, ◌&&◌}
use mathlib.Core.List.{List, [], ◌∷◌}
use Rattle.std.specs.List.{list_all, zip}
use Rattle.std.proofs.Common.{arith, rules}
use Rattle.std.proofs.lemmas.Iterator.{YieldsList-from_slice, YieldsList-from_zip}
use Rattle.std.proofs.lemmas.Iterator.Search.{all_from_yields_List}
use lib.Dec.{ltb}
use lib.ListN.{length}
use Rattle.rules_format.specs.Written.{fit}
use Rattle.frame_writing.proofs.frame_sizes.fields_fit.Goals as goal

pairs_fit : (ws ns : List ℕ) → length ws ≡ length ns → list_all (λ p. ltb p.1 (16 ^ p.0)) (zip ws ns) ≡ fit ws ns
unfolding fit
pairs_fit [] [] e = refl
pairs_fit [] (n ∷ ns) e = absurd (omega arith)
pairs_fit (w ∷ ws) [] e = absurd (omega arith)
pairs_fit (w ∷ ws) (n ∷ ns) e = ap (λ (b : Bool). ltb n (16 ^ w) && b) (pairs_fit ws ns (omega arith))

pub returns : goal.returns
returns c =
    let ws : List ℕ = c.args.widths.now in
    let ns : List ℕ = c.args.fields.now in
    let e : c.all.result ≡ list_all (λ (p : ℕ × ℕ). ltb p.1 (16 ^ p.0)) (zip ws ns) =
    all_from_yields_List (λ (p : ℕ × ℕ). ltb p.1 (16 ^ p.0)) c.all.new.self _ _ c.all.ensures.ran
    (YieldsList-from_zip (YieldsList-from_slice ws (search rules)) (YieldsList-from_slice ns (search rules))) (λ x b q k. search rules) in
    e ∙ pairs_fit _ _ c.requires
