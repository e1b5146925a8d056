-- The levels whose developers pass a test, number by number, are what is granted to those.
use Prim.Native.Nat.{ℕ, zero, suc, ◌+◌}
use mathlib.Core.Path.{◌≡◌, refl, sym, ap, ◌∙◌}
use mathlib.Core.Bool.{Bool, true, false, cond}
use mathlib.Core.List.{List, [], ◌∷◌, map, Memᴰ}
use native.Mathlib.Omega.{arith}
use lib.Dec.{eqb}
use lib.ListN.{length}
use borrow.Author.Tests.{eqb-true}
use Rattle.rules_numbers.specs.Lists.{one_to, keep, total}
use Rattle.rules_numbers.specs.ListLaws.{in_one_to, map_same}
use Rattle.rules_numbers.specs.Numbered.{at_number}
use Rattle.rules_numbers.specs.Sums.{total_kept, total_numbers_first}
use Rattle.rules_auction.specs.Participation.{Grant, quantities}
use Rattle.engine_award.specs.participation.Judged.{grant_of, grants_in}

module _ (t : ℕ → Bool) where
  -- the level under number k, if its developer passes
  abbrev pub level_to : List ℕ → List ℕ → ℕ → ℕ
  level_to vs ns k = cond (t (at_number ns k)) (at_number vs k) 0

  abbrev counted : Grant → ℕ
  counted g = cond (t g.developer) g.quantity 0

  granted : (vs ns : List ℕ) → length vs ≡ length ns → total (map (level_to vs ns) (one_to (length vs))) ≡ total (map counted (grants_in vs ns))
  unfolding grants_in total one_to at_number
  granted [] ns e = refl
  granted (v ∷ vs) [] e = absurd (omega arith)
  granted (v ∷ vs) (n ∷ ns) e =
      total_numbers_first (level_to (v ∷ vs) (n ∷ ns)) (length vs)
      ∙ ap (λ (m : ℕ). cond (t n) v 0 + m) (ap total (map_same _ _ (one_to (length vs)) behind) ∙ granted vs ns (omega arith))
      ∙ go (eqb v 0) refl
    where
      behind : (j : ℕ) → Memᴰ j (one_to (length vs)) → level_to (v ∷ vs) (n ∷ ns) (suc j) ≡ level_to vs ns j
      behind zero m = absurd (omega (arith, (in_one_to 0 (length vs)).0 m))
      behind (suc j) m = refl

      rest : List Grant
      rest = grants_in vs ns

      nothing : (b : Bool) → v ≡ 0 → cond b v 0 ≡ 0
      nothing true e = e
      nothing false e = refl

      go : (b : Bool) → eqb v 0 ≡ b → cond (t n) v 0 + total (map counted rest) ≡ total (map counted (cond b rest (grant_of n v ∷ rest)))
      go true e = omega (arith, nothing (t n) (eqb-true v 0 e))
      go false e = refl

  pub granted_to : (vs ns : List ℕ) → length vs ≡ 32 → length ns ≡ 32 →
      total (map (level_to vs ns) (one_to 32)) ≡ quantities (keep (λ g. t g.developer) (grants_in vs ns))
  granted_to vs ns e f = rw e at (granted vs ns (omega arith)) ∙ sym (total_kept (λ g. g.quantity) (λ g. t g.developer) (grants_in vs ns))
