-- Supply and cover depend on the developers' projects and quantities alone; and at A no withdrawal counts yet.
use Rattle.std.specs.Prelude.{ℕ, ◌≡◌, map, leb, eqb}
use Rattle.std.proofs.Common.{ap₂, le_refl}
use Rattle.std.proofs.Math.Path.{fun_ext}
use Rattle.rules_numbers.specs.Lists.{one_to, keep, total, greatest}
use Rattle.rules_demand.specs.Demand.{dem}
use Rattle.rules_auction.specs.Ledger.{Settings, Developer, Ledger}
use Rattle.rules_auction.specs.Clearing.{highest, high, developers_of, greatest_of, supply, covered}
use Rattle.laws_ledger.specs.Sound.{SoundDeveloper}
use Rattle.laws_ledger.specs.clearing.HighLow.{high_at_top}

pub supply_same :
    (f g : Developer → ℕ) (l m : Ledger) →
    ((n : ℕ) → (l.developers n).declared.project ≡ (m.developers n).declared.project) →
    ((n : ℕ) → f (l.developers n) ≡ g (m.developers n)) → supply f l ≡ supply g m
unfolding supply greatest_of developers_of
supply_same f g l m p q =
    ap₂ (λ (projects quantities : ℕ → ℕ). total (map (λ k. greatest (map quantities (keep (λ n. eqb (projects n) k) (one_to 32)))) (one_to 32))) (fun_ext p)
    (fun_ext q)

pub covered_same :
    (l m : Ledger) (p : ℕ) → l.settings ≡ m.settings →
    ((n : ℕ) → (l.developers n).declared.project ≡ (m.developers n).declared.project) →
    ((n : ℕ) → high p (l.developers n) ≡ high p (m.developers n)) → covered l p ≡ covered m p
unfolding covered
covered_same l m p s h g = ap₂ (λ (t : Settings) (q : ℕ). leb (dem t.ce t.d t.m1 t.m2 p) q) s (supply_same (high p) (high p) l m h g)

pub high_at_start : (c a : ℕ) (x : Developer) → SoundDeveloper c a x → high a x ≡ highest x
high_at_start c a x s = high_at_top c a x s.prices a (le_refl a)
