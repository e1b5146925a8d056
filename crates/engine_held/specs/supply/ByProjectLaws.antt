-- What is taken project by project from lists of projects and numbers is, over a ledger's developers, what the rules take of the ledger.
use Rattle.std.specs.Prelude.{ℕ, ◌≤◌, ◌≡◌, refl, ◌⊎◌, Bool, true, false, cond, ◌&&◌, eqb}
use Rattle.std.proofs.Common.{sym, ap, ◌∙◌, inr, ⊎_elim, arith}
use mathlib.Core.List.{List, [], ◌∷◌, map, Memᴰ}
use Rattle.rules_numbers.specs.Lists.{one_to, keep, total, greatest, all}
use Rattle.rules_numbers.specs.ListLaws.{in_one_to, map_same, all_map}
use Rattle.rules_auction.specs.Ledger.{Developer, Ledger, nobody}
use Rattle.rules_auction.specs.Clearing.{of_each, developers_of, greatest_of, supply as supply_by}
use Rattle.rules_auction.specs.Projects.{in_developers_of}
use Rattle.rules_auction.specs.Refusals.{may_join}
use Rattle.engine_held.specs.supply.ByProject.{of_project, greatest_by_project, supply_of, joins}

-- the numbers of a project's developers are those of the developers kept
pub of_project_map : {A : Type 0} (k : ℕ) (f g : A → ℕ) (xs : List A) → of_project k (map f xs) (map g xs) ≡ map g (keep (λ n. eqb (f n) k) xs)
unfolding of_project keep
of_project_map k f g [] = refl
of_project_map {A} k f g (x ∷ xs) = go (eqb (f x) k) (of_project_map k f g xs)
  where
    those : List ℕ
    those = of_project k (map f xs) (map g xs)

    kept : List A
    kept = keep (λ n. eqb (f n) k) xs

    go : (b : Bool) → those ≡ map g kept → cond b (g x ∷ those) those ≡ map g (cond b (x ∷ kept) kept)
    go true e = ap {B = List ℕ} (λ r. g x ∷ r) e
    go false e = e

-- of the projects of m and the figures of l, where m has l's developers, or nobody in their places: those are in no project, so they do
-- not count
pub supply_of_part :
    (f : Developer → ℕ) (l m : Ledger) → ((n : ℕ) → (m.developers n ≡ nobody) ⊎ (m.developers n ≡ l.developers n)) →
    supply_of (of_each (λ x. x.declared.project) m) (of_each f l) ≡ supply_by f m
unfolding supply_of greatest_by_project supply_by greatest_of developers_of
supply_of_part f l m each =
    ap total (map_same _ _ (one_to 32) (λ k i. ap greatest
    (of_project_map k _ _ (one_to 32) ∙ map_same _ _ (developers_of m k) (figure k ((in_one_to k 32).0 i).0))))
  where
    figure : (k : ℕ) → 1 ≤ k → (n : ℕ) → Memᴰ n (developers_of m k) → f (l.developers n) ≡ f (m.developers n)
    figure k h n i =
        let e = ((in_developers_of m k n).0 i).2 in
        ⊎_elim (λ z. absurd (let o : 0 ≡ k = sym (ap (λ (x : Developer). x.declared.project) z) ∙ e in omega arith)) (λ z. ap f (sym z)) (each n)

pub supply_of_lem :
    (f : Developer → ℕ) (l : Ledger) →
    supply_of (of_each (λ x. x.declared.project) l) (of_each f l) ≡ supply_by f l
supply_of_lem f l = supply_of_part f l l (λ n. inr refl)

pub joins_of :
    (l : Ledger) (k kind : ℕ) →
    joins (of_each (λ x. x.declared.project) l) (of_each (λ x. x.declared.kind) l) k kind ≡ may_join l k kind
unfolding joins may_join developers_of
joins_of l k kind = ap (all (λ x. eqb kind 2 && eqb x 2)) (of_project_map k _ _ (one_to 32)) ∙ all_map _ _ (keep _ (one_to 32))
