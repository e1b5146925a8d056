-- `joins` reads projects and kinds from the front, in step with a loop: what it says of what is left is what it says of the whole.
use Prim.Native.Nat.{ℕ, ◌+◌, ◌≤◌, ◌<◌}
use mathlib.Core.Path.{◌≡◌, refl, sym, ap, ◌∙◌}
use mathlib.Core.Bool.{Bool, true, false, cond, ◌&&◌, and-false}
use mathlib.Core.List.{List, ◌∷◌}
use native.Mathlib.Omega.{arith}
use native.Mathlib.Numerals.{add-one}
use lib.Dec.{eqb}
use lib.ListN.{length, get_or, drop, drop_of_length-le}
use lib.Seq.{drop-cons}
use borrow.Author.Tests.{eq-eqb, ne_eqb}
use Rattle.rules_numbers.specs.Lists.{all}
use Rattle.engine_held.specs.supply.ByProject.{of_project, joins}

joins_cons :
    (p x : ℕ) (ps xs : List ℕ) (k kind : ℕ) →
    joins (p ∷ ps) (x ∷ xs) k kind ≡ cond (eqb p k) ((eqb kind 2 && eqb x 2) && joins ps xs k kind) (joins ps xs k kind)
unfolding joins of_project all
joins_cons p x ps xs k kind = go (eqb p k)
  where
    go : (b : Bool) → all (λ y. eqb kind 2 && eqb y 2) (cond b (x ∷ of_project k ps xs) (of_project k ps xs))
        ≡ cond b ((eqb kind 2 && eqb x 2) && joins ps xs k kind) (joins ps xs k kind)
    go true = refl
    go false = refl

module _ (ps kinds : List ℕ) (k kind : ℕ) where
  -- the loop before place i
  pub record Joining (i : ℕ) : Type 0 where
    pub projects : length ps ≡ 32
    pub beside : length kinds ≡ 32
    pub within : i ≤ 32
    pub left : joins (drop i ps) (drop i kinds) k kind ≡ joins ps kinds k kind

  pub joining_first : length ps ≡ 32 → length kinds ≡ 32 → Joining 0
  joining_first p q = record { projects = p; beside = q; within = omega arith; left = refl }

  pub joining_end : (i : ℕ) → Joining i → 32 ≤ i → true ≡ joins ps kinds k kind
  unfolding joins of_project all
  joining_end i j h = ap (λ (l : List ℕ). joins l (drop i kinds) k kind) (sym (drop_of_length-le ps {i = i} (omega arith))) ∙ j.left

  module _ (i : ℕ) (j : Joining i) (h : i < 32) where
    turn :
        cond (eqb (get_or ps i 0) k) ((eqb kind 2 && eqb (get_or kinds i 0) 2) && joins (drop (i + 1) ps) (drop (i + 1) kinds) k kind)
        (joins (drop (i + 1) ps) (drop (i + 1) kinds) k kind)
        ≡ joins ps kinds k kind
    turn =
        let dp : drop i ps ≡ get_or ps i 0 ∷ drop (i + 1) ps = rw add-one (drop-cons ps i 0 (omega arith)) in
        let dk : drop i kinds ≡ get_or kinds i 0 ∷ drop (i + 1) kinds = rw add-one (drop-cons kinds i 0 (omega arith)) in
        let e = j.left in
        cc (joins_cons (get_or ps i 0) (get_or kinds i 0) (drop (i + 1) ps) (drop (i + 1) kinds) k kind)

    on : joins (drop (i + 1) ps) (drop (i + 1) kinds) k kind ≡ joins ps kinds k kind → Joining (i + 1)
    on e = record { projects = j.projects; beside = j.beside; within = omega arith; left = e }

    pub joining_other : (get_or ps i 0 ≡ k → ⊥) → Joining (i + 1)
    joining_other n = on (rw (ne_eqb (get_or ps i 0) k n) at turn)

    module _ (e : get_or ps i 0 ≡ k) where
      among : (eqb kind 2 && eqb (get_or kinds i 0) 2) && joins (drop (i + 1) ps) (drop (i + 1) kinds) k kind ≡ joins ps kinds k kind
      among = rw (eq-eqb (get_or ps i 0) k e) at turn

      pub joining_again : kind ≡ 2 → get_or kinds i 0 ≡ 2 → Joining (i + 1)
      joining_again a b = on (simp (eq-eqb kind 2 a, eq-eqb (get_or kinds i 0) 2 b) at among)

      pub joining_kind : (kind ≡ 2 → ⊥) → false ≡ joins ps kinds k kind
      joining_kind n = simp (ne_eqb kind 2 n) at among

      pub joining_beside : (get_or kinds i 0 ≡ 2 → ⊥) → false ≡ joins ps kinds k kind
      joining_beside n = simp (ne_eqb (get_or kinds i 0) 2 n, and-false) at among
