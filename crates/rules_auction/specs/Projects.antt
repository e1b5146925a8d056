-- A project's developers, and the greatest of a figure among them, in words: none of them has more, and one of them has it.
use Prim.Native.Nat.{ℕ, ◌≤◌}
use Rattle.std.specs.Prelude.{◌≡◌, refl, ◌↔◌, true, eqb}
use Rattle.std.proofs.Common.{sym, ⊎_elim, arith, eqb-true, eq-eqb}
use mathlib.Core.List.{List, [], ◌∷◌, map, Memᴰ}
use Rattle.rules_numbers.specs.Lists.{one_to, greatest}
use Rattle.rules_numbers.specs.ListLaws.{in_keep, in_one_to, in_map, map_intro, greatest_upper, greatest_in}
use Rattle.rules_auction.specs.Ledger.{Developer, Ledger}
use Rattle.rules_auction.specs.Clearing.{developers_of, greatest_of}

pub in_developers_of : (l : Ledger) (k n : ℕ) → Memᴰ n (developers_of l k) ↔ ((1 ≤ n) × (n ≤ 32) × ((l.developers n).declared.project ≡ k))
unfolding developers_of
in_developers_of l k n = (
  (λ m. let r = kept.0 m in let b = (in_one_to n 32).0 r.0 in (b.0, b.1, eqb-true _ k r.1)),
  (λ r. kept.1 ((in_one_to n 32).1 (r.0, r.1), eq-eqb _ k r.2)),
)
  where
    kept : Memᴰ n (developers_of l k) ↔ (Memᴰ n (one_to 32) × (eqb (l.developers n).declared.project k ≡ true))
    kept = in_keep (λ (m : ℕ). eqb (l.developers m).declared.project k) n (one_to 32)

module _ (f : Developer → ℕ) (l : Ledger) where
  -- a project with a developer has one whose figure is the greatest
  pub greatest_of_attained : (k : ℕ) → (developers_of l k ≡ [] → ⊥) → (n : ℕ) × Memᴰ n (developers_of l k) × (f (l.developers n) ≡ greatest_of f l k)
  unfolding greatest_of
  greatest_of_attained k some = go (developers_of l k) some
    where
      figure : ℕ → ℕ
      figure n = f (l.developers n)

      go : (ns : List ℕ) → (ns ≡ [] → ⊥) → (n : ℕ) × Memᴰ n ns × (figure n ≡ greatest (map figure ns))
      go [] some = absurd (some refl)
      go (m ∷ ns) some = ⊎_elim
          (λ z. (m, Memᴰ.head refl, omega (arith, z, greatest_upper {x = figure m} (map figure (m ∷ ns)) (Memᴰ.head refl))))
          (λ i. let r = (in_map figure _ (m ∷ ns)).0 i in (r.0, r.1, sym r.2))
          (greatest_in (map figure (m ∷ ns)))

  -- and none has more
  pub greatest_of_upper : (k n : ℕ) → Memᴰ n (developers_of l k) → f (l.developers n) ≤ greatest_of f l k
  unfolding greatest_of
  greatest_of_upper k n m = greatest_upper _ (map_intro (λ (j : ℕ). f (l.developers j)) (developers_of l k) m)

  pub greatest_of_none : (k : ℕ) → developers_of l k ≡ [] → greatest_of f l k ≡ 0
  unfolding greatest_of greatest
  greatest_of_none k e = rw e
