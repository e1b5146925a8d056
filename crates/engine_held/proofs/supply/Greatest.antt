-- The greatest of each project, developer by developer: one developer more raises its project's greatest, and no other.
use Prim.Native.Nat.{ℕ, suc, ◌+◌, ◌-◌, max, ◌≤◌, ◌<◌}
use mathlib.Core.Path.{◌≡◌, refl, sym, ap, ◌∙◌}
use mathlib.Core.Bool.{Bool, true, false, cond}
use mathlib.Core.List.{List, [], ◌∷◌, ◌++◌, map}
use native.Mathlib.Omega.{arith}
use native.Mathlib.Numerals.{add-one}
use native.Mathlib.Decide.{ℕ_discrete as dec_eq}
use lib.Dec.{eqb}
use lib.ListN.{length, get_or, set, take, replicate, length-map, length-set}
use lib.Seq.{ext_get_or, get_or-set_same, get_or-set_other, set-get_or, take-suc, take_all, length-take-le}
use borrow.Author.Tests.{le-leb, eq-eqb, ne_eqb}
use Rattle.rules_numbers.specs.Lists.{one_to, greatest}
use Rattle.rules_numbers.specs.ListLaws.{greatest_append, map_same, length_one_to, numbered_nth}
use Rattle.rules_auction.specs.Refusals.{is_number}
use Rattle.rules_auction.specs.CheckLaws.{is_number_lem}
use Rattle.engine_held.specs.supply.ByProject.{of_project, greatest_by_project, place_of, counted_of}

-- ---- the place and what counts there, by the tests of the code

module _ (k : ℕ) where
  pub placed : (b : Bool) → is_number k ≡ b → place_of k ≡ cond b (k - 1) 0
  unfolding place_of
  placed b e = rw e

  pub counts : (q : ℕ) (b : Bool) → is_number k ≡ b → counted_of k q ≡ cond b q 0
  unfolding counted_of
  counts q b e = rw e

-- the number at project k's place raised to q
abbrev raised_at : List ℕ → ℕ → ℕ → List ℕ
raised_at best k q = set best (place_of k) (max (get_or best (place_of k) 0) (counted_of k q))

-- ---- one developer more

of_project_more : (k : ℕ) (ps qs : List ℕ) (p q : ℕ) → length ps ≡ length qs →
    of_project k (ps ++ (p ∷ [])) (qs ++ (q ∷ [])) ≡ of_project k ps qs ++ cond (eqb p k) (q ∷ []) []
unfolding of_project
of_project_more k [] [] p q e = refl
of_project_more k [] (y ∷ qs) p q e = absurd (omega arith)
of_project_more k (x ∷ ps) [] p q e = absurd (omega arith)
of_project_more k (x ∷ ps) (y ∷ qs) p q e = go (eqb x k) (of_project_more k ps qs p q (omega arith))
  where
    go :
        (b : Bool) → of_project k (ps ++ (p ∷ [])) (qs ++ (q ∷ [])) ≡ of_project k ps qs ++ cond (eqb p k) (q ∷ []) [] →
        cond b (y ∷ of_project k (ps ++ (p ∷ [])) (qs ++ (q ∷ []))) (of_project k (ps ++ (p ∷ [])) (qs ++ (q ∷ [])))
        ≡ cond b (y ∷ of_project k ps qs) (of_project k ps qs) ++ cond (eqb p k) (q ∷ []) []
    go true d = ap {B = List ℕ} (λ r. y ∷ r) d
    go false d = d

greatest_more : (k : ℕ) (ps qs : List ℕ) (p q : ℕ) → length ps ≡ length qs →
    greatest (of_project k (ps ++ (p ∷ [])) (qs ++ (q ∷ []))) ≡ max (greatest (of_project k ps qs)) (cond (eqb p k) q 0)
unfolding greatest
greatest_more k ps qs p q e = ap greatest (of_project_more k ps qs p q e) ∙ greatest_append (of_project k ps qs) (cond (eqb p k) (q ∷ []) [])
    ∙ ap (max (greatest (of_project k ps qs))) (go (eqb p k))
  where
    go : (b : Bool) → greatest (cond b (q ∷ []) []) ≡ cond b q 0
    go true = omega arith
    go false = refl

-- ---- the projects side by side

module _ (f : ℕ → ℕ) where
  abbrev row : List ℕ
  row = map f (one_to 32)

  row_length : length row ≡ 32
  row_length = length-map (one_to 32) f ∙ length_one_to 32

-- a place of a raised row
raised_at_lem : (xs : List ℕ) (p q i : ℕ) → length xs ≡ 32 → i < 32 → get_or (raised_at xs p q) i 0 ≡ max (get_or xs i 0) (cond (eqb p (suc i)) q 0)
raised_at_lem xs p q i l h = go (dec_eq p (suc i))
  where
    v : ℕ
    v = max (get_or xs (p - 1) 0) q

    other : (p ≡ suc i → ⊥) → (b : Bool) → is_number p ≡ b → get_or (raised_at xs p q) i 0 ≡ get_or xs i 0
    other n true e =
        let w = (is_number_lem p e).0 in
        rw (placed p true e, counts p q true e) (get_or-set_other xs (p - 1) i v 0 (λ d. n (omega arith)))
    other n false e =
        let same : set xs 0 (max (get_or xs 0 0) 0) ≡ xs = ap (set xs 0) (omega arith) ∙ set-get_or xs 0 0 in
        rw (placed p false e, counts p q false e, same)

    go : Dec (p ≡ suc i) → get_or (raised_at xs p q) i 0 ≡ max (get_or xs i 0) (cond (eqb p (suc i)) q 0)
    go (yes e) =
        let t : is_number p ≡ true = rw (le-leb 1 p (omega arith), le-leb p 32 (omega arith)) in
        let f : p - 1 ≡ i = omega arith in
        rw (placed p true t, counts p q true t, f, eq-eqb p (suc i) e) (get_or-set_same xs i (max (get_or xs i 0) q) 0 (omega arith))
    go (no n) = rw (ne_eqb p (suc i) n) (other n (is_number p) refl ∙ omega arith)

length_raised : (xs : List ℕ) (p q : ℕ) → length (raised_at xs p q) ≡ length xs
length_raised xs p q = length-set xs (place_of p) (max (get_or xs (place_of p) 0) (counted_of p q))

raised_row : (f : ℕ → ℕ) (p q : ℕ) → map (λ k. max (f k) (cond (eqb p k) q 0)) (one_to 32) ≡ raised_at (row f) p q
raised_row f p q =
    let g : ℕ → ℕ = λ k. max (f k) (cond (eqb p k) q 0) in
    let l : length (row g) ≡ 32 = row_length g in
    ext_get_or 0 (row g) (raised_at (row f) p q) (l ∙ sym (length_raised (row f) p q ∙ row_length f))
    (λ i h. numbered_nth g 32 (row g) i 0 refl (omega arith)
    ∙ sym (raised_at_lem (row f) p q i (row_length f) (omega arith)
    ∙ ap (λ (n : ℕ). max n (cond (eqb p (suc i)) q 0)) (numbered_nth f 32 (row f) i 0 refl (omega arith))))

raised_more : (ps qs : List ℕ) (p q : ℕ) → length ps ≡ length qs → greatest_by_project (ps ++ (p ∷ [])) (qs ++ (q ∷ [])) ≡ raised_at (greatest_by_project ps qs) p q
unfolding greatest_by_project
raised_more ps qs p q e = map_same _ _ (one_to 32) (λ k m. greatest_more k ps qs p q e) ∙ raised_row (λ k. greatest (of_project k ps qs)) p q

-- ---- the loop before developer i + 1

pub record Raising (ps qs best : List ℕ) (i : ℕ) : Type 0 where
  pub projects : length ps ≡ 32
  pub quantities : length qs ≡ 32
  pub within : i ≤ 32
  pub part : best ≡ greatest_by_project (take i ps) (take i qs)

pub raising_first : (ps qs : List ℕ) → length ps ≡ 32 → length qs ≡ 32 → Raising ps qs (replicate 32 0) 0
unfolding greatest_by_project of_project greatest one_to
raising_first ps qs p q = record { projects = p; quantities = q; within = omega arith; part = refl }

module _ (ps qs best : List ℕ) (i : ℕ) (r : Raising ps qs best i) where
  pub raising_again : (at q v : ℕ) → i < 32 → at ≡ place_of (get_or ps i 0) → q ≡ counted_of (get_or ps i 0) (get_or qs i 0) → v ≡ max (get_or best at 0) q
      → Raising ps qs (set best at v) (i + 1)
  raising_again at q v h ea eq ev =
      let e : set best at v ≡ raised_at best (get_or ps i 0) (get_or qs i 0) = rw (ev, eq, ea) in
      let t : length (take i ps) ≡ length (take i qs) = length-take-le i ps (omega arith) ∙ sym (length-take-le i qs (omega arith)) in
      record {
        projects = r.projects;
        quantities = r.quantities;
        within = omega arith;
        part =
            rw (
              add-one,
              take-suc ps i 0 (omega arith),
              take-suc qs i 0 (omega arith),
              raised_more (take i ps) (take i qs) (get_or ps i 0) (get_or qs i 0) t,
              ← r.part,
            ) e;
      }

  pub raising_end : 32 ≤ i → best ≡ greatest_by_project ps qs
  raising_end h = rw (take_all i ps (omega arith), take_all i qs (omega arith)) at r.part
