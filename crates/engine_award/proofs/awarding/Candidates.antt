-- The developers of a project to whom a level is open, number by number: with one number more, the preferred one is the better of two.
use Prim.Native.Nat.{ℕ, suc, ◌≤◌}
use mathlib.Core.Path.{◌≡◌, refl, sym, ap, ◌∙◌}
use mathlib.Core.Bool.{Bool, true, false, cond, ◌&&◌, and-false}
use mathlib.Core.List.Memᴰ
use mathlib.Core.List.{List, [], ◌∷◌, ◌++◌, append-nil}
use mathlib.Core.Logic.{⊎_elim}
use native.Mathlib.Omega.{arith}
use native.Mathlib.Decide.{ℕ_discrete as dec_eq}
use lib.Dec.{eqb}
use borrow.Author.Tests.{lt-ltb, eq-eqb, ne_eqb}
use Rattle.rules_numbers.specs.Lists.{one_to, keep}
use Rattle.rules_numbers.specs.ListLaws.{Each, keep_append, in_keep, in_one_to}
use Rattle.rules_auction.specs.Ledger.{Ledger}
use Rattle.rules_auction.specs.Clearing.{high, low, developers_of}
use Rattle.rules_auction.specs.Award.{open_to_developer, preferred, most_preferred, first_preferred, winner}
use Rattle.engine_award.specs.awarding.Choosing.{may_get, better}
use Rattle.engine_award.proofs.awarding.Preferring.{no_level_lem}

-- ---- the preferred one of a list and one more

module _ (l : Ledger) where
  most_more :
      (m : ℕ) (ms : List ℕ) (n : ℕ) →
      most_preferred l m (ms ++ (n ∷ [])) ≡ cond (preferred (l.developers n) (l.developers (most_preferred l m ms))) n (most_preferred l m ms)
  unfolding most_preferred
  most_more m [] n = refl
  most_more m (x ∷ ms) n = most_more (cond (preferred (l.developers x) (l.developers m)) x m) ms n

  each_of : (b : Bool) (m x : ℕ) (ms : List ℕ) → Each (λ y. 1 ≤ y) (m ∷ x ∷ ms) → Each (λ y. 1 ≤ y) (cond b x m ∷ ms)
  each_of true m x ms h y k = h y (Memᴰ.tail k)
  each_of false m x ms h y k = ⊎_elim (λ d. h y (Memᴰ.head d)) (λ j. h y (Memᴰ.tail (Memᴰ.tail j))) (Memᴰ.cases_cons k)

  -- a number, so not 0
  most_above : (m : ℕ) (ms : List ℕ) → Each (λ x. 1 ≤ x) (m ∷ ms) → 1 ≤ most_preferred l m ms
  unfolding most_preferred
  most_above m [] h = h m (Memᴰ.head refl)
  most_above m (x ∷ ms) h = most_above (cond (preferred (l.developers x) (l.developers m)) x m) ms (each_of (preferred (l.developers x) (l.developers m)) m x ms h)

  first_more : (ms : List ℕ) (n : ℕ) → Each (λ x. 1 ≤ x) ms → first_preferred l (ms ++ (n ∷ [])) ≡ better l (first_preferred l ms) n
  unfolding first_preferred better most_preferred
  first_more [] n h = refl
  first_more (m ∷ ms) n h = rw (ne_eqb (most_preferred l m ms) 0 (λ d. omega (arith, most_above m ms h))) (most_more m ms n)

-- ---- the developer of level v of project k

-- developer n may get level v, above 0
abbrev pub gets_it : Ledger → ℕ → ℕ → ℕ → Bool
gets_it l p v n = may_get (l.developers n).declared.levels (low p (l.developers n)) (high p (l.developers n)) v

module _ (l : Ledger) (p k v : ℕ) where
  abbrev of_project : ℕ → Bool
  of_project n = eqb (l.developers n).declared.project k

  abbrev opens : ℕ → Bool
  opens n = open_to_developer p (l.developers n) v

  -- those of the developers 1 to i to whom the level is open
  candidates : ℕ → List ℕ
  candidates i = keep opens (keep of_project (one_to i))

  -- the preferred one of them; 0 for a level 0
  pub chosen : ℕ → ℕ
  chosen i = cond (eqb v 0) 0 (first_preferred l (candidates i))

  numbers : (i : ℕ) → Each (λ x. 1 ≤ x) (candidates i)
  unfolding candidates
  numbers i x m = ((in_one_to x i).0 ((in_keep of_project x (one_to i)).0 ((in_keep opens x (keep of_project (one_to i))).0 m).0).0).0

  candidates_more : (i : ℕ) → candidates (suc i) ≡ candidates i ++ cond (of_project (suc i) && opens (suc i)) (suc i ∷ []) []
  unfolding candidates one_to keep
  candidates_more i =
      ap (keep opens) (keep_append of_project (one_to i) (suc i ∷ []))
      ∙ keep_append opens (keep of_project (one_to i)) (keep of_project (suc i ∷ []))
      ∙ ap (λ (ns : List ℕ). candidates i ++ ns) (go (of_project (suc i)))
    where
      go : (b : Bool) → keep opens (cond b (suc i ∷ []) []) ≡ cond (b && opens (suc i)) (suc i ∷ []) []
      go true = refl
      go false = refl

  chosen_none : (i : ℕ) → v ≡ 0 → chosen i ≡ 0
  unfolding chosen
  chosen_none i e = rw (eq-eqb v 0 e)

  chosen_some : (i : ℕ) → (v ≡ 0 → ⊥) → chosen i ≡ first_preferred l (candidates i)
  unfolding chosen
  chosen_some i n = rw (ne_eqb v 0 n)

  pub chosen_first : chosen 0 ≡ 0
  unfolding chosen candidates one_to keep first_preferred
  chosen_first = go (eqb v 0)
    where
      go : (b : Bool) → cond {A = ℕ} b 0 0 ≡ 0
      go true = refl
      go false = refl

  gets_open : (n : ℕ) → (v ≡ 0 → ⊥) → gets_it l p v n ≡ opens n
  unfolding may_get open_to_developer
  gets_open n z = rw (lt-ltb 0 v (omega arith))

  pub chosen_more : (i : ℕ) → chosen (suc i) ≡ cond (of_project (suc i) && gets_it l p v (suc i)) (better l (chosen i) (suc i)) (chosen i)
  chosen_more i = go (dec_eq v 0)
    where
      pick : (b : Bool) → first_preferred l (candidates i ++ cond b (suc i ∷ []) [])
          ≡ cond b (better l (first_preferred l (candidates i)) (suc i)) (first_preferred l (candidates i))
      pick true = first_more l (candidates i) (suc i) (numbers i)
      pick false = ap (first_preferred l) (append-nil (candidates i))

      go : Dec (v ≡ 0) → chosen (suc i) ≡ cond (of_project (suc i) && gets_it l p v (suc i)) (better l (chosen i) (suc i)) (chosen i)
      go (yes e) =
          let f : gets_it l p v (suc i) ≡ false = sym (no_level_lem _ _ _ v (omega arith)) in
          rw (f, and-false) (chosen_none (suc i) e ∙ sym (chosen_none i e))
      go (no n) = rw (chosen_some (suc i) n, chosen_some i n, gets_open (suc i) n, candidates_more i) (pick (of_project (suc i) && opens (suc i)))

  pub chosen_all : chosen 32 ≡ cond (eqb v 0) 0 (winner l p k v)
  unfolding chosen candidates winner developers_of
  chosen_all = refl
