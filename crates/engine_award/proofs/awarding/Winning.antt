-- The winners of all projects, developer by developer: a developer to whom the level of its project is open is held against the project's
-- winner so far, and no other project's winner changes.
use Prim.Native.Nat.{ℕ, zero, suc, ◌+◌, ◌-◌, ◌≤◌, ◌<◌}
use mathlib.Core.Path.{◌≡◌, refl, sym, ap, ◌∙◌}
use mathlib.Core.Bool.{Bool, true, false, cond, ◌&&◌, and-false}
use mathlib.Core.List.{List, [], ◌∷◌}
use mathlib.Core.Logic.{⊎_elim}
use native.Mathlib.Omega.{arith}
use native.Mathlib.Nat.{add-zero}
use native.Mathlib.Numerals.{add-one, one-add}
use native.Mathlib.Decide.{ℕ_discrete as dec_eq}
use lib.Dec.{eqb}
use lib.ListN.{length, get_or, set, replicate, get_or-replicate, length-set, get_or-map}
use lib.Seq.{ext_get_or, get_or-set_same, get_or-set_other}
use borrow.Author.Tests.{eq-eqb, ne_eqb}
use Rattle.rules_numbers.specs.Cases.{le_or_lt, clash}
use Rattle.rules_numbers.specs.Numbered.{at_number, no_number, number_beyond}
use Rattle.rules_auction.specs.Ledger.{Ledger}
use Rattle.rules_auction.specs.Clearing.{quantity_after, high, low}
use Rattle.rules_auction.specs.Award.{preferred, most_preferred}
use Rattle.engine_held.specs.levels.Held.{no_levels, levels_in}
use Rattle.engine_held.specs.declared.levels.Levels.{Levels}
use Rattle.engine_award.specs.awarding.Awarding.{winners_from}
use Rattle.engine_award.specs.awarding.AwardingLaws.{winners_length}
use Rattle.engine_award.specs.awarding.Choosing.{preferences_in, standing_in, may_get, better}
use Rattle.engine_award.proofs.awarding.Preferring.{no_level_lem}
use Rattle.engine_award.proofs.awarding.Candidates.{chosen, chosen_first, gets_it, chosen_more, chosen_all}

-- the winner at a place
winners_at : (l : Ledger) (p k : ℕ) (vs : List ℕ) (j : ℕ) → j < length vs → get_or (winners_from l p k vs) j 0 ≡ chosen l p (k + j) (get_or vs j 0) 32
unfolding winners_from
winners_at l p k [] j h = absurd (omega arith)
winners_at l p k (v ∷ vs) zero h = rw add-zero (sym (chosen_all l p k v))
winners_at l p k (v ∷ vs) (suc j) h = winners_at l p (suc k) vs j (omega arith) ∙ ap (λ (n : ℕ). chosen l p n (get_or vs j 0) 32) (omega arith)

-- ---- developer i + 1

-- it may get the level of its project
abbrev pub gets : List ℕ → List Levels → List ℕ → List ℕ → List ℕ → ℕ → Bool
gets ps xs ls hs award i = may_get (levels_in (get_or xs i no_levels)) (get_or ls i 0) (get_or hs i 0) (at_number award (get_or ps i 0))

-- then its project has a number from 1 to 32
pub gets_place :
    (ps : List ℕ) (xs : List Levels) (ls hs award : List ℕ) (i : ℕ) → length award ≡ 32 → gets ps xs ls hs award i ≡ true →
    (1 ≤ get_or ps i 0) × (get_or ps i 0 ≤ 32)
gets_place ps xs ls hs award i e t = (
  ⊎_elim (λ h. h) (λ h. never (sym (no_number award (get_or ps i 0) h))) (le_or_lt 1 (get_or ps i 0)),
  ⊎_elim (λ h. h) (λ h. never (sym (number_beyond award (get_or ps i 0) e h))) (le_or_lt (get_or ps i 0) 32),
)
  where
    never : {X : Type 0} → at_number award (get_or ps i 0) ≡ 0 → X
    never z = absurd (clash t (sym (no_level_lem _ _ _ (at_number award (get_or ps i 0)) (omega arith))))

-- ---- the loop before developer i + 1

cond_le : (b : Bool) {x y n : ℕ} → x ≤ n → y ≤ n → cond b x y ≤ n
cond_le true h g = h
cond_le false h g = g

module _ (ps ss ds : List ℕ) (xs : List Levels) (ls hs award : List ℕ) where
  -- the ledger that the arrays hold, which is at price 0
  abbrev l : Ledger
  l = standing_in ps ss ds xs ls hs

  pub record Winning (best : List ℕ) (i : ℕ) : Type 0 where
    pub levels : length award ≡ 32
    pub places : length best ≡ 32
    pub within : i ≤ 32
    pub small : (j : ℕ) → j < 32 → get_or best j 0 ≤ 32
    pub part : (j : ℕ) → j < 32 → get_or best j 0 ≡ chosen l 0 (suc j) (get_or award j 0) i

  pub winning_first : length award ≡ 32 → Winning (replicate 32 0) 0
  winning_first e = record {
    levels = e;
    places = refl;
    within = omega arith;
    small = λ j h. omega (arith, get_or-replicate {A = ℕ} 32 j 0 0 h);
    part = λ j h. get_or-replicate {A = ℕ} 32 j 0 0 h ∙ sym (chosen_first l 0 (suc j) (get_or award j 0));
  }

  module _ (best : List ℕ) (i : ℕ) (w : Winning best i) where
    module _ (h : i < 32) where
      abbrev passes : Bool
      passes = gets ps xs ls hs award i

      -- the winner of project j + 1 once developer i + 1 is held against it
      abbrev next : ℕ → ℕ
      next j = cond (eqb (get_or ps i 0) (suc j) && passes) (better (preferences_in ss ds) (get_or best j 0) (i + 1)) (get_or best j 0)

      next_small : (j : ℕ) → j < 32 → next j ≤ 32
      unfolding better most_preferred
      next_small j g =
          let b = w.small j g in
          let z : i + 1 ≤ 32 = omega arith in
          cond_le (eqb (get_or ps i 0) (suc j) && passes)
          (cond_le (eqb (get_or best j 0) 0) z (cond_le
          (preferred ((preferences_in ss ds).developers (i + 1)) ((preferences_in ss ds).developers (get_or best j 0))) z b)) b

      module _ (j : ℕ) where
        gets_is : (v : ℕ) → may_get (levels_in (get_or xs i no_levels)) (get_or ls i 0) (get_or hs i 0) v ≡ gets_it l 0 v (suc i)
        unfolding at_number low high quantity_after
        gets_is v = ap (λ (vs : List ℕ). may_get vs (get_or ls i 0) (get_or hs i 0) v) (sym (get_or-map levels_in xs i no_levels))

        test_is : eqb (get_or ps i 0) (suc j) && passes ≡ eqb (get_or ps i 0) (suc j) && gets_it l 0 (get_or award j 0) (suc i)
        unfolding at_number
        test_is = go (dec_eq (get_or ps i 0) (suc j))
          where
            go : Dec (get_or ps i 0 ≡ suc j) → eqb (get_or ps i 0) (suc j) && passes ≡ eqb (get_or ps i 0) (suc j) && gets_it l 0 (get_or award j 0) (suc i)
            go (yes e) =
                ap (λ (b : Bool). eqb (get_or ps i 0) (suc j) && b)
                (gets_is (at_number award (get_or ps i 0)) ∙ ap (λ (k : ℕ). gets_it l 0 (at_number award k) (suc i)) e)
            go (no n) = rw (ne_eqb (get_or ps i 0) (suc j) n)

        next_is : j < 32 → next j ≡ chosen l 0 (suc j) (get_or award j 0) (suc i)
        unfolding better most_preferred preferred at_number
        next_is g = rw (test_is, w.part j g, add-one) (sym (chosen_more l 0 (suc j) (get_or award j 0) i))

      turn : (r : List ℕ) → length r ≡ 32 → ((j : ℕ) → j < 32 → get_or r j 0 ≡ next j) → Winning r (i + 1)
      turn r e f = record {
        levels = w.levels;
        places = e;
        within = omega arith;
        small = λ j g. omega (arith, f j g, next_small j g);
        part = λ j g. rw add-one (f j g ∙ next_is j g);
      }

      pub winning_kept : passes ≡ false → Winning best (i + 1)
      winning_kept t = turn best w.places (λ j g. rw (t, and-false))

      pub winning_stored :
          (r : ℕ) → passes ≡ true → r ≡ better (preferences_in ss ds) (get_or best (get_or ps i 0 - 1) 0) (i + 1) → Winning (set best (get_or ps i 0 - 1) r) (i + 1)
      winning_stored r t f = turn (set best (k - 1) r) (length-set best (k - 1) r ∙ w.places) (λ j g. at j g (dec_eq k (suc j)))
        where
          k : ℕ
          k = get_or ps i 0

          at : (j : ℕ) → j < 32 → Dec (k ≡ suc j) → get_or (set best (k - 1) r) j 0 ≡ next j
          at j g (yes e) =
              let d : k - 1 ≡ j = omega arith in
              rw (f, d, t, eq-eqb k (suc j) e) (get_or-set_same best j (better (preferences_in ss ds) (get_or best j 0) (i + 1)) 0 (omega arith))
          at j g (no n) =
              let q = (gets_place ps xs ls hs award i w.levels t).0 in
              rw (ne_eqb k (suc j) n) (get_or-set_other best (k - 1) j r 0 (λ d. n (omega arith)))

    pub winning_end : 32 ≤ i → best ≡ winners_from l 0 1 award
    winning_end h =
        ext_get_or 0 best (winners_from l 0 1 award) (w.places ∙ sym (winners_length l 0 1 award ∙ w.levels))
        (λ j g.
        let f : i ≡ 32 = omega arith in
        w.part j (omega arith)
        ∙ ap (chosen l 0 (suc j) (get_or award j 0)) f
        ∙ sym (winners_at l 0 1 award j (omega arith) ∙ ap (λ (n : ℕ). chosen l 0 n (get_or award j 0) 32) (one-add j)))
