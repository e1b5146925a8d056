-- The developer that gets an awarded level: one of the project's to whom the level is open, and preferred to each other such one.
use Prim.Native.Nat.{ℕ, ◌-◌, ◌≤◌, ◌<◌}
use Rattle.std.specs.Prelude.{◌≡◌, refl, ◌⊎◌, ◌↔◌, Bool, true, false, cond, ltb, eqb}
use Rattle.std.proofs.Common.{sym, inl, inr, ⊎_elim, arith, ltb-true, lt-ltb, eqb-true, eq-eqb}
use Rattle.std.proofs.Math.Logic.{⊎_map}
use mathlib.Core.List.Memᴰ
use mathlib.Core.List.{List, [], ◌∷◌, Memᴰ}
use Rattle.std.proofs.Math.ListN.{get_or}
use Rattle.rules_numbers.specs.Cases.{three_way, and_true, clash}
use Rattle.rules_numbers.specs.Lists.{one_to, keep}
use Rattle.rules_numbers.specs.ListLaws.{Each, or_true, or_left, or_right, in_keep, length_one_to, one_to_nth}
use Rattle.rules_auction.specs.Ledger.{Ledger}
use Rattle.rules_auction.specs.Clearing.{developers_of, covered}
use Rattle.rules_auction.specs.Award.{open_to_developer, open_to, row, rows, admissible, award, preferred, most_preferred, first_preferred, winner}
use Rattle.laws_ledger.specs.Sound.{Sound}
use Rattle.rules_choices.specs.AboveOr.{AboveOr, above_trans, above_total}
use Rattle.rules_choices.specs.Foremost.{Ahead, Foremost, foremost_one, foremost_two, foremost_more}
use Rattle.rules_choices.specs.Pairwise.{StrictlyRising, pairwise_keep, one_to_rises}
use Rattle.rules_choices.specs.Count.{in_choices, one_of_each_at}
use Rattle.laws_ledger.specs.awards.OpenLevels.{open_to_lem, row_open}
use Rattle.laws_ledger.specs.awards.AwardLaws.{award_is}

abbrev study : Ledger → ℕ → ℕ
study l n = (l.developers n).declared.study

abbrev day : Ledger → ℕ → ℕ
day l n = (l.developers n).declared.day

-- n is preferred to m: the higher study value, or the same and the earlier start day, or both the same and the lower number
abbrev pub PreferredTo : Ledger → ℕ → ℕ → Type 0
PreferredTo l n m = (study l m < study l n) ⊎ ((study l n ≡ study l m) × ((day l n < day l m) ⊎ ((day l m ≡ day l n) × (n < m))))

preferred_trans : (l : Ledger) (a b c : ℕ) → PreferredTo l a b → PreferredTo l b c → PreferredTo l a c
preferred_trans l a b c = above_trans (λ x y. above_trans {Z = a < c} (λ u w. omega arith) y x)

-- what the test says
preferred_is : (l : Ledger) (n m : ℕ) → (preferred (l.developers n) (l.developers m) ≡ true) ↔ AboveOr (study l n) (study l m) (day l n < day l m)
unfolding preferred
preferred_is l n m = (
  (λ t. ⊎_map (ltb-true (study l m) (study l n)) (λ k. let r = and_true (eqb (study l n) (study l m)) _ k in (eqb-true _ _ r.0, ltb-true _ _ r.1))
      (or_true (ltb (study l m) (study l n)) _ t)),
  ⊎_elim (λ k. or_left _ _ (lt-ltb _ _ k)) (λ k. or_right (ltb (study l m) (study l n)) _ (rw (eq-eqb (study l n) (study l m) k.0) (lt-ltb _ _ k.1))),
)

-- the higher number m is taken where the test passes, else the lower n is preferred
preferred_of_two : (l : Ledger) (n m : ℕ) → n < m → Foremost (PreferredTo l) (n ∷ m ∷ []) (cond (preferred (l.developers m) (l.developers n)) m n)
preferred_of_two l n m h = foremost_two (PreferredTo l) n m _ higher lower
  where
    by_day : (a b : ℕ) → AboveOr (study l a) (study l b) (day l a < day l b) → PreferredTo l a b
    by_day a b = ⊎_map (λ k. k) (λ k. (k.0, inl k.1))

    higher : preferred (l.developers m) (l.developers n) ≡ true → PreferredTo l m n
    higher t = by_day m n ((preferred_is l m n).0 t)

    lower : preferred (l.developers m) (l.developers n) ≡ false → Ahead (PreferredTo l) n m
    lower t =
        inr (⊎_elim (λ k. inr (k.0, inr (sym k.1, h))) (λ k. ⊎_elim (by_day n m) (λ j. absurd (clash ((preferred_is l m n).1 j) t)) k)
        (above_total (study l n) (study l m) (three_way (day l n) (day l m))))

most_preferred_lem : (l : Ledger) (n : ℕ) (ns : List ℕ) → StrictlyRising (n ∷ ns) → Foremost (PreferredTo l) (n ∷ ns) (most_preferred l n ns)
unfolding most_preferred
most_preferred_lem l n [] r = foremost_one (PreferredTo l) n
most_preferred_lem l n (m ∷ ns) r = foremost_more (PreferredTo l) (preferred_trans l) n m w ns _ two (most_preferred_lem l w ns (lowest, r.1.1))
  where
    w : ℕ
    w = cond (preferred (l.developers m) (l.developers n)) m n

    two : Foremost (PreferredTo l) (n ∷ m ∷ []) w
    two = preferred_of_two l n m (r.0 m (Memᴰ.head refl))

    lowest : Each (λ y. w < y) ns
    lowest y k =
        ⊎_elim (λ d. omega (arith, r.0 y (Memᴰ.tail k))) (λ j. omega (arith, Memᴰ.eq_of_singleton j, r.1.0 y k)) (Memᴰ.cases_cons two.0)

first_preferred_lem : (l : Ledger) (ns : List ℕ) → (ns ≡ [] → ⊥) → StrictlyRising ns → Foremost (PreferredTo l) ns (first_preferred l ns)
unfolding first_preferred
first_preferred_lem l [] some r = absurd (some refl)
first_preferred_lem l (n ∷ ns) some r = most_preferred_lem l n ns r

-- ---- the winner of a level that is open to the project

abbrev opens : Ledger → ℕ → ℕ → ℕ → Bool
opens l p v n = open_to_developer p (l.developers n) v

module _ (l : Ledger) (p k v : ℕ) (e : open_to l p k v ≡ true) where
  foremost : Foremost (PreferredTo l) (keep (opens l p v) (developers_of l k)) (winner l p k v)
  unfolding winner developers_of
  foremost = first_preferred_lem l _ some (pairwise_keep ◌<◌ (opens l p v) (developers_of l k) (pairwise_keep ◌<◌ _ (one_to 32) (one_to_rises 32)))
    where
      some : keep (opens l p v) (developers_of l k) ≡ [] → ⊥
      some none = let r = ((open_to_lem l p k v).0 e).1 in Memᴰ.not-nil (rw none at ((in_keep (opens l p v) r.0 (developers_of l k)).1 (r.1, r.2)))

  pub winner_open : Memᴰ (winner l p k v) (developers_of l k) × (open_to_developer p (l.developers (winner l p k v)) v ≡ true)
  winner_open = (in_keep (opens l p v) _ (developers_of l k)).0 foremost.0

  pub winner_preferred : (m : ℕ) → Memᴰ m (developers_of l k) → open_to_developer p (l.developers m) v ≡ true →
      (m ≡ winner l p k v) ⊎ PreferredTo l (winner l p k v) m
  winner_preferred m i o = foremost.1 m ((in_keep (opens l p v) m (developers_of l k)).1 (i, o))

-- ---- the level that the award gives to project k

module _ (l : Ledger) (p k : ℕ) (s : Sound l) (e : covered l p ≡ true) (h : 1 ≤ k) (g : k ≤ 32) where
  pub award_level_open : Memᴰ (get_or (award l p) (k - 1) 0) (row l p k)
  unfolding admissible rows
  award_level_open =
      rw place at (one_of_each_at (row l p) (one_to 32) (award l p) (k - 1) 0 ((in_choices (rows l p) (award l p)).0 (award_is l p s e).admissible)
      (omega (arith, length_one_to 32)))
    where
      place : get_or (one_to 32) (k - 1) 0 ≡ k
      place = omega (arith, one_to_nth 32 (k - 1) (omega arith))

  -- so a level above 0 has a winner
  pub awarded_open : 0 < get_or (award l p) (k - 1) 0 → open_to l p k (get_or (award l p) (k - 1) 0) ≡ true
  awarded_open i = ⊎_elim (λ z. absurd (omega arith)) (λ o. o) (row_open l p k _ award_level_open)
