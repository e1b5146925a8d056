-- The award records in words: each level above 0 of a choice has a record, with its project, the developer that the level goes to and the level,
-- and there is no other. Only one list of records by rising project number is so; that of the award is.
use Prim.Native.Nat.{ℕ, zero, suc, ◌+◌, ◌-◌, ◌≤◌, ◌<◌}
use Rattle.std.specs.Prelude.{◌≡◌, ◌⊎◌, ◌↔◌, Bool, cond, length}
use Rattle.std.proofs.Math.Path.{refl, ap, ap₂, subst}
use Rattle.std.proofs.Common.{sym, ◌∙◌, inl, inr, ⊎_elim}
use Rattle.std.proofs.Math.Bool.{true, false}
use mathlib.Core.List.Memᴰ
use mathlib.Core.List.{List, [], ◌∷◌, map, Memᴰ}
use native.Mathlib.Omega.{arith}
use Rattle.std.proofs.Math.Dec.{eqb}
use Rattle.std.proofs.Math.ListN.{get_or}
use borrow.Author.Tests.{eqb-true, eqb-false}
use Rattle.rules_numbers.specs.ListLaws.{Each}
use Rattle.rules_auction.specs.Ledger.{Ledger}
use Rattle.rules_auction.specs.Award.{award, winner}
use Rattle.rules_auction.specs.Participation.{Grant, grants_from, grants}
use Rattle.rules_auction.specs.Settling.{record_of, records_from, records}
use Rattle.laws_ledger.specs.awards.ParticipationLaws.{Recorded, recorded_none, recorded_more}
use Rattle.statement.specs.settling.AwardRecords.{awarded_level, Goes, first_byte, quantity_of, granted, ByRisingProject}

-- b is the record of project k, which has a level above 0 in the choice vs
pub record RecordFor (l : Ledger) (p : ℕ) (vs b : List ℕ) (k : ℕ) : Type 0 where
  pub low : 1 ≤ k
  pub high : k ≤ 32
  pub above : 0 < get_or vs (k - 1) 0
  pub developer : ℕ
  pub goes : Goes l p k (get_or vs (k - 1) 0) developer
  pub bytes : b ≡ record_of k developer (get_or vs (k - 1) 0)

-- the records rs are those of the choice vs: each is of a level above 0, each level above 0 has one, and they stand by rising project number
pub record RecordEach (l : Ledger) (p : ℕ) (vs : List ℕ) (rs : List (List ℕ)) : Type 0 where
  pub only : (b : List ℕ) → Memᴰ b rs → (k : ℕ) × RecordFor l p vs b k
  pub every : (k : ℕ) → 1 ≤ k → k ≤ 32 → 0 < get_or vs (k - 1) 0 → (b : List ℕ) × Memᴰ b rs × (first_byte b ≡ k)
  pub rising : ByRisingProject rs

-- ---- a level goes to one developer

-- a higher value, or the same and an earlier day, or both the same and a lower number: not both ways
never_both :
    (s t d e n m : ℕ) → (t < s) ⊎ ((s ≡ t) × ((d < e) ⊎ ((e ≡ d) × (n < m)))) → (s < t) ⊎ ((t ≡ s) × ((e < d) ⊎ ((d ≡ e) × (m < n)))) → ⊥
never_both s t d e n m (inl h) (inl g) = omega arith
never_both s t d e n m (inl h) (inr g) = omega (arith, g.0)
never_both s t d e n m (inr h) (inl g) = omega (arith, h.0)
never_both s t d e n m (inr h) (inr g) = later h.1 g.1
  where
    later : (d < e) ⊎ ((e ≡ d) × (n < m)) → (e < d) ⊎ ((d ≡ e) × (m < n)) → ⊥
    later (inl i) (inl j) = omega arith
    later (inl i) (inr j) = omega (arith, j.0)
    later (inr i) (inl j) = omega (arith, i.0)
    later (inr i) (inr j) = omega (arith, i.1, j.1)

pub goes_unique : (l : Ledger) (p k v n m : ℕ) → Goes l p k v n → Goes l p k v m → n ≡ m
goes_unique l p k v n m a b =
    ⊎_elim
    (λ e. sym e)
    (λ x. ⊎_elim
    (λ e. e)
    (λ y. absurd (never_both
    (l.developers n).declared.study (l.developers m).declared.study (l.developers n).declared.day (l.developers m).declared.day n m x y))
    (b.preferred n a.developer a.is_open))
    (a.preferred m b.developer b.is_open)

-- ---- records by rising project number are determined by what stands among them

first_below : (x : List ℕ) (xs : List (List ℕ)) → ByRisingProject (x ∷ xs) → (b : List ℕ) → Memᴰ b xs → first_byte x < first_byte b
first_below x [] r b m = absurd (Memᴰ.not-nil m)
first_below x (y ∷ ys) r b m =
    let next : first_byte x < first_byte y = r 0 (omega arith) in
    ⊎_elim
    (λ e. subst (λ (c : List ℕ). first_byte x < first_byte c) (sym e) next)
    (λ k. omega (arith, next, first_below y ys (λ i h. r (suc i) (omega arith)) b k))
    (Memᴰ.cases_cons m)

rising_same : (xs ys : List (List ℕ)) → ByRisingProject xs → ByRisingProject ys → ((b : List ℕ) → Memᴰ b xs ↔ Memᴰ b ys) → xs ≡ ys
rising_same [] [] r q h = refl
rising_same [] (y ∷ ys) r q h = absurd (Memᴰ.not-nil ((h y).1 (Memᴰ.head refl)))
rising_same (x ∷ xs) [] r q h = absurd (Memᴰ.not-nil ((h x).0 (Memᴰ.head refl)))
rising_same (x ∷ xs) (y ∷ ys) r q h =
    ap₂ (λ (z : List ℕ) (zs : List (List ℕ)). z ∷ zs) first (rising_same xs ys (λ i g. r (suc i) (omega arith)) (λ i g. q (suc i) (omega arith)) rest)
  where
    first : x ≡ y
    first = ⊎_elim
        (λ e. e)
        (λ m. ⊎_elim
        (λ e. sym e)
        (λ k. absurd (omega (arith, first_below y ys q x m, first_below x xs r y k)))
        (Memᴰ.cases_cons ((h y).1 (Memᴰ.head refl))))
        (Memᴰ.cases_cons ((h x).0 (Memᴰ.head refl)))

    into : (b : List ℕ) → Memᴰ b xs → Memᴰ b ys
    into b m = ⊎_elim
        (λ e. absurd (omega (arith, first_below x xs r b m, ap first_byte (e ∙ sym first))))
        (λ k. k) (Memᴰ.cases_cons ((h b).0 (Memᴰ.tail m)))

    back : (b : List ℕ) → Memᴰ b ys → Memᴰ b xs
    back b m = ⊎_elim
        (λ e. absurd (omega (arith, first_below y ys q b m, ap first_byte (e ∙ first))))
        (λ k. k) (Memᴰ.cases_cons ((h b).1 (Memᴰ.tail m)))

    rest : (b : List ℕ) → Memᴰ b xs ↔ Memᴰ b ys
    rest b = (into b, back b)

module _ (l : Ledger) (p : ℕ) (vs : List ℕ) where
  same_record : (b c : List ℕ) (k : ℕ) → RecordFor l p vs b k → RecordFor l p vs c k → b ≡ c
  same_record b c k x y =
      let same : x.developer ≡ y.developer = goes_unique l p k (get_or vs (k - 1) 0) x.developer y.developer x.goes y.goes in
      x.bytes ∙ ap (λ (n : ℕ). record_of k n (get_or vs (k - 1) 0)) same ∙ sym y.bytes

  among : (rs qs : List (List ℕ)) → RecordEach l p vs rs → RecordEach l p vs qs → (b : List ℕ) → Memᴰ b rs → Memᴰ b qs
  among rs qs x y b m =
      let f = x.only b m in
      let g = y.every f.0 f.1.low f.1.high f.1.above in
      let t = y.only g.0 g.1 in
      let e : t.0 ≡ f.0 = sym (ap first_byte t.1.bytes) ∙ g.2 in
      let same : b ≡ g.0 = same_record b g.0 f.0 f.1 (subst (RecordFor l p vs g.0) e t.1) in
      subst (λ (z : List ℕ). Memᴰ z qs) (sym same) g.1

  pub records_decided : (rs qs : List (List ℕ)) → RecordEach l p vs rs → RecordEach l p vs qs → rs ≡ qs
  records_decided rs qs x y = rising_same rs qs x.rising y.rising (λ b. (among rs qs x y b, among qs rs y x b))

-- ---- the records that the ledger computes

-- each stands for a level above 0
pub records_each :
    (P : List ℕ → Type 0) (l : Ledger) (p k : ℕ) (vs : List ℕ) →
    ((j : ℕ) → j < length vs → 0 < get_or vs j 0 → P (record_of (k + j) (winner l p (k + j) (get_or vs j 0)) (get_or vs j 0))) → Each P (records_from l p k vs)
unfolding records_from
records_each P l p k [] h r m = absurd (Memᴰ.not-nil m)
records_each P l p k (v ∷ vs) h r m =
    let again : (j : ℕ) → j < length vs → 0 < get_or vs j 0 → P (record_of (suc k + j) (winner l p (suc k + j) (get_or vs j 0)) (get_or vs j 0)) =
    λ j i g. subst (λ (n : ℕ). P (record_of n (winner l p n (get_or vs j 0)) (get_or vs j 0))) (omega arith) (h (suc j) (omega arith) g) in
    go (eqb v 0) refl (records_each P l p (suc k) vs again) m
  where
    at : ℕ → ℕ → Type 0
    at i w = P (record_of i (winner l p i w) w)

    first : eqb v 0 ≡ false → P (record_of k (winner l p k v) v)
    first e = subst (λ (n : ℕ). at n v) (omega arith) (h 0 (omega arith) (let z = eqb-false v 0 e in omega arith))

    go : (b : Bool) → eqb v 0 ≡ b → Each P (records_from l p (suc k) vs)
        → Memᴰ r (cond b (records_from l p (suc k) vs) (record_of k (winner l p k v) v ∷ records_from l p (suc k) vs)) → P r
    go true e rest m = rest r m
    go false e rest m = ⊎_elim (λ q. subst P (sym q) (first e)) (rest r) (Memᴰ.cases_cons m)

module _ (l : Ledger) (p : ℕ) where
  abbrev record_at : ℕ → ℕ → List ℕ
  record_at k v = record_of k (winner l p k v) v

  one_more : (c : Bool) (x y : List ℕ) (rs : List (List ℕ)) → Memᴰ x rs → Memᴰ x (cond c rs (y ∷ rs))
  one_more true x y rs m = m
  one_more false x y rs m = Memᴰ.tail m

  -- each level above 0 has its own
  every_from : (k : ℕ) (vs : List ℕ) (j : ℕ) → j < length vs → 0 < get_or vs j 0 → Memᴰ (record_at (k + j) (get_or vs j 0)) (records_from l p k vs)
  unfolding records_from
  every_from k [] j h g = absurd (omega arith)
  every_from k (v ∷ vs) zero h g = go (eqb v 0) refl
    where
      go : (c : Bool) → eqb v 0 ≡ c → Memᴰ (record_at (k + 0) v) (cond c (records_from l p (suc k) vs) (record_at k v ∷ records_from l p (suc k) vs))
      go true e = absurd (let z = eqb-true v 0 e in omega arith)
      go false e = let same : k + 0 ≡ k = omega arith in Memᴰ.head (ap (λ (n : ℕ). record_at n v) same)
  every_from k (v ∷ vs) (suc j) h g =
      one_more (eqb v 0) (record_at (k + suc j) (get_or vs j 0)) (record_at k v) (records_from l p (suc k) vs)
      (subst (λ (n : ℕ). Memᴰ (record_at n (get_or vs j 0)) (records_from l p (suc k) vs)) (omega arith) (every_from (suc k) vs j (omega arith) g))

  -- the records of an award of 32 levels, each of which goes to its winner, where they rise
  pub award_recorded :
      length (award l p) ≡ 32 →
      ((k : ℕ) → 1 ≤ k → k ≤ 32 → let v = awarded_level l p k in 0 < v → Goes l p k v (winner l p k v)) → ByRisingProject (records l p) →
      RecordEach l p (award l p) (records l p)
  unfolding records
  award_recorded long goes rise = record {
    only = records_each (λ b. (k : ℕ) × RecordFor l p (award l p) b k) l p 1 (award l p) (λ j h g.
        let place : 1 + j - 1 ≡ j = omega arith in
        let some : 0 < awarded_level l p (1 + j) = subst (λ (i : ℕ). 0 < get_or (award l p) i 0) (sym place) g in (
          1 + j,
          record {
            low = omega arith;
            high = omega (arith, long);
            above = some;
            developer = winner l p (1 + j) (awarded_level l p (1 + j));
            goes = goes (1 + j) (omega arith) (omega (arith, long)) some;
            bytes = ap (λ (i : ℕ). record_at (1 + j) (get_or (award l p) i 0)) (sym place);
          },
        ));
    every = λ k low high g. (record_at (1 + (k - 1)) (awarded_level l p k), every_from 1 (award l p) (k - 1) (omega (arith, long)) g, omega arith);
    rising = rise;
  }

  -- ---- what they grant: their quantities, read from the four bytes, are those of the grants

  read_from :
      (k : ℕ) (vs : List ℕ) → ((j : ℕ) → j < length vs → 0 < get_or vs j 0 → quantity_of (record_at (k + j) (get_or vs j 0)) ≡ get_or vs j 0) →
      map quantity_of (records_from l p k vs) ≡ map (λ g. g.quantity) (grants_from l p k vs)
  unfolding records_from grants_from
  read_from k [] h = refl
  read_from k (v ∷ vs) h = go (eqb v 0) refl (read_from (suc k) vs (λ j i g. h (suc j) (omega arith) g))
    where
      go :
          (b : Bool) → eqb v 0 ≡ b → map quantity_of (records_from l p (suc k) vs) ≡ map (λ g. g.quantity) (grants_from l p (suc k) vs) →
          map quantity_of (cond b (records_from l p (suc k) vs) (record_at k v ∷ records_from l p (suc k) vs))
          ≡ map (λ g. g.quantity) (cond b (grants_from l p (suc k) vs) (record { developer = winner l p k v; quantity = v } ∷ grants_from l p (suc k) vs))
      go true e r = r
      go false e r = ap₂ (λ (x : ℕ) (xs : List ℕ). x ∷ xs) (h 0 (omega arith) (let z = eqb-false v 0 e in omega arith)) r

  pub quantities_are :
      ((b : List ℕ) → Memᴰ b (records l p) → quantity_of b ≡ awarded_level l p (first_byte b)) →
      map quantity_of (records l p) ≡ map (λ g. g.quantity) (grants l p)
  unfolding records grants
  quantities_are reads = read_from 1 (award l p) (λ j h g.
      let place : 1 + j - 1 ≡ j = omega arith in
      reads (record_at (1 + j) (get_or (award l p) j 0)) (every_from 1 (award l p) j h g) ∙ ap (λ (i : ℕ). get_or (award l p) i 0) place)

abbrev behind_first : List ℕ → List ℕ
behind_first [] = []
behind_first (x ∷ xs) = xs

-- grants that have these records and their quantities are what the records say
pub grants_are : (gs : List Grant) (rs : List (List ℕ)) → Recorded gs rs → map quantity_of rs ≡ map (λ g. g.quantity) gs → gs ≡ map granted rs
grants_are _ _ recorded_none e = refl
grants_are _ _ (recorded_more {gs} {rs} g k r) e =
    ap₂ (λ (q : ℕ) (hs : List Grant). record { developer = g.developer; quantity = q } ∷ hs)
    (sym (ap (λ (xs : List ℕ). get_or xs 0 0) e)) (grants_are gs rs r (ap behind_first e))
