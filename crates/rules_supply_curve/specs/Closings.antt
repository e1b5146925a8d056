-- The supply curve through the calls: what leaves it as it is; and a closing, which adds points from the round's opening price down, in front of
-- which the curve stays.
use Prim.Native.Nat.{ℕ, suc, ◌*◌, ◌≤◌, ◌<◌, zero-le}
use Rattle.std.specs.Prelude.{◌≡◌, refl, ◌↔◌, Bool, true, false, cond, leb, eqb, length}
use Rattle.std.proofs.Math.Path.{sym, ap, ap₂, subst, fun_ext}
use Rattle.std.proofs.Common.{◌∙◌, arith, suc-mul, length-append}
use Rattle.std.proofs.Math.Logic.{⊎_elim}
use mathlib.Core.List.Memᴰ
use mathlib.Core.List.{List, [], ◌∷◌, ◌++◌, map, flatten, Memᴰ}
use mathlib.Core.List.{map-append}
use Rattle.std.proofs.Math.Dec.{ltb}
use Rattle.std.proofs.lemmas.List.{length-map}
use borrow.Author.Tests.{leb-true, le-leb, lt-leb, ltb-true, lt-ltb, le-ltb, eq-eqb, ne_eqb}
use Rattle.rules_numbers.specs.Cases.{le_or_lt}
use Rattle.rules_numbers.specs.Lists.{one_to, keep, total, greatest}
use Rattle.rules_numbers.specs.ListLaws.{Each, in_keep, keep_all, in_map, map_same, length_one_to, greatest_in, greatest_upper, total_map_bound}
use Rattle.rules_numbers.specs.Falling.{distinct_falling, Falls, distinct_in, distinct_length, falls_same, keep_falls, front_next}
use Rattle.rules_auction.specs.Ledger.{highest_declared, Step, Declaration, Phase, Round, Ledger, with_developers}
use Rattle.rules_auction.specs.Clearing.{highest, quantity_after, high, low, developers_of, greatest_of, supply}
use Rattle.rules_auction.specs.Refusals.{floor}
use Rattle.rules_auction.specs.Rounds.{withdraws_all, reached, added, applied}
use Rattle.laws_ledger.specs.Sound.{applied_to, started, Descends, SoundLodged, RoundPrices, Sound}
use Rattle.laws_ledger.specs.clearing.Course.{courses}
use Rattle.laws_ledger.specs.clearing.HighLow.{low_le_highest}
use Rattle.laws_ledger.specs.clearing.Supply.{greatest_of_bound}
use Rattle.laws_ledger.specs.clearing.ClosingPrice.{settings_facts}
use Rattle.laws_ledger.specs.reachable.Bounds.{history_few, descends_each}
use Rattle.laws_ledger.specs.reachable.Closing.{added_descends}
use Rattle.laws_ledger.specs.reachable.Supplies.{supply_same}
use Rattle.rules_supply_curve.specs.Curve.{withdrawal_prices, Point, point_at, supply_curve}
use Rattle.rules_supply_curve.specs.CurveLaws.{WithdrewAt, withdrawal_prices_in, curve_prices, curve_falls}

-- ---- what leaves it as it is

-- it is settled by what the developers declared and withdrew
pub curve_same :
    (l m : Ledger) → ((n : ℕ) → (l.developers n).withdrawals ≡ (m.developers n).withdrawals) →
    ((n : ℕ) → (l.developers n).declared ≡ (m.developers n).declared) → supply_curve l ≡ supply_curve m
unfolding supply_curve withdrawal_prices point_at supply greatest_of developers_of high low
curve_same l m w d = ap₂ curve (fun_ext w) (fun_ext d)
  where
    sum : (ℕ → Bool) → (ℕ → List Step) → (ℕ → Declaration) → ℕ
    sum t ws ds =
        total (map (λ k. greatest (map (λ n. quantity_after t (highest_declared (ds n)) (ws n)) (keep (λ n. eqb (ds n).project k) (one_to 32)))) (one_to 32))

    curve : (ℕ → List Step) → (ℕ → Declaration) → List Point
    curve ws ds =
        map (λ p. record { price = p; before = sum (ltb p) ws ds; after = sum (leb p) ws ds })
        (distinct_falling (flatten (map (λ n. map (λ s. s.price) (ws n)) (one_to 32))))

flatten_few : {A : Type 0} (b : ℕ) (xss : List (List A)) → Each (λ xs. length xs ≤ b) xss → length (flatten xss) ≤ length xss * b
unfolding flatten
flatten_few b [] h = zero-le
flatten_few b (xs ∷ xss) h =
    omega (arith, length-append xs (flatten xss), h xs (Memᴰ.head refl), flatten_few b xss (λ ys m. h ys (Memᴰ.tail m)), suc-mul (length xss) b)

prices_few : (b : ℕ) (l : Ledger) → ((n : ℕ) → length (l.developers n).withdrawals ≤ b) → length (supply_curve l) ≤ 32 * b
unfolding supply_curve withdrawal_prices
prices_few b l h = omega (
  arith,
  length-map (distinct_falling (withdrawal_prices l)) (point_at l),
  distinct_length (withdrawal_prices l),
  subst (λ (n : ℕ). length (flatten (map by (one_to 32))) ≤ n * b) (length-map (one_to 32) by ∙ length_one_to 32) (flatten_few b (map by (one_to 32)) each),
)
  where
    by : ℕ → List ℕ
    by n = map (λ w. w.price) (l.developers n).withdrawals

    each : Each (λ xs. length xs ≤ b) (map by (one_to 32))
    each xs m = let r = (in_map by xs (one_to 32)).0 m in
        omega (arith, ap length r.2, length-map (l.developers r.0).withdrawals (λ (w : Step). w.price), h r.0)

-- at most 256 points (document 02, 9)
pub curve_few : (l : Ledger) → Sound l → length (supply_curve l) ≤ 256
curve_few l s = prices_few 8 l (history_few l s)

-- empty while nothing is withdrawn
pub curve_empty : (l : Ledger) → ((n : ℕ) → (l.developers n).withdrawals ≡ []) → supply_curve l ≡ []
curve_empty l h = go (supply_curve l) (prices_few 0 l (λ n. rw (h n) zero-le))
  where
    go : (xs : List Point) → length xs ≤ 0 → xs ≡ []
    go [] e = refl
    go (x ∷ xs) e = absurd (omega arith)

-- ---- its front, down to a price

unfoldable pub points_from : Ledger → ℕ → List Point
points_from l p = map (point_at l) (keep (leb p) (curve_prices l))

-- the highest withdrawal price below p, 0 where there is none
unfoldable pub next_below : Ledger → ℕ → ℕ
next_below l p = greatest (keep (λ q. ltb q p) (withdrawal_prices l))

module _ (l : Ledger) (p : ℕ) where
  next_in : 0 < next_below l p → Memᴰ (next_below l p) (withdrawal_prices l) × (next_below l p < p)
  unfolding next_below
  next_in h = ⊎_elim
      (λ e. absurd (omega arith))
      (λ m. let r = (in_keep (λ q. ltb q p) (next_below l p) (withdrawal_prices l)).0 m in (r.0, ltb-true _ p r.1))
      (greatest_in (keep (λ q. ltb q p) (withdrawal_prices l)))

  next_above : Each (λ x. x < p → x ≤ next_below l p) (withdrawal_prices l)
  unfolding next_below
  next_above x m h = greatest_upper (keep (λ q. ltb q p) (withdrawal_prices l)) ((in_keep (λ q. ltb q p) x (withdrawal_prices l)).1 (m, lt-ltb x p h))

  -- one point more
  pub points_next : 0 < next_below l p → points_from l (next_below l p) ≡ points_from l p ++ (point_at l (next_below l p) ∷ [])
  unfolding points_from
  points_next h =
      let r = next_in h in
      ap (map (point_at l)) (front_next p (next_below l p) (curve_prices l) (curve_falls l) ((distinct_in _ (withdrawal_prices l)).1 r.0) r.1
      (λ x m. next_above x ((distinct_in x (withdrawal_prices l)).0 m)))
      ∙ map-append (point_at l) (keep (leb p) (curve_prices l)) (next_below l p ∷ [])

  -- no price is below p
  pub points_end : Each (λ x. 1 ≤ x) (withdrawal_prices l) → next_below l p ≡ 0 → points_from l p ≡ supply_curve l
  unfolding points_from supply_curve
  points_end h e = ap (map (point_at l)) (keep_all (leb p) (curve_prices l) (λ x m.
      let w = (distinct_in x (withdrawal_prices l)).0 m in
      le-leb p x (⊎_elim (λ g. g) (λ g. absurd (omega (arith, h x w, next_above x w g))) (le_or_lt p x))))

-- ---- through a closing

after_append : (t : ℕ → Bool) (q : ℕ) (ws vs : List Step) → Each (λ v. t v.price ≡ false) vs → quantity_after t q (ws ++ vs) ≡ quantity_after t q ws
unfolding quantity_after
after_append t q [] [] h = refl
after_append t q [] (v ∷ vs) h =
    ap (λ (b : Bool). quantity_after t (cond b v.level q) vs) (h v (Memᴰ.head refl)) ∙ after_append t q [] vs (λ u m. h u (Memᴰ.tail m))
after_append t q (w ∷ ws) vs h = after_append t (cond (t w.price) w.level q) ws vs h

-- the points without the last one where that stands at p
unfoldable pub trimmed : ℕ → List Point → List Point
trimmed p [] = []
trimmed p (x ∷ []) = cond (eqb x.price p) [] (x ∷ [])
trimmed p (x ∷ y ∷ xs) = x ∷ trimmed p (y ∷ xs)

trimmed_points : (l : Ledger) (p : ℕ) (xs : List ℕ) → Falls xs → Each (λ x. p ≤ x) xs → trimmed p (map (point_at l) xs) ≡ map (point_at l) (keep (leb (suc p)) xs)
unfolding trimmed keep Falls point_at
trimmed_points l p [] f h = refl
trimmed_points l p (x ∷ []) f h = ⊎_elim
    (λ g. rw (ne_eqb x p (λ e. omega arith), le-leb (suc p) x g))
    (λ g. rw (eq-eqb x p (let b = h x (Memᴰ.head refl) in omega arith), lt-leb (suc p) x g))
    (le_or_lt (suc p) x)
trimmed_points l p (x ∷ y ∷ xs) f h =
    let below = f.0 y (Memᴰ.head refl) in
    let low = h y (Memᴰ.tail (Memᴰ.head refl)) in
    rw (le-leb (suc p) x (omega arith)) (ap {B = List Point} (λ ps. point_at l x ∷ ps) (trimmed_points l p (y ∷ xs) f.1 (λ z m. h z (Memᴰ.tail m))))

module _ (l : Ledger) (s : Sound l) (round : l.phase ≡ Round) where
  abbrev o : ℕ
  o = l.opening

  -- the ledger with the offers and the lodged steps reached applied
  abbrev next : Ledger
  next = with_developers l (λ n. applied l.closing o (l.developers n))

  prices : RoundPrices l
  prices = s.prices (ap started round)

  floor_positive : 1 ≤ floor l
  floor_positive = let b = settings_facts l s (ap started round) in let c = b.bounds in omega arith

  more : ℕ → List Step
  more n = added l.closing o (l.developers n) (l.developers n).offer

  -- what stood before is at the round's opening price or above, what is added from there to C
  before_descends : (n : ℕ) → Descends o l.settings.a (l.developers n).withdrawals
  unfolding Descends
  before_descends n = ⊎_elim
      (λ e. rw e tt)
      (λ r. subst (λ (p : Phase). Descends (applied_to p l) l.settings.a (l.developers n).withdrawals) round r.developer.prices)
      (s.each n)

  more_descends : (n : ℕ) → Descends l.closing o (more n)
  unfolding Descends more added withdraws_all reached keep
  more_descends n = ⊎_elim
      (λ e. rw e tt)
      (λ r.
      let g = subst (λ (p : Phase). SoundLodged (floor l) (applied_to p l) (l.developers n)) round r.lodged in
      added_descends l (l.developers n) g (let q = prices in omega arith) (l.developers n).offer r.offer)
      (s.each n)

  before_bound : (n : ℕ) (w : Step) → Memᴰ w (l.developers n).withdrawals → (o ≤ w.price) × (w.price ≤ l.settings.a)
  before_bound n w m = descends_each o l.settings.a w _ m (before_descends n)

  more_bound : (n : ℕ) (w : Step) → Memᴰ w (more n) → (l.closing ≤ w.price) × (w.price ≤ o)
  more_bound n w m = descends_each l.closing o w _ m (more_descends n)

  -- above the opening price nothing changes
  point_kept : (p : ℕ) → o < p → point_at next p ≡ point_at l p
  unfolding point_at high low applied more
  point_kept p h =
      ap₂ (λ (b a : ℕ). record { price = p; before = b; after = a }) (same (ltb p) (λ q g. le-ltb p q (omega arith)))
      (same (leb p) (λ q g. lt-leb p q (omega arith)))
    where
      same : (t : ℕ → Bool) → ((q : ℕ) → q ≤ o → t q ≡ false) →
          supply (λ x. quantity_after t (highest x) x.withdrawals) next ≡ supply (λ x. quantity_after t (highest x) x.withdrawals) l
      same t f = supply_same _ _ next l (λ n. refl) (λ n. after_append t _ (l.developers n).withdrawals (more n) (λ v m. f v.price (more_bound n v m).1))

  in_next : (p : ℕ) → o < p → Memᴰ p (curve_prices next) ↔ Memᴰ p (curve_prices l)
  unfolding applied more
  in_next p h = (
    (λ m.
        let r = (withdrawal_prices_in next p).0 ((distinct_in p (withdrawal_prices next)).0 m) in
        let w = r.1 in
        (distinct_in p (withdrawal_prices l)).1 ((withdrawal_prices_in l p).1 (
          r.0,
          record {
            number_low = w.number_low;
            number_high = w.number_high;
            step = w.step;
            withdrawn =
                ⊎_elim (λ k. k) (λ k. absurd (omega (arith, h, w.at_price, (more_bound r.0 w.step k).1)))
                (Memᴰ.append_cases (l.developers r.0).withdrawals w.withdrawn);
            at_price = w.at_price;
          },
        ))),
    (λ m.
        let r = (withdrawal_prices_in l p).0 ((distinct_in p (withdrawal_prices l)).0 m) in
        let w = r.1 in
        (distinct_in p (withdrawal_prices next)).1 ((withdrawal_prices_in next p).1 (
          r.0,
          record {
            number_low = w.number_low;
            number_high = w.number_high;
            step = w.step;
            withdrawn = Memᴰ.append_left (more r.0) w.withdrawn;
            at_price = w.at_price;
          },
        ))),
  )

  front_prices : keep (leb (suc o)) (curve_prices next) ≡ keep (leb (suc o)) (curve_prices l)
  front_prices = falls_same _ _ (keep_falls (leb (suc o)) _ (curve_falls next)) (keep_falls (leb (suc o)) _ (curve_falls l)) (λ y. (
    (λ m. let r = (in_keep (leb (suc o)) y (curve_prices next)).0 m in
        (in_keep (leb (suc o)) y (curve_prices l)).1 ((in_next y (leb-true (suc o) y r.1)).0 r.0, r.1)),
    (λ m. let r = (in_keep (leb (suc o)) y (curve_prices l)).0 m in
        (in_keep (leb (suc o)) y (curve_prices next)).1 ((in_next y (leb-true (suc o) y r.1)).1 r.0, r.1)),
  ))

  -- the curve before, without a last point at the opening price, is the front of the curve after
  pub front_kept : trimmed o (supply_curve l) ≡ points_from next (suc o)
  unfolding supply_curve points_from
  front_kept =
      trimmed_points l o (curve_prices l) (curve_falls l) (λ p m.
      let r = (withdrawal_prices_in l p).0 ((distinct_in p (withdrawal_prices l)).0 m) in
      omega (arith, r.1.at_price, (before_bound r.0 r.1.step r.1.withdrawn).0))
      ∙ ap (map (point_at l)) (sym front_prices)
      ∙ map_same (point_at l) (point_at next) _ (λ p m. sym (point_kept p (leb-true (suc o) p ((in_keep (leb (suc o)) p (curve_prices next)).0 m).1)))

  -- every withdrawal price is from 1 to A
  pub next_prices : Each (λ p. (1 ≤ p) × (p ≤ l.settings.a)) (withdrawal_prices next)
  unfolding applied more
  next_prices p m =
      let r = (withdrawal_prices_in next p).0 m in
      let w = r.1 in
      let q = prices in
      ⊎_elim
      (λ k. let b = before_bound r.0 w.step k in (omega (arith, b.0, w.at_price, floor_positive), omega (arith, b.1, w.at_price)))
      (λ k. let b = more_bound r.0 w.step k in (omega (arith, b.0, w.at_price, floor_positive), omega (arith, b.1, w.at_price)))
      (Memᴰ.append_cases (l.developers r.0).withdrawals w.withdrawn)

-- ---- bounds of a sound ledger's curve

-- prices are at most 10^6, twice the largest CE; supply is at most 32 times the highest level that may be declared
pub curve_small : (l : Ledger) → Sound l → Each (λ x. (x.price ≤ 1000000) × (x.after ≤ 32000000000)) (supply_curve l)
unfolding supply_curve point_at supply
curve_small l s x m =
    let r = (in_map (point_at l) x (curve_prices l)).0 m in
    let p = r.0 in
    let w = (withdrawal_prices_in l p).0 ((distinct_in p (withdrawal_prices l)).0 r.1) in
    (omega (arith, ap (λ (y : Point). y.price) r.2, price_bound p w.0 w.1), omega (arith, ap (λ (y : Point). y.after) r.2, sum_bound p))
  where
    low_bound : (n p : ℕ) → low p (l.developers n) ≤ 1000000000
    low_bound n p = let k = courses l s n in omega (arith, low_le_highest (l.developers n) k.falls p)

    sum_bound : (p : ℕ) → supply (low p) l ≤ 32000000000
    sum_bound p =
        omega (
          arith,
          length_one_to 32,
          total_map_bound (greatest_of (low p) l) 1000000000 (one_to 32)
              (λ k i. greatest_of_bound (low p) l 1000000000 (λ n. low_bound n p) k),
        )

    price_bound : (p n : ℕ) → WithdrewAt l p n → p ≤ 1000000
    price_bound p n w = go (started l.phase) refl
      where
        go : (b : Bool) → started l.phase ≡ b → p ≤ 1000000
        go true e =
            let b = settings_facts l s e in
            let c = b.bounds in
            omega (arith, w.at_price, (descends_each _ l.settings.a w.step _ w.withdrawn (courses l s n).prices).1)
        go false e = absurd (Memᴰ.not-nil (subst (λ (ws : List Step). Memᴰ w.step ws) (s.idle e n) w.withdrawn))
