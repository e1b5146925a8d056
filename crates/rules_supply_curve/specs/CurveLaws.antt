-- Laws of the supply curve, of every ledger: its prices fall, each once, and are the withdrawal prices; supply after one price is supply before
-- the next lower one, and before the highest it is that of the highest levels; so the supply at any price can be looked up in it.
use Prim.Native.Nat.{ℕ, suc, ◌≤◌, ◌<◌}
use Rattle.std.specs.Prelude.{◌≡◌, ◌⊎◌, ◌↔◌, Bool, true, false, leb, ltb}
use Rattle.std.proofs.Math.Path.{refl, sym, ap, subst, fun_ext}
use Rattle.std.proofs.Common.{◌∙◌, arith}
use Rattle.std.proofs.Math.Logic.{inl, inr, ⊎_elim}
use mathlib.Core.List.Memᴰ
use mathlib.Core.List.{List, [], ◌∷◌, map, flatten, Memᴰ}
use borrow.Author.Tests.{le-leb, lt-leb, lt-ltb, le-ltb}
use Rattle.rules_numbers.specs.Cases.{le_or_lt}
use Rattle.rules_numbers.specs.Lists.{one_to, total, greatest}
use Rattle.rules_numbers.specs.ListLaws.{Each, in_one_to, in_map, map_intro, map_same}
use Rattle.rules_numbers.specs.Falling.{distinct_falling, Falls, distinct_in, distinct_falls}
use Rattle.rules_auction.specs.Ledger.{Step, Developer, Ledger}
use Rattle.rules_auction.specs.Clearing.{highest, quantity_after, high, low, developers_of, greatest_of, supply}
use Rattle.rules_auction.specs.Projects.{in_developers_of}
use Rattle.rules_supply_curve.specs.Curve.{withdrawal_prices, Point, point_at, supply_curve, supplied_at}

-- ---- the prices

flatten_in : {A : Type 0} {y : A} (xss : List (List A)) → Memᴰ y (flatten xss) ↔ ((xs : List A) × Memᴰ xs xss × Memᴰ y xs)
unfolding flatten
flatten_in [] = ((λ m. absurd (Memᴰ.not-nil m)), (λ r. absurd (Memᴰ.not-nil r.1)))
flatten_in (xs ∷ xss) = let below = flatten_in xss in (
  (λ m. ⊎_elim (λ k. (xs, Memᴰ.head refl, k)) (λ k. let r = below.0 k in (r.0, Memᴰ.tail r.1, r.2)) (Memᴰ.append_cases xs m)),
  (λ r. ⊎_elim
      (λ d. Memᴰ.append_left (flatten xss) (rw d at r.2))
      (λ k. Memᴰ.append_right xs (below.1 (r.0, k, r.2)))
      (Memᴰ.cases_cons r.1)),
)

after_same : (t u : ℕ → Bool) (q : ℕ) (ws : List Step) → Each (λ w. t w.price ≡ u w.price) ws → quantity_after t q ws ≡ quantity_after u q ws
unfolding quantity_after
after_same t u q [] h = refl
after_same t u q (w ∷ ws) h = rw (h w (Memᴰ.head refl)) (after_same t u _ ws (λ v m. h v (Memᴰ.tail m)))

after_none : (q : ℕ) (ws : List Step) → quantity_after (λ _. false) q ws ≡ q
unfolding quantity_after
after_none q [] = refl
after_none q (w ∷ ws) = after_none q ws

-- each point's supply before it is what was left before, from s on
unfoldable pub Joined : ℕ → List Point → Type 0
Joined s [] = Unit {0}
Joined s (x ∷ xs) = (x.before ≡ s) × Joined x.after xs

-- developer n withdrew at price p
pub record WithdrewAt (l : Ledger) (p n : ℕ) : Type 0 where
  pub number_low : 1 ≤ n
  pub number_high : n ≤ 32
  pub step : Step
  pub withdrawn : Memᴰ step (l.developers n).withdrawals
  pub at_price : p ≡ step.price

module _ (l : Ledger) where
  abbrev prices_by : ℕ → List ℕ
  prices_by n = map (λ w. w.price) (l.developers n).withdrawals

  pub withdrawal_prices_in : (p : ℕ) → Memᴰ p (withdrawal_prices l) ↔ ((n : ℕ) × WithdrewAt l p n)
  unfolding withdrawal_prices
  withdrawal_prices_in p = (
    (λ m.
        let r = (flatten_in (map prices_by (one_to 32))).0 m in
        let k = (in_map prices_by r.0 (one_to 32)).0 r.1 in
        let b = (in_one_to k.0 32).0 k.1 in
        let s = (in_map (λ (w : Step). w.price) p (l.developers k.0).withdrawals).0 (rw k.2 at r.2) in
        (k.0, record { number_low = b.0; number_high = b.1; step = s.0; withdrawn = s.1; at_price = s.2 })),
    (λ r.
        let n = r.0 in
        let b = r.1 in
        (flatten_in (map prices_by (one_to 32))).1 (
          prices_by n,
          map_intro prices_by (one_to 32) ((in_one_to n 32).1 (b.number_low, b.number_high)),
          (in_map (λ (w : Step). w.price) p (l.developers n).withdrawals).1 (b.step, b.withdrawn, b.at_price),
        )),
  )

  -- ---- each once, falling; a price stands in it exactly if some developer withdrew there

  abbrev pub curve_prices : List ℕ
  curve_prices = distinct_falling (withdrawal_prices l)

  pub curve_prices_lem : map (λ x. x.price) (supply_curve l) ≡ curve_prices
  unfolding supply_curve point_at
  curve_prices_lem = go curve_prices
    where
      go : (ps : List ℕ) → map (λ x. x.price) (map (point_at l) ps) ≡ ps
      go [] = refl
      go (p ∷ ps) = ap {B = List ℕ} (λ qs. p ∷ qs) (go ps)

  pub curve_falls : Falls curve_prices
  curve_falls = distinct_falls (withdrawal_prices l)

  pub curve_prices_in : (p : ℕ) → Memᴰ p curve_prices ↔ ((n : ℕ) × WithdrewAt l p n)
  curve_prices_in p = let d = distinct_in p (withdrawal_prices l) in let w = withdrawal_prices_in p in ((λ m. w.0 (d.0 m)), (λ r. d.1 (w.1 r)))

  -- ---- supply after the withdrawals whose price passes a test: settled by the test of the withdrawal prices

  abbrev pub supply_by : (ℕ → Bool) → ℕ
  supply_by t = supply (λ x. quantity_after t (highest x) x.withdrawals) l

  pub supply_by_same : (t u : ℕ → Bool) → Each (λ p. t p ≡ u p) (withdrawal_prices l) → supply_by t ≡ supply_by u
  unfolding supply greatest_of
  supply_by_same t u h = ap total (map_same _ _ (one_to 32) (λ k m. ap greatest (map_same _ _ (developers_of l k) (λ n i.
      let r = (in_developers_of l k n).0 i in
      after_same t u _ (l.developers n).withdrawals (λ w j. h w.price
      ((withdrawal_prices_in w.price).1 (n, record { number_low = r.0; number_high = r.1; step = w; withdrawn = j; at_price = refl })))))))

  supply_by_none : supply_by (λ _. false) ≡ supply highest l
  supply_by_none = ap (λ (f : Developer → ℕ). supply f l) (fun_ext (λ x. after_none (highest x) x.withdrawals))

  -- ---- point by point

  -- With the prices ps left, falling, a withdrawal price is left and fails the test, or it is above them all, passes it, and Q holds of it
  abbrev Split : (ℕ → Type 0) → (ℕ → Bool) → List ℕ → ℕ → Type 0
  Split Q t ps q = (Memᴰ q ps × (t q ≡ false)) ⊎ ((t q ≡ true) × Q q × Each (λ y. y < q) ps)

  split_first : (Q : ℕ → Type 0) → Each (Split Q (λ _. false) curve_prices) (withdrawal_prices l)
  split_first Q q m = inl ((distinct_in q (withdrawal_prices l)).1 m, refl)

  split_next : (Q : ℕ → Type 0) (t : ℕ → Bool) (x : ℕ) (xs : List ℕ) → Falls (x ∷ xs) → Q x → Each (Split Q t (x ∷ xs)) (withdrawal_prices l) →
      Each (Split Q (leb x) xs) (withdrawal_prices l)
  unfolding Falls
  split_next Q t x xs f c h q m = ⊎_elim
      (λ r. ⊎_elim
      (λ e. inr (le-leb x q (omega arith), subst Q (sym e) c, (λ y k. omega (arith, f.0 y k))))
      (λ k. inl (k, lt-leb x q (f.0 q k))) (Memᴰ.cases_cons r.0))
      (λ r. inr (le-leb x q (let g = r.2 x (Memᴰ.head refl) in omega arith), r.1, (λ y k. r.2 y (Memᴰ.tail k))))
      (h q m)

  -- supply before the next price is what the test says
  split_before : (Q : ℕ → Type 0) (t : ℕ → Bool) (x : ℕ) (xs : List ℕ) → Falls (x ∷ xs) → Each (Split Q t (x ∷ xs)) (withdrawal_prices l) →
      supply_by (ltb x) ≡ supply_by t
  unfolding Falls
  split_before Q t x xs f h = supply_by_same (ltb x) t (λ q m. ⊎_elim
      (λ r. le-ltb x q (⊎_elim (λ e. omega arith) (λ k. let g = f.0 q k in omega arith) (Memᴰ.cases_cons r.0)) ∙ sym r.1)
      (λ r. lt-ltb x q (r.2 x (Memᴰ.head refl)) ∙ sym r.0)
      (h q m))

  -- supply after one price is supply before the next lower one, and before the highest it is that of the highest levels
  pub curve_joined : Joined (supply highest l) (supply_curve l)
  unfolding supply_curve point_at high low Joined Falls
  curve_joined = go (λ _. false) _ curve_prices curve_falls (sym supply_by_none) (split_first (λ _. Unit {0}))
    where
      go : (t : ℕ → Bool) (s : ℕ) (ps : List ℕ) → Falls ps → s ≡ supply_by t → Each (Split (λ _. Unit {0}) t ps) (withdrawal_prices l) →
          Joined s (map (point_at l) ps)
      go t s [] f e h = tt
      go t s (x ∷ xs) f e h = (split_before _ t x xs f h ∙ sym e, go (leb x) _ xs f.1 refl (split_next _ t x xs f tt h))

  -- the supply at a price, looked up
  pub looked_up : (p : ℕ) → supplied_at (supply highest l) (supply_curve l) p ≡ supply (high p) l
  unfolding supply_curve point_at high low supplied_at Falls
  looked_up p = go (λ _. false) _ curve_prices curve_falls (sym supply_by_none) (split_first (λ q. p < q))
    where
      go : (t : ℕ → Bool) (s : ℕ) (ps : List ℕ) → Falls ps → s ≡ supply_by t → Each (Split (λ q. p < q) t ps) (withdrawal_prices l) →
          supplied_at s (map (point_at l) ps) p ≡ supply_by (ltb p)
      go t s [] f e h = e ∙ supply_by_same t (ltb p) (λ q m. ⊎_elim (λ r. absurd (Memᴰ.not-nil r.0)) (λ r. r.0 ∙ sym (lt-ltb p q r.1)) (h q m))
      go t s (x ∷ xs) f e h = ⊎_elim
          (λ g. rw (lt-ltb p x g) (go (leb x) _ xs f.1 refl (split_next _ t x xs f g h)))
          (λ g. rw (le-ltb p x (omega arith)) (e ∙ supply_by_same t (ltb p) (λ q m. ⊎_elim
          (λ r. r.1 ∙ sym (le-ltb p q (⊎_elim (λ d. omega arith) (λ k. let i = f.0 q k in omega arith) (Memᴰ.cases_cons r.0))))
          (λ r. r.0 ∙ sym (lt-ltb p q r.1))
          (h q m))))
          (le_or_lt (suc p) x)
