-- The words of a kept curve: a point's word gives its price and supply back; the last point taken away, one point more, a point read.
use Prim.Native.Nat.{ℕ, zero, suc, min, ◌+◌, ◌-◌, ◌*◌, ◌/◌, ◌%◌, ◌≤◌, ◌<◌}
use mathlib.Core.Path.{◌≡◌, refl, sym, ap, ap₂, subst, ◌∙◌}
use mathlib.Core.Bool.{Bool, true, false, cond}
use mathlib.Core.List.Memᴰ
use mathlib.Core.List.{List, [], ◌∷◌, ◌++◌, map, Memᴰ, map-append}
use native.Mathlib.Omega.{arith}
use native.Mathlib.Nat.{mul-add-div_right, mul-add-mod_self_right, mod-eq_of_lt, div-eq_of_lt}
use native.Mathlib.Numerals.{add-one}
use lib.Dec.{eqb, ltb}
use lib.ListN.{length, get_or, set, drop, length-append, length-map, drop_of_length-le}
use lib.Seq.{get_or-append-add, drop-cons}
use borrow.Author.Tests.{eq-eqb, ne_eqb, lt-ltb, le-ltb}
use Rattle.rules_numbers.specs.Lists.{padded}
use Rattle.rules_numbers.specs.ListLaws.{Each}
use Rattle.rules_numbers.specs.Padded.{padded_more, padded_less, padded_nth}
use Rattle.rules_supply_curve.specs.Curve.{Point, no_point, supplied_at}
use Rattle.rules_supply_curve.specs.CurveLaws.{Joined}
use Rattle.rules_supply_curve.specs.Closings.{trimmed}
use Rattle.engine_curve.specs.declared.kept_curve.SupplyCurve.{SupplyCurve}
use Rattle.engine_curve.specs.kept_curve.Held.{held_point, held_curve, Fits, Trimmed, WithPoint, supply_before, PointAt, lent_curve, SuppliedAt}

abbrev unit : ℕ
unit = 1099511627776

-- ---- a word

price_back : (x : Point) → Fits x → held_point x / unit ≡ x.price
price_back x f = mul-add-div_right {m = unit} (omega arith) x.price x.after ∙ omega (arith, div-eq_of_lt f.after_high)

after_back : (x : Point) → Fits x → held_point x % unit ≡ x.after
after_back x f = mul-add-mod_self_right x.price unit x.after ∙ mod-eq_of_lt f.after_high

-- ---- the last point

-- a list that is not empty is its front and its last element
record Last (xs : List Point) : Type 0 where
  front : List Point
  last : Point
  is : xs ≡ front ++ (last ∷ [])
  long : length front ≡ length xs - 1

last_of : (xs : List Point) → 1 ≤ length xs → Last xs
last_of [] h = absurd (omega arith)
last_of (x ∷ []) h = record { front = []; last = x; is = refl; long = refl }
last_of (x ∷ y ∷ xs) h =
    let r = last_of (y ∷ xs) (omega arith) in
    record { front = x ∷ r.front; last = r.last; is = ap {B = List Point} (λ ys. x ∷ ys) r.is; long = omega (arith, r.long) }

trimmed_last : (p : ℕ) (xs : List Point) (x : Point) → trimmed p (xs ++ (x ∷ [])) ≡ cond (eqb x.price p) xs (xs ++ (x ∷ []))
unfolding trimmed
trimmed_last p [] x = refl
trimmed_last p (y ∷ []) x = go (eqb x.price p)
  where
    go : (b : Bool) → y ∷ cond b [] (x ∷ []) ≡ cond b (y ∷ []) (y ∷ x ∷ [])
    go true = refl
    go false = refl
trimmed_last p (y ∷ z ∷ xs) x = ap {B = List Point} (λ ys. y ∷ ys) (trimmed_last p (z ∷ xs) x) ∙ go (eqb x.price p)
  where
    go : (b : Bool) → y ∷ cond b (z ∷ xs) ((z ∷ xs) ++ (x ∷ [])) ≡ cond b (y ∷ z ∷ xs) ((y ∷ z ∷ xs) ++ (x ∷ []))
    go true = refl
    go false = refl

-- the word of the last point
last_word : (xs : List Point) (x : Point) → length xs < 256 → get_or (padded 256 (map held_point (xs ++ (x ∷ [])))) (length xs) 0 ≡ held_point x
last_word xs x h =
    padded_nth 256 held_point (xs ++ (x ∷ [])) (length xs) no_point refl (omega (arith, length-append xs (x ∷ [])))
    ∙ ap held_point (subst (λ (i : ℕ). get_or (xs ++ (x ∷ [])) i no_point ≡ x) (omega arith) (get_or-append-add xs (x ∷ []) 0 no_point))

module _ (c : SupplyCurve) (p : ℕ) where
  pub trim_none : c.count < 1 → Trimmed c p c
  unfolding held_curve trimmed
  trim_none h = record { trims = λ xs e l f. go xs e (omega (arith, ap (λ (d : SupplyCurve). d.count) e)) }
    where
      go : (xs : List Point) → c ≡ held_curve xs → length xs < 1 → c ≡ held_curve (trimmed p xs)
      go [] e z = e
      go (x ∷ xs) e z = absurd (omega arith)

  pub trim_too_long : 256 < c.count → Trimmed c p c
  unfolding held_curve
  trim_too_long h = record { trims = λ xs e l f. absurd (omega (arith, ap (λ (d : SupplyCurve). d.count) e)) }

  module _ (some : 1 ≤ c.count) where
    -- the last word's price, of a curve that holds xs
    last_price : (xs : List Point) (x : Point) → c ≡ held_curve (xs ++ (x ∷ [])) → length (xs ++ (x ∷ [])) ≤ 256 → Fits x →
        get_or c.words (c.count - 1) 0 / unit ≡ x.price
    unfolding held_curve
    last_price xs x e l f =
        let n : c.count - 1 ≡ length xs = omega (arith, ap (λ (d : SupplyCurve). d.count) e, length-append xs (x ∷ [])) in
        ap₂ (λ (ws : List ℕ) (i : ℕ). get_or ws i 0 / unit) (ap (λ (d : SupplyCurve). d.words) e) n
        ∙ ap (λ (v : ℕ). v / unit) (last_word xs x (omega (arith, length-append xs (x ∷ [])))) ∙ price_back x f

    by_last : (r : SupplyCurve) → ((xs : List Point) (x : Point) → c ≡ held_curve (xs ++ (x ∷ [])) → length (xs ++ (x ∷ [])) ≤ 256 → Fits x →
        r ≡ held_curve (trimmed p (xs ++ (x ∷ [])))) → Trimmed c p r
    unfolding held_curve
    by_last r g = record {
      trims = λ xs e l f.
          let k = last_of xs (omega (arith, ap (λ (d : SupplyCurve). d.count) e)) in
          let w : Memᴰ k.last xs = subst (λ (ys : List Point). Memᴰ k.last ys) (sym k.is)
          (Memᴰ.append_right k.front (Memᴰ.head refl)) in
          subst (λ (ys : List Point). r ≡ held_curve (trimmed p ys)) (sym k.is)
          (g k.front k.last (e ∙ ap held_curve k.is) (subst (λ (ys : List Point). length ys ≤ 256) k.is l) (f k.last w));
    }

    pub trim_other : (get_or c.words (c.count - 1) 0 / unit ≡ p → ⊥) → Trimmed c p c
    trim_other h = by_last c (λ xs x e l f.
        e ∙ ap held_curve (sym (trimmed_last p xs x ∙ ap (λ (b : Bool). cond b xs (xs ++ (x ∷ []))) (ne_eqb x.price p (λ q. h (last_price xs x e l f ∙ q))))))

    pub trim_last : get_or c.words (c.count - 1) 0 / unit ≡ p → Trimmed c p (record { words = set c.words (c.count - 1) 0; count = c.count - 1 })
    unfolding held_curve
    trim_last h = by_last _ (λ xs x e l f.
        let n : c.count - 1 ≡ length xs = omega (arith, ap (λ (d : SupplyCurve). d.count) e, length-append xs (x ∷ [])) in
        let ws : set c.words (c.count - 1) 0 ≡ padded 256 (map held_point xs) =
        ap₂ (λ (vs : List ℕ) (i : ℕ). set vs i 0) (ap (λ (d : SupplyCurve). d.words) e) n
        ∙ ap (λ (vs : List ℕ). set (padded 256 vs) (length xs) 0) (map-append held_point xs (x ∷ []))
        ∙ padded_less 256 (map held_point xs) (length xs) (held_point x) (length-map xs held_point) (omega (arith, length-append xs (x ∷ []))) in
        ap₂ (λ (vs : List ℕ) (i : ℕ). record { words = vs; count = i }) ws n
        ∙ ap held_curve (sym (trimmed_last p xs x ∙ ap (λ (b : Bool). cond b xs (xs ++ (x ∷ []))) (eq-eqb x.price p (sym (last_price xs x e l f) ∙ h)))))

-- ---- one point more

module _ (c : SupplyCurve) (p a : ℕ) where
  pub no_room : 256 ≤ c.count → WithPoint c p a c
  unfolding held_curve
  no_room h = record { appends = λ xs x e l f g k. absurd (omega (arith, ap (λ (d : SupplyCurve). d.count) e)) }

  pub price_too_high : 1000000 < p → WithPoint c p a c
  price_too_high h = record { appends = λ xs x e l f g k. absurd (omega (arith, f.price_high)) }

  pub supply_too_high : unit ≤ a → WithPoint c p a c
  supply_too_high h = record { appends = λ xs x e l f g k. absurd (omega (arith, f.after_high)) }

  pub point_more : WithPoint c p a (record { words = set c.words c.count (p * unit + a); count = c.count + 1 })
  unfolding held_curve
  point_more = record {
    appends = λ xs x e l f g k.
        let n : c.count ≡ length xs = ap (λ (d : SupplyCurve). d.count) e in
        let ws : set c.words c.count (p * unit + a) ≡ padded 256 (map held_point (xs ++ (x ∷ []))) =
        ap₂ (λ (vs : List ℕ) (i : ℕ). set vs i (p * unit + a)) (ap (λ (d : SupplyCurve). d.words) e) n
        ∙ ap (set (padded 256 (map held_point xs)) (length xs)) (ap₂ (λ (q b : ℕ). q * unit + b) g k)
        ∙ padded_more 256 (map held_point xs) (length xs) (held_point x) (length-map xs held_point) l
        ∙ ap (padded 256) (sym (map-append held_point xs (x ∷ []))) in
        ap₂ (λ (vs : List ℕ) (i : ℕ). record { words = vs; count = i }) ws (omega (arith, n, length-append xs (x ∷ [])));
  }

-- ---- a point read

nth_in : (xs : List Point) (k : ℕ) → k < length xs → Memᴰ (get_or xs k no_point) xs
nth_in [] k h = absurd (omega arith)
nth_in (x ∷ xs) zero h = Memᴰ.head refl
nth_in (x ∷ xs) (suc k) h = Memᴰ.tail (nth_in xs k (omega arith))

word_at : (c : SupplyCurve) (xs : List Point) (i : ℕ) → c ≡ held_curve xs → i < length xs → get_or c.words i 0 ≡ held_point (get_or xs i no_point)
unfolding held_curve
word_at c xs i e k = ap (λ (d : SupplyCurve). get_or d.words i 0) e ∙ padded_nth 256 held_point xs i no_point refl k

-- the supply before the point at place i, of points joined from s on
joined_before : (s : ℕ) (xs : List Point) (i : ℕ) → Joined s xs → Each Fits xs → i < length xs →
    (get_or xs i no_point).before ≡ supply_before (padded 256 (map held_point xs)) s i
unfolding Joined supply_before
joined_before s [] i j f h = absurd (omega arith)
joined_before s (x ∷ xs) zero j f h = j.0
joined_before s (x ∷ []) (suc i) j f h = absurd (omega arith)
joined_before s (x ∷ y ∷ xs) (suc zero) j f h = j.1.0 ∙ sym (after_back x (f x (Memᴰ.head refl)))
joined_before s (x ∷ y ∷ xs) (suc (suc i)) j f h =
    joined_before x.after (y ∷ xs) (suc i) j.1 (λ z m. f z (Memᴰ.tail m)) (omega arith)
    ∙ ap (λ (v : ℕ). v % unit) (padded_nth 256 held_point (y ∷ xs) i no_point refl (omega arith)
    ∙ sym (padded_nth 256 held_point (x ∷ y ∷ xs) (suc i) no_point refl (omega arith)))

module _ (c : SupplyCurve) (s i : ℕ) where
  pub past_end : c.count ≤ i → PointAt c s i (record { price = 0; before = 0; after = 0 })
  unfolding held_curve
  past_end h = record { point_is = λ xs e l f j. sym (none xs i (omega (arith, ap (λ (d : SupplyCurve). d.count) e))) }
    where
      none : (xs : List Point) (k : ℕ) → length xs ≤ k → get_or xs k no_point ≡ no_point
      none [] k h = refl
      none (x ∷ xs) zero h = absurd (omega arith)
      none (x ∷ xs) (suc k) h = none xs k (omega arith)

  pub past_all : 256 ≤ i → PointAt c s i (record { price = 0; before = 0; after = 0 })
  unfolding held_curve
  past_all h = record { point_is = λ xs e l f j. (past_end (omega (arith, ap (λ (d : SupplyCurve). d.count) e))).point_is xs e l f j }

  pub point_read : (b : ℕ) → i < c.count → b ≡ supply_before c.words s i → let w = get_or c.words i 0 in
      PointAt c s i (record { price = w / unit; before = b; after = w % unit })
  unfolding held_curve
  point_read b h g = record {
    point_is = λ xs e l f j.
        let k : i < length xs = omega (arith, ap (λ (d : SupplyCurve). d.count) e) in
        let x = get_or xs i no_point in
        let fits : Fits x = f x (nth_in xs i k) in
        let w : get_or c.words i 0 ≡ held_point x = word_at c xs i e k in
        let p : get_or c.words i 0 / unit ≡ x.price = ap (λ (v : ℕ). v / unit) w ∙ price_back x fits in
        let a : get_or c.words i 0 % unit ≡ x.after = ap (λ (v : ℕ). v % unit) w ∙ after_back x fits in
        let q : b ≡ x.before = g ∙ ap (λ (d : SupplyCurve). supply_before d.words s i) e ∙ sym (joined_before s xs i j f k) in
        λ t. record { price = p t; before = q t; after = a t };
  }

pub before_first : (words : List ℕ) (s i : ℕ) → i < 1 → s ≡ supply_before words s i
unfolding supply_before
before_first words s zero h = refl
before_first words s (suc i) h = absurd (omega arith)

pub before_later : (words : List ℕ) (s i : ℕ) → 1 ≤ i → get_or words (i - 1) 0 % unit ≡ supply_before words s i
unfolding supply_before
before_later words s zero h = absurd (omega arith)
before_later words s (suc i) h = ap (λ (j : ℕ). get_or words j 0 % unit) (omega arith)

-- ---- the supply at a price

module _ (words : List ℕ) (count s p : ℕ) where
  -- the points before place i are above p: the look-up goes on with those that are left
  pub record Looking (left i : ℕ) : Type 0 where
    pub within : i ≤ 256
    pub rest : (xs : List Point) → lent_curve words count ≡ held_curve xs → length xs ≤ 256 → Each Fits xs → supplied_at left (drop i xs) p ≡ supplied_at s xs p

  pub looking_first : Looking s 0
  looking_first = record { within = omega arith; rest = λ xs e l f. refl }

  pub looking_end : (left i : ℕ) → Looking left i → min count 256 ≤ i → SuppliedAt words count s p left
  unfolding held_curve supplied_at
  looking_end left i t h = record {
    supply_is = λ xs e l f.
        let few : length xs ≤ i = omega (arith, ap (λ (d : SupplyCurve). d.count) e) in
        ap (λ (ys : List Point). supplied_at left ys p) (sym (drop_of_length-le xs few)) ∙ t.rest xs e l f;
  }

  module _ (left i : ℕ) (t : Looking left i) (inside : i < count) where
    -- the look-up at place i: the price of its word is that of the point
    at_place : (xs : List Point) → lent_curve words count ≡ held_curve xs → length xs ≤ 256 → Each Fits xs → let w = get_or words i 0 in
        supplied_at s xs p ≡ cond (ltb p (w / unit)) (supplied_at (w % unit) (drop (i + 1) xs) p) left
    unfolding held_curve supplied_at
    at_place xs e l f =
        let k : i < length xs = omega (arith, ap (λ (d : SupplyCurve). d.count) e) in
        let x = get_or xs i no_point in
        let fits : Fits x = f x (nth_in xs i k) in
        let w = word_at (lent_curve words count) xs i e k in
        let price : get_or words i 0 / unit ≡ x.price = ap (λ (v : ℕ). v / unit) w ∙ price_back x fits in
        let after : get_or words i 0 % unit ≡ x.after = ap (λ (v : ℕ). v % unit) w ∙ after_back x fits in
        let d : drop i xs ≡ x ∷ drop (i + 1) xs = rw add-one (drop-cons xs i no_point k) in
        sym (t.rest xs e l f) ∙ ap (λ (ys : List Point). supplied_at left ys p) d
        ∙ sym (ap₂ (λ (q a : ℕ). cond (ltb p q) (supplied_at a (drop (i + 1) xs) p) left) price after)

    pub looking_stop : get_or words i 0 / unit ≤ p → SuppliedAt words count s p left
    looking_stop h = record {
      supply_is = λ xs e l f.
          sym (at_place xs e l f ∙ ap (λ (b : Bool). cond b (supplied_at (get_or words i 0 % unit) (drop (i + 1) xs) p) left)
          (le-ltb p (get_or words i 0 / unit) h));
    }

    pub looking_next : i < 256 → p < get_or words i 0 / unit → Looking (get_or words i 0 % unit) (i + 1)
    looking_next m h = record {
      within = omega arith;
      rest =
          λ xs e l f. sym (at_place xs e l f ∙ ap (λ (b : Bool). cond b (supplied_at (get_or words i 0 % unit) (drop (i + 1) xs) p) left)
          (lt-ltb p (get_or words i 0 / unit) h));
    }
