-- Laws of the lists of numbers: what is in them, what tests on them say, their parts, and bounds of their sum and greatest.
use Prim.Native.Nat.{ℕ, zero, suc, ◌+◌, ◌*◌, max, ◌≤◌, zero-le, suc-le-suc}
use Rattle.std.specs.Prelude.{◌≡◌, ◌⊎◌, ◌↔◌, Bool, ◌&&◌, eqb, get_or}
use Rattle.std.proofs.Math.Path.{refl, ap}
use Rattle.std.proofs.Common.{sym, ◌∙◌, subst, inl, inr, length-append, eqb-true, eq-eqb}
use Rattle.std.proofs.Math.Logic.{⊎_elim}
use Rattle.std.proofs.Math.Bool.{true, false, cond}
use Rattle.std.proofs.lemmas.Bool.{false≢true}
use mathlib.Core.List.Memᴰ
use mathlib.Core.List.{List, [], ◌∷◌, ◌++◌, map, flatten, Memᴰ}
use native.Mathlib.Omega.{arith}
use Rattle.std.proofs.Math.Nat.{suc-mul}
use Rattle.std.proofs.Math.ListN.{length}
use Rattle.rules_numbers.specs.Cases.{le_or_lt, and_true}
pub use Rattle.rules_numbers.specs.Cases.{or_true, or_left, or_right}
pub use Rattle.rules_numbers.specs.OneTo.{length_one_to, in_one_to, one_to_nth, numbered_nth}
use Rattle.rules_numbers.specs.Lists.{keep, total, greatest, last_or, any, all, member}

-- what holds of every element, and that some element passes a test
abbrev pub Each : {A : Type 0} → (A → Type 0) → List A → Type 0
Each {A} P xs = (x : A) → Memᴰ x xs → P x

abbrev pub Passing : {A : Type 0} → (A → Bool) → List A → Type 0
Passing {A} t xs = (x : A) × Memᴰ x xs × (t x ≡ true)

module _ {A : Type 0} where
  first : {P : A → Type 0} {y : A} {ys : List A} → Each P (y ∷ ys) → P y
  first h = h _ (Memᴰ.head refl)

  rest : {P : A → Type 0} {y : A} {ys : List A} → Each P (y ∷ ys) → Each P ys
  rest h x m = h x (Memᴰ.tail m)

  -- one more in front, or not
  pub each_more : (P : A → Type 0) (b : Bool) (x : A) (xs : List A) → P x → Each P xs → Each P (cond b xs (x ∷ xs))
  each_more P true x xs p h y m = h y m
  each_more P false x xs p h y m = ⊎_elim (λ d. subst P (sym d) p) (h y) (Memᴰ.cases_cons m)

  -- ---- keep

  keep_out : (t : A → Bool) {x : A} (xs : List A) → Memᴰ x (keep t xs) → Memᴰ x xs × (t x ≡ true)
  unfolding keep
  keep_out t [] m = absurd (Memᴰ.not-nil m)
  keep_out t {x} (y ∷ ys) m = go (t y) refl (λ k. keep_out t ys k) m
    where
      go : (b : Bool) → t y ≡ b → (Memᴰ x (keep t ys) → Memᴰ x ys × (t x ≡ true)) → Memᴰ x (cond b (y ∷ keep t ys) (keep t ys)) →
          Memᴰ x (y ∷ ys) × (t x ≡ true)
      go true e below k = ⊎_elim (λ d. (Memᴰ.head d, ap t d ∙ e)) (λ j. let r = below j in (Memᴰ.tail r.0, r.1)) (Memᴰ.cases_cons k)
      go false e below k = let r = below k in (Memᴰ.tail r.0, r.1)

  kept : (b : Bool) {x y : A} (zs : List A) → b ≡ true → x ≡ y → Memᴰ x (cond b (y ∷ zs) zs)
  kept true zs e d = Memᴰ.head d
  kept false zs e d = absurd (false≢true e)

  stays : (b : Bool) {x : A} (y : A) {zs : List A} → Memᴰ x zs → Memᴰ x (cond b (y ∷ zs) zs)
  stays true y m = Memᴰ.tail m
  stays false y m = m

  keep_into : (t : A → Bool) {x : A} (xs : List A) → t x ≡ true → Memᴰ x xs → Memᴰ x (keep t xs)
  unfolding keep
  keep_into t [] p m = absurd (Memᴰ.not-nil m)
  keep_into t (y ∷ ys) p m = ⊎_elim (λ d. kept (t y) (keep t ys) (sym (ap t d) ∙ p) d) (λ k. stays (t y) y (keep_into t ys p k)) (Memᴰ.cases_cons m)

  pub in_keep : (t : A → Bool) (x : A) (xs : List A) → Memᴰ x (keep t xs) ↔ (Memᴰ x xs × (t x ≡ true))
  in_keep t x xs = (keep_out t xs, (λ r. keep_into t xs r.1 r.0))

  pub keep_le : (t : A → Bool) (xs : List A) → length (keep t xs) ≤ length xs
  unfolding keep
  keep_le t [] = zero-le
  keep_le t (x ∷ xs) = go (t x) (keep_le t xs)
    where
      go : (b : Bool) → length (keep t xs) ≤ length xs → length (cond b (x ∷ keep t xs) (keep t xs)) ≤ suc (length xs)
      go true h = suc-le-suc h
      go false h = omega arith

  -- a list all of which passes
  pub keep_all : (t : A → Bool) (xs : List A) → Each (λ x. t x ≡ true) xs → keep t xs ≡ xs
  unfolding keep
  keep_all t [] h = refl
  keep_all t (x ∷ xs) h = rw (first h, keep_all t xs (rest h))

  pub keep_append : (t : A → Bool) (xs ys : List A) → keep t (xs ++ ys) ≡ keep t xs ++ keep t ys
  unfolding keep
  keep_append t [] ys = refl
  keep_append t (x ∷ xs) ys = go (t x) (keep_append t xs ys)
    where
      go : (b : Bool) → keep t (xs ++ ys) ≡ keep t xs ++ keep t ys →
          cond b (x ∷ keep t (xs ++ ys)) (keep t (xs ++ ys)) ≡ cond b (x ∷ keep t xs) (keep t xs) ++ keep t ys
      go true e = ap {B = List A} (λ r. x ∷ r) e
      go false e = e

  -- ---- any, all

  pub any_intro : (t : A → Bool) {x : A} (xs : List A) → Memᴰ x xs → t x ≡ true → any t xs ≡ true
  unfolding any
  any_intro t [] m p = absurd (Memᴰ.not-nil m)
  any_intro t (y ∷ ys) m p =
      ⊎_elim (λ d. or_left (t y) (any t ys) (sym (ap t d) ∙ p)) (λ k. or_right (t y) (any t ys) (any_intro t ys k p)) (Memᴰ.cases_cons m)

  any_found : (t : A → Bool) (xs : List A) → any t xs ≡ true → Passing t xs
  unfolding any
  any_found t [] e = absurd (false≢true e)
  any_found t (y ∷ ys) e =
      ⊎_elim (λ p. (y, Memᴰ.head refl, p)) (λ k. let r = any_found t ys k in (r.0, Memᴰ.tail r.1, r.2)) (or_true (t y) (any t ys) e)

  pub any_true : (t : A → Bool) (xs : List A) → (any t xs ≡ true) ↔ Passing t xs
  any_true t xs = (any_found t xs, (λ r. any_intro t xs r.1 r.2))

  pub all_true : (t : A → Bool) (xs : List A) → all t xs ≡ true → Each (λ x. t x ≡ true) xs
  unfolding all
  all_true t [] e x m = absurd (Memᴰ.not-nil m)
  all_true t (y ∷ ys) e x m = let b = and_true (t y) (all t ys) e in ⊎_elim (λ d. ap t d ∙ b.0) (λ k. all_true t ys b.1 x k) (Memᴰ.cases_cons m)

  pub all_map : {B : Type 0} (t : B → Bool) (f : A → B) (xs : List A) → all t (map f xs) ≡ all (λ x. t (f x)) xs
  unfolding all
  all_map t f [] = refl
  all_map t f (x ∷ xs) = ap (λ (b : Bool). t (f x) && b) (all_map t f xs)

  -- ---- map

  pub map_same : {B : Type 0} (f g : A → B) (xs : List A) → Each (λ x. f x ≡ g x) xs → map f xs ≡ map g xs
  map_same f g [] h = refl
  map_same f g (x ∷ xs) h = rw (first h, map_same f g xs (rest h))

  map_from : {B : Type 0} (f : A → B) {y : B} (xs : List A) → Memᴰ y (map f xs) → (x : A) × Memᴰ x xs × (y ≡ f x)
  map_from f [] m = absurd (Memᴰ.not-nil m)
  map_from f (x ∷ xs) m =
      ⊎_elim (λ d. (x, Memᴰ.head refl, d)) (λ k. let r = map_from f xs k in (r.0, Memᴰ.tail r.1, r.2)) (Memᴰ.cases_cons m)

  pub map_intro : {B : Type 0} (f : A → B) {x : A} (xs : List A) → Memᴰ x xs → Memᴰ (f x) (map f xs)
  map_intro f [] m = absurd (Memᴰ.not-nil m)
  map_intro f (z ∷ xs) m = ⊎_elim (λ d. Memᴰ.head (ap f d)) (λ k. Memᴰ.tail (map_intro f xs k)) (Memᴰ.cases_cons m)

  pub in_map : {B : Type 0} (f : A → B) (y : B) (xs : List A) → Memᴰ y (map f xs) ↔ ((x : A) × Memᴰ x xs × (y ≡ f x))
  in_map f y xs = (map_from f xs, (λ r. subst (λ z. Memᴰ z (map f xs)) (sym r.2) (map_intro f xs r.1)))

  -- ---- sums and the greatest, element by element

  pub total_map_le : (f g : A → ℕ) (xs : List A) → Each (λ x. f x ≤ g x) xs → total (map f xs) ≤ total (map g xs)
  unfolding total
  total_map_le f g [] h = zero-le
  total_map_le f g (x ∷ xs) h = omega (arith, first h, total_map_le f g xs (rest h))

  pub greatest_map_le : (f g : A → ℕ) (xs : List A) → Each (λ x. f x ≤ g x) xs → greatest (map f xs) ≤ greatest (map g xs)
  unfolding greatest
  greatest_map_le f g [] h = zero-le
  greatest_map_le f g (x ∷ xs) h = omega (arith, first h, greatest_map_le f g xs (rest h))

  pub total_map_bound : (f : A → ℕ) (b : ℕ) (xs : List A) → Each (λ x. f x ≤ b) xs → total (map f xs) ≤ length xs * b
  unfolding total
  total_map_bound f b [] h = zero-le
  total_map_bound f b (x ∷ xs) h = omega (arith, first h, total_map_bound f b xs (rest h), suc-mul (length xs) b)

-- lists of n elements each, one behind the other
pub flat_length : {A : Type 0} (n : ℕ) (xss : List (List A)) → Each (λ xs. length xs ≡ n) xss → length (flatten xss) ≡ n * length xss
unfolding flatten
flat_length n [] h = omega arith
flat_length n (xs ∷ xss) h = omega (arith, length-append xs (flatten xss), first h, flat_length n xss (rest h))

-- ---- numbers

pub total_append : (xs ys : List ℕ) → total (xs ++ ys) ≡ total xs + total ys
unfolding total
total_append [] ys = omega arith
total_append (x ∷ xs) ys = omega (arith, total_append xs ys)

pub greatest_append : (xs ys : List ℕ) → greatest (xs ++ ys) ≡ max (greatest xs) (greatest ys)
unfolding greatest
greatest_append [] ys = omega arith
greatest_append (x ∷ xs) ys = omega (arith, greatest_append xs ys)

pub last_in : (d : ℕ) (xs : List ℕ) → Memᴰ (last_or d xs) (d ∷ xs)
unfolding last_or
last_in d [] = Memᴰ.head refl
last_in d (x ∷ xs) = Memᴰ.tail (last_in x xs)

-- the last of a list is the one at its last place
pub last_at : (d : ℕ) (xs : List ℕ) (n : ℕ) → length xs ≡ suc n → last_or d xs ≡ get_or xs n 0
unfolding last_or
last_at d [] n e = absurd (omega arith)
last_at d (x ∷ []) zero e = refl
last_at d (x ∷ []) (suc n) e = absurd (omega arith)
last_at d (x ∷ y ∷ xs) zero e = absurd (omega arith)
last_at d (x ∷ y ∷ xs) (suc n) e = last_at x (y ∷ xs) n (omega arith)

pub greatest_upper : {x : ℕ} (xs : List ℕ) → Memᴰ x xs → x ≤ greatest xs
unfolding greatest
greatest_upper [] m = absurd (Memᴰ.not-nil m)
greatest_upper (y ∷ ys) m = ⊎_elim (λ d. omega arith) (λ k. omega (arith, greatest_upper ys k)) (Memᴰ.cases_cons m)

pub greatest_least : (b : ℕ) (xs : List ℕ) → Each (λ x. x ≤ b) xs → greatest xs ≤ b
unfolding greatest
greatest_least b [] h = zero-le
greatest_least b (x ∷ xs) h = omega (arith, first h, greatest_least b xs (rest h))

pub greatest_in : (xs : List ℕ) → (greatest xs ≡ 0) ⊎ Memᴰ (greatest xs) xs
unfolding greatest
greatest_in [] = inl refl
greatest_in (x ∷ xs) = ⊎_elim
    (λ h. inr (Memᴰ.head (omega arith)))
    (λ h. ⊎_elim (λ e. inl (omega arith)) (λ m. inr (Memᴰ.tail (subst (λ (n : ℕ). Memᴰ n xs) (omega arith) m))) (greatest_in xs))
    (le_or_lt (greatest xs) x)

pub member_true : (v : ℕ) (xs : List ℕ) → (member v xs ≡ true) ↔ Memᴰ v xs
member_true v xs = (
  (λ e. let r = (any_true (eqb v) xs).0 e in subst (λ (n : ℕ). Memᴰ n xs) (sym (eqb-true v r.0 r.2)) r.1),
  (λ m. any_intro (eqb v) xs m (eq-eqb v v refl)),
)
