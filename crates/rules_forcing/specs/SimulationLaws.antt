-- Two games that go in step have equal values and best moves: what stands of the first rival in one is related by R to what stands of it in the other, and
-- of the second by Q. One game may be over ledgers and the other over plain numbers.
use Rattle.std.specs.Prelude.{ℕ, min, max, ◌≡◌, Bool, true, false, ◌&&◌}
use Rattle.std.proofs.Math.Path.{refl}
use Rattle.std.proofs.Common.{ap, ◌∙◌}
use Rattle.std.proofs.Math.Bool.{cond}
use mathlib.Core.List.{List, [], ◌∷◌, Memᴰ}
use Rattle.std.proofs.Math.Dec.{ltb}
use Rattle.rules_forcing.specs.Game.{Side, First, Second, Keep, Withdraw, value, best}

-- P holds of all prices that are played; a rival may withdraw in both games or in none, a withdrawal keeps the relation, and the outcomes of related
-- rivals are equal
pub record InStep {A B : Type 0} (may : A → Bool) (leave : ℕ → A → A) (outcome : A → A → ℕ) (may' : B → Bool) (leave' : ℕ → B → B) (outcome' : B → B → ℕ)
    (P : ℕ → Type 0) (R Q : A → B → Type 0) : Type 0 where
  pub first_may : (x : A) (b : B) → R x b → may x ≡ may' b
  pub second_may : (y : A) (c : B) → Q y c → may y ≡ may' c
  pub first_leaves : (x : A) (b : B) (p : ℕ) → P p → R x b → may' b ≡ true → R (leave p x) (leave' p b)
  pub second_leaves : (y : A) (c : B) (p : ℕ) → P p → Q y c → may' c ≡ true → Q (leave p y) (leave' p c)
  pub outcomes : (x y : A) (b c : B) → R x b → Q y c → outcome x y ≡ outcome' b c

-- a move in both games, by f: equal tests, equal worth of keeping, and of withdrawing where it may be done; where it may not, its worth is not looked at
move_same :
    {C : Type 0} (f : Bool → ℕ → ℕ → C) → ((u w z : ℕ) → f false u w ≡ f false u z) → (b c : Bool) (u v w z : ℕ) → b ≡ c → u ≡ v → (c ≡ true → w ≡ z) →
    f b u w ≡ f c v z
move_same {C} f k b c u v w z e h g = ap (λ (d : Bool). f d u w) e ∙ ap (λ (n : ℕ). f c n w) h ∙ go c g
  where
    go : (d : Bool) → (d ≡ true → w ≡ z) → f d v w ≡ f d v z
    go true g = ap (f true v) (g refl)
    go false g = k v w z

module _ {A B : Type 0} {may : A → Bool} {leave : ℕ → A → A} {outcome : A → A → ℕ} {may' : B → Bool} {leave' : ℕ → B → B} {outcome' : B → B → ℕ} {P : ℕ →
    Type 0} {R Q : A → B → Type 0} (t : InStep may leave outcome may' leave' outcome' P R Q) where
  -- the first's move at p, of which `rest` is known
  first_same :
      {C : Type 0} (f : Bool → ℕ → ℕ → C) → ((u w z : ℕ) → f false u w ≡ f false u z) → (x y : A) (b c : B) (p : ℕ) (ps : List ℕ) →
      ((x : A) (b : B) → R x b → value may leave outcome Second x y ps ≡ value may' leave' outcome' Second b c ps) → P p → R x b →
      f (may x) (value may leave outcome Second x y ps) (value may leave outcome Second (leave p x) y ps) ≡
      f (may' b) (value may' leave' outcome' Second b c ps) (value may' leave' outcome' Second (leave' p b) c ps)
  first_same f k x y b c p ps rest h r =
      move_same f k (may x) (may' b) _ _ _ _ (t.first_may x b r) (rest x b r) (λ e. rest (leave p x) (leave' p b) (t.first_leaves x b p h r e))

  pub value_same :
      (s : Side) (x y : A) (b c : B) (ps : List ℕ) → ((p : ℕ) → Memᴰ p ps → P p) → R x b → Q y c →
      value may leave outcome s x y ps ≡ value may' leave' outcome' s b c ps
  unfolding value
  value_same First x y b c [] h r q = t.outcomes x y b c r q
  value_same Second x y b c [] h r q = t.outcomes x y b c r q
  value_same First x y b c (p ∷ ps) h r q =
      first_same (λ a u w. cond a (max u w) u) (λ u w z. refl) x y b c p ps
      (λ x b r. value_same Second x y b c ps (λ n i. h n (Memᴰ.tail i)) r q) (h p (Memᴰ.head refl)) r
  value_same Second x y b c (p ∷ ps) h r q =
      move_same (λ a u w. cond a (min u w) u) (λ u w z. refl) (may y) (may' c) _ _ _ _ (t.second_may y c q)
      (value_same First x y b c ps (λ n i. h n (Memᴰ.tail i)) r q)
      (λ e. value_same First x (leave p y) b (leave' p c) ps (λ n i. h n (Memᴰ.tail i)) r (t.second_leaves y c p (h p (Memᴰ.head refl)) q e))

  pub best_same :
      (x y : A) (b c : B) (ps : List ℕ) → ((p : ℕ) → Memᴰ p ps → P p) → R x b → Q y c →
      best may leave outcome x y ps ≡ best may' leave' outcome' b c ps
  unfolding best
  best_same x y b c [] h r q = refl
  best_same x y b c (p ∷ ps) h r q =
      first_same (λ a u w. cond (a && ltb u w) Withdraw Keep) (λ u w z. refl) x y b c p ps
      (λ x b r. value_same Second x y b c ps (λ n i. h n (Memᴰ.tail i)) r q) (h p (Memᴰ.head refl)) r
