-- The computed value of a game is what the first can force and the second can hold it to, and the computed move begins a strategy that forces it
-- (document 02, 11). Each side's strategy takes the better move of those that it may make at every position, and keeps when equal; what is stated
-- by strategies leaves no other value and no other move.
use Rattle.std.specs.Prelude.{ℕ, min, max, ◌≤◌, ◌≡◌, Bool, true, cond, ◌&&◌, ltb}
use Rattle.std.proofs.Math.Path.{refl}
use Rattle.std.proofs.Common.{sym, subst, ◌∙◌, ltb-true, ltb-false, le-ltb}
use Rattle.std.proofs.Math.Bool.{false}
use mathlib.Core.List.{List, [], ◌∷◌}
use native.Mathlib.Omega.{arith}
use Rattle.rules_forcing.specs.Game.{Side, First, Second, GameMove, Keep, Withdraw, after, Strategy, played, Forces, Forced, value, best}

-- ---- one move, of which keeping is worth u and withdrawing w: by a side's better move, and by any move of the other

module _ (u w : ℕ) (f : GameMove → ℕ) where
  raising : (b : Bool) → u ≤ f Keep → w ≤ f Withdraw → cond b (max u w) u ≤ f (cond (b && ltb u w) Withdraw Keep)
  raising b h k = go b (ltb u w) refl
    where
      go : (b c : Bool) → ltb u w ≡ c → cond b (max u w) u ≤ f (cond (b && c) Withdraw Keep)
      go false c e = h
      go true true e = omega (arith, ltb-true u w e)
      go true false e = omega (arith, ltb-false u w e)

  at_least : (b : Bool) (m : GameMove) → (b ≡ false → m ≡ Keep) → u ≤ f Keep → w ≤ f Withdraw → cond b (min u w) u ≤ f m
  at_least true Keep e h k = omega arith
  at_least true Withdraw e h k = omega arith
  at_least false m e h k = rw (e refl) h

  lowering : (b : Bool) → f Keep ≤ u → f Withdraw ≤ w → f (cond (b && ltb w u) Withdraw Keep) ≤ cond b (min u w) u
  lowering b h k = go b (ltb w u) refl
    where
      go : (b c : Bool) → ltb w u ≡ c → f (cond (b && c) Withdraw Keep) ≤ cond b (min u w) u
      go false c e = h
      go true true e = omega (arith, ltb-true w u e)
      go true false e = omega (arith, ltb-false w u e)

  at_most : (b : Bool) (m : GameMove) → (b ≡ false → m ≡ Keep) → f Keep ≤ u → f Withdraw ≤ w → f m ≤ cond b (max u w) u
  at_most true Keep e h k = omega arith
  at_most true Withdraw e h k = omega arith
  at_most false m e h k = rw (e refl) h

-- withdrawing is the better move only where it is worth more
keeps_best : (b : Bool) (u w : ℕ) → cond b (max u w) u ≤ u → cond (b && ltb u w) Withdraw Keep ≡ Keep
keeps_best false u w h = refl
keeps_best true u w h = rw (le-ltb u w (omega arith))

same_choice : (m n : GameMove) → (m ≡ Keep → n ≡ Keep) → (n ≡ Keep → m ≡ Keep) → m ≡ n
same_choice Keep n f g = sym (f refl)
same_choice Withdraw Keep f g = g refl
same_choice Withdraw Withdraw f g = refl

module _ {A : Type 0} (may : A → Bool) (leave : ℕ → A → A) (outcome : A → A → ℕ) where
  -- the second's best move, which lowers what the first can force
  unfoldable pub reply : A → A → List ℕ → GameMove
  reply x y [] = Keep
  reply x y (p ∷ ps) = cond (may y && ltb (value may leave outcome First x (leave p y) ps) (value may leave outcome First x y ps)) Withdraw Keep

  forcing : Strategy may leave outcome First
  unfolding best
  forcing = record { choose = best may leave outcome; legal = legal }
    where
      legal : (x y : A) (ps : List ℕ) → may x ≡ false → best may leave outcome x y ps ≡ Keep
      legal x y [] e = refl
      legal x y (p ∷ ps) e = rw e

  holding : Strategy may leave outcome Second
  unfolding reply
  holding = record { choose = reply; legal = legal }
    where
      legal : (x y : A) (ps : List ℕ) → may y ≡ false → reply x y ps ≡ Keep
      legal x y [] e = refl
      legal x y (p ∷ ps) e = rw e

  -- whatever the second replies, the first gets at least the value
  value_forced : (g : Strategy may leave outcome Second) (ps : List ℕ) (s : Side) (x y : A) →
      value may leave outcome s x y ps ≤ played may leave outcome s forcing g x y ps
  unfolding value played best forcing
  value_forced g [] First x y = omega arith
  value_forced g [] Second x y = omega arith
  value_forced g (p ∷ ps) First x y =
      raising _ _ (λ m. played may leave outcome Second forcing g (after may leave outcome m p x) y ps) (may x) (value_forced g ps Second x y)
      (value_forced g ps Second (leave p x) y)
  value_forced g (p ∷ ps) Second x y =
      at_least _ _ (λ m. played may leave outcome First forcing g x (after may leave outcome m p y) ps) (may y) (g.choose x y (p ∷ ps)) (g.legal x y (p ∷ ps))
      (value_forced g ps First x y) (value_forced g ps First x (leave p y))

  -- whatever the first does, the second holds it to at most the value
  value_held : (f : Strategy may leave outcome First) (ps : List ℕ) (s : Side) (x y : A) →
      played may leave outcome s f holding x y ps ≤ value may leave outcome s x y ps
  unfolding value played reply holding
  value_held f [] First x y = omega arith
  value_held f [] Second x y = omega arith
  value_held f (p ∷ ps) First x y =
      at_most _ _ (λ m. played may leave outcome Second f holding (after may leave outcome m p x) y ps) (may x) (f.choose x y (p ∷ ps)) (f.legal x y (p ∷ ps))
      (value_held f ps Second x y) (value_held f ps Second (leave p x) y)
  value_held f (p ∷ ps) Second x y =
      lowering _ _ (λ m. played may leave outcome First f holding x (after may leave outcome m p y) ps) (may y) (value_held f ps First x y)
      (value_held f ps First x (leave p y))

  -- one that keeps first and forces the value shows that keeping is worth it
  keeping_best :
      (x y : A) (ps : List ℕ) (f : Strategy may leave outcome First) → Forces may leave outcome x y ps (value may leave outcome First x y ps) f →
      f.choose x y ps ≡ Keep →
      best may leave outcome x y ps ≡ Keep
  unfolding value played best
  keeping_best x y [] f h e = refl
  keeping_best x y (p ∷ ps) f h e =
      let k : played may leave outcome Second f holding (after may leave outcome (f.choose x y (p ∷ ps)) p x) y ps ≤ value may leave outcome Second x y ps =
      rw e (value_held f ps Second x y) in
      keeps_best (may x) (value may leave outcome Second x y ps) (value may leave outcome Second (leave p x) y ps) (omega (arith, h holding))

  pub forced : (x y : A) (ps : List ℕ) → Forced may leave outcome x y ps (value may leave outcome First x y ps) (best may leave outcome x y ps)
  unfolding forcing
  forced x y ps = record {
    first = (forcing, (λ g. value_forced g ps First x y), refl);
    second = (holding, λ f. value_held f ps First x y);
    keeping = keeping_best x y ps;
  }

  -- what is stated by strategies leaves one outcome and one move
  module _ {x y : A} {ps : List ℕ} where
    no_more : {v w : ℕ} {m n : GameMove} → Forced may leave outcome x y ps v m → Forced may leave outcome x y ps w n → v ≤ w
    no_more a b = omega (arith, a.first.1 b.second.0, b.second.1 a.first.0)

    one_outcome : {v w : ℕ} {m n : GameMove} → Forced may leave outcome x y ps v m → Forced may leave outcome x y ps w n → v ≡ w
    one_outcome a b = omega (arith, no_more a b, no_more b a)

    keeps_too : {v w : ℕ} {m n : GameMove} → Forced may leave outcome x y ps v m → Forced may leave outcome x y ps w n → m ≡ Keep → n ≡ Keep
    keeps_too a b e =
        let f = a.first.0 in
        b.keeping f (subst (λ (v : ℕ). Forces may leave outcome x y ps v f) (one_outcome a b) a.first.1) (a.first.2 ∙ e)

    pub forced_only : {v w : ℕ} {m n : GameMove} → Forced may leave outcome x y ps v m → Forced may leave outcome x y ps w n → (v ≡ w) × (m ≡ n)
    forced_only {m = m} {n} a b = (one_outcome a b, same_choice m n (keeps_too a b) (keeps_too b a))
