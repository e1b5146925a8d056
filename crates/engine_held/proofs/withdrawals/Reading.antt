-- The last level, and the level at a price: the loop keeps the answer for what is left.
use Prim.Native.Nat.{ℕ, zero, suc, ◌+◌, ◌≤◌, ◌<◌}
use mathlib.Core.Path.{◌≡◌, refl, sym, ap, ◌∙◌}
use mathlib.Core.Bool.{cond}
use mathlib.Core.List.{List, [], ◌∷◌, ◌++◌}
use native.Mathlib.Omega.{arith}
use native.Mathlib.Numerals.{add-one}
use lib.Dec.{leb}
use borrow.Author.Tests.{le-leb, lt-leb}
use lib.ListN.{length, get_or, drop, drop_of_length-le}
use lib.Seq.{drop-cons}
use Rattle.rules_auction.specs.Ledger.{Step, Standing}
use Rattle.rules_auction.specs.Clearing.{quantity_after}
use Rattle.rules_auction.specs.Rounds.{last_level}
use Rattle.engine_held.specs.declared.history.History.{History}
use Rattle.engine_held.specs.history.Held.{held_history, pending, LastLevel, LevelAt}
use Rattle.engine_held.specs.history.Places.{count_of, no_step, padded_at}

-- ---- the last level

last_at : (q : ℕ) (ws : List Step) (n : ℕ) → length ws ≡ suc n → (get_or ws n no_step).level ≡ last_level q ws
unfolding last_level
last_at q [] n e = absurd (omega arith)
last_at q (w ∷ []) zero e = refl
last_at q (w ∷ []) (suc n) e = absurd (omega arith)
last_at q (w ∷ v ∷ ws) zero e = absurd (omega arith)
last_at q (w ∷ v ∷ ws) (suc n) e = last_at w.level (v ∷ ws) n (omega arith)

last_none : (q : ℕ) (ws : List Step) → length ws < 1 → q ≡ last_level q ws
unfolding last_level
last_none q [] h = refl
last_none q (w ∷ ws) h = absurd (omega arith)

pub no_last : (h : History) (q : ℕ) → h.count ≡ 0 → LastLevel h q q
no_last h q z = record { last_level_lem = λ ws ls e w. last_none q ws (omega (arith, count_of e)) }

pub last_level_lem : (h : History) (q n : ℕ) → 1 ≤ h.count → (h.count ≤ 8 → n + 1 ≡ h.count) → LastLevel h q (get_or h.levels n 0)
last_level_lem h q n z f = record {
  last_level_lem = λ ws ls e w.
      let m : length ws ≡ n + 1 = sym (count_of e) ∙ sym (f (omega (arith, count_of e))) in
      ap (λ (x : History). get_or x.levels n 0) e
      ∙ padded_at (λ s. s.level) refl 8 ws ls n (omega arith)
      ∙ last_at q ws n (m ∙ add-one n);
}

-- ---- the level at a price

-- the loop before place i: q and the withdrawals left give the level
pub record LevelSoFar (h : History) (first p q i : ℕ) : Type 0 where
  pub within : i ≤ 8
  pub left : (ws : List Step) (s : Standing) (ls : List Step) → h ≡ held_history ws s ls → quantity_after (leb p) q (drop i ws) ≡ quantity_after (leb p) first ws

pub level_first : (h : History) (first p : ℕ) → LevelSoFar h first p first 0
level_first h first p = record { within = omega arith; left = λ ws s ls e. refl }

module _ (h : History) (first p q i : ℕ) (l : LevelSoFar h first p q i) where
  level_next : i < 8 → i < h.count → LevelSoFar h first p (cond (leb p (get_or h.prices i 0)) (get_or h.levels i 0) q) (i + 1)
  unfolding quantity_after
  level_next v w = record {
    within = omega arith;
    left = λ ws s ls e.
        let n : h.count ≡ length ws = count_of e in
        let r : get_or h.prices i 0 ≡ (get_or ws i no_step).price = ap (λ (x : History). get_or x.prices i 0) e
        ∙ padded_at (λ t. t.price) refl 8 ws (pending s ++ ls) i (omega arith) in
        let g : get_or h.levels i 0 ≡ (get_or ws i no_step).level = ap (λ (x : History). get_or x.levels i 0) e
        ∙ padded_at (λ t. t.level) refl 8 ws (pending s ++ ls) i (omega arith) in
        rw (r, g, add-one) (sym (ap (quantity_after (leb p) q) (drop-cons ws i no_step (omega arith))) ∙ l.left ws s ls e);
  }

  pub level_taken : i < 8 → i < h.count → p ≤ get_or h.prices i 0 → LevelSoFar h first p (get_or h.levels i 0) (i + 1)
  level_taken v w t = rw (le-leb p (get_or h.prices i 0) t) at (level_next v w)

  pub level_passed : i < 8 → i < h.count → get_or h.prices i 0 < p → LevelSoFar h first p q (i + 1)
  level_passed v w t = rw (lt-leb p (get_or h.prices i 0) t) at (level_next v w)

  -- no withdrawal is left
  pub level_end : (h.count ≤ 8 → h.count ≤ i) → LevelAt h first p q
  unfolding quantity_after
  level_end v = record {
    level_at = λ ws s ls e w.
        let n : h.count ≡ length ws = count_of e in
        let k : h.count ≤ i = v (omega arith) in
        let g : length ws ≤ i = omega arith in
        sym (ap (quantity_after (leb p) q) (drop_of_length-le ws g)) ∙ l.left ws s ls e;
  }
