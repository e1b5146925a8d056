-- A developer's high and low: they rise with the price, low is at most high, both at most its highest level, and declared or 0.
-- High at p is low at p + 1, by computation.
use Rattle.std.specs.Prelude.{ℕ, suc, ◌≤◌, ◌<◌, ◌≡◌, refl, Bool, true, false, cond, List, [], ◌∷◌, leb}
use mathlib.Core.List.Memᴰ
use Rattle.std.proofs.Common.{arith, leb-true, leb-false}
use Rattle.std.proofs.lemmas.Bool.{lt-leb}
use Rattle.rules_numbers.specs.Cases.{one_of}
use Rattle.rules_numbers.specs.ListLaws.{last_in}
use Rattle.rules_auction.specs.Ledger.{declared_or_zero, Step, Developer}
use Rattle.rules_auction.specs.Clearing.{highest, quantity_after, high, low}
use Rattle.rules_auction.specs.Refusals.{lowering}
use Rattle.rules_auction.specs.CheckLaws.{declared_or_zero_lem, lowering_first}
use Rattle.laws_ledger.specs.Sound.{levels_of, Descends}
use Rattle.laws_ledger.specs.clearing.Course.{Falls}

-- ---- the quantity after those withdrawals that pass a test

after_le : (t : ℕ → Bool) (b : ℕ) (ls : List ℕ) (cur q : ℕ) (ws : List Step) → lowering ls cur (levels_of ws) ≡ true → cur ≤ b → q ≤ b → quantity_after t q ws ≤ b
unfolding quantity_after
after_le t b ls cur q [] e h g = g
after_le t b ls cur q (w ∷ ws) e h g = let k = lowering_first ls cur w.level (levels_of ws) e in
    after_le t b ls w.level _ ws k.2 (omega arith) (one_of (λ n. n ≤ b) (t w.price) w.level q (omega arith) g)

after_declared : (t : ℕ → Bool) (ls : List ℕ) (cur q : ℕ) (ws : List Step) → lowering ls cur (levels_of ws) ≡ true → declared_or_zero ls q ≡ true →
    declared_or_zero ls (quantity_after t q ws) ≡ true
unfolding quantity_after
after_declared t ls cur q [] e d = d
after_declared t ls cur q (w ∷ ws) e d = let k = lowering_first ls cur w.level (levels_of ws) e in
    after_declared t ls w.level _ ws k.2 (one_of (λ n. declared_or_zero ls n ≡ true) (t w.price) w.level q k.0 d)

-- a lower price passes more withdrawals, which leave less
after_rises : (p r : ℕ) (ls : List ℕ) (cur q s : ℕ) (ws : List Step) → p ≤ r → lowering ls cur (levels_of ws) ≡ true → cur ≤ q → q ≤ s →
    quantity_after (leb p) q ws ≤ quantity_after (leb r) s ws
unfolding quantity_after
after_rises p r ls cur q s [] i e h g = g
after_rises p r ls cur q s (w ∷ ws) i e h g = let k = lowering_first ls cur w.level (levels_of ws) e in
    after_rises p r ls w.level _ _ ws i k.2 (one_of (λ n. w.level ≤ n) (leb p w.price) w.level q (omega arith) (omega arith))
    (order (leb p w.price) (leb r w.price) refl refl (omega arith))
  where
    order : (b d : Bool) → leb p w.price ≡ b → leb r w.price ≡ d → w.level ≤ q → cond b w.level q ≤ cond d w.level s
    order true true x y m = omega arith
    order true false x y m = omega arith
    order false true x y m = absurd (omega (arith, leb-false p w.price x, leb-true r w.price y))
    order false false x y m = g

-- at a price above all withdrawals none passes
after_none : (p c a q : ℕ) (ws : List Step) → a < p → Descends c a ws → quantity_after (leb p) q ws ≡ q
unfolding quantity_after Descends
after_none p c a q [] h d = refl
after_none p c a q (w ∷ ws) h d = rw (lt-leb p w.price (omega arith)) (after_none p c w.price q ws (omega arith) d.2)

-- ---- high and low

pub highest_declared_lem : (x : Developer) → declared_or_zero x.declared.levels (highest x) ≡ true
highest_declared_lem x = (declared_or_zero_lem x.declared.levels (highest x)).1 (Memᴰ.cases_cons (last_in 0 x.declared.levels))

module _ (x : Developer) (f : Falls x) where
  pub low_rises : (p r : ℕ) → p ≤ r → low p x ≤ low r x
  unfolding low
  low_rises p r h = after_rises p r x.declared.levels (highest x) (highest x) (highest x) x.withdrawals h f (omega arith) (omega arith)

  pub high_rises : (p r : ℕ) → p ≤ r → high p x ≤ high r x
  unfolding high low
  high_rises p r h = low_rises (suc p) (suc r) (omega arith)

  pub low_le_high : (p : ℕ) → low p x ≤ high p x
  unfolding high low
  low_le_high p = low_rises p (suc p) (omega arith)

  pub low_le_highest : (p : ℕ) → low p x ≤ highest x
  unfolding low
  low_le_highest p = after_le (leb p) (highest x) x.declared.levels (highest x) (highest x) x.withdrawals f (omega arith) (omega arith)

  pub high_le_highest : (p : ℕ) → high p x ≤ highest x
  unfolding high low
  high_le_highest p = low_le_highest (suc p)

  pub low_declared : (p : ℕ) → declared_or_zero x.declared.levels (low p x) ≡ true
  unfolding low
  low_declared p = after_declared (leb p) x.declared.levels (highest x) (highest x) x.withdrawals f (highest_declared_lem x)

  pub high_declared : (p : ℕ) → declared_or_zero x.declared.levels (high p x) ≡ true
  unfolding high low
  high_declared p = low_declared (suc p)

module _ (c a : ℕ) (x : Developer) (d : Descends c a x.withdrawals) where
  -- at A and above nothing has been withdrawn
  pub high_at_top : (p : ℕ) → a ≤ p → high p x ≡ highest x
  unfolding high
  high_at_top p h = after_none (suc p) c a (highest x) x.withdrawals (omega arith) d
