-- The greatest of a project's developers and the supply, of any figure of a developer: order and bounds.
use Rattle.std.specs.Prelude.{ℕ, ◌≤◌}
use Rattle.std.proofs.Common.{arith}
use Rattle.rules_numbers.specs.Lists.{one_to}
use Rattle.rules_numbers.specs.ListLaws.{in_map, greatest_least, total_map_le, greatest_map_le}
use Rattle.rules_auction.specs.Ledger.{Developer, Ledger}
use Rattle.rules_auction.specs.Clearing.{high, developers_of, greatest_of, supply}
use Rattle.laws_ledger.specs.Sound.{Sound}
use Rattle.laws_ledger.specs.Parts.{Part}
use Rattle.laws_ledger.specs.clearing.Course.{courses, part_falls}
use Rattle.laws_ledger.specs.clearing.HighLow.{high_le_highest, high_rises}

-- ---- order and bounds

-- the figure f of number n
abbrev figure : (Developer → ℕ) → Ledger → ℕ → ℕ
figure f l n = f (l.developers n)

module _ (f g : Developer → ℕ) (l : Ledger) (h : (n : ℕ) → f (l.developers n) ≤ g (l.developers n)) where
  pub greatest_of_le : (k : ℕ) → greatest_of f l k ≤ greatest_of g l k
  unfolding greatest_of
  greatest_of_le k = greatest_map_le (figure f l) (figure g l) (developers_of l k) (λ n m. h n)

  pub supply_le : supply f l ≤ supply g l
  unfolding supply
  supply_le = total_map_le (greatest_of f l) (greatest_of g l) (one_to 32) (λ k m. greatest_of_le k)

module _ (f : Developer → ℕ) (l : Ledger) where
  pub greatest_of_bound : (b : ℕ) → ((n : ℕ) → f (l.developers n) ≤ b) → (k : ℕ) → greatest_of f l k ≤ b
  unfolding greatest_of
  greatest_of_bound b h k = greatest_least b _ (λ v m. let r = (in_map (figure f l) v (developers_of l k)).0 m in omega (arith, h r.0, r.2))

-- ---- supply of a sound ledger, and of a part of it

module _ (l : Ledger) (s : Sound l) where
  pub high_small : (p n : ℕ) → high p (l.developers n) ≤ 1000000000
  high_small p n = let k = courses l s n in omega (arith, high_le_highest (l.developers n) k.falls p)

  pub supply_rises : (m : Ledger) → Part l m → (p r : ℕ) → p ≤ r → supply (high p) m ≤ supply (high r) m
  supply_rises m t p r h = supply_le (high p) (high r) m (λ n. high_rises (m.developers n) (part_falls l m s t n) p r h)
