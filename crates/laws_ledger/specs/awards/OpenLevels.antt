-- The levels open to a project: which they are, and that they rise strictly from the greatest low of its developers to the greatest high.
use Rattle.std.specs.Prelude.{ℕ, ◌≤◌, ◌≡◌, refl, ◌⊎◌, ◌↔◌, true, cond, leb, get_or}
use Rattle.std.proofs.Common.{inl, inr, arith, le_refl, leb-true, le-leb}
use Rattle.std.proofs.Math.Logic.{⊎_map}
use mathlib.Core.List.Memᴰ
use mathlib.Core.List.{List, [], ◌∷◌, Memᴰ}
use Rattle.rules_numbers.specs.Cases.{and_true}
use Rattle.rules_numbers.specs.Lists.{one_to, is_empty}
use Rattle.rules_numbers.specs.ListLaws.{Each, Passing, in_keep, any_true, in_map}
use Rattle.rules_auction.specs.Ledger.{declared_or_zero, Developer, Ledger}
use Rattle.rules_auction.specs.Clearing.{high, low, developers_of, greatest_of}
use Rattle.rules_auction.specs.Award.{open_between, open_to_developer, open_to, declared_by, open_levels, row, rows}
use Rattle.rules_auction.specs.CheckLaws.{declared_or_zero_lem}
use Rattle.rules_auction.specs.Projects.{greatest_of_none, greatest_of_upper, greatest_of_attained}
use Rattle.laws_ledger.specs.Sound.{Sound}
use Rattle.laws_ledger.specs.clearing.Course.{courses}
use Rattle.laws_ledger.specs.clearing.HighLow.{low_le_high, low_declared, high_declared}
use Rattle.laws_ledger.specs.clearing.Supply.{greatest_of_le}
use Rattle.laws_ledger.specs.awards.Declared.{in_declared_by, declared_by_rises}
use Rattle.rules_choices.specs.Pairwise.{StrictlyRising, pairwise_keep, rising_first}

-- ---- what the tests say

-- declared or 0, from the developer's own low to its own high at p
pub record OpenToDeveloper (p : ℕ) (x : Developer) (v : ℕ) : Type 0 where
  pub declared : declared_or_zero x.declared.levels v ≡ true
  pub low : low p x ≤ v
  pub high : v ≤ high p x

pub open_to_developer_lem : (p : ℕ) (x : Developer) (v : ℕ) → (open_to_developer p x v ≡ true) ↔ OpenToDeveloper p x v
unfolding open_to_developer open_between
open_to_developer_lem p x v = (
  (λ e. let t = and_true _ (leb v (high p x)) e in let u = and_true (declared_or_zero x.declared.levels v) _ t.0 in
      record { declared = u.0; low = leb-true (low p x) v u.1; high = leb-true v (high p x) t.1 }),
  (λ o. rw (o.declared, le-leb (low p x) v o.low, le-leb v (high p x) o.high)),
)

pub open_to_lem : (l : Ledger) (p k v : ℕ) → (open_to l p k v ≡ true) ↔
    ((greatest_of (low p) l k ≤ v) × Passing (λ n. open_to_developer p (l.developers n) v) (developers_of l k))
unfolding open_to
open_to_lem l p k v = (
  (λ e. let t = and_true (leb (greatest_of (low p) l k) v) _ e in (leb-true (greatest_of (low p) l k) v t.0, (any_true _ (developers_of l k)).0 t.1)),
  (λ r. rw (le-leb (greatest_of (low p) l k) v r.0) ((any_true _ (developers_of l k)).1 r.1)),
)

-- ---- the open levels

pub open_levels_lem : (l : Ledger) (p k v : ℕ) → Memᴰ v (open_levels l p k) ↔ (open_to l p k v ≡ true)
unfolding open_levels
open_levels_lem l p k v = ((λ m. (kept.0 m).1), (λ e. kept.1 (declared ((open_to_lem l p k v).0 e).1, e)))
  where
    kept : Memᴰ v (open_levels l p k) ↔ (Memᴰ v (declared_by l (developers_of l k)) × (open_to l p k v ≡ true))
    kept = in_keep (open_to l p k) v (declared_by l (developers_of l k))

    declared : Passing (λ n. open_to_developer p (l.developers n) v) (developers_of l k) → Memᴰ v (declared_by l (developers_of l k))
    declared (n, m, t) =
        (in_declared_by l (developers_of l k) v).1 (⊎_map (λ e. e) (λ i. (n, m, i)) ((declared_or_zero_lem _ v).0 ((open_to_developer_lem p _ v).0 t).declared))

pub open_levels_rise : (l : Ledger) (p k : ℕ) → StrictlyRising (open_levels l p k)
unfolding open_levels
open_levels_rise l p k = pairwise_keep _ (open_to l p k) (declared_by l (developers_of l k)) (declared_by_rises l (developers_of l k))

pub open_le_high : (l : Ledger) (p k v : ℕ) → open_to l p k v ≡ true → v ≤ greatest_of (high p) l k
open_le_high l p k v e = let r = ((open_to_lem l p k v).0 e).1 in omega (arith, ((open_to_developer_lem p _ v).0 r.2).high, greatest_of_upper (high p) l k r.0 r.1)

-- ---- rows: 0 alone for a number without a developer, else the open levels

row_cases : (P : List ℕ → Type 0) (l : Ledger) (p k : ℕ) → (developers_of l k ≡ [] → P (0 ∷ [])) → ((developers_of l k ≡ [] → ⊥) → P (open_levels l p k)) →
    P (row l p k)
unfolding row
row_cases P l p k none some = go (developers_of l k) refl
  where
    go : (ns : List ℕ) → developers_of l k ≡ ns → P (cond (is_empty ns) (0 ∷ []) (open_levels l p k))
    go [] e = none e
    go (n ∷ ns) e = some (λ d. let z : ◌≡◌ {A = ℕ} 0 1 = cc in omega arith)

pub row_rises : (l : Ledger) (p k : ℕ) → StrictlyRising (row l p k)
row_rises l p k = row_cases StrictlyRising l p k (λ e. ((λ y m. absurd (Memᴰ.not-nil m)), tt)) (λ some. open_levels_rise l p k)

pub rows_rise : (l : Ledger) (p : ℕ) → Each StrictlyRising (rows l p)
unfolding rows
rows_rise l p r m = let k = (in_map (row l p) r (one_to 32)).0 m in rw k.2 (row_rises l p k.0)

-- a level of a row is open, or 0
pub row_open : (l : Ledger) (p k v : ℕ) → Memᴰ v (row l p k) → (v ≡ 0) ⊎ (open_to l p k v ≡ true)
row_open l p k v =
    row_cases (λ r. Memᴰ v r → (v ≡ 0) ⊎ (open_to l p k v ≡ true)) l p k (λ e m. inl (Memᴰ.eq_of_singleton m))
    (λ some m. inr ((open_levels_lem l p k v).0 m))

pub row_le_high : (l : Ledger) (p k : ℕ) → Each (λ v. v ≤ greatest_of (high p) l k) (row l p k)
row_le_high l p k =
    row_cases (λ r. Each (λ v. v ≤ greatest_of (high p) l k) r) l p k (λ e v m. omega (arith, Memᴰ.eq_of_singleton m))
    (λ some v m. open_le_high l p k v ((open_levels_lem l p k v).0 m))

pub row_ge_low : (l : Ledger) (p k : ℕ) → Each (λ v. greatest_of (low p) l k ≤ v) (row l p k)
row_ge_low l p k =
    row_cases (λ r. Each (λ v. greatest_of (low p) l k ≤ v) r) l p k (λ e v m. omega (arith, greatest_of_none (low p) l k e))
    (λ some v m. ((open_to_lem l p k v).0 ((open_levels_lem l p k v).0 m)).0)

-- ---- the greatest of a figure of the developers that is open to each of them

module _ (l : Ledger) (p k : ℕ) (f : Developer → ℕ) (o : (n : ℕ) → OpenToDeveloper p (l.developers n) (f (l.developers n))) where
  pub figure_open : (developers_of l k ≡ [] → ⊥) → open_to l p k (greatest_of f l k) ≡ true
  figure_open some =
      let r = greatest_of_attained f l k some in
      (open_to_lem l p k _).1 (greatest_of_le (low p) f l (λ n. (o n).low) k, (r.0, r.1, rw r.2 at ((open_to_developer_lem p _ _).1 (o r.0))))

  figure_in_row : Memᴰ (greatest_of f l k) (row l p k)
  figure_in_row =
      row_cases (Memᴰ (greatest_of f l k)) l p k (λ e. Memᴰ.head (greatest_of_none f l k e)) (λ some. (open_levels_lem l p k _).1 (figure_open some))

-- ---- of a sound ledger: from the greatest low to the greatest high

module _ (l : Ledger) (p k : ℕ) (s : Sound l) where
  pub highs_open : (n : ℕ) → OpenToDeveloper p (l.developers n) (high p (l.developers n))
  highs_open n = let f = (courses l s n).falls in record { declared = high_declared _ f p; low = low_le_high _ f p; high = le_refl _ }

  pub lows_open : (n : ℕ) → OpenToDeveloper p (l.developers n) (low p (l.developers n))
  lows_open n = let f = (courses l s n).falls in record { declared = low_declared _ f p; low = le_refl _; high = low_le_high _ f p }

  pub high_in_row : Memᴰ (greatest_of (high p) l k) (row l p k)
  high_in_row = figure_in_row l p k (high p) highs_open

  pub low_in_row : Memᴰ (greatest_of (low p) l k) (row l p k)
  low_in_row = figure_in_row l p k (low p) lows_open

  pub row_not_empty : row l p k ≡ [] → ⊥
  row_not_empty e = Memᴰ.not-nil (rw e at high_in_row)

  pub row_first : get_or (row l p k) 0 0 ≡ greatest_of (low p) l k
  row_first = rising_first (row l p k) _ 0 (row_rises l p k) low_in_row (row_ge_low l p k)
