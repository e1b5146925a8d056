-- The first number that passes a test, or the last one searched: computed, characterised, and found by halving.
use Rattle.std.specs.Prelude.{ℕ, zero, suc, ◌+◌, ◌-◌, ◌≤◌, ◌<◌, ◌≡◌, refl, Bool, true, false}
use Rattle.std.proofs.Common.{sym, subst, ⊎_elim, arith}
use Rattle.rules_numbers.specs.Cases.{le_or_lt, never_true, clash}

-- from lo up, lo + k at most: the first that passes, and lo + k where none below it does
unfoldable pub least_from : (ℕ → Bool) → ℕ → ℕ → ℕ
least_from f lo zero = lo
least_from f lo (suc k) = elim (f lo) [ true ↦ lo | false ↦ least_from f (suc lo) k ]

-- r is what the search from c up to a finds: the first number that passes, or a where none below it does
pub record Sought (f : ℕ → Bool) (c a r : ℕ) : Type 0 where
  pub low : c ≤ r
  pub high : r ≤ a
  pub stops : r < a → f r ≡ true
  pub none : (p : ℕ) → c ≤ p → p < r → f p ≡ false

-- r is the least number from c to a that passes
pub record Least (f : ℕ → Bool) (c a r : ℕ) : Type 0 where
  pub low : c ≤ r
  pub high : r ≤ a
  pub passes : f r ≡ true
  pub none : (p : ℕ) → c ≤ p → p < r → f p ≡ false

-- ---- what `least_from` finds

empty : {X : Type 0} (lo p : ℕ) → lo ≤ p → p < lo → X
empty lo p h g = absurd (omega arith)

at_once : (f : ℕ → Bool) (lo a : ℕ) → lo ≤ a → (lo < a → f lo ≡ true) → Sought f lo a lo
at_once f lo a h e = record { low = omega arith; high = h; stops = e; none = λ p k g. empty lo p k g }

later : (f : ℕ → Bool) (lo a r : ℕ) → f lo ≡ false → Sought f (suc lo) a r → Sought f lo a r
later f lo a r e l = record {
  low = let h = l.low in omega arith;
  high = l.high;
  stops = l.stops;
  none = λ p h g. ⊎_elim (λ k. l.none p k g) (λ k. subst (λ (n : ℕ). f n ≡ false) (meet p h k) e) (le_or_lt (suc lo) p);
}
  where
    meet : (p : ℕ) → lo ≤ p → p < suc lo → lo ≡ p
    meet p h k = omega arith

from : (f : ℕ → Bool) (lo k : ℕ) → Sought f lo (lo + k) (least_from f lo k)
unfolding least_from
from f lo zero = at_once f lo (lo + 0) (omega arith) (λ h. absurd (omega arith))
from f lo (suc k) = go (f lo) refl (from f (suc lo) k)
  where
    shift : lo + suc k ≡ suc lo + k
    shift = omega arith

    go : (t : Bool) → f lo ≡ t → Sought f (suc lo) (suc lo + k) (least_from f (suc lo) k) →
        Sought f lo (lo + suc k) (elim t as (λ _. ℕ) [ true ↦ lo | false ↦ least_from f (suc lo) k ])
    go true d l = at_once f lo (lo + suc k) (omega arith) (λ _. d)
    go false d l = subst (λ (n : ℕ). Sought f lo n (least_from f (suc lo) k)) (sym shift) (later f lo (suc lo + k) (least_from f (suc lo) k) d l)

pub sought_from : (f : ℕ → Bool) (c a : ℕ) → c ≤ a → Sought f c a (least_from f c (a - c))
sought_from f c a h = subst (λ (n : ℕ). Sought f c n (least_from f c (a - c))) back (from f c (a - c))
  where
    back : c + (a - c) ≡ a
    back = omega arith

-- and nothing else is found
pub sought_is : (f : ℕ → Bool) (c a r : ℕ) → Sought f c a r → r ≡ least_from f c (a - c)
sought_is f c a r x = ⊎_elim (λ h. ⊎_elim (λ g. omega arith) (λ g. absurd (before y x g)) (le_or_lt r s)) (λ h. absurd (before x y h)) (le_or_lt s r)
  where
    s : ℕ
    s = least_from f c (a - c)

    y : Sought f c a s
    y = sought_from f c a (let l = x.low in let h = x.high in omega arith)

    -- one that is found ends the search
    before : {m n : ℕ} → Sought f c a m → Sought f c a n → m < n → ⊥
    before {m} {n} v w h = clash (v.stops (let k = w.high in omega arith)) (w.none m v.low h)

-- ---- where a passes, it is the least number that passes

pub sought_least : (f : ℕ → Bool) (c a r : ℕ) → f a ≡ true → Sought f c a r → Least f c a r
sought_least f c a r e s = record {
  low = s.low;
  high = s.high;
  passes = ⊎_elim s.stops (λ h. subst (λ (n : ℕ). f n ≡ true) (meet h) e) (le_or_lt (suc r) a);
  none = s.none;
}
  where
    meet : a < suc r → a ≡ r
    meet h = let k = s.high in omega arith

pub least_is : (f : ℕ → Bool) (c a r : ℕ) → Least f c a r → r ≡ least_from f c (a - c)
least_is f c a r l = sought_is f c a r (record { low = l.low; high = l.high; stops = λ _. l.passes; none = l.none })

-- ---- halving: hi passes or is a, and nothing below lo passes

pub record Bracket (f : ℕ → Bool) (c a lo hi : ℕ) : Type 0 where
  pub from : c ≤ lo
  pub order : lo ≤ hi
  pub to : hi ≤ a
  pub top : hi < a → f hi ≡ true
  pub none : (p : ℕ) → c ≤ p → p < lo → f p ≡ false

-- upward closed from c to a: where p passes, so does every number above it
abbrev pub Rising : (ℕ → Bool) → ℕ → ℕ → Type 0
Rising f c a = (p r : ℕ) → c ≤ p → p ≤ r → r ≤ a → f p ≡ true → f r ≡ true

pub bracket_start : (f : ℕ → Bool) (c a : ℕ) → c ≤ a → Bracket f c a c a
bracket_start f c a h = record { from = omega arith; order = h; to = omega arith; top = λ g. empty a a (omega arith) g; none = λ p k g. empty c p k g }

pub bracket_down : (f : ℕ → Bool) (c a lo hi mid : ℕ) → Bracket f c a lo hi → lo ≤ mid → mid < hi → f mid ≡ true → Bracket f c a lo mid
bracket_down f c a lo hi mid b h g e = record { from = b.from; order = h; to = let k = b.to in omega arith; top = λ _. e; none = b.none }

pub bracket_up : (f : ℕ → Bool) (c a lo hi mid : ℕ) → Rising f c a → Bracket f c a lo hi → lo ≤ mid → mid < hi → f mid ≡ false → Bracket f c a (mid + 1) hi
bracket_up f c a lo hi mid r b h g e = record {
  from = let k = b.from in omega arith;
  order = omega arith;
  to = b.to;
  top = b.top;
  none = λ p k l. never_true (f p) (λ t. clash (r p mid k (omega arith) (let m = b.to in omega arith) t) e);
}

pub bracket_end : (f : ℕ → Bool) (c a lo hi : ℕ) → Bracket f c a lo hi → hi ≤ lo → Sought f c a lo
bracket_end f c a lo hi b h = record {
  low = b.from;
  high = let k = b.to in let m = b.order in omega arith;
  stops = subst (λ (n : ℕ). n < a → f n ≡ true) meet b.top;
  none = b.none;
}
  where
    meet : hi ≡ lo
    meet = let m = b.order in omega arith
