-- The levels of a rising row lie between its low and its high, and the totals of choices between the rows' lows and highs.
use Rattle.std.specs.Prelude.{ℕ, ◌+◌, ◌≤◌, ◌≡◌, refl}
use Rattle.std.proofs.Common.{zero-le, ⊎_elim, arith}
use mathlib.Core.List.Memᴰ
use mathlib.Core.List.{List, [], ◌∷◌, Memᴰ}
use Rattle.rules_numbers.specs.Lists.{total, last_or}
use Rattle.rules_numbers.specs.ListLaws.{Each}
use Rattle.rules_choices.specs.Count.{OneOfEach}
use Rattle.rules_choices.specs.Pairwise.{StrictlyRising}
use Rattle.rules_choices.specs.Search.{low_of, high_of, lowest_total, highest_total}

pub lowest_total_cons : (row : List ℕ) (rows : List (List ℕ)) → lowest_total (row ∷ rows) ≡ low_of row + lowest_total rows
unfolding lowest_total total
lowest_total_cons row rows = refl

pub highest_total_cons : (row : List ℕ) (rows : List (List ℕ)) → highest_total (row ∷ rows) ≡ high_of row + highest_total rows
unfolding highest_total total
highest_total_cons row rows = refl

-- ---- the last of a rising row is its greatest, the first its least

last_above : (x : ℕ) (vs : List ℕ) → StrictlyRising (x ∷ vs) → x ≤ last_or x vs
unfolding last_or
last_above x [] r = omega arith
last_above x (y ∷ vs) r = omega (arith, r.0 y (Memᴰ.head refl), last_above y vs r.1)

up_to_last : (d v : ℕ) (vs : List ℕ) → StrictlyRising vs → Memᴰ v vs → v ≤ last_or d vs
unfolding last_or
up_to_last d v [] r m = absurd (Memᴰ.not-nil m)
up_to_last d v (x ∷ vs) r m = ⊎_elim (λ e. rw e (last_above x vs r)) (λ k. up_to_last x v vs r.1 k) (Memᴰ.cases_cons m)

pub row_between : (v : ℕ) (row : List ℕ) → StrictlyRising row → Memᴰ v row → (low_of row ≤ v) × (v ≤ high_of row)
row_between v [] r m = absurd (Memᴰ.not-nil m)
row_between v (x ∷ vs) r m = (⊎_elim (λ e. omega arith) (λ k. omega (arith, r.0 v k)) (Memᴰ.cases_cons m), up_to_last 0 v (x ∷ vs) r m)

-- ---- choices

pub total_between : (rows : List (List ℕ)) (c : List ℕ) → Each StrictlyRising rows → OneOfEach rows c →
    (lowest_total rows ≤ total c) × (total c ≤ highest_total rows)
unfolding lowest_total highest_total total
total_between [] c r o = rw o (zero-le, zero-le)
total_between (row ∷ rows) [] r o = absurd o
total_between (row ∷ rows) (v ∷ c) r o =
    let b = row_between v row (r row (Memᴰ.head refl)) o.0 in
    let k = total_between rows c (λ s m. r s (Memᴰ.tail m)) o.1 in
    (omega arith, omega arith)

pub lows_below : (rows : List (List ℕ)) → Each StrictlyRising rows → lowest_total rows ≤ highest_total rows
unfolding lowest_total highest_total total last_or
lows_below [] r = zero-le
lows_below ([] ∷ rows) r = omega (arith, lows_below rows (λ s m. r s (Memᴰ.tail m)))
lows_below ((v ∷ vs) ∷ rows) r = omega (arith, last_above v vs (r (v ∷ vs) (Memᴰ.head refl)), lows_below rows (λ s m. r s (Memᴰ.tail m)))
