-- Laws of a tally with choices added, case by case.
use Prim.Native.Nat.{ℕ, max, ◌+◌, ◌≤◌, ◌<◌}
use Rattle.std.specs.Prelude.{◌≡◌, refl, Bool, true, false, cond, ◌⊎◌, ltb, eqb}
use Rattle.std.proofs.Common.{inl, inr, ⊎_elim}
use native.Mathlib.Omega.{arith}
use borrow.Author.Tests.{lt-ltb, le-ltb, eq-eqb, ne_eqb}
use Rattle.rules_numbers.specs.Cases.{le_or_lt, three_way}
use Rattle.engine_search.specs.tally.Tally.{only_counted, more}
use Rattle.engine_search.specs.declared.tally.Tally.{Tally}

-- the best of n choices is kept, at the place j
abbrev pub keeping : ℕ → ℕ → ℕ → Tally → Tally
keeping n t j f = record { covering = f.covering + n; kept = f.kept + 1; total = t; index = j }

module _ (n t i : ℕ) (f : Tally) where
  pub more_above : f.total < t → more n t i f ≡ only_counted n f
  unfolding more
  more_above h = rw (lt-ltb f.total t h)

  pub more_below : t < f.total → more n t i f ≡ keeping n t i f
  unfolding more
  more_below h = rw (le-ltb f.total t (omega arith), ne_eqb t f.total (λ e. omega arith))

  -- at an equal total the later place is better
  pub more_later : t ≡ f.total → f.index ≤ i → more n t i f ≡ keeping n t i f
  unfolding more
  more_later h k = let m : max i f.index ≡ i = omega arith in rw (le-ltb f.total t (omega arith), eq-eqb t f.total h, m)

  pub more_earlier : t ≡ f.total → i < f.index → more n t i f ≡ keeping n t f.index f
  unfolding more
  more_earlier h k = let m : max i f.index ≡ f.index = omega arith in rw (le-ltb f.total t (omega arith), eq-eqb t f.total h, m)

  -- what holds in each case: above the best, or not, with the place that is kept
  abbrev KeptPlace : ℕ → Type 0
  KeptPlace j = ((t < f.total) × (j ≡ i)) ⊎ ((t ≡ f.total) × (j ≡ max i f.index))

  pub more_case : (P : Tally → Type 0) → (f.total < t → P (only_counted n f)) → ((j : ℕ) → KeptPlace j → P (keeping n t j f)) → P (more n t i f)
  more_case P above best =
      ⊎_elim
      (λ e. ⊎_elim
      (λ k. rw (more_later e k) (best i (inr (e, omega arith))))
      (λ k. rw (more_earlier e k) (best f.index (inr (e, omega arith))))
      (le_or_lt f.index i))
      (⊎_elim (λ h. rw (more_below h) (best i (inl (h, refl)))) (λ h. rw (more_above h) (above h)))
      (three_way t f.total)

  pub more_counted : (m : ℕ) → only_counted m (more n t i f) ≡ more (n + m) t i f
  unfolding more
  more_counted m = go (ltb f.total t)
    where
      e : f.covering + n + m ≡ f.covering + (n + m)
      e = omega arith

      j : ℕ
      j = cond (eqb t f.total) (max i f.index) i

      go : (b : Bool) → only_counted m (cond b (only_counted n f) (keeping n t j f)) ≡ cond b (only_counted (n + m) f) (keeping (n + m) t j f)
      go true = rw e
      go false = rw e

pub more_total : (n t i : ℕ) (f : Tally) → (more n t i f).total ≤ t
more_total n t i f = more_case n t i f (λ x. x.total ≤ t) (λ h. omega arith) (λ j k. omega arith)
