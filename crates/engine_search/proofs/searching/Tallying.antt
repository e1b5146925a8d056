-- Laws of the tally: what a part of which no choice covers leaves, and what a part of which all cover.
use Prim.Native.Nat.{ℕ, ◌+◌, ◌≤◌, ◌<◌}
use mathlib.Core.Path.{◌≡◌, refl, ap, ◌∙◌}
use mathlib.Core.Bool.{Bool, true, false, cond}
use mathlib.Core.Logic.{⊎_elim}
use mathlib.Core.List.Memᴰ
use mathlib.Core.List.{List, [], ◌∷◌, map}
use native.Mathlib.Omega.{arith}
use native.Mathlib.Nat.{add-zero, zero-add, add_assoc, suc-mul, one-mul}
use lib.Dec.{leb}
use lib.ListN.{length}
use borrow.Author.Tests.{le-leb, lt-leb}
use Rattle.rules_numbers.specs.Lists.{total}
use Rattle.rules_numbers.specs.ListLaws.{Each}
use Rattle.rules_choices.specs.Choices.{choices}
use Rattle.rules_choices.specs.Search.{lowest_total, highest_total}
use Rattle.rules_choices.specs.Pairwise.{StrictlyRising}
use Rattle.rules_choices.specs.CoveringCount.{covering_from, covering_all}
use Rattle.rules_choices.specs.Kept.{Levels}
use Rattle.rules_choices.specs.Numbered.{count, count_row}
use Rattle.rules_choices.specs.EachChoice.{Strided, row_of, each_level, each_choice, Among, each_choice_relates, each_choice_keeps, among_between}
use Rattle.rules_choices.specs.SearchedChoices.{counted, each_choice_counted}
use Rattle.engine_search.specs.declared.tally.Tally.{Tally}
use Rattle.engine_search.specs.tally.Tally.{only_counted, more}
use Rattle.engine_search.specs.tally.TallyLaws.{more_above, more_case, more_counted, more_total}
use Rattle.engine_search.specs.searching.Going.{offered}

-- ---- parts of which no choice covers, or all do

module _ (d : ℕ) (rs : List Strided) (t i : ℕ) (f : Tally) (rise : Each StrictlyRising (map row_of rs)) where
  pub each_choice_none : t + highest_total (map row_of rs) < d → each_choice (offered d) rs t i f ≡ f
  each_choice_none h = each_choice_keeps (λ x. x ≡ f) (offered d) rs t i step f refl
    where
      step : (u j : ℕ) → Among rs t i u j → (x : Tally) → x ≡ f → offered d u j x ≡ f
      step u j a x e = rw (lt-leb d u (omega (arith, (among_between rs t i u j rise a).1))) e

  -- all cover and are above the best
  each_choice_above : d ≤ t + lowest_total (map row_of rs) → f.total < t + lowest_total (map row_of rs) →
      each_choice (offered d) rs t i f ≡ only_counted (count (map row_of rs)) f
  each_choice_above h k =
      each_choice_relates (λ x n. x ≡ only_counted n f) (offered d) (counted d) rs t i step f 0 (rw (add-zero f.covering))
      ∙ ap (λ n. only_counted n f) (each_choice_counted d rs t i 0 ∙ zero-add (covering_from d (map row_of rs) t) ∙ covering_all d (map row_of rs) t rise h)
    where
      step : (u j : ℕ) → Among rs t i u j → (x : Tally) (n : ℕ) → x ≡ only_counted n f → offered d u j x ≡ only_counted (counted d u j n) f
      step u j a x n e =
          let b = (among_between rs t i u j rise a).0 in
          let c : f.covering + n + 1 ≡ f.covering + (n + 1) = omega arith in
          rw (e, le-leb d u (omega arith)) (more_above 1 u j (only_counted n f) (omega arith) ∙ rw c)

-- by the first level of the first row
pub count_cons : (v : ℕ) (vs : List ℕ) (rows : List (List ℕ)) → count ((v ∷ vs) ∷ rows) ≡ count rows + count (vs ∷ rows)
count_cons v vs rows = count_row (v ∷ vs) rows ∙ omega (arith, count_row vs rows, suc-mul (length vs) (count rows))

-- all cover: the lows are the best of them, the others are above the lows
pub each_choice_all : (d : ℕ) (rs : List Strided) (t i : ℕ) (f : Tally) → Each Levels (map row_of rs) → d ≤ t + lowest_total (map row_of rs) →
    each_choice (offered d) rs t i f ≡ more (count (map row_of rs)) (t + lowest_total (map row_of rs)) i f
unfolding each_choice each_level choices lowest_total total
each_choice_all d [] t i f levels h = rw (add-zero t, le-leb d t (omega arith))
each_choice_all d ((s, []) ∷ rs) t i f levels h = absurd (omega (arith, (levels [] (Memᴰ.head refl)).0))
each_choice_all d ((s, (v ∷ [])) ∷ rs) t i f levels h =
    let rows : List (List ℕ) = map row_of rs in
    let c : count ((v ∷ []) ∷ rows) ≡ count rows = count_row (v ∷ []) rows ∙ one-mul (count rows) in
    each_choice_all d rs (t + v) i f (λ r m. levels r (Memᴰ.tail m)) (omega arith) ∙ rw (c, add_assoc t v (lowest_total rows))
each_choice_all d ((s, (v ∷ w ∷ vs)) ∷ rs) t i f levels h =
    let rows : List (List ℕ) = map row_of rs in
    let first : ℕ = t + v + lowest_total rows in
    let g : Tally = more (count rows) first i f in
    let r = (levels (v ∷ w ∷ vs) (Memᴰ.head refl)).1 in
    let above : v < w = r.0 w (Memᴰ.head refl) in
    let rise : Each StrictlyRising ((w ∷ vs) ∷ rows) = λ row m. ⊎_elim (λ e. rw e r.1) (λ k. (levels row (Memᴰ.tail k)).1) (Memᴰ.cases_cons m) in
    let low : first < t + lowest_total ((w ∷ vs) ∷ rows) = omega arith in
    ap (λ (x : Tally). each_choice (offered d) ((s, (w ∷ vs)) ∷ rs) t (i + s) x)
    (each_choice_all d rs (t + v) i f (λ r m. levels r (Memᴰ.tail m)) (omega arith))
    ∙ each_choice_above d ((s, (w ∷ vs)) ∷ rs) t (i + s) g rise (omega arith) (omega (arith, more_total (count rows) first i f))
    ∙ more_counted (count rows) first i f (count ((w ∷ vs) ∷ rows))
    ∙ rw (count_cons v (w ∷ vs) rows, add_assoc t v (lowest_total rows))

-- ---- what every way through keeps

pub each_choice_covers : (d : ℕ) (rs : List Strided) (t i : ℕ) (f : Tally) →
    (each_choice (offered d) rs t i f).covering ≡ f.covering + covering_from d (map row_of rs) t
each_choice_covers d rs t i f =
    each_choice_relates (λ x n. x.covering ≡ n) (offered d) (counted d) rs t i step f f.covering refl
    ∙ each_choice_counted d rs t i f.covering
  where
    step : (u j : ℕ) → Among rs t i u j → (x : Tally) (n : ℕ) → x.covering ≡ n → (offered d u j x).covering ≡ counted d u j n
    step u j a x n e = go (leb d u)
      where
        go : (b : Bool) → (cond b (more 1 u j x) x).covering ≡ n + cond b 1 0
        go true = more_case 1 u j x (λ y. y.covering ≡ n + 1) (λ h. omega arith) (λ k h. omega arith)
        go false = omega arith

pub each_choice_fewer : (d : ℕ) (rs : List Strided) (t i : ℕ) (f : Tally) → f.kept ≤ f.covering →
    (each_choice (offered d) rs t i f).kept ≤ (each_choice (offered d) rs t i f).covering
each_choice_fewer d rs t i f = each_choice_keeps (λ x. x.kept ≤ x.covering) (offered d) rs t i step f
  where
    step : (u j : ℕ) → Among rs t i u j → (x : Tally) → x.kept ≤ x.covering → (offered d u j x).kept ≤ (offered d u j x).covering
    step u j a x e = go (leb d u)
      where
        go : (b : Bool) → (cond b (more 1 u j x) x).kept ≤ (cond b (more 1 u j x) x).covering
        go true = more_case 1 u j x (λ y. y.kept ≤ y.covering) (λ h. omega arith) (λ k h. omega arith)
        go false = e
