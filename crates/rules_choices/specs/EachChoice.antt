-- Going through every choice of rows, depth first, level by level. Each row has a stride, by which the place of a choice grows from one level to
-- the next; strides may stand for a numbering of the choices other than the one in which they are gone through.
use Prim.Native.Nat.{ℕ, zero, suc, ◌+◌, ◌*◌, ◌≤◌, ◌<◌}
use Rattle.std.specs.Prelude.{◌≡◌, refl, ◌↔◌, length}
use Rattle.std.proofs.Math.Path.{subst}
use Rattle.std.proofs.Common.{sym, ⊎_elim, arith}
use mathlib.Core.List.Memᴰ
use mathlib.Core.List.{List, [], ◌∷◌, map, Memᴰ}
use Rattle.std.proofs.Math.Nat.{zero-mul, suc-mul}
use Rattle.std.proofs.Math.ListN.{get_or}
use Rattle.rules_numbers.specs.Lists.{total}
use Rattle.rules_numbers.specs.ListLaws.{Each}
use Rattle.rules_choices.specs.Pairwise.{StrictlyRising}
use Rattle.rules_choices.specs.Search.{lowest_total, highest_total}
use Rattle.rules_choices.specs.Between.{row_between}
use Rattle.rules_choices.specs.Falling.{AnyOrder}

-- ---- elements by place

pub nth_in : {A : Type 0} (d : A) (xs : List A) (j : ℕ) → j < length xs → Memᴰ (get_or xs j d) xs
nth_in d [] j h = absurd (omega arith)
nth_in d (x ∷ xs) zero h = Memᴰ.head refl
nth_in d (x ∷ xs) (suc j) h = Memᴰ.tail (nth_in d xs j (omega arith))

pub nth_of : {A : Type 0} (d x : A) (xs : List A) → Memᴰ x xs → (j : ℕ) × (j < length xs) × (get_or xs j d ≡ x)
nth_of d x [] m = absurd (Memᴰ.not-nil m)
nth_of d x (y ∷ xs) m = ⊎_elim (λ e. (0, omega arith, sym e)) (λ n. let k = nth_of d x xs n in (suc k.0, omega (arith, k.1), k.2)) (Memᴰ.cases_cons m)

-- ---- rows with strides

-- a row with its stride
abbrev pub Strided : Type 0
Strided = ℕ × List ℕ

abbrev pub row_of : Strided → List ℕ
row_of r = r.1

-- f with each level added to the total t in turn, the first at the place i
unfoldable pub each_level : {S : Type 0} → (ℕ → ℕ → S → S) → ℕ → List ℕ → ℕ → ℕ → S → S
each_level f s [] t i x = x
each_level f s (v ∷ vs) t i x = each_level f s vs t (i + s) (f (t + v) i x)

-- g with the total and the place of every choice of the rows, from x on
unfoldable pub each_choice : {S : Type 0} → (ℕ → ℕ → S → S) → List Strided → ℕ → ℕ → S → S
each_choice g [] t i x = g t i x
each_choice g (r ∷ rs) t i x = each_level (each_choice g rs) r.0 r.1 t i x

-- some choice of the rows makes the total t and the place i into u and j
abbrev pub Among : List Strided → ℕ → ℕ → ℕ → ℕ → Type 0
Among [] t i u j = (u ≡ t) × (j ≡ i)
Among (r ∷ rs) t i u j = (k : ℕ) × (k < length r.1) × Among rs (t + get_or r.1 k 0) (i + k * r.0) u j

-- ---- two ways through the same choices keep a relation that each choice keeps

module _ {S T : Type 0} (R : S → T → Type 0) where
  abbrev Keeps : (ℕ → ℕ → S → S) → (ℕ → ℕ → T → T) → ℕ → ℕ → Type 0
  Keeps f h u j = (x : S) (y : T) → R x y → R (f u j x) (h u j y)

  each_relates : (f : ℕ → ℕ → S → S) (h : ℕ → ℕ → T → T) (s : ℕ) (vs : List ℕ) (t i : ℕ) →
      ((k : ℕ) → k < length vs → Keeps f h (t + get_or vs k 0) (i + k * s)) → (x : S) (y : T) → R x y → R (each_level f s vs t i x) (each_level h s vs t i y)
  unfolding each_level
  each_relates f h s [] t i e x y r = r
  each_relates f h s (v ∷ vs) t i e x y r =
      let first : i + 0 * s ≡ i = omega (arith, zero-mul s) in
      each_relates f h s vs t (i + s)
      (λ k m. subst (Keeps f h (t + get_or vs k 0)) (next k) (e (suc k) (omega arith)))
      (f (t + v) i x) (h (t + v) i y) (subst (Keeps f h (t + v)) first (e 0 (omega arith)) x y r)
    where
      next : (k : ℕ) → i + suc k * s ≡ i + s + k * s
      next k = omega (arith, suc-mul k s)

  pub each_choice_relates : (g : ℕ → ℕ → S → S) (h : ℕ → ℕ → T → T) (rs : List Strided) (t i : ℕ) → ((u j : ℕ) → Among rs t i u j → Keeps g h u j) →
      (x : S) (y : T) → R x y → R (each_choice g rs t i x) (each_choice h rs t i y)
  unfolding each_choice
  each_choice_relates g h [] t i e x y r = e t i (refl, refl) x y r
  each_choice_relates g h (q ∷ rs) t i e x y r =
      each_relates (each_choice g rs) (each_choice h rs) q.0 q.1 t i
      (λ k m. each_choice_relates g h rs (t + get_or q.1 k 0) (i + k * q.0) (λ u j a. e u j (k, m, a)))
      x y r

-- what each choice keeps is kept
pub each_choice_keeps : {S : Type 0} (P : S → Type 0) (g : ℕ → ℕ → S → S) (rs : List Strided) (t i : ℕ) →
    ((u j : ℕ) → Among rs t i u j → (x : S) → P x → P (g u j x)) → (x : S) → P x → P (each_choice g rs t i x)
each_choice_keeps P g rs t i e x p = each_choice_relates (λ x (y : Unit {0}). P x) g (λ u j y. y) rs t i (λ u j a x y. e u j a x) x tt p

-- what a choice that is gone through brings about, and no other undoes, holds
module _ {S : Type 0} (G : S → Type 0) where
  each_meets : (f : ℕ → ℕ → S → S) → ((u j : ℕ) (x : S) → G x → G (f u j x)) → (s : ℕ) (vs : List ℕ) (t i k : ℕ) → k < length vs →
      ((x : S) → G (f (t + get_or vs k 0) (i + k * s) x)) → (x : S) → G (each_level f s vs t i x)
  unfolding each_level
  each_meets f stays s [] t i k m e x = absurd (omega arith)
  each_meets f stays s (v ∷ vs) t i zero m e x =
      let first : i + 0 * s ≡ i = omega (arith, zero-mul s) in
      each_relates (λ x (y : Unit {0}). G x) f (λ u j y. y) s vs t (i + s)
      (λ k m x y. stays (t + get_or vs k 0) (i + s + k * s) x)
      (f (t + v) i x) tt (rw first at (e x))
  each_meets f stays s (v ∷ vs) t i (suc k) m e x =
      let next : i + suc k * s ≡ i + s + k * s = omega (arith, suc-mul k s) in
      each_meets f stays s vs t (i + s) k (omega arith) (λ y. rw next at (e y)) (f (t + v) i x)

  pub each_choice_meets : (g : ℕ → ℕ → S → S) → ((u j : ℕ) (x : S) → G x → G (g u j x)) → (rs : List Strided) (t i u j : ℕ) → Among rs t i u j →
      ((x : S) → G (g u j x)) → (x : S) → G (each_choice g rs t i x)
  unfolding each_choice
  each_choice_meets g stays [] t i u j a e x = subst (λ n. G (g n i x)) a.0 (subst (λ n. G (g u n x)) a.1 (e x))
  each_choice_meets g stays (q ∷ rs) t i u j a e x =
      each_meets (each_choice g rs) (λ v k. each_choice_keeps G g rs v k (λ w l b y. stays w l y)) q.0 q.1 t i a.0 a.1
      (each_choice_meets g stays rs (t + get_or q.1 a.0 0) (i + a.0 * q.0) u j a.2 e)
      x

-- ---- the choices are the same in any order of the rows

among_swap : (q r : Strided) (rs : List Strided) (t i u j : ℕ) → Among (q ∷ r ∷ rs) t i u j → Among (r ∷ q ∷ rs) t i u j
among_swap q r rs t i u j (k, m, (l, n, a)) =
    let e : t + get_or q.1 k 0 + get_or r.1 l 0 ≡ t + get_or r.1 l 0 + get_or q.1 k 0 = omega arith in
    let f : i + k * q.0 + l * r.0 ≡ i + l * r.0 + k * q.0 = omega arith in
    (l, n, (k, m, rw (e, f) at a))

pub among_any : AnyOrder (λ rs qs. (t i u j : ℕ) → Among rs t i u j ↔ Among qs t i u j)
among_any = record {
  same = λ rs t i u j. ((λ a. a), (λ a. a));
  then = λ rs qs ps f g t i u j. ((λ a. (g t i u j).0 ((f t i u j).0 a)), (λ a. (f t i u j).1 ((g t i u j).1 a)));
  under = λ r rs qs f t i u j. (
    (λ a. (a.0, a.1, (f (t + get_or r.1 a.0 0) (i + a.0 * r.0) u j).0 a.2)),
    (λ a. (a.0, a.1, (f (t + get_or r.1 a.0 0) (i + a.0 * r.0) u j).1 a.2)),
  );
  swap = λ q r rs t i u j. (among_swap q r rs t i u j, among_swap r q rs t i u j);
}

-- ---- their totals lie between the lows and the highs

pub among_between : (rs : List Strided) (t i u j : ℕ) → Each StrictlyRising (map row_of rs) → Among rs t i u j →
    (t + lowest_total (map row_of rs) ≤ u) × (u ≤ t + highest_total (map row_of rs))
unfolding lowest_total highest_total total
among_between [] t i u j h a = (omega (arith, a.0), omega (arith, a.0))
among_between (r ∷ rs) t i u j h (k, m, a) =
    let b = row_between (get_or r.1 k 0) r.1 (h r.1 (Memᴰ.head refl)) (nth_in 0 r.1 k m) in
    let e = among_between rs (t + get_or r.1 k 0) (i + k * r.0) u j (λ s l. h s (Memᴰ.tail l)) a in
    (omega arith, omega arith)
