-- Strides that number the choices as they are listed, and the best choice by its total and its place: of equal totals the later one.
use Rattle.std.specs.Prelude.{ℕ, zero, suc, ◌+◌, ◌-◌, ◌*◌, ◌≤◌, ◌<◌, ◌≡◌, refl, ◌⊎◌, true}
use Rattle.std.proofs.Common.{sym, subst, ◌∙◌, zero-mul, suc-mul, add-zero, mul-le-mul_right}
use Rattle.std.proofs.Math.Path.{ap}
use Rattle.std.proofs.Math.Logic.{inl, inr, ⊎_elim}
use mathlib.Core.List.Memᴰ
use mathlib.Core.List.{List, [], ◌∷◌, map, Memᴰ}
use native.Mathlib.Omega.{arith}
use Rattle.std.proofs.Math.Nat.{zero-add, one-le-mul}
use Rattle.std.proofs.Math.ListN.{length, get_or, length-map, get_or-append}
use Rattle.std.proofs.Math.Seq.{get_or-append-add}
use Rattle.std.proofs.Math.Dec.{leb}
use borrow.Author.Tests.{le-leb}
use Rattle.rules_numbers.specs.Cases.{le_or_lt, three_way}
use Rattle.rules_numbers.specs.Lists.{total}
use Rattle.rules_numbers.specs.ListLaws.{Each, in_keep}
use Rattle.rules_choices.specs.Choices.{choices, spread, covering, best_of, larger, IsBest, LargerWhereTheyDiffer}
use Rattle.rules_choices.specs.Count.{choices_count, product}
use Rattle.rules_choices.specs.Pairwise.{Pairwise, StrictlyRising}
use Rattle.rules_choices.specs.Larger.{larger_differs}
use Rattle.rules_choices.specs.Order.{later_larger}
use Rattle.rules_choices.specs.Best.{best_choice, best_unique}
use Rattle.rules_choices.specs.EachChoice.{nth_in, nth_of, Strided, row_of, Among}

abbrev pub count : List (List ℕ) → ℕ
count rows = length (choices rows)

unfoldable pub numbered : List (List ℕ) → List Strided
numbered [] = []
numbered (row ∷ rows) = (count rows, row) ∷ numbered rows

pub numbered_rows : (rows : List (List ℕ)) → map row_of (numbered rows) ≡ rows
unfolding numbered
numbered_rows [] = refl
numbered_rows (row ∷ rows) = ap (λ rs. row ∷ rs) (numbered_rows rows)

-- ---- the choice at a place, by the level of the first row

module _ (v : ℕ) (vs : List ℕ) (rows : List (List ℕ)) (j : ℕ) where
  front_at : (cs : List (List ℕ)) (j : ℕ) → j < length cs → get_or (map (λ c. v ∷ c) cs) j [] ≡ v ∷ get_or cs j []
  front_at [] j h = absurd (omega arith)
  front_at (c ∷ cs) zero h = refl
  front_at (c ∷ cs) (suc j) h = front_at cs j (omega arith)

  choice_here : j < count rows → get_or (choices ((v ∷ vs) ∷ rows)) j [] ≡ v ∷ get_or (choices rows) j []
  unfolding choices spread
  choice_here h = get_or-append (map (λ c. v ∷ c) (choices rows)) (spread vs (choices rows)) [] j (rw length-map h) ∙ front_at (choices rows) j h

  choice_later : count rows ≤ j → get_or (choices ((v ∷ vs) ∷ rows)) j [] ≡ get_or (choices (vs ∷ rows)) (j - count rows) []
  unfolding choices spread
  choice_later h =
      let l : length (map (λ c. v ∷ c) (choices rows)) ≡ count rows = simp length-map in
      let e : j ≡ length (map (λ c. v ∷ c) (choices rows)) + (j - count rows) = omega arith in
      ap (λ (m : ℕ). get_or (choices ((v ∷ vs) ∷ rows)) m []) e ∙ get_or-append-add (map (λ c. v ∷ c) (choices rows)) (spread vs (choices rows)) (j - count rows) []

pub choice_at : (row : List ℕ) (rows : List (List ℕ)) (k m : ℕ) → k < length row → m < count rows →
    get_or (choices (row ∷ rows)) (k * count rows + m) [] ≡ get_or row k 0 ∷ get_or (choices rows) m []
choice_at [] rows k m h g = absurd (omega arith)
choice_at (v ∷ vs) rows zero m h g =
    let e : 0 * count rows + m ≡ m = omega (arith, zero-mul (count rows)) in
    ap (λ (j : ℕ). get_or (choices ((v ∷ vs) ∷ rows)) j []) e ∙ choice_here v vs rows m g
choice_at (v ∷ vs) rows (suc k) m h g =
    let e : suc k * count rows + m - count rows ≡ k * count rows + m = omega (arith, suc-mul k (count rows)) in
    choice_later v vs rows (suc k * count rows + m) (omega (arith, suc-mul k (count rows)))
    ∙ ap (λ (j : ℕ). get_or (choices (vs ∷ rows)) j []) e
    ∙ choice_at vs rows k m (omega arith) g

-- ---- the place that the strides make is the place in the list

pub count_row : (row : List ℕ) (rows : List (List ℕ)) → count (row ∷ rows) ≡ length row * count rows
unfolding product
count_row row rows = choices_count (row ∷ rows) ∙ ap (λ n. length row * n) (sym (choices_count rows))

pub count_some : (rows : List (List ℕ)) → Each (λ row. 0 < length row) rows → 0 < count rows
unfolding choices
count_some [] h = omega arith
count_some (row ∷ rows) h = rw (count_row row rows) (one-le-mul (h row (Memᴰ.head refl)) (count_some rows (λ r m. h r (Memᴰ.tail m))))

pub numbered_from : (rows : List (List ℕ)) (t i u j : ℕ) → Among (numbered rows) t i u j →
    (m : ℕ) × (m < count rows) × (j ≡ i + m) × (u ≡ t + total (get_or (choices rows) m []))
unfolding numbered choices total
numbered_from [] t i u j a = (0, omega arith, a.1 ∙ sym (add-zero i), a.0 ∙ sym (add-zero t))
numbered_from (row ∷ rows) t i u j (k, h, a) =
    let b = numbered_from rows (t + get_or row k 0) (i + k * count rows) u j a in
    let m : ℕ = b.0 in
    let l : suc k * count rows ≤ length row * count rows = mul-le-mul_right (count rows) h in
    let c : get_or (choices (row ∷ rows)) (k * count rows + m) [] ≡ get_or row k 0 ∷ get_or (choices rows) m [] = choice_at row rows k m h b.1 in
    (k * count rows + m, omega (arith, count_row row rows, suc-mul k (count rows), b.1), omega (arith, b.2), rw c (omega (arith, b.3)))

split : (l n j : ℕ) → j < l * n → (k : ℕ) × (m : ℕ) × (k < l) × (m < n) × (j ≡ k * n + m)
split zero n j h = absurd (omega (arith, zero-mul n))
split (suc l) n j h =
    ⊎_elim
    (λ g. let s = split l n (j - n) (omega (arith, suc-mul l n)) in (suc s.0, s.1, omega (arith, s.2), s.3, omega (arith, s.4, suc-mul s.0 n)))
    (λ g. (0, j, omega arith, g, omega (arith, zero-mul n)))
    (le_or_lt n j)

numbered_to : (rows : List (List ℕ)) (t i j : ℕ) → j < count rows → Among (numbered rows) t i (t + total (get_or (choices rows) j [])) (i + j)
unfolding numbered choices total
numbered_to [] t i j h = let z : j ≡ 0 = omega arith in rw z (add-zero t, add-zero i)
numbered_to (row ∷ rows) t i j h =
    let s = split (length row) (count rows) j (omega (arith, count_row row rows)) in
    let v : ℕ = get_or row s.0 0 in
    let c : get_or (choices (row ∷ rows)) j [] ≡ v ∷ get_or (choices rows) s.1 [] =
    ap (λ (m : ℕ). get_or (choices (row ∷ rows)) m []) s.4 ∙ choice_at row rows s.0 s.1 s.2 s.3 in
    let e : i + j ≡ i + s.0 * count rows + s.1 = omega (arith, s.4) in
    let f : t + total (get_or (choices (row ∷ rows)) j []) ≡ t + v + total (get_or (choices rows) s.1 []) = rw c (omega arith) in
    (s.0, s.2, rw (f, e) (numbered_to rows (t + v) (i + s.0 * count rows) s.1 s.3))

-- ---- the best by total and place

-- a choice stands at a place
pub choice_place : (rows : List (List ℕ)) (c : List ℕ) → Memᴰ c (choices rows) →
    (k : ℕ) × (k < count rows) × (get_or (choices rows) k [] ≡ c) × Among (numbered rows) 0 0 (total c) k
choice_place rows c m =
    let k = nth_of [] c (choices rows) m in
    (k.0, k.1, k.2, rw (zero-add (total (get_or (choices rows) k.0 [])), zero-add k.0, k.2) at (numbered_to rows 0 0 k.0 k.1))

pairwise_nth : {A : Type 0} (R : A → A → Type 0) (d : A) (xs : List A) (m j : ℕ) → Pairwise R xs → m < j → j < length xs → R (get_or xs m d) (get_or xs j d)
pairwise_nth R d [] m j p h g = absurd (omega arith)
pairwise_nth R d (x ∷ xs) zero zero p h g = absurd (omega arith)
pairwise_nth R d (x ∷ xs) zero (suc j) p h g = p.0 (get_or xs j d) (nth_in d xs j (omega arith))
pairwise_nth R d (x ∷ xs) (suc m) zero p h g = absurd (omega arith)
pairwise_nth R d (x ∷ xs) (suc m) (suc j) p h g = pairwise_nth R d xs m j p.1 (omega arith) (omega arith)

-- the total u at the place j is a choice's that covers, and no choice that covers has a smaller total, nor an equal one at a later place
pub record BestPlace (d : ℕ) (rs : List Strided) (u j : ℕ) : Type 0 where
  pub among : Among rs 0 0 u j
  pub covers : d ≤ u
  pub ahead : (v k : ℕ) → Among rs 0 0 v k → d ≤ v → (u < v) ⊎ ((u ≡ v) × (k ≤ j))

module _ (d : ℕ) (rows : List (List ℕ)) (rise : Each StrictlyRising rows) {u j : ℕ} (p : BestPlace d (numbered rows) u j) where
  at : ℕ → List ℕ
  at k = get_or (choices rows) k []

  here : (j < count rows) × (u ≡ total (at j))
  unfolding at
  here =
      let n = numbered_from rows 0 0 u j p.among in
      let e : n.0 ≡ j = omega (arith, n.2) in
      (omega arith, n.3 ∙ zero-add (total (at n.0)) ∙ ap (λ k. total (at k)) e)

  -- a choice that covers stands at a place, and j is ahead of it
  ahead_of : (c : List ℕ) → Memᴰ c (choices rows) → d ≤ total c → (k : ℕ) × (k < count rows) × (at k ≡ c) × ((u < total c) ⊎ ((u ≡ total c) × (k ≤ j)))
  unfolding at
  ahead_of c m h = let k = choice_place rows c m in (k.0, k.1, k.2, p.ahead (total c) k.0 k.3 h)

  is_best : IsBest d (choices rows) (at j)
  unfolding at
  is_best = record {
    admissible = nth_in [] (choices rows) j here.0;
    covers = omega (arith, here.1, p.covers);
    least = λ c m h. ⊎_elim (λ l. omega (arith, here.1)) (λ e. omega (arith, here.1, e.0)) (ahead_of c m h).3;
    tie = λ c m e.
        let k = ahead_of c m (omega (arith, here.1, p.covers)) in
        ⊎_elim (λ l. absurd (omega (arith, here.1))) (λ l. tie c k.0 k.2 l.1) k.3;
  }
    where
      tie : (c : List ℕ) (k : ℕ) → at k ≡ c → k ≤ j → (c ≡ at j) ⊎ LargerWhereTheyDiffer (at j) c
      tie c k e h =
          ⊎_elim
          (λ g. inl (sym e ∙ ap at g))
          (⊎_elim
          (λ g. inr (larger_differs (at j) c (rw e at (pairwise_nth (λ b a. larger a b ≡ true) [] (choices rows) k j (later_larger rows rise) g here.0))))
          (λ g. absurd (omega arith)))
          (three_way k j)

  some_covers : covering d (choices rows) ≡ [] → ⊥
  unfolding covering
  some_covers e =
      let m = (in_keep (λ c. leb d (total c)) (at j) (choices rows)).1 (is_best.admissible, le-leb d (total (at j)) is_best.covers) in
      Memᴰ.not-nil (subst (Memᴰ (at j)) e m)

  -- it is the best choice's
  pub place_best : (j < count rows) × (get_or (choices rows) j [] ≡ best_of (covering d (choices rows))) × (u ≡ total (best_of (covering d (choices rows))))
  unfolding at
  place_best =
      let e : get_or (choices rows) j [] ≡ best_of (covering d (choices rows)) =
      best_unique d (choices rows) (at j) (best_of (covering d (choices rows))) is_best (best_choice d rows some_covers) in
      (here.0, e, here.1 ∙ ap total e)
