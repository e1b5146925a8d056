-- The choices of one level from each row: how many they are, which they are, and that none is listed twice.
use Rattle.std.specs.Prelude.{ℕ, zero, suc, ◌*◌, ◌≤◌, ◌<◌, ◌≡◌, refl, ◌↔◌, length, get_or}
use Rattle.std.proofs.Common.{sym, ap, subst, ◌∙◌, ⊎_elim, arith, zero-mul, suc-mul, not-suc-le-zero, le_of_suc-le-suc, length-append}
use mathlib.Core.List.Memᴰ
use mathlib.Core.List.{List, [], ◌∷◌, map, Memᴰ}
use Rattle.std.proofs.lemmas.List.{length-map}
use Rattle.rules_numbers.specs.ListLaws.{Each, keep_le, in_map}
use Rattle.rules_choices.specs.Choices.{spread, choices, covering}
use Rattle.rules_choices.specs.Pairwise.{Pairwise, Distinct, pairwise_append, pairwise_map}

-- ---- how many

unfoldable pub product : List ℕ → ℕ
product [] = 1
product (x ∷ xs) = x * product xs

spread_count : (row : List ℕ) (cs : List (List ℕ)) → length (spread row cs) ≡ length row * length cs
unfolding spread
spread_count [] cs = sym (zero-mul (length cs))
spread_count (v ∷ row) cs = rw (length-append, length-map, spread_count row cs) (omega (arith, suc-mul (length row) (length cs)))

-- as many choices as the product of the rows' lengths
pub choices_count : (rows : List (List ℕ)) → length (choices rows) ≡ product (map length rows)
unfolding choices product
choices_count [] = refl
choices_count (row ∷ rows) = spread_count row (choices rows) ∙ ap (λ n. length row * n) (choices_count rows)

pub covering_le : (d : ℕ) (cs : List (List ℕ)) → length (covering d cs) ≤ length cs
unfolding covering
covering_le d cs = keep_le _ cs

-- ---- which

-- c has one level of each row, in the rows' order
abbrev pub OneOfEach : List (List ℕ) → List ℕ → Type 0
OneOfEach [] c = c ≡ []
OneOfEach (row ∷ rows) [] = ⊥
OneOfEach (row ∷ rows) (v ∷ c) = Memᴰ v row × OneOfEach rows c

spread_from : {c : List ℕ} (row : List ℕ) (cs : List (List ℕ)) → Memᴰ c (spread row cs) →
    (v : ℕ) × Memᴰ v row × ((e : List ℕ) × Memᴰ e cs × (c ≡ v ∷ e))
unfolding spread
spread_from [] cs m = absurd (Memᴰ.not-nil m)
spread_from {c} (v ∷ row) cs m =
    ⊎_elim
    (λ k. (v, Memᴰ.head refl, (in_map (λ e. v ∷ e) c cs).0 k))
    (λ k. let r = spread_from row cs k in (r.0, Memᴰ.tail r.1, r.2))
    (Memᴰ.append_cases (map (λ e. v ∷ e) cs) m)

spread_into : {v : ℕ} {e : List ℕ} (row : List ℕ) (cs : List (List ℕ)) → Memᴰ v row → Memᴰ e cs → Memᴰ (v ∷ e) (spread row cs)
unfolding spread
spread_into [] cs m k = absurd (Memᴰ.not-nil m)
spread_into {v} {e} (w ∷ row) cs m k =
    ⊎_elim
    (λ d. Memᴰ.append_left (spread row cs) ((in_map (λ a. w ∷ a) (v ∷ e) cs).1 (e, k, ap (λ n. n ∷ e) d)))
    (λ j. Memᴰ.append_right (map (λ a. w ∷ a) cs) (spread_into row cs j k))
    (Memᴰ.cases_cons m)

choices_from : (rows : List (List ℕ)) (c : List ℕ) → Memᴰ c (choices rows) → OneOfEach rows c
unfolding choices
choices_from [] c m = Memᴰ.eq_of_singleton m
choices_from (row ∷ rows) c m =
    let r = spread_from row (choices rows) m in
    subst (OneOfEach (row ∷ rows)) (sym r.2.2) (r.1, choices_from rows r.2.0 r.2.1)

choices_into : (rows : List (List ℕ)) (c : List ℕ) → OneOfEach rows c → Memᴰ c (choices rows)
unfolding choices
choices_into [] c h = Memᴰ.head h
choices_into (row ∷ rows) [] h = absurd h
choices_into (row ∷ rows) (v ∷ c) h = spread_into row (choices rows) h.0 (choices_into rows c h.1)

pub in_choices : (rows : List (List ℕ)) (c : List ℕ) → Memᴰ c (choices rows) ↔ OneOfEach rows c
in_choices rows c = (choices_from rows c, choices_into rows c)

one_of_each_length : (rows : List (List ℕ)) (c : List ℕ) → OneOfEach rows c → length c ≡ length rows
one_of_each_length [] c h = ap length h
one_of_each_length (row ∷ rows) [] h = absurd h
one_of_each_length (row ∷ rows) (v ∷ c) h = ap suc (one_of_each_length rows c h.1)

pub choice_length : (rows : List (List ℕ)) (c : List ℕ) → Memᴰ c (choices rows) → length c ≡ length rows
choice_length rows c m = one_of_each_length rows c (choices_from rows c m)

-- where the rows are listed by a function f: a level of each, and the level of each
module _ {A : Type 0} (f : A → List ℕ) where
  pub one_of_each_map : (g : A → ℕ) (ks : List A) → Each (λ k. Memᴰ (g k) (f k)) ks → OneOfEach (map f ks) (map g ks)
  one_of_each_map g [] h = refl
  one_of_each_map g (k ∷ ks) h = (h k (Memᴰ.head refl), one_of_each_map g ks (λ x m. h x (Memᴰ.tail m)))

  pub one_of_each_at : (ks : List A) (c : List ℕ) (i : ℕ) (d : A) → OneOfEach (map f ks) c → i < length ks → Memᴰ (get_or c i 0) (f (get_or ks i d))
  one_of_each_at [] c i d o h = absurd (not-suc-le-zero h)
  one_of_each_at (k ∷ ks) [] i d o h = absurd o
  one_of_each_at (k ∷ ks) (v ∷ c) zero d o h = o.0
  one_of_each_at (k ∷ ks) (v ∷ c) (suc i) d o h = one_of_each_at ks c i d o.1 (le_of_suc-le-suc h)

-- ---- pairs of them: the relation S of choices that a relation R of levels makes

module _ (R : ℕ → ℕ → Type 0) (S : List ℕ → List ℕ → Type 0) (front : (v w : ℕ) (c e : List ℕ) → R v w → S (v ∷ c) (w ∷ e))
    (behind : (v : ℕ) (c e : List ℕ) → S c e → S (v ∷ c) (v ∷ e)) where
  spread_pairwise : (row : List ℕ) (cs : List (List ℕ)) → Pairwise R row → Pairwise S cs → Pairwise S (spread row cs)
  unfolding spread
  spread_pairwise [] cs p q = tt
  spread_pairwise (v ∷ row) cs p q =
      pairwise_append S (map (λ c. v ∷ c) cs) (spread row cs) (pairwise_map S S (λ c. v ∷ c) (behind v) cs q) (spread_pairwise row cs p.1 q) across
    where
      across : Each (λ x. Each (S x) (spread row cs)) (map (λ c. v ∷ c) cs)
      across x m y k =
          let a = (in_map (λ c. v ∷ c) x cs).0 m in
          let b = spread_from row cs k in
          rw (a.2, b.2.2) (front v b.0 a.0 b.2.0 (p.0 b.0 b.1))

  pub choices_pairwise : (rows : List (List ℕ)) → Each (Pairwise R) rows → Pairwise S (choices rows)
  unfolding choices
  choices_pairwise [] h = ((λ y m. absurd (Memᴰ.not-nil m)), tt)
  choices_pairwise (row ∷ rows) h = spread_pairwise row (choices rows) (h row (Memᴰ.head refl)) (choices_pairwise rows (λ r m. h r (Memᴰ.tail m)))

-- where no row has a level twice, no choice is listed twice
pub choices_distinct : (rows : List (List ℕ)) → Each Distinct rows → Distinct (choices rows)
choices_distinct = choices_pairwise (λ v w. v ≡ w → ⊥) (λ c e. c ≡ e → ⊥) (λ v w c e h d. h (cc)) (λ v c e h d. h (cc))
