-- A developer's levels and its offer's steps written one by one, behind what stands in the lent numbers already.
use Prim.Native.Nat.{ℕ, suc, ◌+◌, ◌*◌, ◌≤◌, ◌<◌}
use mathlib.Core.Path.{◌≡◌, refl, sym, ap, ap₂, ◌∙◌}
use mathlib.Core.List.{List, [], ◌∷◌, ◌++◌, append_assoc}
use native.Mathlib.Omega.{arith}
use native.Mathlib.Numerals.{add-one}
use lib.ListN.{length, get_or, take, drop, set, length-set, length-append, drop_of_length-le}
use lib.Seq.{drop-cons, get_or-take, length-take-le}
use Rattle.rules_numbers.specs.Tails.{laid, Filled, filled_all, length_laid}
use Rattle.figure_writing.specs.lent_numbers.Lent.{laid_behind}
use Rattle.figure_writing.specs.lent_numbers.LentLaws.{filled_behind, filled_long, filled_one, filled_left, filled_at, numbers_next, numbers_end}
use Rattle.figure_writing.specs.lent_numbers.LentLaws.{behind_others, filled_rest}
use Rattle.figure_writing.specs.reading_figures.Read.{steps_in}
use Rattle.figure_writing.specs.reading_figures.ReadLaws.{steps_length}

-- of t, behind the first `at` of o, the numbers up to the place `used` are written in xs, and `rest` is left
abbrev pub Behind : ℕ → List ℕ → List ℕ → List ℕ → List ℕ → ℕ → Type 0
Behind at t o xs rest used = Filled (take at o ++ t) o xs rest used

module _ (at : ℕ) (t o : List ℕ) (room : at + length t ≤ length o) where
  fits_all : length (take at o ++ t) ≤ length o
  fits_all = omega (arith, length-append (take at o) t, length-take-le at o (omega arith))

  pub behind_first_lem : (used : ℕ) → used ≡ at → Behind at t o o t used
  behind_first_lem used e = filled_at (take at o ++ t) o fits_all o t at used e (filled_behind at t o (omega arith))

  module _ (xs rest : List ℕ) (used : ℕ) where
    pub behind_long : Behind at t o xs rest used → length xs ≡ length o
    behind_long f = filled_long (take at o ++ t) o fits_all xs rest used f

-- ---- levels

-- the loop over the numbers vs before place i: o is what was lent at first
abbrev pub Leveling : ℕ → List ℕ → List ℕ → List ℕ → ℕ → Type 0
Leveling at vs o xs i = Behind at vs o xs (drop i vs) (at + i)

module _ (at : ℕ) (vs o : List ℕ) (room : at + length vs ≤ length o) where
  pub leveling_first : Leveling at vs o o 0
  leveling_first = behind_first_lem at vs o room (at + 0) (omega arith)

  module _ (xs : List ℕ) (i : ℕ) (f : Leveling at vs o xs i) where
    pub leveling_next : i < length vs → Leveling at vs o (set xs (at + i) (get_or vs i 0)) (i + 1)
    leveling_next h = numbers_next (take at o ++ vs) o (fits_all at vs o room) vs xs i (at + i) f (at + i) (at + (i + 1)) refl (omega arith) h

    pub leveling_end : length vs ≤ i → xs ≡ laid_behind at vs o
    unfolding laid_behind
    leveling_end h = numbers_end (take at o ++ vs) o (fits_all at vs o room) vs xs i (at + i) f h

-- ---- steps

-- the loop before place i
abbrev pub Stepping : ℕ → ℕ → List ℕ → List ℕ → List ℕ → List ℕ → ℕ → Type 0
Stepping at count prices levels o xs i =
    let ps = take count prices in
    let qs = take count levels in
    Behind at (steps_in ps qs) o xs (steps_in (drop i ps) (drop i qs)) (at + 2 * i)

module _
    (at count : ℕ) (prices levels o : List ℕ) (few : count ≤ length prices) (few_levels : count ≤ length levels) (room : at + 2 * count ≤ length o)
  where
    abbrev ps : List ℕ
    ps = take count prices

    abbrev qs : List ℕ
    qs = take count levels

    ps_long : length ps ≡ count
    ps_long = length-take-le count prices few

    qs_long : length qs ≡ count
    qs_long = length-take-le count levels few_levels

    steps_room : at + length (steps_in ps qs) ≤ length o
    steps_room = omega (arith, steps_length ps qs (qs_long ∙ sym ps_long), ps_long)

    pub stepping_first : Stepping at count prices levels o o 0
    stepping_first = behind_first_lem at (steps_in ps qs) o steps_room (at + 2 * 0) (omega arith)

    module _ (xs : List ℕ) (i : ℕ) (f : Stepping at count prices levels o xs i) where
      pub stepping_long : length xs ≡ length o
      stepping_long = behind_long at (steps_in ps qs) o steps_room xs _ (at + 2 * i) f

      pub stepping_next : i < count → Stepping at count prices levels o (set (set xs (at + 2 * i) (get_or prices i 0)) (at + 2 * i + 1) (get_or levels i 0)) (i + 1)
      unfolding steps_in
      stepping_next h =
          let text : List ℕ = take at o ++ steps_in ps qs in
          let fits : length text ≤ length o = fits_all at (steps_in ps qs) o steps_room in
          let p : drop i ps ≡ get_or prices i 0 ∷ drop (i + 1) ps =
          rw add-one (drop-cons ps i 0 (omega (arith, ps_long)) ∙ ap (λ (v : ℕ). v ∷ drop (suc i) ps) (get_or-take count prices i 0 h)) in
          let q : drop i qs ≡ get_or levels i 0 ∷ drop (i + 1) qs =
          rw add-one (drop-cons qs i 0 (omega (arith, qs_long)) ∙ ap (λ (v : ℕ). v ∷ drop (suc i) qs) (get_or-take count levels i 0 h)) in
          let now = filled_left text o fits xs _ (at + 2 * i) _ (ap₂ steps_in p q) f in
          let price = filled_one text o fits xs _ (at + 2 * i) (at + 2 * i) (at + 2 * i + 1) (get_or prices i 0) refl refl now in
          filled_one text o fits _ _ (at + 2 * i + 1) (at + 2 * i + 1) (at + 2 * (i + 1)) (get_or levels i 0) refl (omega arith) price

      pub stepping_end : count ≤ i → xs ≡ laid_behind at (steps_in ps qs) o
      unfolding laid_behind steps_in
      stepping_end h =
          let none = drop_of_length-le ps {i = i} (omega (arith, ps_long)) in
          (filled_all _ o xs _ (at + 2 * i) f (ap (λ (l : List ℕ). steps_in l (drop i qs)) none)).1

-- ---- the parts put together

pub behind_length : (at : ℕ) (t o : List ℕ) → at + length t ≤ length o → length (laid_behind at t o) ≡ length o
unfolding laid_behind
behind_length at t o room = length_laid (take at o ++ t) o (fits_all at t o room)

-- one number, then what is left
pub one_then : (at v : ℕ) (t o : List ℕ) → at + 1 + length t ≤ length o → laid_behind (at + 1) t (set o at v) ≡ laid_behind at (v ∷ t) o
unfolding laid_behind
one_then at v t o room =
    let r : at + length (v ∷ t) ≤ length o = omega arith in
    let text : List ℕ = take at o ++ (v ∷ t) in
    let first = filled_one text o (fits_all at (v ∷ t) o r) o t at at (at + 1) v refl refl (behind_first_lem at (v ∷ t) o r at refl) in
    filled_rest text o (set o at v) t (at + 1) first

-- two numbers, then what is left
pub two_then :
    (at u v : ℕ) (t o xs : List ℕ) → at + 2 + length t ≤ length o → xs ≡ laid_behind (at + 2) t (set (set o at u) (at + 1) v) →
    xs ≡ laid_behind at (u ∷ v ∷ t) o
two_then at u v t o xs room f =
    let n : at + 2 ≡ at + 1 + 1 = omega arith in
    f ∙ ap (λ (k : ℕ). laid_behind k t (set (set o at u) (at + 1) v)) n
    ∙ one_then (at + 1) v t (set o at u) (omega (arith, length-set o at u))
    ∙ one_then at u (v ∷ t) o (omega arith)

-- nothing more
pub none_then : (at : ℕ) (o : List ℕ) → at ≤ length o → o ≡ laid_behind at [] o
unfolding laid_behind
none_then at o h = (filled_all (take at o ++ []) o o [] at (filled_behind at [] o h) refl).1

-- what the parts of a developer's reading leave, one behind the other
module _ (p l s o xs ys zs : List ℕ) (at next : ℕ) where
  pub parts_laid :
      length p ≡ at → length p + length l ≡ next → xs ≡ laid p o → ys ≡ laid_behind at l xs → zs ≡ laid_behind next s ys →
      zs ≡ laid (p ++ (l ++ s)) o
  parts_laid here behind e f g =
      let y : ys ≡ laid (p ++ l) o = f ∙ ap (laid_behind at l) e ∙ behind_others p l o at here in
      g ∙ ap (laid_behind next s) y
      ∙ behind_others (p ++ l) s o next (length-append p l ∙ behind)
      ∙ ap (λ (t : List ℕ). laid t o) (append_assoc p l s)
