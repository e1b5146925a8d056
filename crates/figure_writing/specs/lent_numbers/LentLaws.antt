-- Laws of what is written into lent numbers: one number more; figures behind others; and each of the ways that a call ends.
use Rattle.std.specs.Prelude.{ℕ, suc, ◌+◌, ◌≤◌, ◌<◌, ◌≡◌, List, [], ◌∷◌, ◌++◌, length, take, drop, get_or, set}
use Rattle.std.proofs.Math.Path.{refl}
use Rattle.std.proofs.Common.{sym, ap, ap₂, ◌∙◌, append_assoc, arith, add-one, length-append, length-drop, take-append-drop, drop_of_length-le, take_at, drop_at, drop-cons, drop-drop, length-take-le, take-add, ne_eqb, le-leb}
use Rattle.std.proofs.lemmas.List.{set_at}
use Rattle.std.proofs.lemmas.Bool.{lt-leb}
use Rattle.rules_numbers.specs.Tails.{laid, Filled, filled_all, length_laid, behind_laid}
use Rattle.rules_seats.specs.figures.Figures.{figures_refusal, lent_after}
use Rattle.figure_writing.specs.lent_numbers.Lent.{laid_behind, GivesFigures, counted_as, Counts}

-- ---- t copied over the first n

pub laid_over : (n : ℕ) (t o : List ℕ) {ys : List ℕ} → n ≡ length t → ys ≡ t → ys ++ drop n o ≡ laid t o
unfolding laid
laid_over n t o m e = ap₂ (λ (l : List ℕ) (k : ℕ). l ++ drop k o) e m

-- ---- one number more

laid_more : (t o : List ℕ) (v : ℕ) → length t < length o → set (laid t o) (length t) v ≡ laid (t ++ (v ∷ [])) o
unfolding laid
laid_more t o v h =
    let n : suc (length t) ≡ length (t ++ (v ∷ [])) = omega (arith, length-append t (v ∷ [])) in
    ap (λ (xs : List ℕ). set (t ++ xs) (length t) v) (drop-cons o (length t) 0 h)
    ∙ set_at t _ (drop (suc (length t)) o) v (length t) refl
    ∙ sym (append_assoc t (v ∷ []) (drop (suc (length t)) o))
    ∙ ap (λ (k : ℕ). (t ++ (v ∷ [])) ++ drop k o) n

pub filled_first : (text o : List ℕ) → Filled text o o text 0
unfolding laid
filled_first text o = record { inside = omega arith; left = refl; holds = refl }

-- behind the first `at`
pub filled_behind : (at : ℕ) (t o : List ℕ) → at ≤ length o → Filled (take at o ++ t) o o t at
unfolding laid
filled_behind at t o h =
    let n : length (take at o) ≡ at = length-take-le at o h in
    record {
      inside = omega (arith, length-append (take at o) t);
      left = drop_at (take at o) t at n;
      holds = sym (ap (λ (s : List ℕ). laid s o) (take_at (take at o) t at n) ∙ ap (λ (k : ℕ). take at o ++ drop k o) n ∙ take-append-drop at o);
    }

module _ (text o : List ℕ) (room : length text ≤ length o) (xs rest : List ℕ) (used : ℕ) where
  pub filled_long : Filled text o xs rest used → length xs ≡ length o
  filled_long f = ap length f.holds ∙ length_laid (take used text) o (omega (arith, length-take-le used text f.inside, f.inside))

  -- `at` is the place of the next number, `next` the one behind it
  pub filled_one : (at next v : ℕ) → at ≡ used → next ≡ used + 1 → Filled text o xs (v ∷ rest) used → Filled text o (set xs at v) rest next
  filled_one at next v here behind f =
      let n : suc (length rest) ≡ length (drop used text) = ap length (sym f.left) in
      let m = length-drop used text in
      let lp : length (take used text) ≡ used = length-take-le used text f.inside in
      let p : take (used + 1) text ≡ take used text ++ (v ∷ []) = take-add used 1 text ∙ ap (λ (l : List ℕ). take used text ++ take 1 l) f.left in
      record {
        inside = omega (arith, f.inside);
        left = ap (λ (k : ℕ). drop k text) behind ∙ sym (drop-drop 1 used text) ∙ ap (drop 1) f.left;
        holds =
            ap₂ (λ (ys : List ℕ) (k : ℕ). set ys k v) f.holds (here ∙ sym lp)
            ∙ laid_more (take used text) o v (omega (arith, f.inside))
            ∙ ap (λ (l : List ℕ). laid l o) (sym p ∙ ap (λ (k : ℕ). take k text) (sym behind));
      }

  pub filled_left : (left : List ℕ) → rest ≡ left → Filled text o xs rest used → Filled text o xs left used
  filled_left left e f = record { inside = f.inside; left = f.left ∙ e; holds = f.holds }

  pub filled_at : (n : ℕ) → n ≡ used → Filled text o xs rest used → Filled text o xs rest n
  filled_at n e f = rw e f

-- ---- figures behind others

pub behind_others : (s t o : List ℕ) (at : ℕ) → length s ≡ at → laid_behind at t (laid s o) ≡ laid (s ++ t) o
unfolding laid_behind laid
behind_others s t o at e =
    ap (λ (l : List ℕ). laid (l ++ t) (laid s o)) (take_at s (drop (length s) o) at e)
    ∙ ap (λ (l : List ℕ). (s ++ t) ++ l) (behind_laid s o (length (s ++ t)) (omega (arith, length-append s t)))

-- all that is left, laid behind what is there
pub filled_rest : (text o xs rest : List ℕ) (used : ℕ) → Filled text o xs rest used → laid_behind used rest xs ≡ laid text o
filled_rest text o xs rest used f =
    ap (laid_behind used rest) f.holds
    ∙ behind_others (take used text) rest o used (length-take-le used text f.inside)
    ∙ ap (λ (l : List ℕ). laid l o) (ap (λ (l : List ℕ). take used text ++ l) (sym f.left) ∙ take-append-drop used text)

-- ---- numbers one by one, of which those from place i on are left

module _ (text o : List ℕ) (room : length text ≤ length o) (vs xs : List ℕ) (i used : ℕ) (f : Filled text o xs (drop i vs) used) where
  pub numbers_next :
      (at next : ℕ) → at ≡ used → next ≡ used + 1 → i < length vs → Filled text o (set xs at (get_or vs i 0)) (drop (i + 1) vs) next
  numbers_next at next here behind h =
      filled_one text o room xs _ used at next _ here behind (filled_left text o room xs _ used _ (rw add-one (drop-cons vs i 0 h)) f)

  pub numbers_end : length vs ≤ i → xs ≡ laid text o
  numbers_end h = (filled_all text o xs (drop i vs) used f (drop_of_length-le vs h)).1

-- ---- the ways that a call ends

pub gives_same : {refused n : ℕ} {figures old new : List ℕ} → GivesFigures refused figures old new n → (n ≡ 0 → ⊥) → new ≡ old
unfolding lent_after
gives_same {refused} {n} {figures} {old} {new} f z = f.lent ∙ rw (ne_eqb n 0 z)

pub gives_refused : (figures old : List ℕ) (n : ℕ) → (n ≡ 0 → ⊥) → GivesFigures n figures old old n
unfolding figures_refusal lent_after
gives_refused figures old n z = record { number = rw (ne_eqb n 0 z); lent = rw (ne_eqb n 0 z) }

module _ (figures old : List ℕ) where
  pub gives_short : length old < length figures → GivesFigures 0 figures old old 11
  unfolding figures_refusal lent_after
  gives_short h = record { number = rw (lt-leb (length figures) (length old) h); lent = refl }

  pub gives_all : (new : List ℕ) → length figures ≤ length old → new ≡ laid figures old → GivesFigures 0 figures old new 0
  unfolding figures_refusal lent_after
  gives_all new h e = record { number = rw (le-leb (length figures) (length old) h); lent = e }

  pub counts_short : (count : ℕ) → length old < length figures → Counts count figures old old (counted_as 11 0)
  counts_short count h = record { gives = gives_short h; counted = refl }

  pub counts_all : (count : ℕ) (new : List ℕ) → length figures ≤ length old → new ≡ laid figures old → Counts count figures old new (counted_as 0 count)
  counts_all count new h e = record { gives = gives_all new h e; counted = refl }
