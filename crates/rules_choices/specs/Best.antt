-- `best_of` finds the best covering choice, and there is only one.
use Rattle.std.specs.Prelude.{ℕ, ◌≤◌, ◌≡◌, refl, Bool, true, cond, leb, length}
use Rattle.std.proofs.Common.{sym, ap, ◌∙◌, inl, inr, ⊎_elim, arith, leb-true, le-leb}
use mathlib.Core.List.{List, [], ◌∷◌, Memᴰ}
use Rattle.rules_numbers.specs.Cases.{clash}
use Rattle.rules_numbers.specs.Lists.{keep, total}
use Rattle.rules_numbers.specs.ListLaws.{Each, in_keep}
use Rattle.rules_choices.specs.Choices.{choices, covering, before, best, best_of, IsBest}
use Rattle.rules_choices.specs.Count.{choice_length}
use Rattle.rules_choices.specs.Foremost.{Ahead, Foremost, foremost_one, foremost_two, foremost_more, each_foremost}
use Rattle.rules_choices.specs.Larger.{before_is, larger_differs, differs_asym, before_trans, before_total}

-- of two choices the one with the lesser total, though it comes second
lesser_second : best_of ((2 ∷ []) ∷ (1 ∷ []) ∷ []) ≡ 1 ∷ []
unfolding best_of best before total
lesser_second = refl

abbrev Before : List ℕ → List ℕ → Type 0
Before c e = before c e ≡ true

better : (c e : List ℕ) → length c ≡ length e → Foremost Before (c ∷ e ∷ []) (cond (before e c) e c)
better c e h =
    foremost_two Before c e (before e c) (λ t. t) (λ t. ⊎_elim (λ d. inl (sym d)) (λ k. ⊎_elim (λ j. inr j) (λ j. absurd (clash j t)) k) (before_total c e h))

foremost : (n : ℕ) (c : List ℕ) (cs : List (List ℕ)) → Each (λ x. length x ≡ n) (c ∷ cs) → Foremost Before (c ∷ cs) (best c cs)
unfolding best
foremost n c [] h = foremost_one Before c
foremost n c (e ∷ cs) h = foremost_more Before before_trans c e w cs (best w cs) two (foremost n w cs (each_foremost Before (λ x. length x ≡ n) c e w cs two h))
  where
    w : List ℕ
    w = cond (before e c) e c

    two : Foremost Before (c ∷ e ∷ []) w
    two = better c e (h c (Memᴰ.head refl) ∙ sym (h e (Memᴰ.tail (Memᴰ.head refl))))

foremost_of : (n : ℕ) (cs : List (List ℕ)) → (cs ≡ [] → ⊥) → Each (λ x. length x ≡ n) cs → Foremost Before cs (best_of cs)
unfolding best_of
foremost_of n [] some h = absurd (some refl)
foremost_of n (c ∷ cs) some h = foremost n c cs h

-- what `best_of` finds is the best, where some of the choices cover and all have one length
pub best_is : (d n : ℕ) (cs : List (List ℕ)) → (covering d cs ≡ [] → ⊥) → Each (λ c. length c ≡ n) cs → IsBest d cs (best_of (covering d cs))
unfolding covering
best_is d n cs some same = record {
  admissible = inside.0;
  covers = leb-true d (total b) inside.1;
  least = λ c m h. ⊎_elim (λ e. omega (arith, ap total e)) (λ t. ⊎_elim (λ k. omega arith) (λ k. omega (arith, k.0)) ((before_is b c).0 t)) (ahead c m h);
  tie =
      λ c m e. ⊎_elim (λ k. inl k) (λ t. ⊎_elim (λ k. absurd (omega arith)) (λ k. inr (larger_differs b c k.1)) ((before_is b c).0 t))
      (ahead c m (omega (arith, leb-true d (total b) inside.1)));
}
  where
    test : List ℕ → Bool
    test c = leb d (total c)

    b : List ℕ
    b = best_of (keep test cs)

    first : Foremost Before (keep test cs) b
    first = foremost_of n (keep test cs) some (λ c m. same c ((in_keep test c cs).0 m).0)

    inside : Memᴰ b cs × (test b ≡ true)
    inside = (in_keep test b cs).0 first.0

    ahead : (c : List ℕ) → Memᴰ c cs → d ≤ total c → Ahead Before b c
    ahead c m h = first.1 c ((in_keep test c cs).1 (m, le-leb d (total c) h))

-- so of the choices from rows, where some cover
pub best_choice : (d : ℕ) (rows : List (List ℕ)) → (covering d (choices rows) ≡ [] → ⊥) → IsBest d (choices rows) (best_of (covering d (choices rows)))
best_choice d rows some = best_is d (length rows) (choices rows) some (choice_length rows)

-- of two best choices each is the other
pub best_unique : (d : ℕ) (cs : List (List ℕ)) (a b : List ℕ) → IsBest d cs a → IsBest d cs b → a ≡ b
best_unique d cs a b x y =
    ⊎_elim (λ e. sym e) (λ h. ⊎_elim (λ e. e) (λ k. absurd (differs_asym a b h k)) (y.tie a x.admissible equal)) (x.tie b y.admissible (sym equal))
  where
    equal : total a ≡ total b
    equal = omega (arith, x.least b y.admissible y.covers, y.least a x.admissible x.covers)
