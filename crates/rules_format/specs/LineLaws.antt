-- Laws of lines: the next line from a position is the first of those behind it; and lines put together are those lines.
use Rattle.std.specs.Prelude.{ℕ, suc, ◌+◌, ◌-◌, ◌≤◌, ◌<◌, ◌≡◌, refl, Bool, true, false, cond, not, ◌&&◌, List, [], ◌∷◌, ◌++◌, eqb, length, take, drop, get_or}
use Rattle.std.proofs.Common.{sym, ap, ap₂, ◌∙◌, add-one, eq-eqb, ne_eqb, length-drop, drop_of_length-le, drop-cons, drop-drop, length-take-le}
use Rattle.std.proofs.lemmas.Bool.{false≢true}
use native.Mathlib.Omega.{arith}
use Rattle.rules_numbers.specs.Lists.{part, all}
use Rattle.rules_format.specs.Lines.{lines, on_first, run, line_start, line_end}

pub run_le : (s : List ℕ) → run s ≤ length s
unfolding run
run_le [] = omega arith
run_le (c ∷ cs) = go (eqb c 10) (run_le cs)
  where
    go : (t : Bool) → run cs ≤ length cs → cond t 0 (suc (run cs)) ≤ suc (length cs)
    go true h = omega arith
    go false h = omega arith

pub run_stop : (s : List ℕ) (i : ℕ) → i < length s → get_or s i 0 ≡ 10 → run (drop i s) ≡ 0
unfolding run
run_stop s i h e = rw (drop-cons s i 0, run, eq-eqb (get_or s i 0) 10 e)

pub run_more : (s : List ℕ) (i : ℕ) → i < length s → (get_or s i 0 ≡ 10 → ⊥) → run (drop i s) ≡ suc (run (drop (i + 1) s))
unfolding run
run_more s i h e = rw (add-one, drop-cons s i 0, run, ne_eqb (get_or s i 0) 10 e)

pub run_end : (s : List ℕ) (i : ℕ) → length s ≤ i → run (drop i s) ≡ 0
unfolding run
run_end s i h = rw (drop_of_length-le s h)

-- ---- the part at a position inside the record, and at its end or past it

module _ (s : List ℕ) (at : ℕ) where
  pub start_in : at < length s → line_start s at ≡ at
  unfolding line_start
  start_in h = omega arith

  pub start_out : length s ≤ at → line_start s at ≡ length s
  unfolding line_start
  start_out h = omega arith

  pub end_in : at < length s → line_end s at ≡ at + run (drop at s)
  unfolding line_end
  end_in h = rw (start_in h)

  pub end_out : length s ≤ at → line_end s at ≡ length s
  unfolding line_end
  end_out h = rw (start_out h) (omega (arith, run_end s (length s) (omega arith)))

-- ---- the first line, and the lines behind its 0A

lines_first : (s : List ℕ) → 0 < length s → lines s ≡ take (run s) s ∷ lines (drop (suc (run s)) s)
unfolding lines on_first run
lines_first [] h = absurd (omega arith)
lines_first (c ∷ []) h = go (eqb c 10)
  where
    go : (t : Bool) → cond t ([] ∷ []) ((c ∷ []) ∷ []) ≡ take (cond t 0 1) (c ∷ []) ∷ lines (drop (suc (cond t 0 1)) (c ∷ []))
    go true = refl
    go false = refl
lines_first (c ∷ (d ∷ cs)) h = go (eqb c 10) (lines_first (d ∷ cs) (omega arith))
  where
    go : (t : Bool) → lines (d ∷ cs) ≡ take (run (d ∷ cs)) (d ∷ cs) ∷ lines (drop (suc (run (d ∷ cs))) (d ∷ cs))
        → cond t ([] ∷ lines (d ∷ cs)) (on_first c (lines (d ∷ cs)))
        ≡ take (cond t 0 (suc (run (d ∷ cs)))) (c ∷ (d ∷ cs)) ∷ lines (drop (suc (cond t 0 (suc (run (d ∷ cs))))) (c ∷ (d ∷ cs)))
    go true ih = refl
    go false ih = ap (on_first c) ih

module _ (s : List ℕ) (at : ℕ) (h : at < length s) where
  line_is : part s (line_start s at) (line_end s at) ≡ take (run (drop at s)) (drop at s)
  line_is =
      let e : at + run (drop at s) - at ≡ run (drop at s) = omega arith in
      rw (start_in s at h, end_in s at h, e)

  line_length : length (part s (line_start s at) (line_end s at)) ≡ run (drop at s)
  line_length = ap length line_is ∙ length-take-le (run (drop at s)) (drop at s) (run_le (drop at s))

  pub line_inside : at + length (part s (line_start s at) (line_end s at)) ≤ length s
  line_inside = omega (arith, line_length, run_le (drop at s), length-drop at s)

  -- the next line from a position stands first among the lines from there; the others start behind its 0A
  pub next_line : lines (drop at s) ≡ part s (line_start s at) (line_end s at) ∷ lines (drop (at + length (part s (line_start s at) (line_end s at)) + 1) s)
  next_line =
      let n : ℕ = run (drop at s) in
      let l : List ℕ = part s (line_start s at) (line_end s at) in
      let k : at + suc n ≡ at + length l + 1 = omega (arith, line_length) in
      let d : drop (suc n) (drop at s) ≡ drop (at + length l + 1) s = drop-drop (suc n) at s ∙ ap (λ (j : ℕ). drop j s) k in
      lines_first (drop at s) (omega (arith, length-drop at s)) ∙ ap₂ (λ (a : List ℕ) (r : List ℕ). a ∷ lines r) (sym line_is) d

pub no_line : (s : List ℕ) (at : ℕ) → length s ≤ at → lines (drop at s) ≡ []
unfolding lines
no_line s at h = rw (drop_of_length-le s h)

-- ---- lines put together, each ended by 0A

-- no byte is 0A
unfoldable pub unended : List ℕ → Bool
unended cs = all (λ c. not (eqb c 10)) cs

on_first_unended : (c : ℕ) (ls : List (List ℕ)) → eqb c 10 ≡ false → all unended ls ≡ true → all unended (on_first c ls) ≡ true
unfolding on_first unended all
on_first_unended c [] e h = rw e
on_first_unended c (l ∷ ls) e h = rw e h

-- a line has none
pub lines_unended : (s : List ℕ) → all unended (lines s) ≡ true
unfolding lines unended all
lines_unended [] = refl
lines_unended (c ∷ cs) = go (eqb c 10) refl (lines_unended cs)
  where
    go : (t : Bool) → eqb c 10 ≡ t → all unended (lines cs) ≡ true → all unended (cond t ([] ∷ lines cs) (on_first c (lines cs))) ≡ true
    go true e h = h
    go false e h = on_first_unended c (lines cs) e h

-- and such bytes with a 0A are the first line of what they begin
pub unended_first : (cs rest : List ℕ) → unended cs ≡ true → lines (cs ++ (10 ∷ rest)) ≡ cs ∷ lines rest
unfolding lines on_first unended all
unended_first [] rest e = refl
unended_first (c ∷ cs) rest e = go (eqb c 10) refl (unended_first cs rest)
  where
    go :
        (t : Bool) → eqb c 10 ≡ t → (unended cs ≡ true → lines (cs ++ (10 ∷ rest)) ≡ cs ∷ lines rest) →
        cond t ([] ∷ lines (cs ++ (10 ∷ rest))) (on_first c (lines (cs ++ (10 ∷ rest)))) ≡ (c ∷ cs) ∷ lines rest
    go true t h = absurd (false≢true (sym (ap (λ (b : Bool). not b && unended cs) t) ∙ e))
    go false t h = ap (on_first c) (h (sym (ap (λ (b : Bool). not b && unended cs) t) ∙ e))

-- what is added behind a 0A leaves the lines before it
some_line : (cs : List ℕ) → 0 < length (lines (cs ++ (10 ∷ [])))
unfolding lines on_first
some_line [] = omega arith
some_line (c ∷ cs) = go (eqb c 10) (lines (cs ++ (10 ∷ []))) (some_line cs)
  where
    go : (t : Bool) (ls : List (List ℕ)) → 0 < length ls → 0 < length (cond t ([] ∷ ls) (on_first c ls))
    go true ls h = omega arith
    go false [] h = absurd (omega arith)
    go false (l ∷ ls) h = omega arith

pub lines_behind : (cs rest : List ℕ) → lines (cs ++ (10 ∷ rest)) ≡ lines (cs ++ (10 ∷ [])) ++ lines rest
unfolding lines on_first
lines_behind [] rest = refl
lines_behind (c ∷ cs) rest = go (eqb c 10) (lines (cs ++ (10 ∷ []))) (some_line cs) (lines_behind cs rest)
  where
    go :
        (t : Bool) (ls : List (List ℕ)) → 0 < length ls → lines (cs ++ (10 ∷ rest)) ≡ ls ++ lines rest →
        cond t ([] ∷ lines (cs ++ (10 ∷ rest))) (on_first c (lines (cs ++ (10 ∷ rest)))) ≡ cond t ([] ∷ ls) (on_first c ls) ++ lines rest
    go true ls h e = ap (λ (xs : List (List ℕ)). [] ∷ xs) e
    go false [] h e = absurd (omega arith)
    go false (l ∷ ls) h e = ap (on_first c) e
