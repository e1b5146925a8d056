-- Fields written one behind the other: the buffer holds the first of their text, and what is left is the text of the fields left.
use Prim.Native.Nat.{ℕ, ◌+◌, ◌-◌, ◌≤◌, ◌<◌}
use mathlib.Core.Path.{◌≡◌, refl, sym, ap, ap₂, ◌∙◌}
use mathlib.Core.List.{List, ◌∷◌, ◌++◌}
use native.Mathlib.Numerals.{add-one}
use native.Mathlib.Nat.{add-zero}
use native.Mathlib.Omega.{arith}
use borrow.Rule.Slice.PartMut.{put_mid, mid_of}
use lib.ListN.{length, take, drop, get_or, length-append, length-take, length-drop, drop_of_length-le}
use lib.Seq.{drop-cons, drop-drop, get_or-drop}
use Rattle.rules_numbers.specs.Lists.{total}
use Rattle.rules_numbers.specs.Tails.{laid, length_laid, tail_is, Filled, filled_more, filled_all}
use Rattle.rules_format.specs.Hex.{digits}
use Rattle.rules_format.specs.HexLaws.{length_digits}
use Rattle.rules_format.specs.Fields.{text_at}
use Rattle.rules_format.specs.WidthLaws.{length_text}

pub record Putting (ws vs o out : List ℕ) (at j : ℕ) : Type 0 where
  pub inside : j ≤ length ws
  pub filled : Filled (text_at ws vs) o out (text_at (drop j ws) (drop j vs)) at
  pub same : length out ≡ length o

pub putting_first : (ws vs o : List ℕ) → Putting ws vs o o 0 0
unfolding laid
putting_first ws vs o = record { inside = omega arith; filled = record { inside = omega arith; left = refl; holds = refl }; same = refl }

module _ (ws vs o out : List ℕ) (at j : ℕ) (room : total ws ≤ length o) (p : Putting ws vs o out at j) where
  module _ (h : j < length ws) where
    next : text_at (drop j ws) (drop j vs) ≡ digits (get_or ws j 0) (get_or vs j 0) ++ text_at (drop (j + 1) ws) (drop (j + 1) vs)
    unfolding text_at
    next =
        let v : get_or (drop j vs) 0 0 ≡ get_or vs j 0 = get_or-drop j vs 0 0 ∙ ap (λ (i : ℕ). get_or vs i 0) (add-zero j) in
        let d : drop j ws ≡ get_or ws j 0 ∷ drop (j + 1) ws = rw add-one (drop-cons ws j 0 h) in
        ap (λ (l : List ℕ). text_at l (drop j vs)) d
        ∙ ap₂ (λ (x : ℕ) (l : List ℕ). digits (get_or ws j 0) x ++ text_at (drop (j + 1) ws) l) v (drop-drop 1 j vs)

    -- the field fits the tail
    pub putting_room : at + get_or ws j 0 ≤ length out
    putting_room =
        let t : List ℕ = digits (get_or ws j 0) (get_or vs j 0) in
        let n : length t ≡ get_or ws j 0 = length_digits (get_or ws j 0) (get_or vs j 0) in
        let left = ap length (p.filled.left ∙ next) in
        let sum = length-append t (text_at (drop (j + 1) ws) (drop (j + 1) vs)) in
        omega (arith, p.same, p.filled.inside, length_text ws vs, length-drop at (text_at ws vs))

    pub putting_tail : get_or ws j 0 ≤ length (mid_of at (length out - at) out)
    putting_tail = rw tail_is (omega (arith, putting_room, length-drop at out))

    pub putting_next : (ys : List ℕ) → ys ≡ laid (digits (get_or ws j 0) (get_or vs j 0)) (mid_of at (length out - at) out)
        → Putting ws vs o (put_mid at (length out - at) out ys) (at + get_or ws j 0) (j + 1)
    putting_next ys e =
        let t : List ℕ = digits (get_or ws j 0) (get_or vs j 0) in
        let n : length t ≡ get_or ws j 0 = length_digits (get_or ws j 0) (get_or vs j 0) in
        let f : Filled (text_at ws vs) o out (t ++ text_at (drop (j + 1) ws) (drop (j + 1) vs)) at =
        record { inside = p.filled.inside; left = p.filled.left ∙ next; holds = p.filled.holds } in
        let g = filled_more (text_at ws vs) o out (text_at (drop (j + 1) ws) (drop (j + 1) vs)) at t ys f e in
        let few : length (take (at + length t) (text_at ws vs)) ≤ length o = omega (arith, length-take (at + length t) (text_at ws vs), length_text ws vs) in
        rw (sym n) record { inside = omega arith; filled = g; same = ap length g.holds ∙ length_laid (take (at + length t) (text_at ws vs)) o few }

  pub putting_end : length ws ≤ j → (at ≡ total ws) × (out ≡ laid (text_at ws vs) o)
  unfolding text_at
  putting_end h =
      let none = ap (λ (l : List ℕ). text_at l (drop j vs)) (drop_of_length-le ws {i = j} h) in
      let e = filled_all (text_at ws vs) o out (text_at (drop j ws) (drop j vs)) at p.filled none in
      (e.0 ∙ length_text ws vs, e.1)
