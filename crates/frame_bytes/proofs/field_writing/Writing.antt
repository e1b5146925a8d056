-- Writing digits from the low end, as a law of lists.
use Prim.Native.Nat.{ℕ, suc, ◌+◌, ◌-◌, ◌/◌, ◌%◌, ◌^◌, ◌≤◌, ◌<◌}
use mathlib.Core.Path.{◌≡◌, refl, sym, ap, ◌∙◌}
use mathlib.Core.List.{List, ◌∷◌, [], ◌++◌, append_assoc}
use native.Mathlib.Nat.{div-div-eq-div-mul, div-one, pow-suc, pow-zero}
use native.Mathlib.Numerals.{add-one}
use native.Mathlib.Omega.{arith}
use lib.ListN.{length, take, drop, get_or, set, length-set, take-append-drop}
use lib.Seq.{take-suc, set_at, length-take-le}
use Rattle.rules_format.specs.Hex.{char_of, digits}
use Rattle.rules_numbers.specs.Tails.{laid}
use Rattle.rules_format.specs.HexLaws.{length_digits}

-- the last i of w digits of n stand in their places, and v is what is left of n
pub record Writing (o : List ℕ) (n w : ℕ) (out : List ℕ) (v i : ℕ) : Type 0 where
  pub inside : i ≤ w
  pub long : length out ≡ length o
  pub left : v ≡ n / 16 ^ i
  pub written : out ≡ take (w - i) o ++ (digits i n ++ drop w o)

module _ (o : List ℕ) (n w : ℕ) where
  pub writing_first : Writing o n w o n 0
  unfolding digits
  writing_first = record {
    inside = omega arith;
    long = refl;
    left = simp (pow-zero, div-one);
    written = let e : w - 0 ≡ w = omega arith in rw e (sym (take-append-drop w o));
  }

  module _ (out : List ℕ) (v i : ℕ) (r : Writing o n w out v i) where
    pub writing_next : i < w → w ≤ length o → Writing o n w (set out (w - 1 - i) (char_of (v % 16))) (v / 16) (i + 1)
    unfolding digits
    writing_next h l =
        let j : ℕ = w - 1 - i in
        let d : ℕ = char_of (v % 16) in
        let rest : List ℕ = digits i n ++ drop w o in
        let e : w - i ≡ suc j = omega arith in
        let f : w - (i + 1) ≡ j = omega arith in
        let g : out ≡ take j o ++ (get_or o j 0 ∷ rest) =
        r.written ∙ ap (λ (m : ℕ). take m o ++ rest) e ∙ ap (λ (a : List ℕ). a ++ rest) (take-suc o j 0 (omega arith))
        ∙ append_assoc (take j o) (get_or o j 0 ∷ []) rest in
        let p : set out j d ≡ take j o ++ (d ∷ rest) =
        ap (λ (a : List ℕ). set a j d) g ∙ set_at (take j o) (get_or o j 0) rest d j (length-take-le j o (omega arith)) in
        let q : d ≡ char_of (n / 16 ^ i % 16) = ap (λ (x : ℕ). char_of (x % 16)) r.left in
        record {
          inside = omega arith;
          long = length-set out j d ∙ r.long;
          left = rw (add-one, pow-suc, r.left) (div-div-eq-div-mul n (16 ^ i) 16);
          written = p ∙ rw (f, q, add-one);
        }

    pub writing_end : w ≤ i → out ≡ laid (digits w n) o
    unfolding laid
    writing_end h =
        let e : i ≡ w = omega (arith, r.inside) in
        let z : w - w ≡ 0 = omega arith in
        r.written ∙ rw (e, z, length_digits w n)
