-- Steps gathered in an array: price and level one behind the other.
use Prim.Native.Nat.{ℕ, zero, suc, ◌+◌, ◌*◌, ◌≤◌, ◌<◌}
use mathlib.Core.Path.{◌≡◌, refl, sym, ap, ap₂, ◌∙◌, subst}
use mathlib.Core.Bool.{false, ◌&&◌}
use mathlib.Core.List.{List, [], ◌∷◌, ◌++◌, append_assoc}
use native.Mathlib.Omega.{arith}
use Rattle.std.specs.Prelude.{Err}
use lib.Dec.{eqb}
use lib.ListN.{length, take, get_or, set, length-set}
use lib.Seq.{take-suc-set, take_all}
use borrow.Author.Tests.{eq-eqb, ne_eqb}
use Rattle.rules_format.specs.Fields.{raw_call}
use Rattle.rules_format.specs.Written.{writable}
use Rattle.rules_replies.specs.WrittenOrders.{paired}
use Rattle.engine_refusals.specs.declared.Refusal.TheVariants.{NotWritable}
use Rattle.frame_writing.specs.Encodes.{Written, written_in, Encodes}
use Rattle.frame_writing.specs.EncodesLaws.{not_writable}
use Rattle.frame_writing.specs.each_call.Writes.{WritesSteps}

-- one number more at place n, m of them then
put_next : (xs : List ℕ) (n m v : ℕ) (front : List ℕ) → n < length xs → m ≡ suc n → take n xs ≡ front → take m (set xs n v) ≡ front ++ (v ∷ [])
put_next xs n m v front h e t = ap (λ (i : ℕ). take i (set xs n v)) e ∙ take-suc-set xs n v h ∙ ap (λ (l : List ℕ). l ++ (v ∷ [])) t

-- ---- steps

pub length_paired : (ps qs : List ℕ) → length ps ≡ length qs → length (paired ps qs) ≡ 2 * length ps
unfolding paired
length_paired [] qs e = refl
length_paired (p ∷ ps) [] e = absurd (omega arith)
length_paired (p ∷ ps) (q ∷ qs) e = omega (arith, length_paired ps qs (omega arith))

paired_next : (ps qs : List ℕ) (i : ℕ) → i < length ps → i < length qs
    → paired (take (suc i) ps) (take (suc i) qs) ≡ paired (take i ps) (take i qs) ++ (get_or ps i 0 ∷ (get_or qs i 0 ∷ []))
unfolding paired
paired_next [] qs i h g = absurd (omega arith)
paired_next (p ∷ ps) [] i h g = absurd (omega arith)
paired_next (p ∷ ps) (q ∷ qs) zero h g = refl
paired_next (p ∷ ps) (q ∷ qs) (suc i) h g = ap (λ (l : List ℕ). p ∷ (q ∷ l)) (paired_next ps qs i (omega arith) (omega arith))

pub record Stepping (ps qs steps : List ℕ) (i : ℕ) : Type 0 where
  pub inside : i ≤ length ps
  pub long : length steps ≡ 32
  pub holds : take (2 * i) steps ≡ paired (take i ps) (take i qs)

module _ (ps qs : List ℕ) where
  pub stepping_first : (steps : List ℕ) → length steps ≡ 32 → Stepping ps qs steps 0
  unfolding paired
  stepping_first steps e = record { inside = omega arith; long = e; holds = refl }

  module _ (same : length ps ≡ length qs) (few : length ps ≤ 16) (steps : List ℕ) (i : ℕ) (s : Stepping ps qs steps i) where
    pub stepping_next : i < length ps → Stepping ps qs (set (set steps (2 * i) (get_or ps i 0)) (2 * i + 1) (get_or qs i 0)) (i + 1)
    stepping_next h =
        let p : ℕ = get_or ps i 0 in
        let q : ℕ = get_or qs i 0 in
        let before : List ℕ = paired (take i ps) (take i qs) in
        let priced : List ℕ = set steps (2 * i) p in
        let n : length priced ≡ 32 = length-set steps (2 * i) p ∙ s.long in
        let one : take (2 * i + 1) priced ≡ before ++ (p ∷ []) =
        put_next steps (2 * i) (2 * i + 1) p before (omega (arith, s.long)) (omega arith) s.holds in
        let two : take (2 * (i + 1)) (set priced (2 * i + 1) q) ≡ (before ++ (p ∷ [])) ++ (q ∷ []) =
        put_next priced (2 * i + 1) (2 * (i + 1)) q (before ++ (p ∷ [])) (omega arith) (omega arith) one in
        let m : suc i ≡ i + 1 = omega arith in
        record {
          inside = omega arith;
          long = length-set priced (2 * i + 1) q ∙ n;
          holds =
              two ∙ append_assoc before (p ∷ []) (q ∷ []) ∙ sym (paired_next ps qs i h (omega arith))
              ∙ ap (λ (j : ℕ). paired (take j ps) (take j qs)) m;
        }

    pub stepping_end : length ps ≤ i → take (2 * length ps) steps ≡ paired ps qs
    stepping_end h =
        let e : 2 * length ps ≡ 2 * i = omega (arith, s.inside) in
        ap (λ (n : ℕ). take n steps) e ∙ s.holds ∙ ap₂ paired (take_all i ps h) (take_all i qs (omega arith))

-- ---- what is written

module _ (k : ℕ) (old new : List ℕ) (r : Written) where
  pub same_fields : (ns ms : List ℕ) → ns ≡ ms → Encodes (raw_call k ns) old new r → Encodes (raw_call k ms) old new r
  same_fields ns ms e w = subst (λ (l : List ℕ). Encodes (raw_call k l) old new r) e w

  pub equal_lists : (n : ℕ) (ps qs : List ℕ) → length ps ≡ length qs → Encodes (raw_call k (n ∷ (length ps ∷ paired ps qs))) old new r
      → WritesSteps k n ps qs old new r
  equal_lists n ps qs e w = rw (eq-eqb (length ps) (length qs) e) w

pub unequal_lists : (k n : ℕ) (ps qs old : List ℕ) → (length ps ≡ length qs → ⊥) → WritesSteps k n ps qs old old (written_in (Err NotWritable))
unequal_lists k n ps qs old h =
    let e : eqb (length ps) (length qs) && writable (raw_call k (n ∷ (length ps ∷ paired ps qs))) ≡ false = rw (ne_eqb (length ps) (length qs) h) in
    not_writable _ _ _ e
