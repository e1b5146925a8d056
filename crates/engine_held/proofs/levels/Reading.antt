-- Tests that read a list from the front, in step with a loop: what they say of what is left is what they say of the whole.
use Prim.Native.Nat.{ℕ, ◌+◌, ◌≤◌, ◌<◌}
use mathlib.Core.Path.{◌≡◌, refl, sym, ap, ◌∙◌}
use mathlib.Core.Bool.{Bool, true, false, ◌&&◌, and-false}
use mathlib.Core.Logic.{◌⊎◌, ⊎_elim}
use mathlib.Core.List.{List, [], ◌∷◌}
use native.Mathlib.Omega.{arith}
use native.Mathlib.Numerals.{add-one}
use lib.Dec.{leb, ltb, eqb}
use lib.ListN.{length, get_or, drop, drop_of_length-le}
use lib.Seq.{drop-cons}
use borrow.Author.Tests.{le-leb, lt-leb, lt-ltb, le-ltb, eq-eqb, ne_eqb}
use Rattle.rules_numbers.specs.Lists.{member}
use Rattle.rules_numbers.specs.ListLaws.{or_left, or_right}
use Rattle.rules_auction.specs.Ledger.{declared_or_zero}
use Rattle.rules_auction.specs.Refusals.{levels_ok, rising, lowering}

-- what is left at a place: its element, and what is left behind it
at_place : (ls : List ℕ) (i : ℕ) → i < length ls → drop i ls ≡ get_or ls i 0 ∷ drop (i + 1) ls
at_place ls i h = rw add-one (drop-cons ls i 0 h)

-- ---- each element is held against the one before it

-- `f v` passes the elements of a list one by one, each by `passes` against the one before, the first against v
pub record InTurn (f : ℕ → List ℕ → Bool) (passes : ℕ → ℕ → Bool) : Type 0 where
  pub ends : (v : ℕ) → f v [] ≡ true
  pub goes : (v x : ℕ) (xs : List ℕ) → f v (x ∷ xs) ≡ passes v x && f x xs

-- the loop before place i, with `last` the element before it
pub record Read (f : ℕ → List ℕ → Bool) (first : ℕ) (ls : List ℕ) (last i : ℕ) : Type 0 where
  pub within : i ≤ length ls
  pub left : f last (drop i ls) ≡ f first ls

pub read_first : {f : ℕ → List ℕ → Bool} (first : ℕ) (ls : List ℕ) → Read f first ls first 0
read_first first ls = record { within = omega arith; left = refl }

module _ {f : ℕ → List ℕ → Bool} {passes : ℕ → ℕ → Bool} (t : InTurn f passes) where
  pub read_end : (first : ℕ) (ls : List ℕ) (last i : ℕ) → Read f first ls last i → length ls ≤ i → true ≡ f first ls
  read_end first ls last i r h = sym (t.ends last) ∙ ap (f last) (sym (drop_of_length-le ls h)) ∙ r.left

  module _ (first : ℕ) (ls : List ℕ) (last i : ℕ) (r : Read f first ls last i) (h : i < length ls) where
    turn : passes last (get_or ls i 0) && f (get_or ls i 0) (drop (i + 1) ls) ≡ f first ls
    turn = sym (t.goes last (get_or ls i 0) (drop (i + 1) ls)) ∙ ap (f last) (sym (at_place ls i h)) ∙ r.left

    pub read_again : passes last (get_or ls i 0) ≡ true → Read f first ls (get_or ls i 0) (i + 1)
    read_again e = record { within = omega arith; left = rw e at turn }

    pub read_stop : passes last (get_or ls i 0) ≡ false → false ≡ f first ls
    read_stop e = rw e at turn

-- ---- levels at a registration

abbrev pub rises : ℕ → ℕ → Bool
rises v x = ltb v x && leb x 1000000000

pub rising_in_turn : InTurn rising rises
unfolding rising
rising_in_turn = record { ends = λ v. refl; goes = λ v x xs. refl }

pub rises_passes : (v x : ℕ) → v < x → x ≤ 1000000000 → rises v x ≡ true
rises_passes v x h g = simp (lt-ltb v x h, le-leb x 1000000000 g)

pub rises_not : (v x : ℕ) → x ≤ v → rises v x ≡ false
rises_not v x h = simp (le-ltb v x h)

pub rises_too_far : (v x : ℕ) → 1000000000 < x → rises v x ≡ false
rises_too_far v x h = simp (lt-leb x 1000000000 h, and-false)

pub levels_none : (ls : List ℕ) → length ls < 1 → false ≡ levels_ok ls
unfolding levels_ok
levels_none ls h = simp (lt-leb 1 (length ls) h)

pub levels_many : (ls : List ℕ) → 8 < length ls → false ≡ levels_ok ls
unfolding levels_ok
levels_many ls h = simp (lt-leb (length ls) 8 h, and-false)

pub levels_counted : (ls : List ℕ) → 1 ≤ length ls → length ls ≤ 8 → rising 0 ls ≡ levels_ok ls
unfolding levels_ok
levels_counted ls h g = simp (le-leb 1 (length ls) h, le-leb (length ls) 8 g)

-- ---- levels of an offer

module _ (declared : List ℕ) where
  abbrev pub lowers : ℕ → ℕ → Bool
  lowers q v = declared_or_zero declared v && ltb v q

  pub lowering_in_turn : InTurn (lowering declared) lowers
  unfolding lowering
  lowering_in_turn = record { ends = λ q. refl; goes = λ q v vs. refl }

  pub lowers_passes : (q v : ℕ) → (v ≡ 0) ⊎ (member v declared ≡ true) → v < q → lowers q v ≡ true
  lowers_passes q v d h =
      let e : declared_or_zero declared v ≡ true = ⊎_elim (λ z. or_left _ (member v declared) (eq-eqb v 0 z)) (λ m. or_right (eqb v 0) _ m) d in
      simp (e, lt-ltb v q h)

  pub lowers_undeclared : (q v : ℕ) → (v ≡ 0 → ⊥) → member v declared ≡ false → lowers q v ≡ false
  lowers_undeclared q v h e = simp (ne_eqb v 0 h, e)

  pub lowers_not : (q v : ℕ) → q ≤ v → lowers q v ≡ false
  lowers_not q v h = simp (le-ltb v q h, and-false)
