-- Prices that fall: the loop keeps the answer for what is left.
use Prim.Native.Nat.{ℕ, suc, ◌+◌, ◌≤◌, ◌<◌}
use mathlib.Core.Path.{◌≡◌, sym, ap, ◌∙◌}
use mathlib.Core.Bool.{Bool, true, false}
use mathlib.Core.List.{List, ◌∷◌, map, map-id}
use native.Mathlib.Numerals.{add-one}
use borrow.Author.Tests.{lt-ltb, le-ltb, le-leb, lt-leb}
use lib.ListN.{length, get_or, drop, drop_of_length-le}
use lib.Seq.{drop-cons}
use Rattle.rules_auction.specs.Refusals.{falling}

-- n reads what a price of this type gives as a number
abbrev pub Reads : {P : Type 0} → (P → ℕ → Type 0) → (P → ℕ) → Type 0
Reads {P} gives n = (p : P) (m : ℕ) → gives p m → m ≡ n p

-- the loop before place i: what is left falls from the last price exactly where all fall from the opening price
pub record StillFalling {P : Type 0} (gives : P → ℕ → Type 0) (c o : ℕ) (ps : List P) (last i : ℕ) : Type 0 where
  pub left : (n : P → ℕ) → Reads gives n → falling c o (map n ps) ≡ falling c last (map n (drop i ps))

module _ {P : Type 0} {gives : P → ℕ → Type 0} {c o : ℕ} {ps : List P} {last i : ℕ} (f : StillFalling gives c o ps last i) where
  -- with the price p, the number m, at place i
  module _ {p : P} {m : ℕ} (at : p ≡ get_or ps i p) (is : gives p m) (h : i < length ps) where
    here : (n : P → ℕ) → Reads gives n → falling c o (map n ps) ≡ falling c last (m ∷ map n (drop (i + 1) ps))
    here n r =
        f.left n r ∙ ap (λ (l : List P). falling c last (map n l)) (drop-cons ps i p h)
        ∙ rw (add-one i) (ap (λ (k : ℕ). falling c last (k ∷ map n (drop (suc i) ps))) (ap n (sym at) ∙ sym (r p m is)))

    pub falls_below : m < c → (n : P → ℕ) → Reads gives n → false ≡ falling c o (map n ps)
    unfolding falling
    falls_below b n r = sym (here n r ∙ simp (lt-leb c m b))

    pub falls_not : c ≤ m → last ≤ m → (n : P → ℕ) → Reads gives n → false ≡ falling c o (map n ps)
    unfolding falling
    falls_not a b n r = sym (here n r ∙ simp (le-leb c m a, le-ltb m last b))

    pub falls_on : c ≤ m → m < last → StillFalling gives c o ps m (i + 1)
    unfolding falling
    falls_on a b = record { left = λ n r. here n r ∙ simp (le-leb c m a, lt-ltb m last b) }

  pub falls_all : length ps ≤ i → (n : P → ℕ) → Reads gives n → true ≡ falling c o (map n ps)
  unfolding falling
  falls_all h n r = sym (f.left n r ∙ ap (λ (l : List P). falling c last (map n l)) (drop_of_length-le ps h))

-- of prices that give themselves
pub as_numbers :
    (c o : ℕ) (ps : List ℕ) (r : Bool) → ((n : ℕ → ℕ) → Reads (λ p m. m ≡ p) n → r ≡ falling c o (map n ps)) → r ≡ falling c o ps
as_numbers c o ps r f = f (λ p. p) (λ p m e. e) ∙ ap (falling c o) (map-id ps)
