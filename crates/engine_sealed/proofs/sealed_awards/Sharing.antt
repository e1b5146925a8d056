-- Offers taken in turn: what the offers that are left get of what is left is what all get of the demand.
use Prim.Native.Nat.{ℕ, ◌+◌, ◌-◌, min, ◌≤◌, ◌<◌}
use mathlib.Core.Path.{◌≡◌, refl}
use mathlib.Core.Bool.{Bool, true, false, cond}
use mathlib.Core.List.{List, [], ◌∷◌}
use native.Mathlib.Numerals.{add-one}
use native.Mathlib.Omega.{arith}
use lib.Dec.{ltb}
use lib.ListN.{length, drop, get_or, set, replicate, drop_of_length-le}
use lib.Seq.{drop-cons}
use Rattle.rules_sealed.specs.Sealed.{Offer, book_of, offer_at, most_offers, awarded, left_behind}
use Rattle.rules_sealed.specs.Served.{served}
use Rattle.engine_sealed.specs.sealed_awards.Shares.{Shares, Awards}

-- ---- one award

module _ (left q m a : ℕ) where
  pub award_le : Awards left q m a → a ≤ left
  unfolding awarded
  award_le e = omega (arith, e 0 0, go (ltb (min q left) m))
    where
      go : (b : Bool) → cond b 0 (min q left) ≤ left
      go true = omega arith
      go false = omega arith

-- ---- the walk

-- before the turn of place i of ks
pub record Sharing (qs ms : List ℕ) (demand : ℕ) (ks out : List ℕ) (left i : ℕ) : Type 0 where
  pub awarded : (ps gs : List ℕ) → let f = offer_at (book_of ps qs ms gs) in served f left (drop i ks) out ≡ served f demand ks (replicate most_offers 0)
  pub rest : (ps gs : List ℕ) → let f = offer_at (book_of ps qs ms gs) in left_behind f left (drop i ks) ≡ left_behind f demand ks

module _ (qs ms : List ℕ) (demand : ℕ) (ks : List ℕ) where
  pub sharing_first : Sharing qs ms demand ks (replicate most_offers 0) demand 0
  sharing_first = record { awarded = λ ps gs. refl; rest = λ ps gs. refl }

  module _ (out : List ℕ) (left i : ℕ) (s : Sharing qs ms demand ks out left i) where
    -- with l for the places that are left
    module _ {l : List ℕ} (d : drop i ks ≡ l) (ps gs : List ℕ) where
      abbrev f : ℕ → Offer
      f = offer_at (book_of ps qs ms gs)

      awards_all : served f left l out ≡ served f demand ks (replicate most_offers 0)
      awards_all = rw (← d) (s.awarded ps gs)

      rest_all : left_behind f left l ≡ left_behind f demand ks
      rest_all = rw (← d) (s.rest ps gs)

    pub sharing_next :
        (k a : ℕ) → i < length ks → get_or ks i 0 ≡ k → Awards left (get_or qs k 0) (get_or ms k 0) a →
        Sharing qs ms demand ks (set out k a) (left - a) (i + 1)
    unfolding served left_behind
    sharing_next k a h e w =
        let d : drop i ks ≡ k ∷ drop (i + 1) ks = rw (add-one, ← e) (drop-cons ks i 0 h) in
        record {
          awarded = λ ps gs. rw (w (get_or ps k 0) (get_or gs k 0)) (awards_all d ps gs);
          rest = λ ps gs. rw (w (get_or ps k 0) (get_or gs k 0)) (rest_all d ps gs);
        }

    pub sharing_end : length ks ≤ i → Shares qs ms demand ks out left
    unfolding served left_behind
    sharing_end h = let d : drop i ks ≡ [] = drop_of_length-le ks {i = i} h in record { awarded = awards_all d; rest = rest_all d }
