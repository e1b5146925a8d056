-- The turns hold each place once, and the awards entered in turn are the awards in list order, with zeros behind them.
use Prim.Native.Nat.{ℕ, ◌+◌, ◌-◌, ◌≤◌, ◌<◌}
use Rattle.std.specs.Prelude.{◌≡◌, get_or, set, replicate}
use Rattle.std.proofs.Math.Path.{refl, sym, ap}
use Rattle.std.proofs.Common.{◌∙◌, arith, zero-add, length-append, ext_get_or, get_or-append-add, get_or-set_same}
use Rattle.std.proofs.Math.Logic.{⊎_elim}
use mathlib.Core.List.Memᴰ
use mathlib.Core.List.{List, [], ◌∷◌, Memᴰ}
use Rattle.std.proofs.Math.ListN.{length, length-set, length-replicate, get_or-append}
use Rattle.std.proofs.lemmas.List.{length-map, get_or-replicate}
use Rattle.std.proofs.Math.Seq.{get_or-set_other}
use borrow.Author.Tests.{eq-eqb, ne_eqb}
use Rattle.rules_numbers.specs.Cases.{le_or_lt}
use Rattle.rules_numbers.specs.Lists.{padded}
use Rattle.rules_numbers.specs.ListLaws.{Each}
use Rattle.rules_choices.specs.Falling.{AnyOrder, falling_any, each_any}
use Rattle.rules_choices.specs.Pairwise.{Pairwise, Distinct, pairwise_weaken}
use Rattle.rules_choices.specs.insertion.Numbers.{in_numbers, numbers_in, numbers_long, numbers_rise, map_numbers_nth}
use Rattle.rules_sealed.specs.Sealed.{Offer, Book, size, offer_at, places, most_offers, precedence, taking_order, awarded, left_before, left_at_turn, award_at}
use Rattle.rules_sealed.specs.Sealed.{awards}
use Rattle.rules_sealed.specs.Served.{served}
use Rattle.rules_sealed.specs.Sorting.{Ahead, falling_order}

-- ---- the turns

-- an element of a list is one in whichever order
in_any : (k : ℕ) → AnyOrder (λ xs ys. Memᴰ k xs → Memᴰ k ys)
in_any k = record {
  same = λ xs m. m;
  then = λ xs ys zs g h m. h (g m);
  under = λ x ys zs g m. ⊎_elim (λ e. Memᴰ.head e) (λ n. Memᴰ.tail (g n)) (Memᴰ.cases_cons m);
  swap = λ x y zs m.
      ⊎_elim
      (λ e. Memᴰ.tail (Memᴰ.head e))
      (λ n. ⊎_elim (λ e. Memᴰ.head e) (λ i. Memᴰ.tail (Memᴰ.tail i)) (Memᴰ.cases_cons n))
      (Memᴰ.cases_cons m);
}

module _ (b : Book) where
  abbrev pub rank : ℕ → ℕ
  rank k = precedence (offer_at b k)

  pub taking_order_any : {E : List ℕ → List ℕ → Type 0} → AnyOrder E → E (places b) (taking_order b)
  unfolding taking_order
  taking_order_any o = falling_any o rank (places b)

  pub taking_order_within : Each (λ k. k < size b) (taking_order b)
  taking_order_within = taking_order_any (each_any (λ k. k < size b)) (λ k m. omega (arith, in_numbers k 0 (size b) m))

  pub taking_order_all : (k : ℕ) → k < size b → Memᴰ k (taking_order b)
  taking_order_all k h = taking_order_any (in_any k) (numbers_in k 0 (size b) (omega arith) (omega arith))

  pub taking_order_order : Pairwise (Ahead rank) (taking_order b)
  unfolding taking_order
  taking_order_order = falling_order rank (places b) (numbers_rise 0 (size b))

  pub taking_order_distinct : Distinct (taking_order b)
  taking_order_distinct = pairwise_weaken (Ahead rank) (λ j k. j ≡ k → ⊥) apart (taking_order b) taking_order_order
    where
      apart : (j k : ℕ) → Ahead rank j k → j ≡ k → ⊥
      apart j k a e = ⊎_elim (λ h. omega (arith, ap rank e)) (λ h. omega (arith, h.1)) a

-- ---- what is entered

module _ (f : ℕ → Offer) where
  served_long : (left : ℕ) (ks out : List ℕ) → length (served f left ks out) ≡ length out
  unfolding served
  served_long left [] out = refl
  served_long left (k ∷ ks) out = served_long (left - awarded left (f k)) ks (set out k (awarded left (f k))) ∙ length-set out k (awarded left (f k))

  -- a place that has no turn stays
  served_other : (j left : ℕ) (ks out : List ℕ) → Each (λ k. k ≡ j → ⊥) ks → get_or (served f left ks out) j 0 ≡ get_or out j 0
  unfolding served
  served_other j left [] out h = refl
  served_other j left (k ∷ ks) out h =
      let a : ℕ = awarded left (f k) in
      served_other j (left - a) ks (set out k a) (λ i m. h i (Memᴰ.tail m))
      ∙ get_or-set_other out k j a 0 (λ e. h k (Memᴰ.head refl) (sym e))

  -- a place that has one turn holds what its offer gets then
  served_at : (j left : ℕ) (ks out : List ℕ) → Distinct ks → Memᴰ j ks → j < length out →
      get_or (served f left ks out) j 0 ≡ awarded (left_before f left j ks) (f j)
  unfolding served left_before
  served_at j left [] out d m h = absurd (Memᴰ.not-nil m)
  served_at j left (k ∷ ks) out d m h =
      let a : ℕ = awarded left (f k) in
      let l : j < length (set out k a) = omega (arith, length-set out k a) in
      ⊎_elim
      (λ e. served_other j (left - a) ks (set out k a) (λ i n q. d.0 i n (sym e ∙ sym q)) ∙ rw (e, eq-eqb k k refl) (get_or-set_same out k a 0 (omega arith)))
      (λ n. rw (ne_eqb k j (d.0 j n)) (served_at j (left - a) ks (set out k a) d.1 n l))
      (Memᴰ.cases_cons m)

-- ---- in list order, in w places

padded_long : (w : ℕ) (xs : List ℕ) → length xs ≤ w → length (padded w xs) ≡ w
padded_long w xs h = length-append xs (replicate (w - length xs) 0) ∙ rw length-replicate (omega arith)

padded_behind : (w : ℕ) (xs : List ℕ) (i : ℕ) → length xs ≤ i → i < w → get_or (padded w xs) i 0 ≡ 0
padded_behind w xs i h g =
    let e : i ≡ length xs + (i - length xs) = omega arith in
    ap (λ (j : ℕ). get_or (padded w xs) j 0) e
    ∙ get_or-append-add xs (replicate (w - length xs) 0) (i - length xs) 0
    ∙ get_or-replicate (w - length xs) (i - length xs) 0 0 (omega arith)

pub awards_long : (demand : ℕ) (b : Book) → length (awards demand b) ≡ size b
unfolding awards
awards_long demand b = length-map (places b) (award_at demand b) ∙ numbers_long 0 (size b)

module _ (w demand : ℕ) (b : Book) (fits : size b ≤ w) where
  abbrev entered : List ℕ
  entered = served (offer_at b) demand (taking_order b) (replicate w 0)

  entered_long : length entered ≡ w
  entered_long = served_long (offer_at b) demand (taking_order b) (replicate w 0) ∙ length-replicate w 0

  entered_at : (i : ℕ) → i < size b → get_or entered i 0 ≡ get_or (padded w (awards demand b)) i 0
  unfolding awards award_at left_at_turn
  entered_at i h =
      served_at (offer_at b) i demand (taking_order b) (replicate w 0) (taking_order_distinct b) (taking_order_all b i h) (rw length-replicate (omega arith))
      ∙ sym (get_or-append (awards demand b) (replicate (w - length (awards demand b)) 0) 0 i (omega (arith, awards_long demand b))
      ∙ map_numbers_nth (award_at demand b) 0 (size b) i h
      ∙ ap (award_at demand b) (zero-add i))

  entered_behind : (i : ℕ) → size b ≤ i → i < w → get_or entered i 0 ≡ get_or (padded w (awards demand b)) i 0
  entered_behind i h g =
      served_other (offer_at b) i demand (taking_order b) (replicate w 0) (λ k m e. omega (arith, taking_order_within b k m))
      ∙ get_or-replicate w i 0 0 g
      ∙ sym (padded_behind w (awards demand b) i (omega (arith, awards_long demand b)) g)

  served_padded : entered ≡ padded w (awards demand b)
  served_padded = ext_get_or 0 entered (padded w (awards demand b))
      (entered_long ∙ sym (padded_long w (awards demand b) (omega (arith, awards_long demand b))))
      (λ i l. ⊎_elim (λ h. entered_behind i h (omega (arith, entered_long))) (λ h. entered_at i h) (le_or_lt (size b) i))

pub served_awards : (demand : ℕ) (b : Book) → size b ≤ most_offers →
    served (offer_at b) demand (taking_order b) (replicate most_offers 0) ≡ padded most_offers (awards demand b)
served_awards demand b h = served_padded most_offers demand b h
