-- What the precedence of offers in bounds says: a larger one is an older group or a lower price, and equal ones are equal in both.
use Rattle.std.specs.Prelude.{ℕ, ◌+◌, ◌*◌, ◌-◌, ◌≤◌, ◌<◌, ◌≡◌, ◌⊎◌, true, false, eqb}
use Rattle.std.proofs.Common.{sym, ap₂, ◌∙◌, leb-true, eqb-true, eq-eqb}
use Rattle.std.proofs.Math.Logic.{inl, inr, ⊎_elim}
use native.Mathlib.Omega.{arith}
use Rattle.rules_numbers.specs.Cases.{three_way, and_true, clash}
use Rattle.rules_numbers.specs.Lists.{all}
use Rattle.rules_numbers.specs.ListLaws.{all_true, map_intro}
use Rattle.rules_choices.specs.insertion.Numbers.{numbers_in}
use Rattle.rules_sealed.specs.Sealed.{Offer, Book, size, offer_at, places, offers, top_price, oldest, long_ok, offer_ok, book_ok, precedence}
use Rattle.rules_sealed.specs.InWords.{of_kind}

-- ---- the bounds of an offer, and of each offer of a book

pub record OfferInBounds (o : Offer) : Type 0 where
  pub priced : 1 ≤ o.price
  pub cheap : o.price ≤ top_price
  pub some : 1 ≤ o.minimum
  pub within : o.minimum ≤ o.quantity
  pub aged : o.age ≤ oldest

offer_in_bounds : (o : Offer) → offer_ok o ≡ true → OfferInBounds o
unfolding offer_ok
offer_in_bounds o e =
    let t5 = and_true _ _ e in
    let t4 = and_true _ _ t5.0 in
    let t3 = and_true _ _ t4.0 in
    let t2 = and_true _ _ t3.0 in
    let t1 = and_true _ _ t2.0 in
    let p = and_true _ _ t1.0 in
    record {
      priced = leb-true 1 o.price p.0;
      cheap = leb-true o.price top_price p.1;
      some = leb-true 1 o.minimum t3.1;
      within = leb-true o.minimum o.quantity t4.1;
      aged = leb-true o.age oldest t5.1;
    }

module _ (b : Book) (ok : book_ok b ≡ true) where
  pub offers_ok : all offer_ok (offers b) ≡ true
  unfolding book_ok
  offers_ok = (and_true (long_ok b) (all offer_ok (offers b)) ok).1

  pub bounds_at : (k : ℕ) → k < size b → OfferInBounds (offer_at b k)
  bounds_at k h =
      offer_in_bounds
      (offer_at b k)
      (all_true offer_ok (offers b) offers_ok (offer_at b k) (map_intro (offer_at b) (places b) (numbers_in k 0 (size b) (omega arith) (omega arith))))

-- ---- precedence in words

module _ (x y : Offer) (bx : OfferInBounds x) (by : OfferInBounds y) where
  pub ranks_higher : precedence y < precedence x → (y.age < x.age) ⊎ ((x.age ≡ y.age) × (x.price < y.price))
  unfolding precedence
  ranks_higher h = ⊎_elim
      (λ e. inr (e, omega arith))
      (⊎_elim (λ l. absurd (omega arith)) (λ l. inl l))
      (three_way x.age y.age)

  pub ranks_equal : precedence x ≡ precedence y → (x.age ≡ y.age) × (x.price ≡ y.price)
  unfolding precedence
  ranks_equal e =
      let a : x.age ≡ y.age = omega arith in
      (a, omega arith)

-- ---- offers of one age and price

kind : (g : ℕ × ℕ) (o : Offer) → of_kind g o ≡ true → (o.age ≡ g.0) × (o.price ≡ g.1)
kind g o e = let t = and_true (eqb o.age g.0) (eqb o.price g.1) e in (eqb-true o.age g.0 t.0, eqb-true o.price g.1 t.1)

pub of_kind_lem : (g : ℕ × ℕ) (o : Offer) → o.age ≡ g.0 → o.price ≡ g.1 → of_kind g o ≡ true
of_kind_lem g o e f = rw (eq-eqb o.age g.0 e) (eq-eqb o.price g.1 f)

pub kind_once : (o : Offer) (g h : ℕ × ℕ) → of_kind g o ≡ true → of_kind h o ≡ true → g ≡ h
kind_once o g h d e = let a = kind g o d in let c = kind h o e in ap₂ (λ (m n : ℕ). (m, n)) (sym a.0 ∙ c.0) (sym a.1 ∙ c.1)

-- one precedence for one age and price, and another for another
pub kind_ranks : (g : ℕ × ℕ) (x y : Offer) → of_kind g x ≡ true → of_kind g y ≡ true → precedence x ≡ precedence y
unfolding precedence
kind_ranks g x y d e = let a = kind g x d in let c = kind g y e in ap₂ (λ (m n : ℕ). m * top_price + (top_price - n)) (a.0 ∙ sym c.0) (a.1 ∙ sym c.1)

pub kinds_apart : (g : ℕ × ℕ) (x y : Offer) → offer_ok x ≡ true → offer_ok y ≡ true → of_kind g x ≡ true → of_kind g y ≡ false →
    precedence x ≡ precedence y → ⊥
kinds_apart g x y ox oy d e p =
    let r = ranks_equal x y (offer_in_bounds x ox) (offer_in_bounds y oy) p in
    let a = kind g x d in
    clash (of_kind_lem g y (sym r.0 ∙ a.0) (sym r.1 ∙ a.1)) e
