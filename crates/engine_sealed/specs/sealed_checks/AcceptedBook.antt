-- What holds of a book that is not refused.
use Rattle.std.specs.Prelude.{ℕ, ◌≤◌, ◌≡◌, refl, Bool, true, false, cond, ◌&&◌, leb, eqb, length}
use Rattle.std.proofs.Common.{arith, leb-true, eqb-true}
use Rattle.rules_numbers.specs.Cases.{and_true}
use Rattle.rules_numbers.specs.Lists.{all}
use Rattle.rules_numbers.specs.ListLaws.{Each}
use Rattle.rules_auction.specs.Refusals.{check}
use Rattle.rules_choices.specs.insertion.Numbers.{in_numbers}
use Rattle.rules_sealed.specs.Sealed.{Book, size, offers, top_price, most_offers, oldest, is_price, long_ok, offer_ok, book_ok, sealed_refusal, lent_refusal}
use Rattle.rules_sealed.specs.Precedence.{bounds_at}
use Rattle.engine_sealed.specs.sealed_checks.Listed.{each_listed}

pub record AcceptedBook (b : Book) : Type 0 where
  pub at_most_sixteen : size b ≤ most_offers
  pub quantities : length b.quantities ≡ size b
  pub minimums : length b.minimums ≡ size b
  pub ages : length b.ages ≡ size b
  pub prices_low : Each (λ p. p ≤ top_price) b.prices
  pub ages_low : Each (λ a. a ≤ oldest) b.ages
  pub ok : book_ok b ≡ true

long : (b : Book) → long_ok b ≡ true → (size b ≤ most_offers) × (length b.quantities ≡ size b) × (length b.minimums ≡ size b) × (length b.ages ≡ size b)
unfolding long_ok
long b e =
    let t3 = and_true _ (eqb (length b.ages) (size b)) e in
    let t2 = and_true _ (eqb (length b.minimums) (size b)) t3.0 in
    let t1 = and_true (leb (size b) most_offers) (eqb (length b.quantities) (size b)) t2.0 in
    (leb-true _ _ t1.0, eqb-true _ _ t1.1, eqb-true _ _ t2.1, eqb-true _ _ t3.1)

accepted_book : (b : Book) → book_ok b ≡ true → AcceptedBook b
unfolding book_ok
accepted_book b e =
    let l = long b (and_true (long_ok b) (all offer_ok (offers b)) e).0 in
    record {
      at_most_sixteen = l.0;
      quantities = l.1;
      minimums = l.2;
      ages = l.3;
      prices_low = each_listed (λ p. p ≤ top_price) b.prices (λ k m. (bounds_at b e k (omega (arith, in_numbers k 0 _ m))).cheap);
      ages_low = each_listed (λ a. a ≤ oldest) b.ages (λ k m. (bounds_at b e k (omega (arith, in_numbers k 0 _ m, l.3))).aged);
      ok = e;
    }

pub accepted : (ceiling demand : ℕ) (b : Book) → sealed_refusal ceiling demand b ≡ 0 → AcceptedBook b
unfolding sealed_refusal
accepted ceiling demand b = go (is_price ceiling && leb demand 100000000000) (book_ok b) refl refl
  where
    go :
        (s t : Bool) → is_price ceiling && leb demand 100000000000 ≡ s → book_ok b ≡ t →
        check (s && t) 18 (check (all (λ o. leb o.price ceiling) (offers b)) 19 0) ≡ 0 → AcceptedBook b
    go true true e f h = accepted_book b f
    go true false e f h = absurd (omega arith)
    go false t e f h = absurd (omega arith)

-- a lent buffer that is accepted goes with a book that is
pub lent_accepted : (ceiling demand : ℕ) (b : Book) (room : ℕ) → lent_refusal ceiling demand b room ≡ 0 → AcceptedBook b
unfolding lent_refusal
lent_accepted ceiling demand b room e = accepted ceiling demand b (go (sealed_refusal ceiling demand b) (eqb (sealed_refusal ceiling demand b) 0) refl e)
  where
    go : (n : ℕ) (t : Bool) → eqb n 0 ≡ t → cond t (check (leb (size b) room) 11 0) n ≡ 0 → n ≡ 0
    go n true h q = eqb-true n 0 h
    go n false h q = q
