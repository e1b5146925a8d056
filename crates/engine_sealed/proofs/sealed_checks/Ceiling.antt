-- The check behind all others, over the list of prices: the prices of a book's offers are its list of prices.
use Prim.Native.Nat.{ℕ, ◌≤◌}
use mathlib.Core.Path.{◌≡◌, sym, ap, ◌∙◌}
use mathlib.Core.Bool.{true}
use lib.Dec.{leb}
use borrow.Author.Tests.{le-leb}
use Rattle.rules_numbers.specs.Lists.{all}
use Rattle.rules_numbers.specs.ListLaws.{all_map}
use Rattle.rules_auction.specs.Refusals.{check}
use Rattle.rules_sealed.specs.Sealed.{Book, offer_at, places, offers, is_price, book_ok, sealed_refusal}
use Rattle.engine_sealed.specs.sealed_checks.Listed.{listed}

offered_prices : (ceiling : ℕ) (b : Book) → all (λ o. leb o.price ceiling) (offers b) ≡ all (λ p. leb p ceiling) b.prices
offered_prices ceiling b =
    all_map (λ o. leb o.price ceiling) (offer_at b) (places b)
    ∙ sym (all_map (λ p. leb p ceiling) (λ k. (offer_at b k).price) (places b))
    ∙ ap (all (λ p. leb p ceiling)) (listed b.prices)

pub by_ceiling :
    (ceiling demand : ℕ) (b : Book) → is_price ceiling ≡ true → demand ≤ 100000000000 → book_ok b ≡ true →
    sealed_refusal ceiling demand b ≡ check (all (λ p. leb p ceiling) b.prices) 19 0
unfolding sealed_refusal
by_ceiling ceiling demand b p d k = simp (p, le-leb demand 100000000000 d, k, offered_prices ceiling b)
