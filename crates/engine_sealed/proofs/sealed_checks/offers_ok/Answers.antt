-- The test of the offer at every place.
use mathlib.Core.Path.{refl}
use native.Mathlib.Nat.{sub-zero}
use lib.ListN.{length}
use Rattle.std.proofs.Common.{rules, tests}
use Rattle.std.proofs.lemmas.Iterator.{YieldsList-from_range}
use Rattle.std.proofs.lemmas.Iterator.Search.{all_from_yields_List}
use Rattle.rules_sealed.specs.Sealed.{offer_at, offer_ok, places}
use Rattle.rules_numbers.specs.ListLaws.{all_map}
use Rattle.engine_sealed.specs.sealed_checks.Reading.{book_in}
use Rattle.engine_sealed.proofs.sealed_checks.EveryPlace.{all_is, places_are}
use Rattle.engine_sealed.proofs.sealed_checks.offers_ok.Goals as goal

pub returns : goal.returns
returns c =
    let s = c.args in
    let b = book_in s.book in
    rw (all_map offer_ok (offer_at b) (places b), all_is (λ k. offer_ok (offer_at b k)) (places b), places_are 0 (length s.book.prices.now))
    (all_from_yields_List (λ k. offer_ok (offer_at b k)) _ _ _ c.all.ensures.ran (YieldsList-from_range 0 _ _ refl (sub-zero (length s.book.prices.now))) (λ x b q k. search (rules, tests)))
