-- A list of offers, as the rules have it.
use Rattle.rules_sealed.specs.Sealed.{Book, book_of}
use Rattle.engine_sealed.specs.declared.sealed_checks.Book as engine

abbrev pub book_in : engine.Book → Book
book_in b = book_of b.prices.now b.quantities.now b.minimums.now b.ages.now
