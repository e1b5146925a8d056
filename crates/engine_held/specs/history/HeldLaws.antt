-- Laws of the number that stands for an offer.
use Rattle.std.specs.Prelude.{◌≡◌, refl, eqb, length}
use Rattle.std.proofs.Common.{sym, arith}
use Rattle.std.proofs.Math.Dec.{eqb-suc-zero}
use Rattle.rules_auction.specs.Ledger.{Standing, none, made}
use Rattle.rules_auction.specs.Refusals.{is_none}
use Rattle.engine_held.specs.history.Held.{held_offer}
pub use Rattle.laws_ledger.specs.StepLaws.{steps_prices, steps_levels, steps_length}

pub offered_none : (o : Standing) → held_offer o ≡ 0 → o ≡ none
offered_none none e = refl
offered_none (made ss) e = absurd (omega arith)

pub is_none_by_number : (o : Standing) → is_none o ≡ eqb (held_offer o) 0
is_none_by_number none = refl
is_none_by_number (made ss) = sym (eqb-suc-zero (length ss))
