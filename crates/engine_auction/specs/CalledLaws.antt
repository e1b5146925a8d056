-- A refusal, on every value of the struct.
use Rattle.std.specs.Prelude.{◌≡◌}
use Rattle.rules_auction.specs.Ledger.{Call}
use Rattle.rules_auction.specs.Rounds.{Answered, bare_answer}
use Rattle.engine_auction.specs.declared.Auction.{Auction}
use Rattle.engine_auction.specs.Called.{Called}

pub refused_stays : {c : Call} {a b : Auction} {r : Answered} → Called c a b r → (r.number ≡ 0 → ⊥) → b ≡ a
refused_stays s = s.same

pub refused_by_number : {c : Call} {a b : Auction} {r : Answered} → Called c a b r → (r.number ≡ 0 → ⊥) → r ≡ bare_answer r.number
refused_by_number s = s.zero
