-- THE PREMISES CAN BE MET: for each statement that asks something of its lists, a computed sample of which that holds, and what the statement
-- then says of the engine's calls. So none of them is said of nothing.
use Rattle.std.specs.Prelude.{ℕ, ◌≡◌, true, List}
use Rattle.rules_auction.specs.Ledger.{Call}
use Rattle.rules_auction.specs.Rounds.{Answered}
use Rattle.laws_ledger.specs.reachable.AcceptedCalls.{accepted_calls, same_accepted}
use Rattle.laws_ledger.specs.reachable.AcceptedSample.{plain, with_refused, same_calls}
use Rattle.laws_arrival.specs.cancelling.TakenBack.{TakenBack}
use Rattle.laws_arrival.specs.cancelling.TakenBackSample.{opened, prices, levels, between, taken_back}
use Rattle.laws_arrival.specs.arrival.Arrival.{Reordered, ReorderedLines, RepliedAlike}
use Rattle.laws_arrival.specs.arrival.ArrivalSample.{one, other, both, opened as round}
use Rattle.laws_arrival.specs.arrival.ReorderedSample.{the_round, the_last, the_first, one_record, other_record, both_lines, replied_alike}
use Rattle.rules_sealed.specs.Sealed.{book_ok}
use Rattle.rules_sealed.specs.InWords.{SameAwards}
use Rattle.rules_sealed.specs.ListOrderSample.{in_front, behind_them, both_accepted, SameOffers, same_offers, same_awards}
use Rattle.rules_seats.specs.Views.{view, own_answers}
use Rattle.rules_seats.specs.SeatSample.{one as run, other as other_run}
use Rattle.rules_seats.specs.ViewSample.{equal_views}
use Rattle.seats.specs.declared.Seat.TheVariants.{Developer}
use Rattle.hall.specs.declared.seat_readings.Reading.{Reading}
use Rattle.hall.specs.declared.Hall.{Hall}
use Rattle.statement.specs.EqualAuctions.{EqualAuctions, equal_auctions}
use Rattle.statement.specs.Cancelled.{Cancelled, cancelled}
use Rattle.statement.specs.Arrived.{Arrived, arrival_stated}
use Rattle.statement.specs.HallRuns.{HallRun}
use Rattle.statement.specs.SeatsStated.{ReadsAt, seats_stated}

pub record Premises : Type 1 where
  -- TAKING BACK AN OFFER (document 02, 7): between offer and cancellation another offer of the developer's own is refused, and others call
  pub taken_back : TakenBack 2 opened prices levels between
  pub as_never_made : (rest : List Call) → Cancelled 2 opened prices levels between rest
  -- DETERMINED BY THE ACCEPTED CALLS (document 02, 8): the one list holds no refused call, the other eight
  pub same_calls : accepted_calls plain ≡ accepted_calls with_refused
  pub settled_alike : EqualAuctions plain with_refused
  -- ARRIVAL ORDER IN A ROUND (document 02, 12): an offer is cancelled and made again among others' calls; and so in the lines of two records
  pub reordered : Reordered one other
  pub arrived : (rest : List Call) → Arrived round one other rest
  pub reordered_lines : ReorderedLines the_last the_first
  pub replied_alike : RepliedAlike one_record other_record the_round the_last the_first
  -- THE SEALED AUCTION (document 02, 13): the offer of the oldest group stands in front, or behind two that are equal in age and price
  pub accepted_books : (book_ok in_front ≡ true) × (book_ok behind_them ≡ true)
  pub same_offers : SameOffers
  pub same_awards : (demand : ℕ) → SameAwards demand in_front behind_them
  -- SEATS (document 02, 14): another developer keeps its level in the one run and comes down in the other
  pub equal_views : view 2 run ≡ view 2 other_run
  pub learned :
      {rs rs' : List Answered} {h h' : Hall} (r r' : Reading) → HallRun run rs h → HallRun other_run rs' h' →
      ReadsAt h (Developer 2) r → ReadsAt h' (Developer 2) r' → (r ≡ r') × (own_answers 2 run rs ≡ own_answers 2 other_run rs')

pub premises : Premises
premises = record {
  taken_back = taken_back;
  as_never_made = cancelled 2 opened prices levels between taken_back;
  same_calls = same_calls;
  settled_alike = equal_auctions plain with_refused (same_accepted plain with_refused same_calls);
  reordered = both;
  arrived = λ rest. arrival_stated round one other rest both;
  reordered_lines = both_lines;
  replied_alike = replied_alike;
  accepted_books = both_accepted;
  same_offers = same_offers;
  same_awards = same_awards;
  equal_views = equal_views;
  learned = λ r r' w v q q'. (seats_stated {M = Type 0}).learns 2 r r' equal_views w v q q';
}
