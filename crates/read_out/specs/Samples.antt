-- READ OUT, that nothing is said of nothing: what the statement asks of lists is met by a sample, and what it then says of the sample's own runs.
use Rattle.std.specs.Prelude.{ℕ, ◌≡◌, true, List, ◌++◌}
use Rattle.rules_auction.specs.Ledger.{Call}
use Rattle.rules_auction.specs.Rounds.{ledger, Answered}
use Rattle.laws_ledger.specs.reachable.AcceptedCalls.{accepted_calls}
use Rattle.laws_ledger.specs.reachable.AcceptedSample.{plain, with_refused}
use Rattle.laws_arrival.specs.cancelling.TakenBack.{TakenBack, taken, never_made}
use Rattle.laws_arrival.specs.cancelling.TakenBackSample.{opened, prices, levels, between}
use Rattle.laws_arrival.specs.arrival.Arrival.{Reordered, ReorderedLines, RepliedAlike}
use Rattle.laws_arrival.specs.arrival.ArrivalSample.{one, other, opened as round}
use Rattle.laws_arrival.specs.arrival.ReorderedSample.{the_round, the_last, the_first, one_record, other_record}
use Rattle.rules_sealed.specs.Sealed.{book_ok}
use Rattle.rules_sealed.specs.InWords.{SameAwards}
use Rattle.rules_sealed.specs.ListOrderSample.{in_front, behind_them, SameOffers}
use Rattle.rules_seats.specs.Views.{view, own_answers}
use Rattle.rules_seats.specs.SeatSample.{one as run, other as other_run}
use Rattle.engine_auction.specs.Holds.{held_auction}
use Rattle.seats.specs.declared.Seat.TheVariants.{Developer}
use Rattle.hall.specs.declared.seat_readings.Reading.{Reading}
use Rattle.hall.specs.declared.Hall.{Hall}
use Rattle.statement.specs.EqualAuctions.{EqualAuctions}
use Rattle.statement.specs.Cancelled.{Cancelled}
use Rattle.statement.specs.Arrived.{Arrived}
use Rattle.statement.specs.HallRuns.{HallRun}
use Rattle.statement.specs.SeatsStated.{ReadsAt}
use Rattle.statement.specs.EngineCorrect.{EngineCorrect}
use Rattle.read_out.specs.CallsOut.{run_of}
use Rattle.read_out.specs.SameAuctions.{one_auction, as_never_made, any_arrival}
use Rattle.read_out.specs.SealedOut.{any_list}

module _ {M : Type 1} (s : EngineCorrect M) where
  -- ---- a cancelled offer (document 02, 7): an offer of the developer's own is refused and others call between offer and cancellation

  pub offer_taken_back : TakenBack 2 opened prices levels between
  offer_taken_back = s.premises.taken_back

  -- whatever stands behind, the lists with and without it reach one auction
  pub taken_back_reached :
      (rest : List Call) → held_auction (ledger (taken 2 opened prices levels between rest))
      ≡ held_auction (ledger (never_made 2 opened prices levels between rest))
  taken_back_reached rest = one_auction (as_never_made s 2 opened prices levels between rest offer_taken_back) (run_of s _) (run_of s _)

  -- and what is said of it
  pub taken_back_said : (rest : List Call) → Cancelled 2 opened prices levels between rest
  taken_back_said rest = s.premises.as_never_made rest

  -- ---- the accepted calls decide (document 02, 8): the one list holds no refused call, the other eight

  pub same_accepted_calls : accepted_calls plain ≡ accepted_calls with_refused
  same_accepted_calls = s.premises.same_calls

  pub accepted_said : EqualAuctions plain with_refused
  accepted_said = s.premises.settled_alike

  -- so they reach one auction
  pub accepted_reached : held_auction (ledger plain) ≡ held_auction (ledger with_refused)
  accepted_reached = one_auction accepted_said (run_of s plain) (run_of s with_refused)

  -- ---- arrival order (document 02, 12): an offer is cancelled and made again among others' calls; and so in the lines of two records

  pub calls_reordered : Reordered one other
  calls_reordered = s.premises.reordered

  -- whatever stands behind, both orders reach one auction
  pub reordered_reached : (rest : List Call) → held_auction (ledger (round ++ (one ++ rest))) ≡ held_auction (ledger (round ++ (other ++ rest)))
  reordered_reached rest = one_auction (any_arrival s round one other rest calls_reordered) (run_of s _) (run_of s _)

  -- and what is said of them
  pub reordered_said : (rest : List Call) → Arrived round one other rest
  reordered_said rest = s.premises.arrived rest

  pub lines_reordered : ReorderedLines the_last the_first
  lines_reordered = s.premises.reordered_lines

  pub lines_replied : RepliedAlike one_record other_record the_round the_last the_first
  lines_replied = s.premises.replied_alike

  -- ---- the sealed auction (document 02, 13): the offer of the oldest group stands in front, or behind two that are equal in age and price

  pub books_accepted : (book_ok in_front ≡ true) × (book_ok behind_them ≡ true)
  books_accepted = s.premises.accepted_books

  pub books_same_offers : SameOffers
  books_same_offers = s.premises.same_offers

  -- so both award the same
  pub books_awarded : (demand : ℕ) → SameAwards demand in_front behind_them
  books_awarded demand = any_list s demand in_front behind_them books_accepted.0 books_accepted.1 books_same_offers

  pub books_said : (demand : ℕ) → SameAwards demand in_front behind_them
  books_said demand = s.premises.same_awards demand

  -- ---- seats (document 02, 14): another developer keeps its level in the one run and comes down in the other

  pub views_equal : view 2 run ≡ view 2 other_run
  views_equal = s.premises.equal_views

  pub views_said :
      {rs rs' : List Answered} {h h' : Hall} (r r' : Reading) → HallRun run rs h → HallRun other_run rs' h' →
      ReadsAt h (Developer 2) r → ReadsAt h' (Developer 2) r' → (r ≡ r') × (own_answers 2 run rs ≡ own_answers 2 other_run rs')
  views_said r r' w v q q' = s.premises.learned r r' w v q q'
