-- What the samples compute of a list of calls. To unfold one of these is to unfold all that its line names.
use Rattle.std.specs.Prelude.{ℕ, List, map}
use Rattle.rules_numbers.specs.Lists.{one_to, keep, total, greatest, last_or, any, all}
use Rattle.rules_numbers.specs.Least.{least_from}
use Rattle.rules_demand.specs.Demand.{dem, in_bounds}
use Rattle.rules_demand.specs.Remainder.{exact_times_ce, remainder}
use Rattle.rules_choices.specs.Choices.{spread, choices, covering, larger, before, best, best_of}
use Rattle.rules_choices.specs.Search.{placed, by_falling, order, lowest_total, highest_total, above_best, set_aside, in_turn, searched, given, found, kept}
use Rattle.rules_auction.specs.Ledger.{Ledger, Call}
use Rattle.rules_auction.specs.Clearing.{quantity_after, high, low, developers_of, greatest_of, supply, covered, closing_price}
use Rattle.rules_auction.specs.Refusals.{settings_ok, numbers_ok, rising, levels_ok, may_join, declaration_ok, opening_price, closing_ok, start_covered}
use Rattle.rules_auction.specs.Refusals.{is_of_kind, falling, prices_ok, lowering, move_refusal, refusal}
use Rattle.rules_auction.specs.Rounds.{steps, withdraws_all, reaches, reached, unreached, added, last_level, applied, supply_after, thousandths, clears}
use Rattle.rules_auction.specs.Rounds.{phase_after, moved, accepted, step, step_all, ledger, excess, granted, answer, answers_from, answers}
use Rattle.rules_auction.specs.Second.{lodged_applied, taken_out, remaining, short, second_price}
use Rattle.rules_auction.specs.Award.{open_between, open_to_developer, open_to, insert, insert_all, declared_by, open_levels, row, rows, admissible}
use Rattle.rules_auction.specs.Award.{covering_choices, kept_choices, award, preferred, most_preferred, first_preferred, winner}
use Rattle.rules_auction.specs.Participation.{existing_plants, is_small, grants_from, grants, new_award, new_to_small, sufficient, price_paid}
use Rattle.rules_auction.specs.Settling.{records_from, records, settling_refusal, Settlement, settlement_at, settlement}

-- the numbers that the calls get, the ledger being l before them
unfoldable pub call_refusals : Ledger → List Call → List ℕ
unfolding one_to keep total greatest last_or any all dem exact_times_ce remainder in_bounds
    quantity_after high developers_of greatest_of supply covered
    settings_ok numbers_ok rising levels_ok may_join declaration_ok opening_price closing_ok start_covered is_of_kind falling prices_ok lowering move_refusal refusal
    steps withdraws_all reaches reached unreached added last_level applied supply_after thousandths clears phase_after moved accepted step step_all ledger
    excess granted answer answers_from answers
call_refusals l cs = map (λ r. r.number) (answers_from l cs)

-- the settlement of the ledger that they lead to
unfoldable pub settled : List Call → Settlement
unfolding call_refusals least_from low closing_price
    spread choices covering larger before best best_of placed by_falling order lowest_total highest_total above_best set_aside in_turn searched given found kept
    open_between open_to_developer open_to insert insert_all declared_by open_levels row rows admissible covering_choices kept_choices award preferred most_preferred
    first_preferred winner lodged_applied taken_out remaining short second_price existing_plants is_small grants_from grants new_award new_to_small sufficient price_paid
    records_from records settling_refusal settlement_at settlement
settled cs = settlement (ledger cs)
