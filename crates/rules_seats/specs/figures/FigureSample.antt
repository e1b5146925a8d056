-- The figures of document 01's sample record (Frames), computed: its state before and behind the closing, the preview of the closing, the supply curve
-- and the settlement.
use Rattle.std.specs.Prelude.{◌-◌, ◌^◌, ◌≡◌, refl, take}
use Rattle.std.proofs.Common.{ap, ◌∙◌}
use mathlib.Core.List.{List, [], ◌∷◌, map, flatten}
use Rattle.rules_numbers.specs.Falling.{placed_once, distinct_falling}
use Rattle.rules_numbers.specs.Lists.{total, any, all}
use Rattle.rules_numbers.specs.Tails.{laid}
use Rattle.rules_format.specs.Hex.{is_hex, value_of, number_from}
use Rattle.rules_format.specs.Fields.{known, fixed, each, count, layout, fields_at, kind_of, asked_widths, well_formed, call_of, read}
use Rattle.rules_format.specs.Lines.{on_first, lines}
use Rattle.rules_format.specs.Example.{codes}
use Rattle.rules_auction.specs.Ledger.{Call, start}
use Rattle.rules_auction.specs.Clearing.{low}
use Rattle.rules_auction.specs.Rounds.{ledger}
use Rattle.rules_auction.specs.Preview.{preview}
use Rattle.rules_auction.specs.Settling.{settlement}
use Rattle.rules_auction.specs.Computing.{call_refusals, settled}
use Rattle.rules_auction.specs.Sample.{sample}
use Rattle.rules_supply_curve.specs.Curve.{withdrawal_prices, point_at, supply_curve}
use Rattle.rules_replies.specs.Orders.{firsts, seconds, order_of, ordered, order_in}
use Rattle.rules_replies.specs.SampleRecord.{line, text, sample_record}
use Rattle.rules_replies.specs.record_calls.Calls.{calls_of, calls_in}
use Rattle.rules_seats.specs.Seats.{fresh_hall, latest_excess}
use Rattle.rules_seats.specs.figures.Figures.{figures_refusal, lent_after, hall_after, closes_round, closings_from, state_figures, record_hall, record_state}
use Rattle.rules_seats.specs.figures.Figures.{preview_refusal, preview_figures, curve_figures, settlement_figures, settlement_refusal}

sample_calls : calls_in sample_record ≡ sample
unfolding codes line text all any total is_hex value_of number_from known fixed each count layout fields_at kind_of asked_widths well_formed call_of read
    on_first lines firsts seconds order_of ordered order_in calls_of calls_in
sample_calls = refl

-- the calls before the closing
abbrev in_round : List Call
in_round = take 9 sample

-- the round is open, from 40,000 to 25,000; behind the closing the auction is closed with an excess of -55, from one closing
states :
    (state_figures (hall_after fresh_hall in_round) (closings_from start in_round) ≡ 2 ∷ 40000 ∷ 25000 ∷ 0 ∷ 0 ∷ [])
    × (state_figures (hall_after fresh_hall sample) (closings_from start sample) ≡ 4 ∷ 40000 ∷ 25000 ∷ (2 ^ 64 - 55) ∷ 1 ∷ [])
unfolding call_refusals latest_excess hall_after closes_round closings_from state_figures
states = (refl, refl)

sample_state : record_state sample_record ≡ 4 ∷ 40000 ∷ 25000 ∷ (2 ^ 64 - 55) ∷ 1 ∷ []
unfolding record_state record_hall
sample_state = ap (λ (cs : List Call). state_figures (hall_after fresh_hall cs) (closings_from start cs)) sample_calls ∙ states.1

-- the closing foretold; refused by 2 where no round is open
previews :
    (preview_refusal (ledger in_round) ≡ 0)
    × (preview_figures (preview (ledger in_round)) ≡ (2 ^ 64 - 55) ∷ 0 ∷ 1 ∷ [])
    × (preview_refusal (ledger sample) ≡ 2)
unfolding call_refusals preview preview_figures
previews = (refl, refl, refl)

curve : curve_figures (supply_curve (ledger sample)) ≡ 26000 ∷ 1170 ∷ 920 ∷ []
unfolding call_refusals placed_once distinct_falling flatten low withdrawal_prices point_at supply_curve curve_figures
curve = refl

-- 12 numbers, and 11 where either buffer is too short: 2 award records have 12 bytes
settlements :
    (settlement_figures (settlement (ledger sample)) ≡ 26000 ∷ 970 ∷ 0 ∷ 1020 ∷ 4 ∷ 3 ∷ 2 ∷ 26000 ∷ 0 ∷ 0 ∷ 26000 ∷ 2 ∷ [])
    × (map (λ room. settlement_refusal (ledger sample) 4 room 12) (12 ∷ 11 ∷ []) ≡ 0 ∷ 11 ∷ [])
    × (settlement_refusal (ledger sample) 4 12 11 ≡ 11)
    × (settlement_refusal (ledger sample) 3 0 0 ≡ 10)
    × (settlement_refusal (ledger in_round) 4 0 0 ≡ 2)
unfolding settled figures_refusal settlement_figures settlement_refusal
settlements = (refl, refl, refl, refl, refl)

-- a refusal leaves what was lent, and what stands behind the figures stays
lent : (lent_after 11 (1 ∷ 2 ∷ []) (7 ∷ []) ≡ 7 ∷ []) × (lent_after 0 (1 ∷ 2 ∷ []) (7 ∷ 8 ∷ 9 ∷ []) ≡ 1 ∷ 2 ∷ 9 ∷ [])
unfolding lent_after laid
lent = (refl, refl)
