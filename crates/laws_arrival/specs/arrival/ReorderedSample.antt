-- Two orders of arrival, computed (document 02, 12): what `Reordered` asks of calls and `ReorderedLines` of the lines of a record is met by a
-- round in which an offer is taken back and made again among another's; and what follows of it.
use Rattle.std.specs.Prelude.{ℕ, ◌≡◌, refl, true, false, List, [], ◌∷◌, ◌++◌, map, length}
use Prim.Native.String.{String, len}
use Rattle.std.proofs.Common.{sym, ◌∙◌}
use Rattle.rules_numbers.specs.Lists.{keep, total, any, all}
use Rattle.rules_auction.specs.Rounds.{step_all, ledger}
use Rattle.rules_auction.specs.Computing.{call_refusals}
use Rattle.laws_arrival.specs.cancelling.TakenBack.{own}
use Rattle.rules_numbers.specs.reordering.Exchanges.{Exchanged, neighbours, behind, further}
use Rattle.rules_numbers.specs.reordering.ExchangeLaws.{exchanged_same}
use Rattle.rules_format.specs.Hex.{is_hex, value_of, number_from}
use Rattle.rules_format.specs.Fields.{known, fixed, each, count, layout, fields_at, kind_of, asked_widths, well_formed, call_of, read}
use Rattle.rules_format.specs.Lines.{on_first, lines}
use Rattle.rules_format.specs.Example.{codes}
use Rattle.rules_replies.specs.Orders.{firsts, seconds, order_of, ordered, order_in}
use Rattle.rules_replies.specs.Replies.{replies}
use Rattle.rules_replies.specs.SampleRecord.{line, text}
use Rattle.laws_arrival.specs.arrival.Arrival.{with_answers, is_move, answered_from, all_accepted, SameAnswers, order_is_move, order_own, line_own}
use Rattle.laws_arrival.specs.arrival.Arrival.{ReorderedLines}
use Rattle.laws_arrival.specs.arrival.Arrival.{replied, SameReplies, RepliedAlike}
use Rattle.laws_arrival.specs.arrival.ArrivalLaws.{arrival}
use Rattle.laws_arrival.specs.arrival.LineLaws.{order_once, lines_arrival}
use Rattle.laws_arrival.specs.arrival.ArrivalSample.{opened, partly, nothing, one, other, both}

-- ---- calls

-- one ledger, and developer 2's calls get the same answers
abbrev pub CallsAlike : Type 0
CallsAlike =
    (step_all (ledger opened) one ≡ step_all (ledger opened) other)
    × (keep (λ t. own 2 t.0) (answered_from (ledger opened) one) ≡ keep (λ t. own 2 t.0) (answered_from (ledger opened) other))

pub calls_alike : CallsAlike
calls_alike =
    let k = arrival (ledger opened) one other both in
    let each : SameAnswers (answered_from (ledger opened) one) (answered_from (ledger opened) other) = k.answered in
    (k.ledgers, each 2)

-- one of them is refused
pub accepting : (all_accepted (ledger opened) one ≡ false) × (all_accepted (ledger opened) (partly ∷ nothing 3 ∷ []) ≡ true)
unfolding call_refusals with_answers all
accepting = (refl, refl)

-- so in the other order too
pub accepting_other : all_accepted (ledger opened) other ≡ false
accepting_other =
    let same : all_accepted (ledger opened) one ≡ all_accepted (ledger opened) other = (arrival (ledger opened) one other both).accepted in
    sym same ∙ accepting.0

-- ---- lines

-- document 01's sample record (Frames) up to its round
abbrev up_to_round : List String
up_to_round =
    "0100004E2000000003E8000000038400000004B000009C40"
    ∷ "0201010100000000000000000100000334"
    ∷ "02020202000001900000000A0200000064000000C8"
    ∷ "02020302000001F40000001401000000C8"
    ∷ "0203040200000000000000000100000096"
    ∷ "03000061A8"
    ∷ []

abbrev from_closing : List String
from_closing = "05" ∷ "0600000064" ∷ []

-- developer 2 offers, cancels and offers again; developer 3 offers, behind it or in front
abbrev offers_last : List String
offers_last = "0402010000659000000064" ∷ "0902" ∷ "0402010000659000000064" ∷ "0403010000659000000000" ∷ []

abbrev offers_first : List String
offers_first = "0403010000659000000000" ∷ "0402010000659000000064" ∷ "0902" ∷ "0402010000659000000064" ∷ []

-- the lines, without their 0A
abbrev pub as_lines : List String → List (List ℕ)
as_lines ss = map (λ s. codes s 0 (len s)) ss

abbrev pub the_last : List (List ℕ)
the_last = as_lines offers_last

abbrev pub the_first : List (List ℕ)
the_first = as_lines offers_first

abbrev pub the_round : List (List ℕ)
the_round = as_lines up_to_round

-- the whole records
abbrev pub one_record : List ℕ
one_record = text (up_to_round ++ (offers_last ++ from_closing))

abbrev pub other_record : List ℕ
other_record = text (up_to_round ++ (offers_first ++ from_closing))

abbrev offer2 : List ℕ
offer2 = codes "0402010000659000000064" 0 22

abbrev cancel2 : List ℕ
cancel2 = codes "0902" 0 4

abbrev offer3 : List ℕ
offer3 = codes "0403010000659000000000" 0 22

exchanging : Exchanged line_own (offer2 ∷ cancel2 ∷ offer2 ∷ offer3 ∷ []) (offer3 ∷ offer2 ∷ cancel2 ∷ offer2 ∷ [])
unfolding codes own order_own all any total
    is_hex value_of number_from known fixed each count layout fields_at kind_of asked_widths well_formed call_of read firsts seconds order_of ordered order_in
exchanging = further (behind offer2 (behind cancel2 past)) (further (behind offer2 past_cancelled) past_first)
  where
    past : Exchanged line_own (offer2 ∷ offer3 ∷ []) (offer3 ∷ offer2 ∷ [])
    past = neighbours 2 3 refl refl refl

    past_cancelled : Exchanged line_own (cancel2 ∷ offer3 ∷ offer2 ∷ []) (offer3 ∷ cancel2 ∷ offer2 ∷ [])
    past_cancelled = neighbours 2 3 refl refl refl

    past_first : Exchanged line_own (offer2 ∷ offer3 ∷ cancel2 ∷ offer2 ∷ []) (offer3 ∷ offer2 ∷ cancel2 ∷ offer2 ∷ [])
    past_first = neighbours 2 3 refl refl refl

same_of_each : (n : ℕ) → keep (line_own n) the_last ≡ keep (line_own n) the_first
same_of_each = exchanged_same line_own (λ l. order_once (order_in l)) exchanging

pub both_lines : ReorderedLines the_last the_first
unfolding codes is_move order_is_move all any total
    is_hex value_of number_from known fixed each count layout fields_at kind_of asked_widths well_formed call_of read firsts seconds order_of ordered order_in
both_lines = record { moves = refl; moves' = refl; each = same_of_each }

parted : (lines one_record ≡ the_round ++ (the_last ++ as_lines from_closing)) × (lines other_record ≡ the_round ++ (the_first ++ as_lines from_closing))
unfolding codes line text on_first lines
parted = (refl, refl)

pub replied_alike : RepliedAlike one_record other_record the_round the_last the_first
replied_alike =
    lines_arrival one_record other_record the_round the_last the_first (as_lines from_closing) parted.0 parted.1 both_lines

-- the replies in three parts: in the midst each of developer 2's lines gets the reply that it gets in the other order
abbrev pub LinesAlike : Type 0
LinesAlike =
    let r = replied_alike in
    (replied one_record ≡ r.before ++ (r.midst ++ r.behind))
    × (replied other_record ≡ r.before ++ (r.midst' ++ r.behind))
    × (map (λ t. t.0) r.before ≡ the_round)
    × (map (λ t. t.0) r.midst ≡ the_last)
    × (map (λ t. t.0) r.midst' ≡ the_first)
    × (keep (λ t. line_own 2 t.0) r.midst ≡ keep (λ t. line_own 2 t.0) r.midst')

pub lines_alike : LinesAlike
lines_alike =
    let r = replied_alike in
    let each : SameReplies r.midst r.midst' = r.one.each in
    let asked = r.one.asked in
    (r.one.parts, r.other, asked.0, asked.1, asked.2, each 2)

pub as_long : length (replies one_record) ≡ length (replies other_record)
as_long = replied_alike.long
