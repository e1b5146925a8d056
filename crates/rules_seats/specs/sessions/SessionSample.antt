-- A session as bytes (docs/FORMAT.md, sessions), computed: the replies, with refusals by 20 before every other check, what its seats read, and its plain
-- record. And two sessions that differ in what another offers and give developer 2 one view.
use Rattle.std.specs.Prelude.{ℕ, ◌-◌, ◌^◌, ◌≡◌, refl}
use Rattle.std.proofs.Common.{sym, ap, ◌∙◌}
use mathlib.Core.List.{List, [], ◌∷◌, ◌++◌, map, flatten}
use Prim.Native.String.{String}
use Rattle.rules_numbers.specs.Lists.{keep, total, any, all}
use Rattle.rules_format.specs.Hex.{is_hex, value_of, char_of, digits, number_from}
use Rattle.rules_format.specs.Fields.{known, fixed, each, count, layout, fields_at, text_at, kind_of, asked_widths, well_formed, call_of, read}
use Rattle.rules_format.specs.Lines.{on_first, lines}
use Rattle.rules_format.specs.Example.{codes}
use Rattle.rules_format.specs.SessionLines.{is_seat, seat_kind, seat_number, names_seat, read_seated}
use Rattle.rules_auction.specs.Ledger.{Offer, Own, SetUp, Register, Open, By, Close}
use Rattle.rules_auction.specs.Computing.{call_refusals, settled}
use Rattle.laws_arrival.specs.cancelling.TakenBack.{own}
use Rattle.rules_replies.specs.Orders.{firsts, seconds, order_of}
use Rattle.rules_replies.specs.Replies.{closing_text, settling_text, answer_line, reply_to}
use Rattle.rules_replies.specs.SampleRecord.{line, text}
use Rattle.rules_seats.specs.Seats.{Auctioneer, Auditor, At, may_make, fresh_hall, hall_answer, latest_excess, hall_step, hall_from, hall_ledger, reading}
use Rattle.rules_seats.specs.Views.{same_excess, same_phase, same_values, own_seat, is_for, asked_by, made_for, changes, shown}
use Rattle.rules_seats.specs.figures.Figures.{reading_figures}
use Rattle.rules_seats.specs.sessions.Sessions.{SeatedOrder, Unread, Makes, Settles, seated_order_in, session_orders, calls_through_all, session_calls}
use Rattle.rules_seats.specs.sessions.Sessions.{session_hall, is_permitted, seated_reply, seated_replies, session_reply_lines, session_replies, permitted_lines}
use Rattle.rules_seats.specs.sessions.Sessions.{session_record}
use Rattle.rules_seats.specs.sessions.SessionFigures.{session_reading}
use Rattle.rules_seats.specs.sessions.SessionViews.{seen_of, seen_from, session_view, GetsTheSame}
use Rattle.rules_seats.specs.sessions.SessionViewLaws.{promise_to_developers}

-- the settings of document 01's sample; an existing plant, and a new one of levels 100 and 200
abbrev opened : List String
opened =
    "00000100004E2000000003E8000000038400000004B000009C40"
    ∷ "00000201010100000000000000000100000334"
    ∷ "020202020202000001900000000A0200000064000000C8"  -- developer 2 does not register itself
    ∷ "000002020202000001900000000A0200000064000000C8"
    ∷ "000003000061A8"
    ∷ "00000402010000659000000064"  -- nor does the auctioneer offer for it
    ∷ "02020402010000659000000064"  -- at 26,000 down to 100
    ∷ "02030902"  -- nor does developer 3 take its offer back
    ∷ "02020600000064"  -- nor does a developer settle
    ∷ []

-- an auctioneer with a number is no seat; the auditor does not close, but it settles
abbrev closed : List String
closed = "000105" ∷ "010005" ∷ "000005" ∷ "01000600000064" ∷ []

abbrev pub sample_session : List ℕ
sample_session = text (opened ++ closed)

-- what the lines ask; to unfold it is to unfold all that its line names
unfoldable pub lines_ask : List ℕ → List ℕ
unfolding call_refusals codes line text any all total keep is_hex value_of number_from known fixed each count layout fields_at kind_of asked_widths well_formed call_of read
    on_first lines firsts seconds order_of is_seat seat_kind seat_number names_seat read_seated
    seated_order_in session_orders calls_through_all session_calls
    may_make hall_answer latest_excess hall_step hall_from hall_ledger session_hall reading reading_figures session_reading
lines_ask session = session_reading session 0 0

session_replied : session_replies sample_session ≡ text (
    "0100"
    ∷ "0200"
    ∷ "0214"
    ∷ "0200"
    ∷ "0300"
    ∷ "0414"
    ∷ "0400"
    ∷ "0914"
    ∷ "0614"
    ∷ "FF0C"
    ∷ "0514"
    ∷ "0500FFFFFFFFFFFFFFC900000000"
    ∷ "06000000659000000003CA00000003FC0000000200000001020101000003340202000000C80000000000006590000000006590"
    ∷ [])
unfolding lines_ask settled flatten char_of digits text_at closing_text settling_text answer_line reply_to seated_reply seated_replies session_reply_lines session_replies
session_replied = refl

-- while the round is open developer 2 reads its levels and its offer, one that is not registered and the auditor the published values; behind the session
-- the excess is -55, the auction is closed and no offer stands
session_read :
    (map (session_reading (text opened) 2) (2 ∷ 33 ∷ [])
    ≡ (40000 ∷ 25000 ∷ 0 ∷ 2 ∷ 2 ∷ 100 ∷ 200 ∷ 1 ∷ 1 ∷ 26000 ∷ 100 ∷ []) ∷ (40000 ∷ 25000 ∷ 0 ∷ 2 ∷ 0 ∷ 0 ∷ 0 ∷ []) ∷ [])
    × (session_reading (text opened) 1 0 ≡ 40000 ∷ 25000 ∷ 0 ∷ 2 ∷ [])
    × (session_reading sample_session 0 0 ≡ 40000 ∷ 25000 ∷ (2 ^ 64 - 55) ∷ 4 ∷ [])
    × (session_reading sample_session 2 2 ≡ 40000 ∷ 25000 ∷ (2 ^ 64 - 55) ∷ 4 ∷ 2 ∷ 100 ∷ 200 ∷ 0 ∷ 0 ∷ [])
unfolding lines_ask flatten
session_read = (refl, refl, refl, refl)

session_plain : session_record sample_session ≡ text (
    "0100004E2000000003E8000000038400000004B000009C40"
    ∷ "0201010100000000000000000100000334"
    ∷ "02020202000001900000000A0200000064000000C8"
    ∷ "03000061A8"
    ∷ "0402010000659000000064"
    ∷ "05"
    ∷ "0600000064"
    ∷ [])
unfolding lines_ask flatten is_permitted permitted_lines session_record
session_plain = refl

-- ---- two sessions of one view

-- developers 2 and 3 share a project, and developer 2 keeps its 200
abbrev shared : List String
shared =
    "00000100004E2000000003E8000000038400000004B000009C40"
    ∷ "00000201010100000000000000000100000334"
    ∷ "000002020202000001900000000A0200000064000000C8"
    ∷ "000002020302000001F40000001401000000C8"
    ∷ "000003000061A8"
    ∷ "0202040200"
    ∷ []

-- developer 3 keeps its level; or it comes down, and there are lines of others besides that show developer 2 nothing
abbrev one : List ℕ
one = text (shared ++ ("0203040300" ∷ "000005" ∷ []))

abbrev other : List ℕ
other = text (shared ++ ("02030403010000659000000000" ∷ "010005" ∷ "02210600000064" ∷ "" ∷ "000005" ∷ []))

-- what both ask, the calls of the one in the same words as in the other
abbrev shared_orders : List SeatedOrder
shared_orders =
    Makes Auctioneer (SetUp (record { ce = 20000; d = 1000; m1 = 900; m2 = 1200; a = 40000 }))
    ∷ Makes Auctioneer (Register 1 Own (record { project = 1; kind = 1; study = 0; day = 0; levels = 820 ∷ [] }))
    ∷ Makes Auctioneer (Register 2 Own (record { project = 2; kind = 2; study = 400; day = 10; levels = 100 ∷ 200 ∷ [] }))
    ∷ Makes Auctioneer (Register 3 Own (record { project = 2; kind = 2; study = 500; day = 20; levels = 200 ∷ [] }))
    ∷ Makes Auctioneer (Open 25000)
    ∷ Makes (At 2) (By 2 (Offer [] []))
    ∷ []

abbrev one_asks : List SeatedOrder
one_asks = shared_orders ++ (Makes (At 3) (By 3 (Offer [] [])) ∷ Makes Auctioneer Close ∷ [])

abbrev other_asks : List SeatedOrder
other_asks =
    shared_orders
    ++ (Makes (At 3) (By 3 (Offer (26000 ∷ []) (0 ∷ []))) ∷ Makes Auditor Close ∷ Settles (At 33) 100 ∷ Unread ∷ Makes Auctioneer Close ∷ [])

both_ask : (session_orders one ≡ one_asks) × (session_orders other ≡ other_asks)
unfolding lines_ask
both_ask = (refl, refl)

orders_view : seen_from 2 fresh_hall one_asks ≡ seen_from 2 fresh_hall other_asks
unfolding call_refusals own may_make hall_answer latest_excess hall_step hall_from same_excess same_phase same_values own_seat is_for asked_by made_for changes shown seen_of seen_from
orders_view = refl

one_view : session_view 2 one ≡ session_view 2 other
unfolding session_view
one_view = ap (seen_from 2 fresh_hall) both_ask.0 ∙ orders_view ∙ sym (ap (seen_from 2 fresh_hall) both_ask.1)

-- so it gets the same of both, though developer 3 reads another offer
pub gets_the_same : GetsTheSame 2 one other
gets_the_same = promise_to_developers 2 one other one_view

others_differ :
    (session_replies one ≡ text ("0100" ∷ "0200" ∷ "0200" ∷ "0200" ∷ "0300" ∷ "0400" ∷ "0400" ∷ "0500000000000000002D00000000" ∷ []))
    × (session_replies other ≡ text ("0100" ∷ "0200" ∷ "0200" ∷ "0200" ∷ "0300" ∷ "0400" ∷ "0400" ∷ "0514" ∷ "0614" ∷ "FF0C" ∷ "0500000000000000002D00000000"
    ∷ []))
unfolding lines_ask settled flatten char_of digits text_at closing_text settling_text answer_line reply_to seated_reply seated_replies session_reply_lines session_replies
others_differ = (refl, refl)
