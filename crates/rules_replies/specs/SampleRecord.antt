-- The sample record of document 01 (Frames) as bytes: it asks the calls of `rules_auction` (Sample) and a settling with limit 100, and its replies are
-- document 01's with what document 02 adds (4, 5 and 10), byte for byte. Computed over the definitions.
use Rattle.std.specs.Prelude.{ℕ, ◌≡◌, refl}
use Prim.Native.String.{String, len}
use mathlib.Core.List.{List, [], ◌∷◌, ◌++◌, map, flatten}
use Rattle.rules_numbers.specs.Lists.{total, any, all}
use Rattle.rules_auction.specs.Computing.{settled}
use Rattle.rules_demand.specs.Marked.{MarkedCases}
use Rattle.rules_auction.specs.Sample.{sample, SampleSettled, shown_jointly}
use Rattle.rules_format.specs.Hex.{is_hex, value_of, char_of, digits, number_from}
use Rattle.rules_format.specs.Fields.{known, fixed, each, count, layout, fields_at, text_at, kind_of, asked_widths, well_formed, call_of, read}
use Rattle.rules_format.specs.Lines.{on_first, lines}
use Rattle.rules_format.specs.Written.{written_widths, line_of, frame_of}
use Rattle.rules_format.specs.Example.{codes}
use Rattle.rules_replies.specs.Orders.{Asks, Settle, firsts, seconds, order_of, ordered, order_in}
use Rattle.rules_replies.specs.WrittenOrders.{paired, raw_of, frame_of_order}
use Rattle.rules_replies.specs.Replies.{closing_text, settling_text, answer_line, reply_to, ledger_after, replies_from, replies}

-- a line, ended by 0A
unfoldable pub line : String → List ℕ
line s = codes s 0 (len s) ++ (10 ∷ [])

unfoldable pub text : List String → List ℕ
text [] = []
text (s ∷ ss) = line s ++ text ss

abbrev pub sample_record : List ℕ
sample_record = text (
    "0100004E2000000003E8000000038400000004B000009C40"
    ∷ "0201010100000000000000000100000334"
    ∷ "02020202000001900000000A0200000064000000C8"
    ∷ "02020302000001F40000001401000000C8"
    ∷ "0203040200000000000000000100000096"
    ∷ "03000061A8"
    ∷ "0402010000659000000064"
    ∷ "0403010000659000000000"
    ∷ "0404010000659000000000"
    ∷ "05"
    ∷ "0600000064"
    ∷ [])

abbrev pub sample_reply : List ℕ
sample_reply = text (
    "0100"
    ∷ "0200"
    ∷ "0200"
    ∷ "0200"
    ∷ "0200"
    ∷ "0300"
    ∷ "0400"
    ∷ "0400"
    ∷ "0400"
    ∷ "0500FFFFFFFFFFFFFFC900000000"
    ∷ "06000000659000000003CA00000003FC0000000400000003020101000003340203000000C80000000000006590000000006590"
    ∷ [])

sample_asks : map order_in (lines sample_record) ≡ map Asks sample ++ (Settle 100 ∷ [])
unfolding codes line text all any total
    is_hex value_of number_from known fixed each count layout fields_at text_at kind_of asked_widths well_formed call_of read on_first lines
    firsts seconds order_of ordered order_in
sample_asks = refl

-- the writer's frames of these calls are the record (document 02, 2)
pub sample_written : flatten (map frame_of_order (map Asks sample ++ (Settle 100 ∷ []))) ≡ sample_record
unfolding codes line text flatten char_of digits fixed each count layout text_at written_widths line_of frame_of paired raw_of frame_of_order
sample_written = refl

sample_replied : replies sample_record ≡ sample_reply
unfolding settled codes line text flatten
    is_hex value_of char_of digits number_from known fixed each count layout fields_at text_at kind_of asked_widths well_formed call_of read on_first lines
    firsts seconds order_of ordered order_in closing_text settling_text answer_line reply_to ledger_after replies_from replies
sample_replied = refl

-- the ten marked cases with their remainders, the sample's settling, and the sample as bytes, jointly
pub shown_as_bytes : MarkedCases × SampleSettled × (map order_in (lines sample_record) ≡ map Asks sample ++ (Settle 100 ∷ []))
    × (replies sample_record ≡ sample_reply)
shown_as_bytes = (shown_jointly.0, shown_jointly.1, sample_asks, sample_replied)
