-- Where each number stands in the lines of both registrations (document 02, 10) and in the reply to a settling, computed over numbers that all
-- differ: frames 02 and 08 ask two calls, and each call is written in its own frame.
use Rattle.std.specs.Prelude.{ℕ, ◌-◌, ◌≡◌, refl, Bool, true, false, length, take, drop}
use Prim.Native.String.{String, len}
use mathlib.Core.List.{List, [], ◌∷◌, map, flatten}
use Rattle.rules_numbers.specs.Lists.{total, any, all}
use Rattle.rules_format.specs.Hex.{is_hex, value_of, char_of, digits, number_from}
use Rattle.rules_format.specs.Fields.{known, fixed, each, count, layout, fields_at, text_at, kind_of, asked_widths, well_formed, call_of, read}
use Rattle.rules_format.specs.Written.{written_widths, line_of}
use Rattle.rules_format.specs.Example.{codes}
use Rattle.rules_auction.specs.Ledger.{Own, Named, Call, Register}
use Rattle.rules_auction.specs.Settling.{Settlement}
use Rattle.rules_replies.specs.Orders.{Asks, order_of, ordered, order_in}
use Rattle.rules_replies.specs.WrittenOrders.{raw_of}
use Rattle.rules_replies.specs.Replies.{call_kind, widths_of, values_of, settling_head, settling_tail, settling_text}

abbrev bytes : String → List ℕ
bytes s = codes s 0 (len s)

-- ---- registrations

abbrev registrations : List Call
registrations =
    Register 5 Own (record { project = 3; kind = 2; study = 400; day = 10; levels = 100 ∷ 200 ∷ [] })
    ∷ Register 5 (Named 7) (record { project = 3; kind = 2; study = 400; day = 10; levels = 100 ∷ 200 ∷ [] })
    ∷ Register 5 (Named 5) (record { project = 3; kind = 2; study = 400; day = 10; levels = 100 ∷ 200 ∷ [] })
    ∷ []

abbrev registration_lines : List String
registration_lines =
    "02030502000001900000000A0200000064000000C8"
    ∷ "0803050207000001900000000A0200000064000000C8"
    ∷ "0803050205000001900000000A0200000064000000C8"
    ∷ []

registrations_asked : map (λ s. order_in (bytes s)) registration_lines ≡ map Asks registrations
unfolding codes any all total is_hex value_of number_from known fixed each count layout fields_at kind_of asked_widths well_formed call_of read order_of ordered order_in
registrations_asked = refl

registrations_written : map (λ c. line_of (raw_of (Asks c))) registrations ≡ map bytes registration_lines
unfolding codes char_of digits fixed each count layout text_at written_widths line_of raw_of
registrations_written = refl

-- the replies to them are of these kinds
registrations_replied : map call_kind registrations ≡ 2 ∷ 8 ∷ 8 ∷ []
registrations_replied = refl

-- ---- the reply to a settling

-- with these marks of a short second price and of insufficient participation
abbrev marked : Bool → Bool → Settlement
marked short insufficient = record {
  price = 1;
  demand = 2;
  remainder = 3;
  total = 4;
  choices = 5;
  covering = 6;
  kept = 7;
  second = 8;
  short = short;
  insufficient = insufficient;
  paid = 9;
  records = (10 ∷ 11 ∷ 0 ∷ 0 ∷ 0 ∷ 12 ∷ []) ∷ [];
}

settlings_replied : map settling_text (marked true false ∷ marked false true ∷ [])
    ≡ map bytes (
    "00000001000000000200000000040000000500000006010A0B0000000C0000000300000008010000000009"
    ∷ "00000001000000000200000000040000000500000006010A0B0000000C0000000300000008000100000009"
    ∷ [])
unfolding codes flatten char_of digits text_at settling_text
settlings_replied = refl

-- its parts by themselves: the widths of the fields, the values before the award records, the two marks, and the price paid, which is last
settling_widths : (widths_of settling_head ≡ 8 ∷ 10 ∷ 10 ∷ 8 ∷ 8 ∷ 2 ∷ []) × (widths_of settling_tail ≡ 8 ∷ 8 ∷ 2 ∷ 2 ∷ 8 ∷ [])
settling_widths = (refl, refl)

before_records : values_of settling_head (marked true false) ≡ 1 ∷ 2 ∷ 4 ∷ 5 ∷ 6 ∷ 1 ∷ []
before_records = refl

abbrev last_of : ℕ → List ℕ → List ℕ
last_of n xs = drop (length xs - n) xs

marks_before_paid :
    map (λ s. take 2 (last_of 3 (values_of settling_tail s))) (marked true false ∷ marked false true ∷ []) ≡ (1 ∷ 0 ∷ []) ∷ (0 ∷ 1 ∷ []) ∷ []
marks_before_paid = refl

paid_last : last_of 1 (values_of settling_tail (marked true false)) ≡ 9 ∷ []
paid_last = refl
