-- The replies to a record (document 01, Frames; document 02, 4, 5 and 10): over its bytes, the ledger and nothing of the engine.
use Rattle.std.specs.Prelude.{ℕ, suc, ◌-◌, ◌^◌, cond, eqb, ℤ, pos, negsuc, length}
use mathlib.Core.List.{List, [], ◌∷◌, ◌++◌, map, flatten}
use Rattle.rules_format.specs.Hex.{digits}
use Rattle.rules_format.specs.Fields.{text_at}
use Rattle.rules_format.specs.Lines.{lines}
use Rattle.rules_auction.specs.Ledger.{Call, Ledger, start}
use Rattle.rules_auction.specs.Rounds.{step, Answered, answer}
use Rattle.rules_auction.specs.Settling.{Settlement, settlement, settling_refusal}
use Rattle.rules_replies.specs.Orders.{Order, Malformed, Asks, Settle, order_in}
use Rattle.rules_replies.specs.WrittenOrders.{raw_of}

-- the kind of a call's frame
abbrev pub call_kind : Call → ℕ
call_kind c = (raw_of (Asks c)).kind

-- a signed number in two's complement, as a number of 64 bits
abbrev pub twos_complement : ℤ → ℕ
twos_complement (pos n) = n
twos_complement (negsuc n) = 2 ^ 64 - suc n

-- ---- what an accepted reply adds: fields at their widths, and between them the award records

-- so many digits of a value
pub record Field (A : Type 0) : Type 0 where
  pub width : ℕ
  pub value : A → ℕ

abbrev pub field : {A : Type 0} → ℕ → (A → ℕ) → Field A
field w v = record { width = w; value = v }

abbrev pub widths_of : {A : Type 0} → List (Field A) → List ℕ
widths_of fs = map (λ f. f.width) fs

abbrev pub values_of : {A : Type 0} → List (Field A) → A → List ℕ
values_of fs x = map (λ f. f.value x) fs

abbrev pub fields_text : {A : Type 0} → List (Field A) → A → List ℕ
fields_text fs x = text_at (widths_of fs) (values_of fs x)

-- 05 adds the excess, in two's complement, and the remainder
abbrev pub closing_fields : List (Field Answered)
closing_fields = field 16 (λ r. twos_complement r.excess) ∷ field 8 (λ r. r.remainder) ∷ []

-- 06 adds P, Dem, total, choices, covering, awards, ..
abbrev pub settling_head : List (Field Settlement)
settling_head =
    field 8 (λ s. s.price)
    ∷ field 10 (λ s. s.demand)
    ∷ field 10 (λ s. s.total)
    ∷ field 8 (λ s. s.choices)
    ∷ field 8 (λ s. s.covering)
    ∷ field 2 (λ s. length s.records)
    ∷ []

-- .. then each award record's bytes project, developer, quantity (4), two digits a byte, ..
abbrev pub record_digits : List ℕ → List ℕ
record_digits bytes = flatten (map (digits 2) bytes)

-- .. and behind the records the remainder, then the second price and its mark, 1 short (document 02, 5), then the mark of participation, 1
-- insufficient, and the price paid to existing plants (document 02, 10)
abbrev pub settling_tail : List (Field Settlement)
settling_tail =
    field 8 (λ s. s.remainder) ∷ field 8 (λ s. s.second) ∷ field 2 (λ s. cond s.short 1 0)
    ∷ field 2 (λ s. cond s.insufficient 1 0) ∷ field 8 (λ s. s.paid) ∷ []

unfoldable pub closing_text : Answered → List ℕ
closing_text r = fields_text closing_fields r

unfoldable pub settling_text : Settlement → List ℕ
settling_text s = fields_text settling_head s ++ flatten (map record_digits s.records) ++ fields_text settling_tail s

-- ---- the replies

-- the kind, the answer, what is added if it is accepted, and 0A
unfoldable pub answer_line : ℕ → ℕ → List ℕ → List ℕ
answer_line kind n added = digits 2 kind ++ digits 2 n ++ cond (eqb n 0) added [] ++ (10 ∷ [])

-- the bytes that each settling has of its own for awards
abbrev pub award_room : ℕ
award_room = 192

-- a malformed line gets FF0C
unfoldable pub reply_to : Ledger → Order → List ℕ
reply_to l Malformed = answer_line 255 12 []
reply_to l (Asks c) = answer_line (call_kind c) (answer l c).number (cond (eqb (call_kind c) 5) (closing_text (answer l c)) [])
reply_to l (Settle limit) = answer_line 6 (settling_refusal l limit award_room) (settling_text (settlement l))

-- settling and malformed lines change no auction
unfoldable pub ledger_after : Ledger → Order → Ledger
ledger_after l Malformed = l
ledger_after l (Asks c) = step l c
ledger_after l (Settle limit) = l

unfoldable pub replies_from : Ledger → List (List ℕ) → List ℕ
replies_from l [] = []
replies_from l (line ∷ rest) = reply_to l (order_in line) ++ replies_from (ledger_after l (order_in line)) rest

-- the replies to a record, from a fresh auction
unfoldable pub replies : List ℕ → List ℕ
replies bytes = replies_from start (lines bytes)
