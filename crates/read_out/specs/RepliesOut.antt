-- READ OUT, records and replies (document 01, Frames; document 02, 2): a line read and written again is the same bytes, the replies to a written record
-- are those to its orders, and no figure of a reply is cut to its width.
use Rattle.std.specs.Prelude.{ℕ, ◌*◌, ◌≤◌, ◌≡◌, refl, true, length}
use mathlib.Core.List.{List, [], ◌∷◌, ◌++◌, map, flatten}
use Rattle.rules_numbers.specs.ListLaws.{Each}
use Rattle.rules_numbers.specs.Lists.{all}
use Rattle.rules_format.specs.FieldLaws.{WellFormed}
use Rattle.rules_format.specs.Fields.{fields_at}
use Rattle.rules_auction.specs.Ledger.{Call, Close, start}
use Rattle.rules_auction.specs.Refusals.{refusal}
use Rattle.rules_auction.specs.Rounds.{ledger, answer}
use Rattle.rules_auction.specs.Settling.{record_of, settlement, settling_refusal}
use Rattle.rules_replies.specs.Orders.{Order, Malformed, Asks, Settle, order_in}
use Rattle.rules_replies.specs.Replies.{twos_complement, widths_of, values_of, closing_fields, settling_head, settling_tail, record_digits, award_room, reply_to}
use Rattle.rules_replies.specs.Replies.{replies}
use Rattle.rules_replies.specs.WrittenOrderLaws.{replies_to}
use Rattle.rules_replies.specs.WrittenOrders.{writable_order, frame_of_order}
use Rattle.statement.specs.Readable.{signed, twos, award_widths, Awarded}
use Rattle.statement.specs.EngineCorrect.{EngineCorrect}

-- an award record names project, developer and quantity, each within its bounds; its bytes are of these, and its digits read as these
module _ {r : List ℕ} (a : Awarded r) where
  pub award_project : (1 ≤ a.project) × (a.project ≤ 32)
  award_project = a.project_in

  pub award_developer : (1 ≤ a.developer) × (a.developer ≤ 32)
  award_developer = a.developer_in_lem

  pub award_quantity : (1 ≤ a.quantity) × (a.quantity ≤ 1000000000)
  award_quantity = a.quantity_in

  pub award_bytes_lem : r ≡ record_of a.project a.developer a.quantity
  award_bytes_lem = a.bytes

  pub award_read : fields_at award_widths (record_digits r) ≡ a.project ∷ a.developer ∷ a.quantity ∷ []
  award_read = a.reads

module _ {M : Type 1} (s : EngineCorrect M) where
  -- ---- records

  -- each well-formed line asks something ..
  pub line_asks : (l : List ℕ) → WellFormed l → order_in l ≡ Malformed → ⊥
  line_asks l w = s.frames.asks l w

  -- .. and written again it is the same bytes, 0A added
  pub asked_again : (l : List ℕ) (o : Order) → order_in l ≡ o → (o ≡ Malformed → ⊥) → (frame_of_order o ≡ l ++ (10 ∷ [])) × (writable_order o ≡ true)
  asked_again l o e m = s.frames.again l o e m

  pub line_again : (l : List ℕ) → WellFormed l → frame_of_order (order_in l) ≡ l ++ (10 ∷ [])
  line_again l w = (asked_again l (order_in l) refl (line_asks l w)).0

  -- a record written order by order is replied to as the orders are
  pub record_written : (os : List Order) → all writable_order os ≡ true → replies (flatten (map frame_of_order os)) ≡ replies_to start os
  record_written os w = s.frames.replied os w

  module _ (cs : List Call) where
    -- ---- the reply to an accepted closing: 05, 00, the excess in two's complement, which stands for it alone, and the remainder

    pub closing_reply : refusal (ledger cs) Close ≡ 0 →
        fields_at (2 ∷ 2 ∷ widths_of closing_fields) (reply_to (ledger cs) (Asks Close)) ≡ 5 ∷ 0 ∷ values_of closing_fields (answer (ledger cs) Close)
    closing_reply z = (s.readable cs).closing z

    pub excess_read : refusal (ledger cs) Close ≡ 0 → signed (twos_complement (answer (ledger cs) Close).excess) ≡ (answer (ledger cs) Close).excess
    excess_read z = (s.readable cs).excess z

    -- ---- the reply to an accepted settling: 06, 00, its figures, the award records, the other figures

    module _ (limit : ℕ) (z : settling_refusal (ledger cs) limit award_room ≡ 0) where
      pub settling_reply : let l = ledger cs in
          fields_at (2 ∷ 2 ∷ widths_of settling_head ++ twos (6 * length (settlement l).records) ++ widths_of settling_tail) (reply_to l (Settle limit))
          ≡ 6 ∷ 0 ∷ values_of settling_head (settlement l) ++ flatten (settlement l).records ++ values_of settling_tail (settlement l)
      settling_reply = (s.readable cs).settling limit z

      -- each award record is as said above
      pub awards_readable : Each Awarded (settlement (ledger cs)).records
      awards_readable = (s.readable cs).records limit z
