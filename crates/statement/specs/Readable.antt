-- Replies can be read (document 01, Frames): no figure is cut to its width, so what stands at the fields' widths is the figures. Equations with
-- `digits` alone would not say so, as it keeps a number's last digits.
use Rattle.std.specs.Prelude.{ℕ, suc, ◌-◌, ◌*◌, ◌^◌, ◌≤◌, ◌≡◌, cond, ltb, ℤ, pos, negsuc, length, replicate}
use mathlib.Core.List.{List, [], ◌∷◌, ◌++◌, flatten}
use Rattle.rules_numbers.specs.ListLaws.{Each}
use Rattle.rules_format.specs.Fields.{fields_at}
use Rattle.rules_auction.specs.Ledger.{Close, Ledger}
use Rattle.rules_auction.specs.Refusals.{refusal}
use Rattle.rules_auction.specs.Rounds.{answer}
use Rattle.rules_auction.specs.Settling.{record_of, settlement, settling_refusal}
use Rattle.rules_replies.specs.Orders.{Asks, Settle}
use Rattle.rules_replies.specs.Replies.{twos_complement, widths_of, values_of, closing_fields, settling_head, settling_tail, record_digits, award_room, reply_to}

-- the signed number that 64 bits stand for
abbrev pub signed : ℕ → ℤ
signed n = cond (ltb n (2 ^ 63)) (pos n) (negsuc (2 ^ 64 - suc n))

-- so many fields of two digits, a byte each
abbrev pub twos : ℕ → List ℕ
twos n = replicate n 2

-- an award's fields: project 2, developer 2, quantity 8
abbrev pub award_widths : List ℕ
award_widths = 2 ∷ 2 ∷ 8 ∷ []

-- an award record: whose, and how much; its digits, read at an award's widths, are these three
pub record Awarded (r : List ℕ) : Type 0 where
  pub project : ℕ
  pub developer : ℕ
  pub quantity : ℕ
  pub project_in : (1 ≤ project) × (project ≤ 32)
  pub developer_in_lem : (1 ≤ developer) × (developer ≤ 32)
  pub quantity_in : (1 ≤ quantity) × (quantity ≤ 1000000000)
  pub bytes : r ≡ record_of project developer quantity
  pub reads : fields_at award_widths (record_digits r) ≡ project ∷ developer ∷ quantity ∷ []

-- of the ledger of a list of calls: the replies to an accepted closing and to an accepted settling, each read behind its kind and the answer 0
pub record Readable (l : Ledger) : Type 0 where
  -- 05: the excess, in two's complement, and the remainder ..
  pub closing : refusal l Close ≡ 0 →
      fields_at (2 ∷ 2 ∷ widths_of closing_fields) (reply_to l (Asks Close)) ≡ 5 ∷ 0 ∷ values_of closing_fields (answer l Close)
  -- .. of which the first stands for the excess alone
  pub excess : refusal l Close ≡ 0 → signed (twos_complement (answer l Close).excess) ≡ (answer l Close).excess
  -- 06: the figures, behind them the bytes of the award records, 6 for each, the remainder, the second price and its mark, and the mark of
  -- insufficient participation and the price paid to existing plants
  pub settling : (limit : ℕ) → settling_refusal l limit award_room ≡ 0 →
      fields_at (2 ∷ 2 ∷ widths_of settling_head ++ twos (6 * length (settlement l).records) ++ widths_of settling_tail) (reply_to l (Settle limit))
      ≡ 6 ∷ 0 ∷ values_of settling_head (settlement l) ++ flatten (settlement l).records ++ values_of settling_tail (settlement l)
  pub records : (limit : ℕ) → settling_refusal l limit award_room ≡ 0 → Each Awarded (settlement l).records
