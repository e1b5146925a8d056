-- The calls that a record asks, in its order (document 01, Frames): a call for each line that asks one.
use Rattle.std.specs.Prelude.{ℕ, List, [], ◌∷◌, ◌++◌}
use Rattle.rules_format.specs.Lines.{lines}
use Rattle.rules_auction.specs.Ledger.{Call}
use Rattle.rules_replies.specs.Orders.{Order, Malformed, Asks, Settle, order_in}

-- the calls that an order asks: settlings and malformed lines ask none
abbrev pub asked_calls : Order → List Call
asked_calls Malformed = []
asked_calls (Asks c) = c ∷ []
asked_calls (Settle limit) = []

unfoldable pub calls_of : List (List ℕ) → List Call
calls_of [] = []
calls_of (line ∷ rest) = asked_calls (order_in line) ++ calls_of rest

unfoldable pub calls_in : List ℕ → List Call
calls_in bytes = calls_of (lines bytes)
