-- The frame of what a line can ask, and which orders are writable (document 02, 2).
use Rattle.std.specs.Prelude.{ℕ, Bool, true, ◌&&◌, List, [], ◌∷◌, eqb, length}
use Rattle.rules_format.specs.Fields.{RawCall, raw_call}
use Rattle.rules_format.specs.Written.{frame_of, writable}
use Rattle.rules_auction.specs.Ledger.{Offer, Lodge, Cancel, Own, Named, SetUp, Register, Open, By, Close}
use Rattle.rules_replies.specs.Orders.{Order, Malformed, Asks, Settle}

-- steps of price and level, as many as both lists have
unfoldable pub paired : List ℕ → List ℕ → List ℕ
paired [] qs = []
paired (p ∷ ps) [] = []
paired (p ∷ ps) (q ∷ qs) = p ∷ q ∷ paired ps qs

-- an order's kind and fields, in the table's order; nothing that can be read has kind 0, which the table lacks
abbrev pub raw_of : Order → RawCall
raw_of Malformed = raw_call 0 []
raw_of (Asks (SetUp s)) = raw_call 1 (s.ce ∷ s.d ∷ s.m1 ∷ s.m2 ∷ s.a ∷ [])
raw_of (Asks (Register n Own x)) = raw_call 2 (x.project ∷ n ∷ x.kind ∷ x.study ∷ x.day ∷ length x.levels ∷ x.levels)
raw_of (Asks (Register n (Named g) x)) = raw_call 8 (x.project ∷ n ∷ x.kind ∷ g ∷ x.study ∷ x.day ∷ length x.levels ∷ x.levels)
raw_of (Asks (Open c)) = raw_call 3 (c ∷ [])
raw_of (Asks (By n (Offer ps qs))) = raw_call 4 (n ∷ length ps ∷ paired ps qs)
raw_of (Asks (By n (Lodge ps qs))) = raw_call 7 (n ∷ length ps ∷ paired ps qs)
raw_of (Asks (By n Cancel)) = raw_call 9 (n ∷ [])
raw_of (Asks Close) = raw_call 5 []
raw_of (Settle limit) = raw_call 6 (limit ∷ [])

-- price and level lists are equally long
unfoldable pub lists_match : Order → Bool
lists_match Malformed = true
lists_match (Asks (SetUp s)) = true
lists_match (Asks (Register n w x)) = true
lists_match (Asks (Open c)) = true
lists_match (Asks (By n (Offer ps qs))) = eqb (length ps) (length qs)
lists_match (Asks (By n (Lodge ps qs))) = eqb (length ps) (length qs)
lists_match (Asks (By n Cancel)) = true
lists_match (Asks Close) = true
lists_match (Settle limit) = true

unfoldable pub writable_order : Order → Bool
writable_order o = lists_match o && writable (raw_of o)

unfoldable pub frame_of_order : Order → List ℕ
frame_of_order o = frame_of (raw_of o)
