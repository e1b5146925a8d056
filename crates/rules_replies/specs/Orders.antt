-- What a line of a record asks (document 01, Frames): a call, a settling, or nothing that can be read.
use Rattle.std.specs.Prelude.{ℕ, cond, List, [], ◌∷◌, eqb, get_or, drop}
use Rattle.std.proofs.Math.Option.{Option, none, some}
use Rattle.rules_format.specs.Fields.{RawCall, read}
use Rattle.rules_auction.specs.Ledger.{settings_of, Move, Offer, Lodge, Cancel, Own, Named, Call, SetUp, Register, Open, By, Close}

pub data Order : Type 0 where
  Malformed : Order
  Asks : Call → Order
  Settle : ℕ → Order

-- of steps price, level, price, level, ..: the prices, and the levels
unfoldable pub firsts : List ℕ → List ℕ
firsts [] = []
firsts (p ∷ []) = p ∷ []
firsts (p ∷ q ∷ rest) = p ∷ firsts rest

unfoldable pub seconds : List ℕ → List ℕ
seconds [] = []
seconds (p ∷ []) = []
seconds (p ∷ q ∷ rest) = q ∷ seconds rest

-- 01 set-up: CE, D, M1, M2, A
abbrev pub set_up_of : List ℕ → Call
set_up_of ns = SetUp (settings_of (get_or ns 0 0) (get_or ns 1 0) (get_or ns 2 0) (get_or ns 3 0) (get_or ns 4 0))

-- 02 registration: project, developer, kind, study, day, count, levels; the agent is the developer's own (document 02, 10)
abbrev pub registration_of : List ℕ → Call
registration_of ns = Register (get_or ns 1 0) Own (record {
  project = get_or ns 0 0;
  kind = get_or ns 2 0;
  study = get_or ns 3 0;
  day = get_or ns 4 0;
  levels = drop 6 ns;
})

-- 08 registration with its agent (document 02, 10): project, developer, kind, agent, study, day, count, levels
abbrev pub registration_for_of : List ℕ → Call
registration_for_of ns = Register (get_or ns 1 0) (Named (get_or ns 3 0)) (record {
  project = get_or ns 0 0;
  kind = get_or ns 2 0;
  study = get_or ns 4 0;
  day = get_or ns 5 0;
  levels = drop 7 ns;
})

-- 04 offer and 07 lodging (document 02, 5): developer, count, steps of price and level
abbrev pub move_of : (List ℕ → List ℕ → Move) → List ℕ → Call
move_of move ns = By (get_or ns 0 0) (move (firsts (drop 2 ns)) (seconds (drop 2 ns)))

-- by the frame's kind; a kind that asks nothing would be malformed, though the table had it
unfoldable pub order_of : RawCall → Order
order_of c =
    cond (eqb c.kind 1) (Asks (set_up_of c.fields))
    (cond (eqb c.kind 2) (Asks (registration_of c.fields))
    (cond (eqb c.kind 3) (Asks (Open (get_or c.fields 0 0)))
    (cond (eqb c.kind 4) (Asks (move_of Offer c.fields))
    (cond (eqb c.kind 5) (Asks Close)
    (cond (eqb c.kind 6) (Settle (get_or c.fields 0 0))
    (cond (eqb c.kind 7) (Asks (move_of Lodge c.fields))
    (cond (eqb c.kind 8) (Asks (registration_for_of c.fields))
    (cond (eqb c.kind 9) (Asks (By (get_or c.fields 0 0) Cancel))
    Malformed))))))))

unfoldable pub ordered : Option RawCall → Order
ordered none = Malformed
ordered (some c) = order_of c

unfoldable pub order_in : List ℕ → Order
order_in line = ordered (read line)
