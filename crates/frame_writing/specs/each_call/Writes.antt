-- What the writing of an order answers and leaves in the buffer that it was lent (document 02, 2).
use Rattle.std.specs.Prelude.{ℕ, ◌&&◌, List, ◌∷◌, eqb, length}
use Rattle.rules_format.specs.Fields.{raw_call}
use Rattle.rules_format.specs.Written.{frame_of, writable}
use Rattle.rules_auction.specs.Ledger.{Agency, Own, Named, Register}
use Rattle.rules_replies.specs.Orders.{Order, Asks}
use Rattle.rules_replies.specs.WrittenOrders.{paired, writable_order, frame_of_order}
use Rattle.frame_writing.specs.Encodes.{Written, WritesFrame}

-- of an order: the buffer before and afterwards, and the answer
abbrev pub Writes : Order → List ℕ → List ℕ → Written → Type 0
Writes o old new r = WritesFrame (writable_order o) (frame_of_order o) old new r

-- of a developer's steps, in a frame of a kind
abbrev pub WritesSteps : ℕ → ℕ → List ℕ → List ℕ → List ℕ → List ℕ → Written → Type 0
WritesSteps k n ps qs old new r =
    let c = raw_call k (n ∷ length ps ∷ paired ps qs) in
    WritesFrame (eqb (length ps) (length qs) && writable c) (frame_of c) old new r

-- a registration by its numbers: with an agent either way, with the developer's own (02), and with one that is named (08; document 02, 10)
abbrev pub registration_by : Agency → ℕ → ℕ → ℕ → ℕ → ℕ → List ℕ → Order
registration_by w project n kind study day levels =
    Asks (Register n w (record { project = project; kind = kind; study = study; day = day; levels = levels }))

abbrev pub registration : ℕ → ℕ → ℕ → ℕ → ℕ → List ℕ → Order
registration project n kind study day levels = registration_by Own project n kind study day levels

abbrev pub registration_for : ℕ → ℕ → ℕ → ℕ → ℕ → ℕ → List ℕ → Order
registration_for project n kind agent study day levels = registration_by (Named agent) project n kind study day levels
