-- For every list of calls, each made on the auction or through a seat in a hall that holds it, refused ones included, there is a run. So what is
-- stated of every such list (`list`, `settles` in SeatsStated, and LooksThrough) is said of something.
use Rattle.std.specs.Prelude.{refl, List, [], ◌∷◌, ◌++◌, pos}
use Rattle.std.proofs.Common.{sym, subst, subst₂, append_assoc, append-nil}
use Rattle.rules_auction.specs.Rounds.{ledger, Answered}
use Rattle.rules_seats.specs.Seats as seats
use Rattle.rules_seats.specs.Seats.{HallLedger, Entry, Direct, Through, permitted, entry_answers_from, entry_answers}
use Rattle.engine_auction.specs.Holds.{held_auction}
use Rattle.engine_auction.specs.declared.Auction.{Auction}
use Rattle.statement.specs.EveryList.{run_reached}
use Rattle.statement.specs.Runs.{made}
use Rattle.statement.specs.HallRuns.{SeatedRun, fresh_auction, directly, through, permitted_run, entries_answered}
use Rattle.statement.specs.HallRunsExist.{held_seat, seat_in_lem, made_through}

-- answered by the definitions, up to the auction that holds the ledger of what the seats had the right to
abbrev LedgersRun : List Entry → Type 0
LedgersRun es = SeatedRun es (entry_answers es) (held_auction (ledger (permitted es)))

-- as every run is
by_definitions : {es : List Entry} {rs : List Answered} {a : Auction} → SeatedRun es rs a → LedgersRun es
by_definitions {es} w = subst₂ (λ (rs : List Answered) (a : Auction). SeatedRun es rs a) (entries_answered w) (run_reached (permitted_run w)).0 w

-- a hall that holds the auction which the list reaches; its excess is no matter
abbrev hall_with : List Entry → HallLedger
hall_with es = record { ledger = ledger (permitted es); excess = pos 0 }

longer : (es : List Entry) (e : Entry) → LedgersRun es → LedgersRun (es ++ (e ∷ []))
longer es (Direct c) w = by_definitions (directly w (made (permitted es) c))
longer es (Through s c) w =
    subst (λ (t : seats.Seat). LedgersRun (es ++ (Through t c ∷ []))) (seat_in_lem s)
    (by_definitions (through w (made_through (hall_with es) (permitted es) refl (held_seat s) c)))

pub mixed_runs : (es : List Entry) → SeatedRun es (entry_answers es) (held_auction (ledger (permitted es)))
unfolding permitted entry_answers entry_answers_from
mixed_runs es = onwards [] es (fresh_auction refl)
  where
    onwards : (ds es : List Entry) → LedgersRun ds → LedgersRun (ds ++ es)
    onwards ds [] w = subst LedgersRun (sym (append-nil ds)) w
    onwards ds (e ∷ es) w = subst LedgersRun (append_assoc ds (e ∷ []) es) (onwards (ds ++ (e ∷ [])) es (longer ds e w))
