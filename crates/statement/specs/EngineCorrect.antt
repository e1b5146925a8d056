-- THE STATEMENT (demand 3), about every list of set-up, registration, lodging, opening, offer, cancellation and closing calls from a
-- fresh auction, refused ones included, each call getting the auction that the last one returned (`Run`, in EveryList). Whatever the limit and the
-- lent buffer, settling the auction that the list reaches is as `Stated` says of the ledger of the list; and so for lists that hold calls through
-- seats (`seats`). The engine's calls are tied in through their contracts, which each of them meets.
use Rattle.std.specs.Prelude.{ℕ, ◌≡◌, true, List, Result}
use contract.Lifetimes.{Lfts}
use denote.Triple.Clauses.{AtExit}
use borrow.Fn.World.{ArgsD}
use borrow.Fn.Kinds.{ended_of}
use Rattle.rules_auction.specs.Ledger.{Call, Ledger}
use Rattle.rules_auction.specs.Refusals.{is_closed}
use Rattle.rules_auction.specs.Rounds.{ledger, Answered, answers}
use Rattle.laws_ledger.specs.reachable.AcceptedCalls.{accepted_calls}
use Rattle.rules_seats.specs.Seats.{Seated, hall_ledger, hall_answers, Entry, permitted, entry_answers}
use Rattle.engine_auction.specs.Holds.{held_auction}
use Rattle.hall.specs.Through.{held_hall}
use Rattle.engine_refusals.specs.declared.Refusal.{Refusal}
use Rattle.engine_settling.specs.Settles.{Settled, settled_in}
use Rattle.engine_settling.specs.declared.Settlement.{Settlement}
use Rattle.engine_settling.specs.contracts.settle.{signature}
use Rattle.engine_settling.proofs.settle.Kinds as kinds
use Rattle.engine_settling.proofs.settle.Reads as settle
use Rattle.engine_settling.proofs.settle.Statement as settle_states
use Rattle.engine_settling.proofs.settle.Met as settle_met
use Rattle.statement.specs.EveryList.{Run, run_reached, EveryList, every_list}
use Rattle.statement.specs.Untouched.{Untouched, untouched}
use Rattle.statement.specs.SameResults.{settled_determines}
use Rattle.statement.specs.Runs.{runs}
use Rattle.statement.specs.HallRuns.{HallRun, SeatedRun}
use Rattle.statement.specs.HallRunsExist.{hall_runs}
use Rattle.statement.specs.MixedRunsExist.{mixed_runs}
use Rattle.statement.specs.DemandStated.{DemandStated, demand_stated}
use Rattle.statement.specs.Readable.{Readable}
use Rattle.statement.specs.ReadableLaws.{readable}
use Rattle.statement.specs.FramesStated.{FramesStated, frames_stated}
use Rattle.statement.specs.Cancelled.{CancellingStated, cancelled}
use Rattle.statement.specs.Previewed.{PreviewStated, preview_stated}
use Rattle.statement.specs.SupplyCurves.{CurveStated, curve_stated}
use Rattle.statement.specs.PriceForced.{ForcingStated, forcing_stated}
use Rattle.statement.specs.Arrived.{ArrivalStated, arrival_stated}
use Rattle.statement.specs.ArrivedLines.{LinesArrivalStated, lines_arrival_stated}
use Rattle.statement.specs.SealedStated.{SealedStated, sealed_stated}
use Rattle.statement.specs.SealedDecided.{SealedDecided, sealed_decided}
use Rattle.statement.specs.SeatsStated.{SeatsStated, seats_stated}
use Rattle.statement.specs.Premises.{Premises, premises}
use Rattle.statement.specs.calls_of_c.Exported.{ExportedStated, exported_stated}
use Rattle.statement.specs.settling.Stated.{Stated}
use Rattle.statement.specs.settling.Determined.{determined, by_accepted}
use Rattle.statement.specs.settling.StatedLaws.{stated}
use Rattle.statement.specs.settling.WordsDecide.{InWordsAlone, stated_words, words_decide}

-- the arguments x: the auction, the limit, the buffer; y: the same at the call's end
pub record EngineCorrect (M : Type 1) : Type 2 where
  pub calls : EveryList M
  pub settle_meets : settle_states.statement M
  pub statement :
      {cs : List Call} {rs : List Answered} (κs : Lfts 1) (x : ArgsD signature κs) (r : Result Settlement Refusal)
      (y : AtExit (ended_of 1 kinds.ps kinds.r) κs) → Run cs rs x.0 → settle.Post κs x r y →
      Stated (ledger cs) x.1.0 x.1.1.0.now y.1.1.0.now (settled_in r)
  -- what is stated leaves nothing free
  pub determines :
      (l : Ledger) (limit : ℕ) (old new new' : List ℕ) (r r' : Settled) → Stated l limit old new r → Stated l limit old new' r' →
      (r ≡ r') × (new ≡ new')
  -- and so do the words of an accepted settling alone, without the equations beside them: whoever states an answer and a buffer of which they hold
  -- states these
  pub in_words :
      (l : Ledger) (limit : ℕ) (old new : List ℕ) (r : Settled) →
      Stated l limit old new r → is_closed l.phase ≡ true → r.number ≡ 0 → InWordsAlone l old new r
  pub words_determine :
      (cs : List Call) (old new new' : List ℕ) (r r' : Settled) → is_closed (ledger cs).phase ≡ true →
      InWordsAlone (ledger cs) old new r → InWordsAlone (ledger cs) old new' r' → (r ≡ r') × (new ≡ new')
  -- DETERMINED BY THE ACCEPTED CALLS (document 02, 8): two lists of calls with the same accepted calls in the same order, whatever was refused
  -- between them, settled with one limit and buffers of equal bytes, get the same answer and leave the same bytes in the whole buffer
  pub by_accepted_calls :
      {cs cs' : List Call} {rs rs' : List Answered} (κs κs' : Lfts 1) (x : ArgsD signature κs) (x' : ArgsD signature κs') (r r' : Result Settlement Refusal)
      (y : AtExit (ended_of 1 kinds.ps kinds.r) κs) (y' : AtExit (ended_of 1 kinds.ps kinds.r) κs') →
      accepted_calls cs ≡ accepted_calls cs' → x.1.0 ≡ x'.1.0 → x.1.1.0.now ≡ x'.1.1.0.now →
      Run cs rs x.0 → settle.Post κs x r y → Run cs' rs' x'.0 → settle.Post κs' x' r' y' →
      (r ≡ r') × (y.1.1.0.now ≡ y'.1.1.0.now)
  -- WHAT NO CALL TOUCHES (demand 1), on every value of the struct, reached or not
  pub untouched : Untouched
  -- for every list of calls, of calls through seats, and of both, there is a run
  pub runs : (cs : List Call) → Run cs (answers cs) (held_auction (ledger cs))
  pub hall_runs : (ms : List Seated) → HallRun ms (hall_answers ms) (held_hall (hall_ledger ms))
  pub mixed_runs : (es : List Entry) → SeatedRun es (entry_answers es) (held_auction (ledger (permitted es)))
  -- DEMAND (document 01; document 02, 4): refused exactly outside the bounds; else the least quantity that the curve prices at most p, M1 at the top,
  -- and the remainder that makes up exact demand
  pub demand : DemandStated M
  -- REPLIES CAN BE READ (document 01, Frames) and FRAMES OUT AS WELL AS IN (document 02, 2): no figure of a reply is cut to its width, and what is
  -- written reads back
  pub readable : (cs : List Call) → Readable (ledger cs)
  pub frames : FramesStated M
  -- TAKING BACK AN OFFER (document 02, 7): a cancelled offer is as if never made
  pub cancelling : CancellingStated
  -- LOOKING BEFORE CLOSING (document 02, 6), SUPPLY CURVE BESIDE THE BOOK (document 02, 9) and WHO CAN FORCE THE PRICE (document 02, 11): what a
  -- preview, a reading and the outcome forced from the auction that the list reaches say is the ledger's
  pub preview : PreviewStated
  pub curve : CurveStated
  pub forcing : ForcingStated
  -- ARRIVAL ORDER IN A ROUND (document 02, 12): developers' own calls in whichever order they arrive, each developer's in its own, give the same; and so
  -- the lines of a record that ask them
  pub arrival : ArrivalStated
  pub arrival_lines : LinesArrivalStated
  -- THE SEALED AUCTION FOR LONG BUILDS (document 02, 13), beside the calls: refusals, awards and what is left
  pub sealed : SealedStated M
  pub sealed_words : SealedDecided
  -- SEATS IN THE AUCTION HALL (document 02, 14): calls through seats, what a developer can learn, and settling through a seat
  pub seats : SeatsStated M
  -- UP TO C (document 01, Frames): what each of the exported calls returns, and every byte and number of its buffers; none of them asks anything.
  -- And what the programs print
  pub exported : ExportedStated M
  -- what is asked of lists above can be met: a sample for each
  pub premises : Premises

module _ {cs : List Call} {rs : List Answered} (κs : Lfts 1) (x : ArgsD signature κs) (r : Result Settlement Refusal)
    (y : AtExit (ended_of 1 kinds.ps kinds.r) κs) where
  as_stated : Run cs rs x.0 → settle.Post κs x r y → Stated (ledger cs) x.1.0 x.1.1.0.now y.1.1.0.now (settled_in r)
  as_stated w s = stated cs x.0 x.1.0 x.1.1.0.now y.1.1.0.now (settled_in r) (run_reached w).0 s

pub engine_correct : {M : Type 1} → EngineCorrect M
engine_correct = record {
  calls = every_list;
  settle_meets = settle_met.met;
  statement = as_stated;
  determines = determined;
  in_words = stated_words;
  words_determine = words_decide;
  by_accepted_calls = λ {cs} {cs'} κs κs' x x' r r' y y' e f g w s w' s'.
      let k = by_accepted cs cs' _ _ _ _ _ _ (settled_in r) (settled_in r') e f g (as_stated κs x r y w s) (as_stated κs' x' r' y' w' s') in
      (settled_determines r r' k.0, k.1);
  untouched = untouched;
  runs = runs;
  hall_runs = hall_runs;
  mixed_runs = mixed_runs;
  demand = demand_stated;
  readable = readable;
  frames = frames_stated;
  cancelling = cancelled;
  preview = preview_stated;
  curve = curve_stated;
  forcing = forcing_stated;
  arrival = arrival_stated;
  arrival_lines = lines_arrival_stated;
  sealed = sealed_stated;
  sealed_words = sealed_decided;
  seats = seats_stated;
  exported = exported_stated;
  premises = premises;
}
