-- READ OUT, settling the auction that a list of calls reaches: the arguments x are the auction, the limit, the buffer; y the same at the call's end.
use Rattle.std.specs.Prelude.{ℕ, ◌*◌, ◌≤◌, ◌≡◌, ◌↔◌, true, false, List, length, drop, Result}
use Rattle.std.proofs.Common.{sym, subst₂}
use contract.Lifetimes.{Lfts}
use denote.Triple.Clauses.{AtExit}
use borrow.Fn.World.{ArgsD}
use borrow.Fn.Kinds.{ended_of}
use Rattle.rules_numbers.specs.Least.{Least}
use Rattle.rules_choices.specs.Choices.{IsBest}
use Rattle.rules_auction.specs.Ledger.{Call, Ledger}
use Rattle.rules_auction.specs.Clearing.{covered, demand_at}
use Rattle.rules_auction.specs.Refusals.{is_closed}
use Rattle.rules_auction.specs.Rounds.{ledger, Answered}
use Rattle.rules_auction.specs.Award.{admissible, award}
use Rattle.laws_ledger.specs.reachable.AcceptedCalls.{accepted_calls}
use Rattle.engine_refusals.specs.declared.Refusal.{Refusal}
use Rattle.engine_settling.specs.declared.Settlement.{Settlement}
use Rattle.engine_settling.specs.Settles.{Settled, settled_in, refused_with}
use Rattle.engine_settling.specs.contracts.settle.{signature}
use Rattle.engine_settling.proofs.settle.Kinds as kinds
use Rattle.engine_settling.proofs.settle.Reads as settle
use Rattle.statement.specs.settling.Stated.{Within, Fit, Stated, Accepted}
use Rattle.statement.specs.settling.WordsDecide.{InWordsAlone}
use Rattle.statement.specs.SameResults.{settled_determines}
use Rattle.statement.specs.EveryList.{Run}
use Rattle.statement.specs.EngineCorrect.{EngineCorrect}

module _ {M : Type 1} (s : EngineCorrect M) where
  -- ---- what is stated decides; and so do the words of an acceptance without the equations beside them

  -- one ledger, limit and buffer: what is stated holds of one answer and one buffer alone
  pub stated_decides :
      (l : Ledger) (limit : ℕ) (old new new' : List ℕ) (r r' : Settled) → Stated l limit old new r → Stated l limit old new' r' → (r ≡ r') × (new ≡ new')
  stated_decides l limit old new new' r r' t t' = s.determines l limit old new new' r r' t t'

  -- what is stated says the words ..
  pub stated_in_words :
      (l : Ledger) (limit : ℕ) (old new : List ℕ) (r : Settled) → Stated l limit old new r → is_closed l.phase ≡ true → r.number ≡ 0 →
      InWordsAlone l old new r
  stated_in_words l limit old new r t c z = s.in_words l limit old new r t c z

  -- .. and they hold of one answer and one buffer alone
  pub words_decide :
      (cs : List Call) (old new new' : List ℕ) (r r' : Settled) → is_closed (ledger cs).phase ≡ true →
      InWordsAlone (ledger cs) old new r → InWordsAlone (ledger cs) old new' r' → (r ≡ r') × (new ≡ new')
  words_decide cs old new new' r r' c w v = s.words_determine cs old new new' r r' c w v

  -- ---- settling

  module _ {cs : List Call} {rs : List Answered} (κs : Lfts 1) (x : ArgsD signature κs) (r : Result Settlement Refusal)
      (y : AtExit (ended_of 1 kinds.ps kinds.r) κs) (w : Run cs rs x.0) (q : settle.Post κs x r y) where
    -- in numbers
    abbrev a : Settled
    a = settled_in r

    -- every figure, every byte of the buffer, and each refusal is as stated
    pub stated : Stated (ledger cs) x.1.0 x.1.1.0.now y.1.1.0.now a
    stated = s.statement κs x r y w q

    -- refused by 2 before the auction is closed
    pub too_early : is_closed (ledger cs).phase ≡ false → a.number ≡ 2
    too_early e = stated.not_closed e

    -- refused: the number with 0 in every other place, and the buffer is as it was
    pub refused_settling : (a.number ≡ 0 → ⊥) → (a ≡ refused_with a.number) × (y.1.1.0.now ≡ x.1.1.0.now)
    refused_settling z = s.untouched.refused_settling κs x r y q z

    -- the buffer's length stays, and so does each byte behind the records
    pub bytes_behind :
        (length y.1.1.0.now ≡ length x.1.1.0.now) × (drop (6 * a.records) y.1.1.0.now ≡ drop (6 * a.records) x.1.1.0.now)
    bytes_behind = s.untouched.behind_records κs x r y q

    module _ (closed : is_closed (ledger cs).phase ≡ true) where
      -- closed: accepted exactly where the choices are within the limit and the records fit; else refused by 10, or by 11
      pub accepted_exactly : (a.number ≡ 0) ↔ (Within (ledger cs) x.1.0 × Fit (ledger cs) x.1.1.0.now)
      accepted_exactly = stated.exactly closed

      pub too_many_choices : (Within (ledger cs) x.1.0 → ⊥) → a.number ≡ 10
      too_many_choices h = stated.by_10 closed h

      pub too_short : Within (ledger cs) x.1.0 → (Fit (ledger cs) x.1.1.0.now → ⊥) → a.number ≡ 11
      too_short h f = stated.by_11 closed h f

      module _ (z : a.number ≡ 0) where
        figures : Accepted (ledger cs) x.1.1.0.now y.1.1.0.now a
        figures = stated.accepted closed z

        -- the lowest covered price that the clock passed
        pub lowest_covered_lem : Least (covered (ledger cs)) (ledger cs).closing (ledger cs).settings.a a.price
        lowest_covered_lem = figures.price

        -- no admissible choice that covers has a smaller total than the award
        pub least_award : IsBest (demand_at (ledger cs) a.price) (admissible (ledger cs) a.price) (award (ledger cs) a.price)
        least_award = figures.best

        -- new plants are not paid below the price, nor existing ones above it
        pub never_below : a.price ≤ a.second
        never_below = figures.second_not_below

        pub paid_at_most_price : a.paid ≤ a.price
        paid_at_most_price = figures.paid_at_most

        -- an answer and a buffer of which the words alone hold are the engine's
        pub settled_as_worded : (new' : List ℕ) (r' : Settled) → InWordsAlone (ledger cs) x.1.1.0.now new' r' → (a ≡ r') × (y.1.1.0.now ≡ new')
        settled_as_worded new' r' v = words_decide cs _ _ new' a r' closed (stated_in_words _ _ _ _ a stated closed z) v

  module _ (κs κs' : Lfts 1) (x : ArgsD signature κs) (x' : ArgsD signature κs') (r r' : Result Settlement Refusal)
      (y : AtExit (ended_of 1 kinds.ps kinds.r) κs) (y' : AtExit (ended_of 1 kinds.ps kinds.r) κs')
      (e : x.1.0 ≡ x'.1.0) (f : x.1.1.0.now ≡ x'.1.1.0.now) where
    -- one list, one limit and buffers of equal bytes: one answer and one buffer
    pub same_settling :
        {cs : List Call} {rs rs' : List Answered} → Run cs rs x.0 → settle.Post κs x r y → Run cs rs' x'.0 → settle.Post κs' x' r' y' →
        (r ≡ r') × (y.1.1.0.now ≡ y'.1.1.0.now)
    same_settling {cs} w p v q =
        let k = stated_decides (ledger cs) x.1.0 x.1.1.0.now _ _ (settled_in r) (settled_in r') (stated κs x r y w p)
        (subst₂ (λ (limit : ℕ) (old : List ℕ). Stated (ledger cs) limit old y'.1.1.0.now (settled_in r')) (sym e) (sym f) (stated κs' x' r' y' v q)) in
        (settled_determines r r' k.0, k.1)

    -- whatever was refused between the accepted calls (document 02, 8)
    pub settling_by_accepted :
        {cs cs' : List Call} {rs rs' : List Answered} → accepted_calls cs ≡ accepted_calls cs' →
        Run cs rs x.0 → settle.Post κs x r y → Run cs' rs' x'.0 → settle.Post κs' x' r' y' → (r ≡ r') × (y.1.1.0.now ≡ y'.1.1.0.now)
    settling_by_accepted c w p v q = s.by_accepted_calls κs κs' x x' r r' y y' c e f w p v q
