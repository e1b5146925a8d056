-- READ OUT, the calls on an auction: every list of them has a run, and two runs of one list agree; and what reads the auction that a list reaches: a
-- preview of closing, the supply curve, and who can force the price.
use Rattle.std.specs.Prelude.{ℕ, ◌+◌, ◌≤◌, ◌<◌, ◌≡◌, ◌⊎◌, ◌↔◌, true, length, Result}
use Rattle.std.proofs.Common.{sym, ap, ◌∙◌}
use mathlib.Core.List.{List, Memᴰ}
use contract.Lifetimes.{Lfts}
use borrow.Fn.World.{ArgsD}
use Rattle.rules_numbers.specs.Falling.{Falls}
use Rattle.rules_auction.specs.Ledger.{Call, Close, Ledger}
use Rattle.rules_auction.specs.Clearing.{highest, high, supply, demand_at}
use Rattle.rules_auction.specs.Refusals.{floor, refusal}
use Rattle.rules_auction.specs.Rounds.{supply_after, ledger, Answered, bare_answer, answers}
use Rattle.rules_auction.specs.Preview.{Previewed, bare_preview}
use Rattle.rules_supply_curve.specs.Curve.{Point, supply_curve, supplied_at}
use Rattle.rules_supply_curve.specs.CurveLaws.{Joined, WithdrewAt}
use Rattle.engine_curve.specs.kept_curve.Held.{held_curve}
use Rattle.rules_forcing.specs.Game.{GameMove}
use Rattle.rules_forcing.specs.Forcing.{forcing_refusal, forced_outcome, first_move, ForcedBy}
use Rattle.rules_forcing.specs.ForcingLaws.{forced_by_only}
use Rattle.engine_looks.specs.rivals.Plain.{withdraws_by}
use Rattle.engine_refusals.specs.declared.Refusal.{Refusal}
use Rattle.engine_checks.specs.declared.clock.Phase.TheVariants.{Closed}
use Rattle.engine_looks.specs.forcing.Forces.{Forced, refused_forcing, forced_in}
use Rattle.engine_looks.specs.declared.forcing.Forcing.{Forcing}
use Rattle.engine_looks.specs.contracts.forcing.who_can_force.{signature}
use Rattle.engine_looks.proofs.forcing.who_can_force.Reads as forcing
use Rattle.engine_auction.specs.Holds.{held_auction}
use Rattle.engine_auction.specs.declared.Auction.{Auction}
use Rattle.engine_looks.specs.declared.readings.Preview.{Preview}
use Rattle.engine_looks.specs.declared.readings.SupplyPoint.{SupplyPoint}
use Rattle.engine_looks.specs.readings.Readings.{supply_point_in, preview_in}
use Rattle.statement.specs.EveryList.{Made, Run}
use Rattle.statement.specs.Previewed.{Looks, Foretells}
use Rattle.statement.specs.SupplyCurves.{Reads, prices_in, CurveOf}
use Rattle.statement.specs.EngineCorrect.{EngineCorrect}

-- a preview that foretells a closing: that answers as the preview does, and closes the auction exactly if the preview says so
module _ {p : Previewed} {r : Answered} {b : Auction} (f : Foretells p r b) where
  pub foretold_answer : p.answered ≡ r
  foretold_answer = f.answer

  pub foretold_closed : (p.closed ≡ true) ↔ ((r.number ≡ 0) × (b.clock.phase ≡ Closed))
  foretold_closed = f.closed

-- the points of a supply curve, in words
module _ {l : Ledger} {xs : List Point} (c : CurveOf l xs) where
  -- at most 256, at falling prices, which are those at which some developer withdrew
  pub few_points : length xs ≤ 256
  few_points = c.at_most_256

  pub prices_fall : Falls (prices_in xs)
  prices_fall = c.falls

  pub prices_withdrawn : (p : ℕ) → Memᴰ p (prices_in xs) ↔ ((n : ℕ) × WithdrewAt l p n)
  prices_withdrawn = c.prices

  -- supply after one is supply before the next, and supply at any price can be looked up
  pub points_joined : Joined (supply highest l) xs
  points_joined = c.joined

  pub supply_looked_up : (p : ℕ) → supplied_at (supply highest l) xs p ≡ supply (high p) l
  supply_looked_up = c.supplied

module _ {M : Type 1} (s : EngineCorrect M) where
  -- ---- the calls

  -- there is a run of every list
  pub run_of : (cs : List Call) → Run cs (answers cs) (held_auction (ledger cs))
  run_of cs = s.runs cs

  -- two runs of one list get the same answers, and reach the same auction
  pub same_answers : {cs : List Call} {rs rs' : List Answered} {a a' : Auction} → Run cs rs a → Run cs rs' a' → rs ≡ rs'
  same_answers w v = s.calls.answered w ∙ sym (s.calls.answered v)

  pub same_auction : {cs : List Call} {rs rs' : List Answered} {a a' : Auction} → Run cs rs a → Run cs rs' a' → a ≡ a'
  same_auction w v = s.calls.held w ∙ sym (s.calls.held v)

  -- a refused call leaves the auction, and has 0 in every other place
  pub refused_call : {c : Call} {a b : Auction} {r : Answered} → Made c a r b → (r.number ≡ 0 → ⊥) → (b ≡ a) × (r ≡ bare_answer r.number)
  refused_call m z = s.untouched.calls m z

  -- ---- looking before closing (document 02, 6): p is what a preview of the auction says

  -- refused: 0 and "not closed" in every other place
  pub refused_preview : {a : Auction} (p : Result Preview Refusal) → Looks a p →
      let n = (preview_in p).answered.number in (n ≡ 0 → ⊥) → preview_in p ≡ bare_preview n
  refused_preview p q z = s.preview.refused p q z

  module _ {cs : List Call} {rs : List Answered} {a : Auction} (p : Result Preview Refusal) (w : Run cs rs a) (q : Looks a p) where
    -- "closed": the closing is accepted, and excess is below 1,000 kWh or C the floor
    pub preview_closed : let l = ledger cs in
        ((preview_in p).closed ≡ true) ↔ ((refusal l Close ≡ 0) × ((supply_after l < demand_at l l.closing + 1000) ⊎ (l.closing ≡ floor l)))
    preview_closed = s.preview.closed p w q

    -- it foretells the closing made next
    pub preview_foretells : {b : Auction} {r : Answered} → Made Close a r b → Foretells (preview_in p) r b
    preview_foretells m = s.preview.foretells p w q m

  -- ---- the supply curve (document 02, 9): r is what reading a place of the auction's curve says

  -- the auction keeps the curve of its ledger
  pub curve_kept : {cs : List Call} {rs : List Answered} {a : Auction} → Run cs rs a → a.curve ≡ held_curve (supply_curve (ledger cs))
  curve_kept w = s.curve.kept w

  -- one list: one number of points, and one point at each place
  pub same_entries :
      {cs : List Call} {rs rs' : List Answered} {a a' : Auction} (k k' : ℕ) (r r' : SupplyPoint) → Run cs rs a → Run cs rs' a' →
      Reads a k r → Reads a' k' r' → r.entries ≡ r'.entries
  same_entries k k' r r' w v q q' = s.curve.entries k r w q ∙ sym (s.curve.entries k' r' v q')

  pub same_point :
      {cs : List Call} {rs rs' : List Answered} {a a' : Auction} (place : ℕ) (r r' : SupplyPoint) → Run cs rs a → Run cs rs' a' →
      Reads a place r → Reads a' place r' → supply_point_in r ≡ supply_point_in r'
  same_point place r r' w v q q' = s.curve.point place r w q ∙ sym (s.curve.point place r' v q')

  -- in words: what is said of `CurveOf` above
  pub curve_in_words : (cs : List Call) → CurveOf (ledger cs) (supply_curve (ledger cs))
  curve_in_words cs = s.curve.words cs

  -- ---- who can force the price (document 02, 11): the arguments x are the auction, the two developers, the prices

  -- refused: 0 and "keep" in every other place
  pub refused_question : (κs : Lfts 1) (x : ArgsD signature κs) (r : Result Forcing Refusal) → forcing.Post κs x r x →
      let a = forced_in r in (a.number ≡ 0 → ⊥) → a ≡ refused_forcing a.number
  refused_question κs x r q z = s.forcing.refused κs x r q z

  module _ {cs : List Call} {rs : List Answered} (κs : Lfts 1) (x : ArgsD signature κs) (r : Result Forcing Refusal)
      (w : Run cs rs x.0) (q : forcing.Post κs x r x) where
    abbrev a : Forced
    a = forced_in r

    -- the number is decided by the list and the question
    pub question_number : a.number ≡ forcing_refusal (ledger cs) x.1.0 x.1.1.0 x.1.1.1.0.now
    question_number = s.forcing.number κs x r w q

    module _ (z : a.number ≡ 0) where
      -- what the first can force and the second can hold it to, and a first move that begins a strategy which forces it
      forced : (m : GameMove) × ForcedBy (ledger cs) x.1.0 x.1.1.0 x.1.1.1.0.now a.outcome m × (a.withdraws ≡ withdraws_by m)
      forced = s.forcing.forced κs x r w q z

      -- the outcome and the first move are decided by what the two can force
      pub question_answered :
          (a.outcome ≡ forced_outcome (ledger cs) x.1.0 x.1.1.0 x.1.1.1.0.now)
          × (a.withdraws ≡ withdraws_by (first_move (ledger cs) x.1.0 x.1.1.0 x.1.1.1.0.now))
      question_answered = let o = forced_by_only _ _ _ _ forced.1 in (o.0, forced.2 ∙ ap withdraws_by o.1)

  -- one list and one question: one answer
  module _ {cs : List Call} {rs rs' : List Answered} (κs κs' : Lfts 1) (x : ArgsD signature κs) (x' : ArgsD signature κs') (r r' : Result Forcing Refusal)
      (asked : (x.1.0 ≡ x'.1.0) × (x.1.1.0 ≡ x'.1.1.0) × (x.1.1.1.0.now ≡ x'.1.1.1.0.now))
      (w : Run cs rs x.0) (q : forcing.Post κs x r x) (v : Run cs rs' x'.0) (q' : forcing.Post κs' x' r' x') where
    pub same_number : (forced_in r).number ≡ (forced_in r').number
    same_number = question_number κs x r w q ∙ rw (asked.0, asked.1, asked.2) (sym (question_number κs' x' r' v q'))

    pub same_outcome :
        let a = forced_in r in let b = forced_in r' in a.number ≡ 0 → (a.outcome ≡ b.outcome) × (a.withdraws ≡ b.withdraws)
    same_outcome z =
        let f = question_answered κs x r w q z in
        let g = question_answered κs' x' r' v q' (sym same_number ∙ z) in (
          f.0 ∙ rw (asked.0, asked.1, asked.2) (sym g.0),
          f.1 ∙ rw (asked.0, asked.1, asked.2) (sym g.1),
        )
