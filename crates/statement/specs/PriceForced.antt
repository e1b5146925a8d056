-- WHO CAN FORCE THE PRICE (document 02, 11), asked of the auction that any list of calls reaches, refused calls included, of any two numbers and any
-- list of prices. The function takes the auction by value and returns none, so it is no call of a list and no auction changes by it. It is tied in
-- through its own contract, which it meets (`who_can_force_meets` in EveryList).
use Rattle.std.specs.Prelude.{ℕ, ◌≡◌, List, Result}
use Rattle.std.proofs.Common.{sym, ap, subst}
use contract.Lifetimes.{Lfts}
use borrow.Fn.World.{ArgsD}
use Rattle.rules_auction.specs.Ledger.{Call}
use Rattle.rules_auction.specs.Rounds.{ledger, Answered}
use Rattle.rules_forcing.specs.Game.{GameMove}
use Rattle.rules_forcing.specs.Forcing.{forcing_refusal, first_move, ForcedBy}
use Rattle.rules_forcing.specs.ForcingLaws.{forced_by}
use Rattle.engine_looks.specs.rivals.Plain.{withdraws_by}
use Rattle.engine_refusals.specs.declared.Refusal.{Refusal}
use Rattle.engine_looks.specs.forcing.Forces.{Forced, refused_forcing, forced_in}
use Rattle.engine_looks.specs.declared.forcing.Forcing.{Forcing}
use Rattle.engine_looks.specs.contracts.forcing.who_can_force.{signature}
use Rattle.engine_looks.proofs.forcing.who_can_force.Reads as forcing
use Rattle.statement.specs.EveryList.{Run, run_reached}

-- the arguments x: the auction, the two developers, the prices; r is what the function answers, as its own contract has it
pub record ForcingStated : Type 1 where
  pub refused :
      (κs : Lfts 1) (x : ArgsD signature κs) (r : Result Forcing Refusal) → forcing.Post κs x r x → ((forced_in r).number ≡ 0 → ⊥) →
      forced_in r ≡ refused_forcing (forced_in r).number
  pub number :
      {cs : List Call} {rs : List Answered} (κs : Lfts 1) (x : ArgsD signature κs) (r : Result Forcing Refusal) → Run cs rs x.0 → forcing.Post κs x r x →
      (forced_in r).number ≡ forcing_refusal (ledger cs) x.1.0 x.1.1.0 x.1.1.1.0.now
  -- accepted: the first developer can force the outcome against every strategy of the second, which can hold it to that against every strategy of
  -- the first; the move begins a strategy that forces it, and is to keep if one that keeps forces it too. This leaves nothing free (`forced_only`)
  pub forced :
      {cs : List Call} {rs : List Answered} (κs : Lfts 1) (x : ArgsD signature κs) (r : Result Forcing Refusal) → Run cs rs x.0 → forcing.Post κs x r x →
      (forced_in r).number ≡ 0 →
      (m : GameMove) × ForcedBy (ledger cs) x.1.0 x.1.1.0 x.1.1.1.0.now (forced_in r).outcome m × ((forced_in r).withdraws ≡ withdraws_by m)

pub forcing_stated : ForcingStated
forcing_stated = record {
  refused = λ κs x r q. q.same;
  number = λ {cs} κs x r w q. q.number cs (run_reached w).0;
  forced = λ {cs} κs x r w q z.
      let e = q.answer cs (run_reached w).0 z in
      let l = ledger cs in
      let m = x.1.0 in
      let n = x.1.1.0 in
      let ps = x.1.1.1.0.now in (
        first_move l m n ps,
        subst (λ (v : ℕ). ForcedBy l m n ps v (first_move l m n ps)) (sym (ap (λ (s : Forced). s.outcome) e)) (forced_by l m n ps),
        ap (λ (s : Forced). s.withdraws) e,
      );
}
