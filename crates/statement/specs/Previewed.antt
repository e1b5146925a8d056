-- LOOKING BEFORE CLOSING (document 02, 6), of the auction that any list of calls reaches, refused calls and lodged lists included: the
-- preview's answer is that of the closing made next, and it says "closed" exactly where that closing is accepted and the auction is closed
-- after it. A preview takes the auction by value and returns none, so it is no call of a list. It is tied in through the method's own
-- contract, which the method meets (`preview_meets` in EveryList).
use Rattle.std.specs.Prelude.{◌+◌, ◌<◌, ◌≡◌, ◌⊎◌, ◌↔◌, true, List, eqb, Result}
use Rattle.std.proofs.Common.{sym, ap, ◌∙◌, eqb-true, eq-eqb, arith}
use Rattle.std.proofs.Math.Path.{refl}
use Rattle.rules_numbers.specs.Cases.{and_true}
use Rattle.rules_auction.specs.Ledger.{Call, Close}
use Rattle.rules_auction.specs.Clearing.{demand_at}
use Rattle.rules_auction.specs.Refusals.{floor, refusal}
use Rattle.rules_auction.specs.Rounds.{supply_after, ledger, Answered}
use Rattle.rules_auction.specs.Preview.{Previewed, bare_preview, preview_closed}
use Rattle.engine_refusals.specs.declared.Refusal.{Refusal}
use Rattle.engine_checks.specs.clock.Held.{phase_number}
use Rattle.engine_checks.specs.declared.clock.Phase.{Phase}
use Rattle.engine_checks.specs.declared.clock.Phase.TheVariants.{Fresh, Ready, Round, Between, Closed}
use Rattle.engine_looks.specs.readings.Readings.{preview_in}
use Rattle.engine_looks.specs.readings.PreviewLaws.{previewed}
use Rattle.engine_auction.specs.declared.Auction.{Auction}
use Rattle.engine_looks.specs.declared.readings.Preview.{Preview}
use Rattle.engine_looks.proofs.readings.preview_closing.Reads as previewing
use Rattle.statement.specs.EveryList.{Made, by_contract, Run, run_reached}

-- p is what the preview of the auction a says, as the method's own contract has it
abbrev pub Looks : Auction → Result Preview Refusal → Type 0
Looks a p = previewing.Post tt (a, tt) p (a, tt)

-- what the preview p says, beside the answer r of the closing made next and the auction b after it
pub record Foretells (p : Previewed) (r : Answered) (b : Auction) : Type 0 where
  pub answer : p.answered ≡ r
  pub closed : (p.closed ≡ true) ↔ ((r.number ≡ 0) × (b.clock.phase ≡ Closed))

pub record PreviewStated : Type 1 where
  pub foretells :
      {cs : List Call} {rs : List Answered} {a b : Auction} {r : Answered} (p : Result Preview Refusal) →
      Run cs rs a → Looks a p → Made Close a r b → Foretells (preview_in p) r b
  -- "closed" in words: closing is accepted, and the excess after the withdrawals at C is below 1,000 kWh or C is the floor
  pub closed :
      {cs : List Call} {rs : List Answered} {a : Auction} (p : Result Preview Refusal) → Run cs rs a → Looks a p → let l = ledger cs in
      ((preview_in p).closed ≡ true) ↔ ((refusal l Close ≡ 0) × ((supply_after l < demand_at l l.closing + 1000) ⊎ (l.closing ≡ floor l)))
  -- refused, on every value of the struct: 0 and "not closed" in every other place
  pub refused : {a : Auction} (p : Result Preview Refusal) → Looks a p → let n = (preview_in p).answered.number in (n ≡ 0 → ⊥) → preview_in p ≡ bare_preview n

-- the last phase is that of number 4
is_the_last : (p : Phase) → phase_number p ≡ 4 → p ≡ Closed
is_the_last Fresh e = absurd (omega arith)
is_the_last Ready e = absurd (omega arith)
is_the_last Round e = absurd (omega arith)
is_the_last Between e = absurd (omega arith)
is_the_last Closed e = refl

pub preview_stated : PreviewStated
preview_stated = record {
  foretells = foretells;
  closed = λ {cs} p w q. rw (← ap (λ (x : Previewed). x.closed) (q.preview_is cs (run_reached w).0)) at (preview_closed (ledger cs));
  refused = λ p q. q.zero;
}
  where
    foretells :
        {cs : List Call} {rs : List Answered} {a b : Auction} {r : Answered} (p : Result Preview Refusal) →
        Run cs rs a → Looks a p → Made Close a r b → Foretells (preview_in p) r b
    foretells {cs} {rs} {a} {b} {r} p w q m =
        let e = previewed cs a b r (by_contract m) (run_reached w).0 (preview_in p) q in
        record {
          answer = e.0;
          closed = (
            (λ t. let u = and_true (eqb r.number 0) (eqb (phase_number b.clock.phase) 4) (sym e.1 ∙ t) in (eqb-true _ 0 u.0, is_the_last _ (eqb-true _ 4 u.1))),
            (λ z. e.1 ∙ simp (eq-eqb r.number 0 z.0, eq-eqb (phase_number b.clock.phase) 4 (ap phase_number z.1))),
          );
        }
