-- Every list of calls from a fresh auction, refused ones included, each call getting the auction that the last one returned: the auction
-- that is reached holds the ledger of the list, and each answer along the way is the ledger's. A step is what the method's own contract
-- says of its arguments and its result.
use Rattle.std.specs.Prelude.{◌≡◌, refl, List, [], ◌∷◌, ◌++◌, ℕ, Result}
use Rattle.std.proofs.Common.{sym, ap₂, ◌∙◌}
use contract.Lifetimes.{Lfts}
use borrow.Fn.World.{ArgsD}
use Rattle.rules_auction.specs.Ledger.{Offer, Lodge, Cancel, Call, Open, By, Close}
use Rattle.rules_auction.specs.Rounds.{ledger, Answered, answers_from, answers}
use Rattle.laws_ledger.specs.reachable.Steps.{answers_snoc}
use Rattle.engine_refusals.specs.Numbers.{after}
use Rattle.engine_refusals.specs.declared.Refusal.{Refusal}
use Rattle.engine_auction.specs.Holds.{held_auction}
use Rattle.engine_auction.specs.Called.{Called, answer_in, closing_in, after_closing, sets_up, registers, registers_for}
use Rattle.engine_auction.specs.declared.Auction.{Auction}
use Rattle.engine_auction.specs.declared.Closing.{Closing}
use Rattle.engine_auction.proofs.Auction.new.Reads as new
use Rattle.engine_auction.proofs.Auction.set_up.Reads as set_up_lem
use Rattle.engine_auction.proofs.Auction.register.Reads as registration
use Rattle.engine_auction.proofs.Auction.register_for.Reads as registration_for_lem
use Rattle.engine_auction.proofs.Auction.open.Reads as opening
use Rattle.engine_auction.proofs.Auction.offer.Reads as offering
use Rattle.engine_auction.proofs.Auction.lodge.Reads as lodging
use Rattle.engine_auction.proofs.Auction.cancel.Reads as cancelling
use Rattle.engine_auction.proofs.Auction.close.Reads as closing
use Rattle.engine_auction.specs.contracts.Auction.register.{signature as register_signature}
use Rattle.engine_auction.specs.contracts.Auction.register_for.{signature as register_for_signature}
use Rattle.engine_auction.specs.contracts.Auction.offer.{signature as offer_signature}
use Rattle.engine_auction.specs.contracts.Auction.lodge.{signature as lodge_signature}
use Rattle.engine_auction.proofs.Auction.new.Statement as new_states
use Rattle.engine_auction.proofs.Auction.set_up.Statement as set_up_states
use Rattle.engine_auction.proofs.Auction.register.Statement as register_states
use Rattle.engine_auction.proofs.Auction.register_for.Statement as register_for_states
use Rattle.engine_auction.proofs.Auction.open.Statement as open_states
use Rattle.engine_auction.proofs.Auction.offer.Statement as offer_states
use Rattle.engine_auction.proofs.Auction.lodge.Statement as lodge_states
use Rattle.engine_auction.proofs.Auction.cancel.Statement as cancel_states
use Rattle.engine_auction.proofs.Auction.close.Statement as close_states
use Rattle.engine_looks.proofs.readings.preview_closing.Statement as preview_states
use Rattle.engine_looks.proofs.readings.supply_point.Statement as supply_point_states
use Rattle.engine_looks.proofs.forcing.who_can_force.Statement as who_can_force_states
use Rattle.engine_auction.proofs.Auction.new.Met as new_met
use Rattle.engine_auction.proofs.Auction.set_up.Met as set_up_met
use Rattle.engine_auction.proofs.Auction.register.Met as register_met
use Rattle.engine_auction.proofs.Auction.register_for.Met as register_for_met
use Rattle.engine_auction.proofs.Auction.open.Met as open_met
use Rattle.engine_auction.proofs.Auction.offer.Met as offer_met
use Rattle.engine_auction.proofs.Auction.lodge.Met as lodge_met
use Rattle.engine_auction.proofs.Auction.cancel.Met as cancel_met
use Rattle.engine_auction.proofs.Auction.close.Met as close_met
use Rattle.engine_looks.proofs.readings.preview_closing.Met as preview_met
use Rattle.engine_looks.proofs.readings.supply_point.Met as supply_point_met
use Rattle.engine_looks.proofs.forcing.who_can_force.Met as who_can_force_met

-- `Made c a r b`: the call c, made on the auction a, is answered r and returns b, as the method's own contract says
pub data Made : Call → Auction → Answered → Auction → Type 0 where
  sets_up_lem :
      {a : Auction} (ce d m1 m2 a₀ : ℕ) (r : Result Auction Refusal) →
      set_up_lem.Post tt (a, (ce, (d, (m1, (m2, (a₀, tt)))))) r (a, (ce, (d, (m1, (m2, (a₀, tt)))))) →
      Made (sets_up ce d m1 m2 a₀) a (answer_in r) (after a r)
  -- the arguments x: the auction, project, developer, kind, study value, start day, levels
  registers_one :
      (κs : Lfts 1) (x : ArgsD register_signature κs) (r : Result Auction Refusal) → registration.Post κs x r x →
      Made (registers x.1.0 x.1.1.0 x.1.1.1.0 x.1.1.1.1.0 x.1.1.1.1.1.0 x.1.1.1.1.1.1.0.now) x.0 (answer_in r)
      (after x.0 r)
  -- the same with the agent behind the kind (document 02, 10)
  registers_for_lem :
      (κs : Lfts 1) (x : ArgsD register_for_signature κs) (r : Result Auction Refusal) → registration_for_lem.Post κs x r x →
      Made (registers_for x.1.0 x.1.1.0 x.1.1.1.0 x.1.1.1.1.0 x.1.1.1.1.1.0 x.1.1.1.1.1.1.0
      x.1.1.1.1.1.1.1.0.now)
      x.0 (answer_in r) (after x.0 r)
  opens : {a : Auction} (c : ℕ) (r : Result Auction Refusal) → opening.Post tt (a, (c, tt)) r (a, (c, tt)) → Made (Open c) a (answer_in r) (after a r)
  -- the arguments x: the auction, developer, prices, levels
  offers :
      (κs : Lfts 2) (x : ArgsD offer_signature κs) (r : Result Auction Refusal) → offering.Post κs x r x →
      Made (By x.1.0 (Offer x.1.1.0.now x.1.1.1.0.now)) x.0 (answer_in r) (after x.0 r)
  -- the same arguments
  lodges :
      (κs : Lfts 2) (x : ArgsD lodge_signature κs) (r : Result Auction Refusal) → lodging.Post κs x r x →
      Made (By x.1.0 (Lodge x.1.1.0.now x.1.1.1.0.now)) x.0 (answer_in r) (after x.0 r)
  cancels : {a : Auction} (n : ℕ) (r : Result Auction Refusal) → cancelling.Post tt (a, (n, tt)) r (a, (n, tt)) → Made (By n Cancel) a (answer_in r) (after a r)
  closes : {a : Auction} (r : Result Closing Refusal) → closing.Post tt (a, tt) r (a, tt) → Made Close a (closing_in r) (after_closing a r)

pub by_contract : {c : Call} {a b : Auction} {r : Answered} → Made c a r b → Called c a b r
by_contract (sets_up_lem ce d m1 m2 a₀ r s) = s
by_contract (registers_one κs x r s) = s
by_contract (registers_for_lem κs x r s) = s
by_contract (opens c r s) = s
by_contract (offers κs x r s) = s
by_contract (lodges κs x r s) = s
by_contract (cancels n r s) = s
by_contract (closes r s) = s

-- `Run cs rs a`: the calls cs, one after the other from a fresh auction, are answered rs and lead to a
pub data Run : List Call → List Answered → Auction → Type 0 where
  fresh : {a : Auction} → new.Post tt tt a tt → Run [] [] a
  followed : {cs : List Call} {rs : List Answered} {c : Call} {r : Answered} {a b : Auction} → Run cs rs a → Made c a r b →
      Run (cs ++ (c ∷ [])) (rs ++ (r ∷ [])) b

pub run_reached : {cs : List Call} {rs : List Answered} {a : Auction} → Run cs rs a → (a ≡ held_auction (ledger cs)) × (rs ≡ answers cs)
unfolding answers answers_from
run_reached (fresh f) = (f, refl)
run_reached (followed {cs = cs} {c = c} {r = r} w m) =
    let f = run_reached w in
    let s = by_contract m in
    (s.next cs f.0, ap₂ (λ (xs : List Answered) (x : Answered). xs ++ (x ∷ [])) f.1 (s.answer cs f.0) ∙ sym (answers_snoc cs c))

-- THE THEOREM: each method meets its contract, in every model, and by the contracts alone the auction that a list of calls reaches holds
-- the ledger of the list, and the answers along the way are the ledger's
pub record EveryList (M : Type 1) : Type 2 where
  pub new_meets : new_states.statement M
  pub set_up_meets : set_up_states.statement M
  pub register_meets : register_states.statement M
  pub register_for_meets : register_for_states.statement M
  pub open_meets : open_states.statement M
  pub offer_meets : offer_states.statement M
  pub lodge_meets : lodge_states.statement M
  pub cancel_meets : cancel_states.statement M
  pub close_meets : close_states.statement M
  pub preview_meets : preview_states.statement M
  pub supply_point_meets : supply_point_states.statement M
  pub who_can_force_meets : who_can_force_states.statement M
  pub held : {cs : List Call} {rs : List Answered} {a : Auction} → Run cs rs a → a ≡ held_auction (ledger cs)
  pub answered : {cs : List Call} {rs : List Answered} {a : Auction} → Run cs rs a → rs ≡ answers cs

pub every_list : {M : Type 1} → EveryList M
every_list = record {
  new_meets = new_met.met;
  set_up_meets = set_up_met.met;
  register_meets = register_met.met;
  register_for_meets = register_for_met.met;
  open_meets = open_met.met;
  offer_meets = offer_met.met;
  lodge_meets = lodge_met.met;
  cancel_meets = cancel_met.met;
  close_meets = close_met.met;
  preview_meets = preview_met.met;
  supply_point_meets = supply_point_met.met;
  who_can_force_meets = who_can_force_met.met;
  held = λ w. (run_reached w).0;
  answered = λ w. (run_reached w).1;
}
