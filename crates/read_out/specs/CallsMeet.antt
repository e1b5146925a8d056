-- READ OUT, that each function meets its contract, in every model M: the calls on an auction, those that read it, settling, demand, the sealed auction
-- and the nine writing calls. What the other files conclude is of answers as these contracts have them, so it is of the engine's own.
use Rattle.engine_auction.proofs.Auction.new.Statement as new_states
use Rattle.engine_auction.proofs.Auction.set_up.Statement as set_up_states
use Rattle.engine_auction.proofs.Auction.register.Statement as register_states
use Rattle.engine_auction.proofs.Auction.register_for.Statement as register_for_states
use Rattle.engine_auction.proofs.Auction.open.Statement as open_states
use Rattle.engine_auction.proofs.Auction.offer.Statement as offer_states
use Rattle.engine_auction.proofs.Auction.lodge.Statement as lodge_states
use Rattle.engine_auction.proofs.Auction.cancel.Statement as cancel_states
use Rattle.engine_auction.proofs.Auction.close.Statement as close_states
use Rattle.engine_looks.proofs.readings.preview_closing.Statement as preview_states
use Rattle.engine_looks.proofs.readings.supply_point.Statement as supply_point_states
use Rattle.engine_looks.proofs.forcing.who_can_force.Statement as who_can_force_states
use Rattle.engine_settling.proofs.settle.Statement as settle_states
use Rattle.engine_demand.proofs.demand.Statement as demand_states
use Rattle.engine_sealed.proofs.sealed_auction.sealed_auction.Statement as sealed_states
use Rattle.frame_writing.proofs.each_call.write_set_up.Statement as write_set_up_states
use Rattle.frame_writing.proofs.each_call.write_registration.Statement as write_registration_states
use Rattle.frame_writing.proofs.each_call.write_registration_for.Statement as write_registration_for_states
use Rattle.frame_writing.proofs.each_call.write_opening.Statement as write_opening_states
use Rattle.frame_writing.proofs.each_call.write_offer.Statement as write_offer_states
use Rattle.frame_writing.proofs.each_call.write_lodging.Statement as write_lodging_states
use Rattle.frame_writing.proofs.each_call.write_cancellation.Statement as write_cancellation_states
use Rattle.frame_writing.proofs.each_call.write_closing.Statement as write_closing_states
use Rattle.frame_writing.proofs.each_call.write_settling.Statement as write_settling_states
use Rattle.statement.specs.EngineCorrect.{EngineCorrect}

module _ {M : Type 1} (s : EngineCorrect M) where
  -- ---- the calls on an auction, in the order of its life

  pub new_meets : new_states.statement M
  new_meets = s.calls.new_meets

  pub set_up_meets : set_up_states.statement M
  set_up_meets = s.calls.set_up_meets

  pub register_meets : register_states.statement M
  register_meets = s.calls.register_meets

  pub register_for_meets : register_for_states.statement M
  register_for_meets = s.calls.register_for_meets

  pub open_meets : open_states.statement M
  open_meets = s.calls.open_meets

  pub offer_meets : offer_states.statement M
  offer_meets = s.calls.offer_meets

  pub lodge_meets : lodge_states.statement M
  lodge_meets = s.calls.lodge_meets

  pub cancel_meets : cancel_states.statement M
  cancel_meets = s.calls.cancel_meets

  pub close_meets : close_states.statement M
  close_meets = s.calls.close_meets

  -- ---- what reads it, and settling

  pub preview_meets : preview_states.statement M
  preview_meets = s.calls.preview_meets

  pub supply_point_meets : supply_point_states.statement M
  supply_point_meets = s.calls.supply_point_meets

  pub who_can_force_meets : who_can_force_states.statement M
  who_can_force_meets = s.calls.who_can_force_meets

  pub settle_meets : settle_states.statement M
  settle_meets = s.settle_meets

  -- ---- beside an auction: demand, and the sealed auction

  pub demand_meets : demand_states.statement M
  demand_meets = s.demand.meets

  pub sealed_meets : sealed_states.statement M
  sealed_meets = s.sealed.meets

  -- ---- the nine writing calls

  pub write_set_up_meets : write_set_up_states.statement M
  write_set_up_meets = s.frames.meets.set_up_meets

  pub write_registration_meets : write_registration_states.statement M
  write_registration_meets = s.frames.meets.registration_meets

  pub write_registration_for_meets : write_registration_for_states.statement M
  write_registration_for_meets = s.frames.meets.registration_for_meets

  pub write_opening_meets : write_opening_states.statement M
  write_opening_meets = s.frames.meets.opening_meets

  pub write_offer_meets : write_offer_states.statement M
  write_offer_meets = s.frames.meets.offer_meets

  pub write_lodging_meets : write_lodging_states.statement M
  write_lodging_meets = s.frames.meets.lodging_meets

  pub write_cancellation_meets : write_cancellation_states.statement M
  write_cancellation_meets = s.frames.meets.cancellation_meets

  pub write_closing_meets : write_closing_states.statement M
  write_closing_meets = s.frames.meets.closing_meets

  pub write_settling_meets : write_settling_states.statement M
  write_settling_meets = s.frames.meets.settling_meets
