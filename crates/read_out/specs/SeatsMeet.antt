-- READ OUT, that each call through a seat of a hall (document 02, 14) meets its contract, in every model M.
use Rattle.hall.proofs.Hall.new.Statement as new_states
use Rattle.hall.proofs.Hall.set_up.Statement as set_up_states
use Rattle.hall.proofs.Hall.register.Statement as register_states
use Rattle.hall.proofs.Hall.register_for.Statement as register_for_states
use Rattle.hall.proofs.Hall.open.Statement as open_states
use Rattle.hall.proofs.Hall.offer.Statement as offer_states
use Rattle.hall.proofs.Hall.lodge.Statement as lodge_states
use Rattle.hall.proofs.Hall.cancel.Statement as cancel_states
use Rattle.hall.proofs.Hall.close.Statement as close_states
use Rattle.hall.proofs.hall_readings.preview_closing.Statement as preview_states
use Rattle.hall.proofs.hall_readings.supply_point.Statement as supply_point_states
use Rattle.hall.proofs.hall_readings.who_can_force.Statement as who_can_force_states
use Rattle.hall.proofs.hall_readings.read.Statement as reading_states
use Rattle.hall.proofs.hall_readings.settle.Statement as settle_states
use Rattle.statement.specs.EngineCorrect.{EngineCorrect}

module _ {M : Type 1} (s : EngineCorrect M) where
  -- ---- the calls that change the hall

  pub new_meets : new_states.statement M
  new_meets = s.seats.meets.new_meets

  pub set_up_meets : set_up_states.statement M
  set_up_meets = s.seats.meets.set_up_meets

  pub register_meets : register_states.statement M
  register_meets = s.seats.meets.register_meets

  pub register_for_meets : register_for_states.statement M
  register_for_meets = s.seats.meets.register_for_meets

  pub open_meets : open_states.statement M
  open_meets = s.seats.meets.open_meets

  pub offer_meets : offer_states.statement M
  offer_meets = s.seats.meets.offer_meets

  pub lodge_meets : lodge_states.statement M
  lodge_meets = s.seats.meets.lodge_meets

  pub cancel_meets : cancel_states.statement M
  cancel_meets = s.seats.meets.cancel_meets

  pub close_meets : close_states.statement M
  close_meets = s.seats.meets.close_meets

  -- ---- those that leave it as it is

  pub preview_meets : preview_states.statement M
  preview_meets = s.seats.meets.preview_meets

  pub supply_point_meets : supply_point_states.statement M
  supply_point_meets = s.seats.meets.supply_point_meets

  pub who_can_force_meets : who_can_force_states.statement M
  who_can_force_meets = s.seats.meets.who_can_force_meets

  pub reading_meets : reading_states.statement M
  reading_meets = s.seats.meets.reading_meets

  pub settle_meets : settle_states.statement M
  settle_meets = s.seats.meets.settle_meets
