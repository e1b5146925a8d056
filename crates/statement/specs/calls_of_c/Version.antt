-- The engine's version, asked by C: the one number of its three. The call asks nothing and meets its contract.
use Rattle.std.specs.Prelude.{ℕ, ◌≡◌}
use contract.Lifetimes.{Lfts}
use denote.Triple.Clauses.{AtExit}
use borrow.Fn.World.{ArgsD}
use borrow.Fn.Kinds.{ended_of}
use Rattle.host.specs.Version.{engine_version}
use Rattle.host.specs.contracts.engine_version.{signature}
use Rattle.host.proofs.engine_version.Kinds as kinds
use Rattle.host.proofs.engine_version.Reads as asking
use Rattle.host.proofs.engine_version.Statement as asking_states
use Rattle.host.proofs.engine_version.Met as asking_met

-- there are no arguments
pub record VersionExported (M : Type 1) : Type 2 where
  pub meets : asking_states.statement M
  pub asks : (κs : Lfts 0) (x : ArgsD signature κs) → asking.Pre κs x × asking.Asked κs x
  pub returns :
      (κs : Lfts 0) (x : ArgsD signature κs) (r : ℕ) (y : AtExit (ended_of 0 kinds.ps kinds.r) κs) → asking.Post κs x r y → r ≡ engine_version

pub version_exported : {M : Type 1} → VersionExported M
version_exported = record {
  meets = asking_met.met;
  asks = λ κs x. (tt, tt);
  returns = λ κs x r y q. q;
}
