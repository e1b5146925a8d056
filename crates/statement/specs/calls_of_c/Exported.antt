-- UP TO C: what a host that links the twenty-seven exported calls gets, a part of the statement (`EngineCorrect`). For every record, list,
-- number and lent buffer, what each call returns and every byte or number of its buffers, by the definitions and in the statement's words; that each
-- of them asks nothing of its arguments; and that it meets its contract, in every model. Beside them what the programs print.
use Rattle.statement.specs.calls_of_c.Version.{VersionExported, version_exported}
use Rattle.statement.specs.calls_of_c.Demand.{DemandExported, demand_exported}
use Rattle.statement.specs.calls_of_c.Replay.{ReplayExported, replay_exported}
use Rattle.statement.specs.calls_of_c.Forcing.{ForcingExported, forcing_exported}
use Rattle.statement.specs.calls_of_c.Sealed.{SealedExported, sealed_exported}
use Rattle.statement.specs.calls_of_c.Writers.{WritersExported, writers_exported}
use Rattle.statement.specs.calls_of_c.RecordFigures.{RecordFiguresExported, record_figures_exported}
use Rattle.statement.specs.calls_of_c.Sessions.{SessionsExported, sessions_exported}
use Rattle.statement.specs.calls_of_c.Programs.{ProgramsStated, programs_stated}

pub record ExportedStated (M : Type 1) : Type 2 where
  -- the engine's version
  pub version : VersionExported M
  -- demand and its remainder (document 01, Demand; document 02, 4)
  pub demand : DemandExported M
  -- a record and its replies, settlings included (document 01, Frames; demand 3)
  pub replay : ReplayExported M
  -- who can force the price in the auction that a record leaves behind (document 02, 11)
  pub forcing : ForcingExported M
  -- the sealed auction for long builds (document 02, 13)
  pub sealed : SealedExported M
  -- frames written, a call for each kind (document 02, 2)
  pub writers : WritersExported M
  -- state, preview of a closing, supply curve and settlement of the auction that a record leaves behind (document 02, 6 and 9; demand 3)
  pub record_figures : RecordFiguresExported M
  -- a session: calls through seats, what each seat is told, and the promise to developers (document 02, 14)
  pub sessions : SessionsExported M
  -- what the programs print, from the functions below their `main`s
  pub programs : ProgramsStated M

pub exported_stated : {M : Type 1} → ExportedStated M
exported_stated = record {
  version = version_exported;
  demand = demand_exported;
  replay = replay_exported;
  forcing = forcing_exported;
  sealed = sealed_exported;
  writers = writers_exported;
  record_figures = record_figures_exported;
  sessions = sessions_exported;
  programs = programs_stated;
}
