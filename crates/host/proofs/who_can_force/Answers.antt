-- The library's answer, as the host's number.
use Rattle.host.specs.Forcing.{host_forcing_lem, record_forcing}
use Rattle.host.proofs.who_can_force.Goals as goal

pub returns : goal.returns
returns c =
    let told = record_forcing _ _ _ _ _ _ _ c.who_can_force.ensures in
    record { value = host_forcing_lem _ _ _ _ _ _ _ _ told c.host_outcome.ensures; chosen_after = told.buffer }
