-- The library's answer, as the host's number.
use Rattle.host.specs.Writing.{host_writes}
use Rattle.host.proofs.write_closing.Goals as goal

pub returns : goal.returns
returns c = host_writes _ _ _ _ _ c.write_closing.ensures c.host_bytes.ensures
