-- The library's answer, as the host's number.
use mathlib.Core.Path.{ap, ◌∙◌}
use Rattle.record_replay.specs.host_numbers.HostNumbers.{host_number}
use Rattle.host.specs.Sealing.{lent_answer, host_sealed_lem}
use Rattle.host.proofs.sealed_auction.Goals as goal

pub returns : goal.returns
returns c =
    let lent = c.sealed_auction.ensures in
    record { value = host_sealed_lem _ _ _ _ _ _ _ lent (c.host_number.ensures ∙ ap host_number (lent_answer _)); awards_after = lent.buffer }
