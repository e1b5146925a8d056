-- Refused where the record does not fit; else it is written.
use mathlib.Core.Path.{◌≡◌, sym, ◌∙◌}
use mathlib.Core.Bool.{true}
use borrow.Author.Tests.{leb-true}
use lib.Dec.{leb}
use lib.ListN.{length}
use Rattle.rules_seats.specs.sessions.Sessions.{session_record}
use Rattle.record_replay.proofs.session_record.Adding.{host_short, host_written}
use Rattle.record_replay.proofs.session_record.session_record.Goals as goal
use Rattle.record_replay.proofs.session_record.session_record.Goals.{Else-not-record_fits}

pub returns-then-not-record_fits : goal.returns-then-not-record_fits
returns-then-not-record_fits c =
    let fits = c.record_fits in
    let host = host_short _ _ (sym fits.ensures ∙ c.if-not-record_fits.true) in
    record { value = c.host_number.ensures ∙ host.0; out_after = host.1 }

fitting : (c : Else-not-record_fits) → leb (length (session_record c.args.session.now)) (length c.args.out.now) ≡ true
fitting c = let fits = c.record_fits in sym fits.ensures ∙ c.if-not-record_fits.false

pub put_record-requires : goal.put_record-requires
put_record-requires c = leb-true _ _ (fitting (goal.at.put_record-requires c).Else-not-record_fits)

pub returns : goal.returns
returns c =
    let host = host_written _ _ (fitting (goal.at.returns c).Else-not-record_fits) c.put_record.ensures in
    record { value = host.0; out_after = host.1 }
