-- An element of an array of bytes.
use mir.Syntax.{w8}
use mir.Val.{Fits}
use lib.ListN.{get_or}
use Rattle.std.proofs.Common.{rules}
use Rattle.trace_text.proofs.award_text.byte_at.Goals as goal

pub returns : goal.returns
returns c =
    let f : Fits w8 (get_or c.args.awards c.args.i 0) = search rules in
    (c.from.ensures, rw c.from.ensures f.fits)
