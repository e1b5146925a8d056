-- One byte set is that byte and the rest.
use lib.Seq.{set_split}
use Rattle.rules_numbers.specs.Tails.{laid}
use Rattle.frame_bytes.proofs.field_writing.put_byte.Goals as goal

pub returns : goal.returns
unfolding laid
returns c = set_split c.args.out.now 0 c.args.b c.requires
