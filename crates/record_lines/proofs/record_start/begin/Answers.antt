-- Nothing is read, or the first line, whose set-up is accepted.
use Rattle.record_lines.proofs.record_start.Beginning.{begun_not, begun}
use Rattle.record_lines.proofs.record_start.begin.Goals as goal

pub returns-then-bytes-lt-SET_UP_LINE : goal.returns-then-bytes-lt-SET_UP_LINE
returns-then-bytes-lt-SET_UP_LINE c = begun_not c.args.bytes.now c.args.limit c.args.out.now c.new-fresh.result c.new-fresh.ensures

pub returns-in_default : goal.returns-in_default
returns-in_default c = begun_not c.args.bytes.now c.args.limit c.args.out.now c.new-fresh.result c.new-fresh.ensures

pub returns-in_default-turned : goal.returns-in_default-turned
returns-in_default-turned c = begun_not c.args.bytes.now c.args.limit c.args.out.now c.new-fresh.result c.new-fresh.ensures

pub returns : goal.returns
returns c =
    begun c.new-fresh.result c.new-fresh.ensures _ _ _ _ _ _ c.in-Some.ensures c.in-Ok.clock c.in-Ok.ensures
    _ _ _ _ _ c.if-bytes-lt-SET_UP_LINE.false
    c.next_line-line.ensures c.plain_at-written.ensures
