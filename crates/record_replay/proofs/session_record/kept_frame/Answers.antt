-- A line that cannot be read, and one whose seat is barred, leave nothing; the others their frame.
use Prim.Native.Nat.{◌≤◌}
use mathlib.Core.Path.{◌≡◌, ap, ◌∙◌}
use native.Mathlib.Omega.{arith}
use lib.ListN.{length, take, drop}
use Rattle.rules_format.specs.Hex.{hex_number}
use Rattle.frame_reading.specs.frames.KindsRead.{kind_in}
use Rattle.seats.specs.session_lines.FrameParts.{frame_behind}
use Rattle.record_replay.proofs.session_record.Keeping.{nothing_kept, frame_there, barred_dropped, frame_stays}
use Rattle.record_replay.proofs.session_record.kept_frame.Goals as goal
use Rattle.record_replay.proofs.session_record.kept_frame.Goals.{After-developer_in, After-kind_in-kind}

-- the kind is that of the frame behind the line's seat, and so is the developer
kinded : (c : After-kind_in-kind) → c.kind_in-kind.result ≡ kind_in (frame_behind c.args.line.now)
kinded c = c.kind_in-kind.ensures ∙ ap kind_in c.frame_part-part.ensures

developer :
    (c : After-developer_in) →
    let frame = frame_behind c.args.line.now in
    4 ≤ length frame → c.developer_in.result ≡ hex_number (take 2 (drop 2 frame))
developer c = rw c.frame_part-part.ensures at c.developer_in.ensures

pub returns-then-kind-eq0-clause-left_out : goal.returns-then-kind-eq0-clause-left_out
returns-then-kind-eq0-clause-left_out c =
    nothing_kept _ _ (kinded (goal.at.returns-then-kind-eq0-clause-left_out c).After-kind_in-kind) c.if-kind-eq0.true

pub returns-then-is_barred-clause-left_out : goal.returns-then-is_barred-clause-left_out
returns-then-is_barred-clause-left_out c =
    let g = goal.at.returns-then-is_barred-clause-left_out c in
    barred_dropped _ _ (kinded g.After-kind_in-kind) c.if-kind-eq0.false _ (developer g.After-developer_in) _ c.is_barred.ensures c.if-is_barred.true

pub returns-clause-kept : goal.returns-clause-kept
returns-clause-kept c =
    let g = goal.at.returns-clause-kept c in
    let kind = kinded g.After-kind_in-kind in
    let there = frame_there _ _ kind c.if-kind-eq0.false _ (developer g.After-developer_in) in (
      c.frame_part-part.ensures
          ∙ frame_stays _ _ kind c.if-kind-eq0.false _ (developer g.After-developer_in) _ c.is_barred.ensures c.if-is_barred.false,
      omega (arith, ap length c.frame_part-part.ensures, there),
    )
