-- The size of a call's frame.
use Rattle.std.specs.Prelude.{ℕ, cond, length, Option, Some, None}
use Rattle.rules_format.specs.Fields.{RawCall}
use Rattle.rules_format.specs.Written.{frame_of, writable}

-- the bytes of a writable call's frame; no other call has one
unfoldable pub frame_size : RawCall → Option ℕ
frame_size c = cond (writable c) (Some (length (frame_of c))) None
