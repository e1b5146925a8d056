-- The call that a decoded frame holds, none where its kind is 0.
use Rattle.std.specs.Prelude.{◌≡◌, cond, eqb, take, replicate}
use Rattle.std.proofs.Math.Option.{Option, none, some}
use Rattle.std.proofs.Common.{eq-eqb, ne_eqb}
use Rattle.rules_format.specs.Fields.{RawCall, raw_call}
use Rattle.frame_reading.specs.declared.frames.Frame.{Frame}

abbrev pub raw_call_in : Frame → RawCall
raw_call_in f = raw_call f.kind (take f.count f.fields)

unfoldable pub call_in : Frame → Option RawCall
call_in f = cond (eqb f.kind 0) none (some (raw_call_in f))

-- zero in every place
abbrev pub Zero : Frame → Type 0
Zero f = (f.kind ≡ 0) × (f.count ≡ 0) × (f.fields ≡ replicate 32 0)

-- ---- laws

module _ (f : Frame) where
  pub call_none : f.kind ≡ 0 → call_in f ≡ none
  unfolding call_in
  call_none e = rw (eq-eqb f.kind 0 e)

  pub call_some : (f.kind ≡ 0 → ⊥) → call_in f ≡ some (raw_call_in f)
  unfolding call_in
  call_some h = rw (ne_eqb f.kind 0 h)
