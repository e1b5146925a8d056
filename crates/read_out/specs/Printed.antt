-- READ OUT, what the programs print (document 01, Frames): of `replay` what it prints for a record, of `trace` what stands around a reply, and what a
-- line that is no frame reads as; from the statement alone.
use Rattle.std.specs.Prelude.{ℕ, ◌+◌, ◌≤◌, ◌<◌, ◌≡◌, Bool, true, false, List, [], length, Option, Result}
use Rattle.std.proofs.Math.Option.{none}
use contract.Lifetimes.{Lfts}
use denote.Triple.Clauses.{AtExit}
use borrow.Fn.World.{ArgsD}
use borrow.Fn.Kinds.{ended_of}
use Rattle.rules_numbers.specs.Tails.{laid}
use Rattle.rules_format.specs.Fields.{read}
use Rattle.rules_replies.specs.Replies.{replies}
use Rattle.engine_refusals.specs.declared.Refusal.{Refusal}
use Rattle.engine_looks.specs.declared.readings.Preview.{Preview}
use Rattle.engine_settling.specs.declared.Settlement.{Settlement}
use Rattle.trace_text.specs.decimal_text.Puts.{Puts}
use Rattle.trace_text.specs.settling_text.SettledLines.{settled_lines}
use Rattle.trace_text.specs.Words.{closed_lines, preview_line, point_line, lines_before, lines_below}
use Rattle.record_replay.specs.Replayed.{printed}
use Rattle.frame_reading.specs.frames.Decoded.{call_in, Zero}
use Rattle.frame_reading.specs.declared.frames.Frame.{Frame}
use Rattle.record_replay.specs.contracts.print.{signature as print_signature}
use Rattle.record_replay.proofs.print.Kinds as print_kinds
use Rattle.record_replay.proofs.print.Reads as printing
use Rattle.record_replay.proofs.print.Statement as print_states
use Rattle.trace_text.specs.contracts.put_before.{signature as before_signature}
use Rattle.trace_text.proofs.put_before.Kinds as before_kinds
use Rattle.trace_text.proofs.put_before.Reads as before_reads
use Rattle.trace_text.proofs.put_before.Statement as before_states
use Rattle.trace_text.specs.contracts.put_below.{signature as below_signature}
use Rattle.trace_text.proofs.put_below.Kinds as below_kinds
use Rattle.trace_text.proofs.put_below.Reads as below_reads
use Rattle.trace_text.proofs.put_below.Statement as below_states
use Rattle.trace_text.specs.contracts.put_point.{signature as point_signature}
use Rattle.trace_text.proofs.put_point.Kinds as point_kinds
use Rattle.trace_text.proofs.put_point.Reads as point_reads
use Rattle.trace_text.proofs.put_point.Statement as point_states
use Rattle.frame_reading.specs.contracts.frames.decode.{signature as decode_signature}
use Rattle.frame_reading.proofs.frames.decode.Kinds as decode_kinds
use Rattle.frame_reading.proofs.frames.decode.Reads as decoding
use Rattle.frame_reading.proofs.frames.decode.Statement as decode_states
use Rattle.statement.specs.calls_of_c.Programs.{too_long, Printed, PrintStated, TraceStated, Decoded, DecodeStated, ProgramsStated}
use Rattle.statement.specs.EngineCorrect.{EngineCorrect}

-- ---- calls made, as their own contracts have it

-- for this record, in a buffer of the bytes `old`, r bytes are printed of what is then `new`
pub data Prints : (bytes old new : List ℕ) → ℕ → Type 0 where
  prints :
      (κs : Lfts 2) (x : ArgsD print_signature κs) (r : ℕ) (y : AtExit (ended_of 2 print_kinds.ps print_kinds.r) κs) → printing.Post κs x r y →
      Prints x.0.now x.1.0.now y.1.0.now r

-- at the place a of the buffer `old`, before a reply of this kind; b is the place behind
pub data PutsBefore : (kind : ℕ) (p : Result Preview Refusal) (old new : List ℕ) (a b : ℕ) → Type 0 where
  puts_before :
      (κs : Lfts 1) (x : ArgsD before_signature κs) (r : ℕ) (y : AtExit (ended_of 1 before_kinds.ps before_kinds.r) κs) →
      before_reads.Post κs x r y → PutsBefore x.1.1.0 x.1.1.1.0 x.0.now y.0.now x.1.0 r

-- below it
pub data PutsBelow : (kind : ℕ) (accepted : Bool) (p : Result Preview Refusal) (s : Option Settlement) (awards old new : List ℕ) (a b : ℕ) → Type 0 where
  puts_below :
      (κs : Lfts 1) (x : ArgsD below_signature κs) (r : ℕ) (y : AtExit (ended_of 1 below_kinds.ps below_kinds.r) κs) → below_reads.Post κs x r y →
      PutsBelow x.1.1.0 x.1.1.1.0 x.1.1.1.1.0 x.1.1.1.1.1.0 x.1.1.1.1.1.1.0 x.0.now y.0.now x.1.0 r

-- a point of the supply curve
pub data PutsPoint : (price before after : ℕ) (old new : List ℕ) (a b : ℕ) → Type 0 where
  puts_point :
      (κs : Lfts 1) (x : ArgsD point_signature κs) (r : ℕ) (y : AtExit (ended_of 1 point_kinds.ps point_kinds.r) κs) → point_reads.Post κs x r y →
      PutsPoint x.1.1.0 x.1.1.1.0 x.1.1.1.1.0 x.0.now y.0.now x.1.0 r

-- a line reads as this frame
pub data Decodes : (line : List ℕ) → Frame → Type 0 where
  decodes :
      (κs : Lfts 1) (x : ArgsD decode_signature κs) (f : Frame) (y : AtExit (ended_of 1 decode_kinds.ps decode_kinds.r) κs) → decoding.Post κs x f y →
      Decodes x.0.now f

-- ---- the parts of the statement

pub of_programs : {M : Type 1} → EngineCorrect M → ProgramsStated M
of_programs s = s.exported.programs

module _ {M : Type 1} (e : ProgramsStated M) where
  pub of_print : PrintStated M
  of_print = e.print

  pub of_trace : TraceStated M
  of_trace = e.trace

  pub of_decode : DecodeStated M
  of_decode = e.decode

-- ---- `replay`

module _ {M : Type 1} (e : PrintStated M) where
  pub print_meets : print_states.statement M
  print_meets = e.meets

  -- it asks for 65,536 bytes and nothing else
  pub print_asks_room : (κs : Lfts 2) (x : ArgsD print_signature κs) → 65536 ≤ length x.1.0.now → printing.Pre κs x × printing.Asked κs x
  print_asks_room κs x h = e.asks κs x h

  pub print_returned : {bytes old new : List ℕ} {r : ℕ} → Prints bytes old new r → Printed bytes old new r
  print_returned (prints κs x r y q) = e.returns κs x r y q

  pub print_decided :
      (bytes old new new' : List ℕ) (r r' : ℕ) → Printed bytes old new r → Printed bytes old new' r' → (r ≡ r') × (new ≡ new')
  print_decided bytes old new new' r r' w v = e.determined bytes old new new' r r' w v

module _ {bytes old new : List ℕ} {r : ℕ} (w : Printed bytes old new r) where
  pub replies_printed : length bytes ≤ 65536 → length (replies bytes) ≤ 65536 → (r ≡ length (replies bytes)) × (new ≡ laid (replies bytes) old)
  replies_printed h g = w.replied h g

  -- FF0B and 0A
  pub long_record_printed : 65536 < length bytes → (r ≡ 5) × (new ≡ laid too_long old)
  long_record_printed h = w.record_too_long h

  pub long_replies_printed : 65536 < length (replies bytes) → (r ≡ 5) × (new ≡ laid too_long old)
  long_replies_printed h = w.replies_too_long h

  pub text_printed : (r ≡ length (printed bytes)) × (new ≡ laid (printed bytes) old)
  text_printed = w.by_definition

pub same_print :
    {M : Type 1} (s : EngineCorrect M) {bytes old new new' : List ℕ} {r r' : ℕ} → Prints bytes old new r → Prints bytes old new' r' →
    (r ≡ r') × (new ≡ new')
same_print s w v = let e = of_print (of_programs s) in print_decided e _ _ _ _ _ _ (print_returned e w) (print_returned e v)

-- ---- `trace`

module _ {M : Type 1} (e : TraceStated M) where
  pub before_meets : before_states.statement M
  before_meets = e.before_meets

  pub below_meets : below_states.statement M
  below_meets = e.below_meets

  pub point_meets : point_states.statement M
  point_meets = e.point_meets

  -- each asks for room behind its place and nothing else
  pub before_asks_room :
      (κs : Lfts 1) (x : ArgsD before_signature κs) → x.1.0 + 100 ≤ length x.0.now → before_reads.Pre κs x × before_reads.Asked κs x
  before_asks_room κs x h = e.before_asks κs x h

  pub below_asks_room :
      (κs : Lfts 1) (x : ArgsD below_signature κs) → x.1.0 + 3000 ≤ length x.0.now → below_reads.Pre κs x × below_reads.Asked κs x
  below_asks_room κs x h = e.below_asks κs x h

  pub point_asks_room :
      (κs : Lfts 1) (x : ArgsD point_signature κs) → x.1.0 + 100 ≤ length x.0.now → point_reads.Pre κs x × point_reads.Asked κs x
  point_asks_room κs x h = e.point_asks κs x h

  pub before_returned :
      {kind : ℕ} {p : Result Preview Refusal} {old new : List ℕ} {a b : ℕ} → PutsBefore kind p old new a b → Puts (lines_before kind p) 100 old new a b
  before_returned (puts_before κs x r y q) = e.before_returns κs x r y q

  pub below_returned :
      {kind : ℕ} {accepted : Bool} {p : Result Preview Refusal} {t : Option Settlement} {awards old new : List ℕ} {a b : ℕ} →
      PutsBelow kind accepted p t awards old new a b → Puts (lines_below kind accepted p t awards) 3000 old new a b
  below_returned (puts_below κs x r y q) = e.below_returns κs x r y q

  pub point_returned :
      {price before after : ℕ} {old new : List ℕ} {a b : ℕ} → PutsPoint price before after old new a b →
      Puts (point_line price before after) 100 old new a b
  point_returned (puts_point κs x r y q) = e.point_returns κs x r y q

  pub preview_before : (kind : ℕ) (p : Result Preview Refusal) → (kind ≡ 5 → lines_before kind p ≡ preview_line p) × ((kind ≡ 5 → ⊥) → lines_before kind p ≡ [])
  preview_before kind p = e.lines_before_lem kind p

  pub words_below :
      (kind : ℕ) (p : Result Preview Refusal) (accepted : Bool) (t : Option Settlement) (awards : List ℕ) →
      (accepted ≡ false → lines_below kind accepted p t awards ≡ [])
      × (accepted ≡ true → kind ≡ 5 → lines_below kind accepted p t awards ≡ closed_lines p)
      × (accepted ≡ true → kind ≡ 6 → lines_below kind accepted p t awards ≡ settled_lines t awards)
      × ((kind ≡ 5 → ⊥) → (kind ≡ 6 → ⊥) → lines_below kind accepted p t awards ≡ [])
  words_below kind p accepted t awards = e.lines_below_lem kind p accepted t awards

  -- one text at one place of buffers of equal bytes, whichever of the three writes it: one place behind it and one buffer
  pub text_decided :
      (text : List ℕ) (most : ℕ) (old new new' : List ℕ) (a b b' : ℕ) → Puts text most old new a b → Puts text most old new' a b' →
      (b ≡ b') × (new ≡ new')
  text_decided text most old new new' a b b' w v = e.determined text most old new new' a b b' w v

module _ {M : Type 1} (s : EngineCorrect M) {old new new' : List ℕ} {a b b' : ℕ} where
  pub same_before :
      (kind : ℕ) (p : Result Preview Refusal) → PutsBefore kind p old new a b → PutsBefore kind p old new' a b' → (b ≡ b') × (new ≡ new')
  same_before kind p w v = let e = of_trace (of_programs s) in text_decided e _ _ _ _ _ _ _ _ (before_returned e w) (before_returned e v)

  pub same_below :
      (kind : ℕ) (accepted : Bool) (p : Result Preview Refusal) (t : Option Settlement) (awards : List ℕ) → PutsBelow kind accepted p t awards old new a b →
      PutsBelow kind accepted p t awards old new' a b' → (b ≡ b') × (new ≡ new')
  same_below kind accepted p t awards w v =
      let e = of_trace (of_programs s) in text_decided e _ _ _ _ _ _ _ _ (below_returned e w) (below_returned e v)

  pub same_point :
      (price before after : ℕ) → PutsPoint price before after old new a b → PutsPoint price before after old new' a b' → (b ≡ b') × (new ≡ new')
  same_point price before after w v =
      let e = of_trace (of_programs s) in text_decided e _ _ _ _ _ _ _ _ (point_returned e w) (point_returned e v)

-- ---- a line read

module _ {M : Type 1} (e : DecodeStated M) where
  pub decode_meets : decode_states.statement M
  decode_meets = e.meets

  pub decode_asks_nothing : (κs : Lfts 1) (x : ArgsD decode_signature κs) → decoding.Pre κs x × decoding.Asked κs x
  decode_asks_nothing κs x = e.asks κs x

  pub decode_returned : {line : List ℕ} {f : Frame} → Decodes line f → Decoded line f
  decode_returned (decodes κs x f y q) = e.returns κs x f y q

  pub decode_decided : (line : List ℕ) (f f' : Frame) → Decoded line f → Decoded line f' → (call_in f ≡ call_in f') × (read line ≡ none → f ≡ f')
  decode_decided line f f' w v = e.determined line f f' w v

module _ {line : List ℕ} {f : Frame} (w : Decoded line f) where
  pub call_decoded : call_in f ≡ read line
  call_decoded = w.call

  -- a line that is no frame: zero in every place
  pub malformed_decoded : read line ≡ none → Zero f
  malformed_decoded n = w.malformed n

pub same_decoding :
    {M : Type 1} (s : EngineCorrect M) {line : List ℕ} {f f' : Frame} → Decodes line f → Decodes line f' →
    (call_in f ≡ call_in f') × (read line ≡ none → f ≡ f')
same_decoding s w v = let e = of_decode (of_programs s) in decode_decided e _ _ _ (decode_returned e w) (decode_returned e v)
