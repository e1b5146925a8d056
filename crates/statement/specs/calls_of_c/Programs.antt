-- WHAT THE PROGRAMS PRINT, a part of the statement, from the functions below their `main`s. Of `replay` (document 01, Frames) for every record and every
-- buffer of at least 65,536 bytes: the replies where record and replies have at most so many, else FF0B and 0A; they stand over the buffer's start. Of
-- `trace` what stands before and below each reply, at any place with room for it: all other bytes stay. And a line that is no frame reads as zeros.
-- Each function meets its contract, and asks the room alone that is named.
use Rattle.std.specs.Prelude.{ℕ, ◌+◌, ◌≤◌, ◌<◌, ◌≡◌, refl, Bool, true, false, ◌&&◌, List, [], ◌∷◌, ◌++◌, leb, eqb, length, take, drop, replicate, Option, Result}
use Rattle.std.proofs.Common.{sym, ap, ◌∙◌, ⊎_elim}
use Rattle.std.proofs.Math.Option.{none, some-ne-none}
use borrow.Author.Tests.{le-leb, lt-leb, eqb-true, eqb-false}
use contract.Lifetimes.{Lfts}
use denote.Triple.Clauses.{AtExit}
use borrow.Fn.World.{ArgsD}
use borrow.Fn.Kinds.{ended_of}
use Rattle.rules_numbers.specs.Cases.{le_or_lt}
use Rattle.rules_numbers.specs.Tails.{laid}
use Rattle.rules_format.specs.Hex.{char_of, digits}
use Rattle.rules_format.specs.Fields.{read}
use Rattle.rules_replies.specs.Replies.{answer_line, replies}
use Rattle.engine_refusals.specs.declared.Refusal.{Refusal}
use Rattle.engine_looks.specs.declared.readings.Preview.{Preview}
use Rattle.engine_settling.specs.declared.Settlement.{Settlement}
use Rattle.trace_text.specs.decimal_text.Puts.{Puts}
use Rattle.trace_text.specs.settling_text.SettledLines.{settled_lines}
use Rattle.trace_text.specs.Words.{closed_lines, preview_line, point_line, lines_before, lines_below}
use Rattle.trace_text.specs.WordsLaws.{before_closing, before_other, below_refused, below_closing, below_settling, below_other}
use Rattle.record_replay.specs.Replayed.{printed}
use Rattle.frame_reading.specs.frames.Decoded.{call_in, Zero, call_some}
use Rattle.frame_reading.specs.declared.frames.Frame.{Frame}
use Rattle.record_replay.specs.contracts.print.{signature as print_signature}
use Rattle.record_replay.proofs.print.Kinds as print_kinds
use Rattle.record_replay.proofs.print.Reads as printing
use Rattle.record_replay.proofs.print.Statement as print_states
use Rattle.record_replay.proofs.print.Met as print_met
use Rattle.trace_text.specs.contracts.put_before.{signature as before_signature}
use Rattle.trace_text.proofs.put_before.Kinds as before_kinds
use Rattle.trace_text.proofs.put_before.Reads as before_reads
use Rattle.trace_text.proofs.put_before.Statement as before_states
use Rattle.trace_text.proofs.put_before.Met as before_met
use Rattle.trace_text.specs.contracts.put_below.{signature as below_signature}
use Rattle.trace_text.proofs.put_below.Kinds as below_kinds
use Rattle.trace_text.proofs.put_below.Reads as below_reads
use Rattle.trace_text.proofs.put_below.Statement as below_states
use Rattle.trace_text.proofs.put_below.Met as below_met
use Rattle.trace_text.specs.contracts.put_point.{signature as point_signature}
use Rattle.trace_text.proofs.put_point.Kinds as point_kinds
use Rattle.trace_text.proofs.put_point.Reads as point_reads
use Rattle.trace_text.proofs.put_point.Statement as point_states
use Rattle.trace_text.proofs.put_point.Met as point_met
use Rattle.frame_reading.specs.contracts.frames.decode.{signature as decode_signature}
use Rattle.frame_reading.proofs.frames.decode.Kinds as decode_kinds
use Rattle.frame_reading.proofs.frames.decode.Reads as decoding
use Rattle.frame_reading.proofs.frames.decode.Statement as decode_states
use Rattle.frame_reading.proofs.frames.decode.Met as decode_met

-- FF0B and 0A
abbrev pub too_long : List ℕ
too_long = 70 ∷ 70 ∷ 48 ∷ 66 ∷ 10 ∷ []

-- of this record; `old` and `new` are the buffer before and after, r is how many of its bytes are printed
pub record Printed (bytes old new : List ℕ) (r : ℕ) : Type 0 where
  pub replied :
      length bytes ≤ 65536 → length (replies bytes) ≤ 65536 → (r ≡ length (replies bytes)) × (new ≡ laid (replies bytes) old)
  pub record_too_long : 65536 < length bytes → (r ≡ 5) × (new ≡ laid too_long old)
  pub replies_too_long : 65536 < length (replies bytes) → (r ≡ 5) × (new ≡ laid too_long old)
  pub by_definition : (r ≡ length (printed bytes)) × (new ≡ laid (printed bytes) old)

-- the arguments x: the record, the buffer; y: the same at the call's end
pub record PrintStated (M : Type 1) : Type 2 where
  pub meets : print_states.statement M
  pub asks : (κs : Lfts 2) (x : ArgsD print_signature κs) → 65536 ≤ length x.1.0.now → printing.Pre κs x × printing.Asked κs x
  pub returns :
      (κs : Lfts 2) (x : ArgsD print_signature κs) (r : ℕ) (y : AtExit (ended_of 2 print_kinds.ps print_kinds.r) κs) → printing.Post κs x r y →
      Printed x.0.now x.1.0.now y.1.0.now r
  -- what is stated leaves nothing free
  pub determined :
      (bytes old new new' : List ℕ) (r r' : ℕ) → Printed bytes old new r → Printed bytes old new' r' → (r ≡ r') × (new ≡ new')

-- the arguments x: the buffer, the place in it, then what is told; y: the same at the call's end
pub record TraceStated (M : Type 1) : Type 2 where
  pub before_meets : before_states.statement M
  pub before_asks :
      (κs : Lfts 1) (x : ArgsD before_signature κs) → x.1.0 + 100 ≤ length x.0.now → before_reads.Pre κs x × before_reads.Asked κs x
  pub before_returns :
      (κs : Lfts 1) (x : ArgsD before_signature κs) (r : ℕ) (y : AtExit (ended_of 1 before_kinds.ps before_kinds.r) κs) →
      before_reads.Post κs x r y → Puts (lines_before x.1.1.0 x.1.1.1.0) 100 x.0.now y.0.now x.1.0 r
  pub below_meets : below_states.statement M
  pub below_asks :
      (κs : Lfts 1) (x : ArgsD below_signature κs) → x.1.0 + 3000 ≤ length x.0.now → below_reads.Pre κs x × below_reads.Asked κs x
  pub below_returns :
      (κs : Lfts 1) (x : ArgsD below_signature κs) (r : ℕ) (y : AtExit (ended_of 1 below_kinds.ps below_kinds.r) κs) → below_reads.Post κs x r y →
      Puts (lines_below x.1.1.0 x.1.1.1.0 x.1.1.1.1.0 x.1.1.1.1.1.0 x.1.1.1.1.1.1.0) 3000
      x.0.now y.0.now x.1.0 r
  pub point_meets : point_states.statement M
  pub point_asks :
      (κs : Lfts 1) (x : ArgsD point_signature κs) → x.1.0 + 100 ≤ length x.0.now → point_reads.Pre κs x × point_reads.Asked κs x
  pub point_returns :
      (κs : Lfts 1) (x : ArgsD point_signature κs) (r : ℕ) (y : AtExit (ended_of 1 point_kinds.ps point_kinds.r) κs) → point_reads.Post κs x r y →
      Puts (point_line x.1.1.0 x.1.1.1.0 x.1.1.1.1.0) 100 x.0.now y.0.now x.1.0 r
  -- before a closing's reply its preview, and before no other a line
  pub lines_before_lem :
      (kind : ℕ) (p : Result Preview Refusal) → (kind ≡ 5 → lines_before kind p ≡ preview_line p) × ((kind ≡ 5 → ⊥) → lines_before kind p ≡ [])
  -- below an accepted closing's or settling's what it says, and below no other a line
  pub lines_below_lem :
      (kind : ℕ) (p : Result Preview Refusal) (accepted : Bool) (s : Option Settlement) (awards : List ℕ) →
      (accepted ≡ false → lines_below kind accepted p s awards ≡ [])
      × (accepted ≡ true → kind ≡ 5 → lines_below kind accepted p s awards ≡ closed_lines p)
      × (accepted ≡ true → kind ≡ 6 → lines_below kind accepted p s awards ≡ settled_lines s awards)
      × ((kind ≡ 5 → ⊥) → (kind ≡ 6 → ⊥) → lines_below kind accepted p s awards ≡ [])
  -- a text at a place: one place behind it and one buffer
  pub determined :
      (text : List ℕ) (most : ℕ) (old new new' : List ℕ) (a b b' : ℕ) → Puts text most old new a b → Puts text most old new' a b' →
      (b ≡ b') × (new ≡ new')

-- of this line; f is the frame that it reads as
pub record Decoded (line : List ℕ) (f : Frame) : Type 0 where
  pub call : call_in f ≡ read line
  pub malformed : read line ≡ none → Zero f

-- the arguments x: the line
pub record DecodeStated (M : Type 1) : Type 2 where
  pub meets : decode_states.statement M
  pub asks : (κs : Lfts 1) (x : ArgsD decode_signature κs) → decoding.Pre κs x × decoding.Asked κs x
  pub returns :
      (κs : Lfts 1) (x : ArgsD decode_signature κs) (f : Frame) (y : AtExit (ended_of 1 decode_kinds.ps decode_kinds.r) κs) → decoding.Post κs x f y →
      Decoded x.0.now f
  -- one call, and of a malformed line one frame
  pub determined :
      (line : List ℕ) (f f' : Frame) → Decoded line f → Decoded line f' → (call_in f ≡ call_in f') × (read line ≡ none → f ≡ f')

pub record ProgramsStated (M : Type 1) : Type 2 where
  pub print : PrintStated M
  pub trace : TraceStated M
  pub decode : DecodeStated M

-- ---- what `replay` prints

module _ (κs : Lfts 2) (x : ArgsD print_signature κs) (r : ℕ) (y : AtExit (ended_of 2 print_kinds.ps print_kinds.r) κs) (q : printing.Post κs x r y) where
  print_number : r ≡ length (printed x.0.now)
  print_number = q.0

  print_bytes : y.1.0.now ≡ laid (printed x.0.now) x.1.0.now
  print_bytes = q.2

refusal_bytes : answer_line 255 11 [] ≡ too_long
unfolding answer_line digits char_of
refusal_bytes = refl

module _ (bytes : List ℕ) where
  printed_replies : length bytes ≤ 65536 → length (replies bytes) ≤ 65536 → printed bytes ≡ replies bytes
  unfolding printed
  printed_replies h g = rw (le-leb (length bytes) 65536 h, le-leb (length (replies bytes)) 65536 g)

  printed_refusal : leb (length bytes) 65536 && leb (length (replies bytes)) 65536 ≡ false → printed bytes ≡ too_long
  unfolding printed
  printed_refusal e = rw e refusal_bytes

  long_record : 65536 < length bytes → printed bytes ≡ too_long
  long_record h = printed_refusal (rw (lt-leb (length bytes) 65536 h))

  long_replies : 65536 < length (replies bytes) → printed bytes ≡ too_long
  long_replies h = printed_refusal (rw (lt-leb (length (replies bytes)) 65536 h) (go (leb (length bytes) 65536)))
    where
      go : (b : Bool) → b && false ≡ false
      go true = refl
      go false = refl

  print_returned : (old new : List ℕ) (r : ℕ) → r ≡ length (printed bytes) → new ≡ laid (printed bytes) old → Printed bytes old new r
  print_returned old new r e f =
      let gives : (t : List ℕ) → printed bytes ≡ t → (r ≡ length t) × (new ≡ laid t old) =
      λ t g. (e ∙ ap length g, f ∙ ap (λ (u : List ℕ). laid u old) g) in
      record {
        replied = λ h g. gives (replies bytes) (printed_replies h g);
        record_too_long = λ h. gives too_long (long_record h);
        replies_too_long = λ h. gives too_long (long_replies h);
        by_definition = (e, f);
      }

  -- and nothing else is printed
  printed_only : (old new new' : List ℕ) (r r' : ℕ) → Printed bytes old new r → Printed bytes old new' r' → (r ≡ r') × (new ≡ new')
  printed_only old new new' r r' x y = ⊎_elim
      (λ h. ⊎_elim
      (λ g. let a = x.replied h g in let b = y.replied h g in (a.0 ∙ sym b.0, a.1 ∙ sym b.1))
      (λ g. let a = x.replies_too_long g in let b = y.replies_too_long g in (a.0 ∙ sym b.0, a.1 ∙ sym b.1))
      (le_or_lt (length (replies bytes)) 65536))
      (λ h. let a = x.record_too_long h in let b = y.record_too_long h in (a.0 ∙ sym b.0, a.1 ∙ sym b.1))
      (le_or_lt (length bytes) 65536)

-- ---- what `trace` writes around a reply

before_puts :
    (κs : Lfts 1) (x : ArgsD before_signature κs) (r : ℕ) (y : AtExit (ended_of 1 before_kinds.ps before_kinds.r) κs) → before_reads.Post κs x r y →
    Puts (lines_before x.1.1.0 x.1.1.1.0) 100 x.0.now y.0.now x.1.0 r
before_puts κs x r y q = q

below_puts :
    (κs : Lfts 1) (x : ArgsD below_signature κs) (r : ℕ) (y : AtExit (ended_of 1 below_kinds.ps below_kinds.r) κs) → below_reads.Post κs x r y →
    Puts (lines_below x.1.1.0 x.1.1.1.0 x.1.1.1.1.0 x.1.1.1.1.1.0 x.1.1.1.1.1.1.0) 3000
    x.0.now y.0.now x.1.0 r
below_puts κs x r y q = q

point_puts :
    (κs : Lfts 1) (x : ArgsD point_signature κs) (r : ℕ) (y : AtExit (ended_of 1 point_kinds.ps point_kinds.r) κs) → point_reads.Post κs x r y →
    Puts (point_line x.1.1.0 x.1.1.1.0 x.1.1.1.1.0) 100 x.0.now y.0.now x.1.0 r
point_puts κs x r y q = q

-- nothing else is written
puts_only :
    (text : List ℕ) (most : ℕ) (old new new' : List ℕ) (a b b' : ℕ) → Puts text most old new a b → Puts text most old new' a b' →
    (b ≡ b') × (new ≡ new')
puts_only text most old new new' a b b' x y =
    let e : b ≡ b' = x.next ∙ sym y.next in
    (e, x.holds ∙ ap (λ (k : ℕ). take a old ++ text ++ drop k old) e ∙ sym y.holds)

-- ---- a line read

malformed_frame : (line : List ℕ) (f : Frame) → call_in f ≡ read line → (f.kind ≡ 0 → Zero f) → read line ≡ none → Zero f
malformed_frame line f e z n = z (go (eqb f.kind 0) refl)
  where
    go : (t : Bool) → eqb f.kind 0 ≡ t → f.kind ≡ 0
    go true h = eqb-true f.kind 0 h
    go false h = absurd (some-ne-none _ (sym (call_some f (eqb-false f.kind 0 h)) ∙ e ∙ n))

decoded : (line : List ℕ) (f : Frame) → call_in f ≡ read line → (f.kind ≡ 0 → Zero f) → Decoded line f
decoded line f e z = record { call = e; malformed = malformed_frame line f e z }

zero_frame : (f : Frame) → Zero f → f ≡ record { kind = 0; count = 0; fields = replicate 32 0 }
zero_frame f z = rw (z.0, z.1, z.2)

-- nothing else is read
decoded_only : (line : List ℕ) (f f' : Frame) → Decoded line f → Decoded line f' → (call_in f ≡ call_in f') × (read line ≡ none → f ≡ f')
decoded_only line f f' x y = (x.call ∙ sym y.call, λ n. zero_frame f (x.malformed n) ∙ sym (zero_frame f' (y.malformed n)))

-- ---- together

print_stated : {M : Type 1} → PrintStated M
print_stated = record {
  meets = print_met.met;
  asks = λ κs x h. (h, h);
  returns = λ κs x r y q. print_returned _ _ _ r (print_number κs x r y q) (print_bytes κs x r y q);
  determined = printed_only;
}

trace_stated : {M : Type 1} → TraceStated M
trace_stated = record {
  before_meets = before_met.met;
  before_asks = λ κs x h. (h, h);
  before_returns = before_puts;
  below_meets = below_met.met;
  below_asks = λ κs x h. (h, h);
  below_returns = below_puts;
  point_meets = point_met.met;
  point_asks = λ κs x h. (h, h);
  point_returns = point_puts;
  lines_before_lem = λ kind p. (before_closing kind p, before_other kind p);
  lines_below_lem = λ kind p a s b. (below_refused kind p a s b, below_closing kind p a s b, below_settling kind p a s b, below_other kind p a s b);
  determined = puts_only;
}

decode_stated : {M : Type 1} → DecodeStated M
decode_stated = record {
  meets = decode_met.met;
  asks = λ κs x. (tt, tt);
  returns = λ κs x f y q. decoded _ f q.0 q.1;
  determined = decoded_only;
}

pub programs_stated : {M : Type 1} → ProgramsStated M
programs_stated = record { print = print_stated; trace = trace_stated; decode = decode_stated }
