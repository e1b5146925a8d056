-- Laws of writing: what each answer leaves in the buffer, how long a frame is, and that reading and writing are each other's way back.
-- Everything is over the table: no law has a case for each kind.
use Prim.Native.Nat.{ℕ, zero, suc, ◌+◌, ◌*◌, ◌^◌, ◌≤◌, ◌<◌}
use Rattle.std.specs.Prelude.{◌≡◌, refl, Bool, true, false, ltb, eqb, take, get_or}
use Rattle.std.proofs.Math.Path.{sym, ap, ap₂, subst}
use Rattle.std.proofs.Common.{◌∙◌, arith, take_at, length-take-le}
use Rattle.std.proofs.lemmas.Bool.{false≢true}
use mathlib.Core.List.{List, [], ◌∷◌, ◌++◌, append_assoc, append-nil}
use Rattle.std.proofs.Math.Option.{some}
use Rattle.std.proofs.Math.ListN.{length, drop, length-append, length-drop, take-append-drop}
use Rattle.std.proofs.Math.Seq.{drop_at}
use borrow.Author.Tests.{leb-true, le-leb, lt-leb, ltb-true, lt-ltb, eqb-true, ne_eqb}
use Rattle.rules_numbers.specs.Cases.{and_true}
use Rattle.rules_numbers.specs.Lists.{total, all}
use Rattle.rules_numbers.specs.ListLaws.{any_true, all_true}
use Rattle.rules_numbers.specs.Tails.{laid}
use Rattle.rules_format.specs.Hex.{is_hex, all_hex, digits, hex_number}
use Rattle.rules_format.specs.HexLaws.{power_pos, field_fits, length_digits, hex_digits, hex_append, hex_parts, number_digits, digits_number}
use Rattle.rules_format.specs.Lines.{lines, on_first}
use Rattle.rules_format.specs.Fields.{Row, table_rows, listed, known, longest_line, fixed, each, count, repeats, layout, RawCall, raw_call, fields_at}
use Rattle.rules_format.specs.Fields.{text_at, kind_of, asked_widths, call_of, read}
use Rattle.rules_format.specs.WidthLaws.{length_text, hex_text, fields_text_lem, text_fields}
use Rattle.rules_format.specs.FieldLaws.{WellFormed, reads, was_read, count_front}
use Rattle.rules_format.specs.Written.{written_widths, line_of, frame_of, fit, writable, writing_refusal, written, lent_frame}

-- ---- what writing answers, and what it leaves

module _ (ok : Bool) (frame old : List ℕ) where
  -- the number of a refusal or 0, the bytes written, the buffer afterwards
  abbrev pub Answers : ℕ → ℕ → List ℕ → Type 0
  Answers n bytes after = (writing_refusal ok frame (length old) ≡ n) × (written ok frame (length old) ≡ bytes) × (lent_frame ok frame old ≡ after)

  pub not_writable : ok ≡ false → Answers 14 0 old
  unfolding writing_refusal written lent_frame
  not_writable e = (rw e, rw e, rw e)

  pub too_short : ok ≡ true → length old < length frame → Answers 13 0 old
  unfolding writing_refusal written lent_frame
  too_short e h = let t = lt-leb (length frame) (length old) h in (rw (e, t), rw (e, t), rw (e, t))

  pub is_written : ok ≡ true → length frame ≤ length old → Answers 0 (length frame) (laid frame old)
  unfolding writing_refusal written lent_frame
  is_written e h = let t = le-leb (length frame) (length old) h in (rw (e, t), rw (e, t), rw (e, t))

-- ---- how long a frame is

module _ (c : RawCall) where
  pub length_line : length (line_of c) ≡ 2 + total (written_widths c)
  unfolding line_of
  length_line = rw (length-append, length_digits, length_text)

  -- kind, fields and 0A
  pub length_frame : length (frame_of c) ≡ 3 + total (written_widths c)
  unfolding frame_of
  length_frame = rw length-append (omega (arith, length_line))

-- ---- fields that fit

pub fitting : (ws ns : List ℕ) → fit ws ns ≡ true → (length ns ≡ length ws) × ((j : ℕ) → get_or ns j 0 < 16 ^ get_or ws j listed)
unfolding fit
fitting [] [] e = (refl, λ j. power_pos listed)
fitting [] (n ∷ ns) e = absurd (false≢true e)
fitting (w ∷ ws) [] e = absurd (false≢true e)
fitting (w ∷ ws) (n ∷ ns) e =
    let t = and_true (ltb n (16 ^ w)) (fit ws ns) e in
    let r = fitting ws ns t.1 in
    (ap suc r.0, go (ltb-true n (16 ^ w) t.0) r.1)
  where
    go : n < 16 ^ w → ((j : ℕ) → get_or ns j 0 < 16 ^ get_or ws j listed) → (j : ℕ) → get_or (n ∷ ns) j 0 < 16 ^ get_or (w ∷ ws) j listed
    go h below zero = h
    go h below (suc j) = below j

read_fitting : (ws cs : List ℕ) → fit ws (fields_at ws cs) ≡ true
unfolding fit fields_at
read_fitting [] cs = refl
read_fitting (w ∷ ws) cs = rw (lt-ltb (hex_number (take w cs)) (16 ^ w) (field_fits w cs)) (read_fitting ws (drop w cs))

-- every kind of the table has two digits
known_two_digits : (k : ℕ) → known k ≡ true → k < 256
unfolding known all
known_two_digits k e =
    let r = (any_true (λ (q : Row). eqb q.kind k) table_rows).0 e in
    let t = all_true (λ (q : Row). ltb q.kind 256) table_rows refl r.0 r.1 in
    omega (arith, ltb-true r.0.kind 256 t, eqb-true r.0.kind k r.2)

-- ---- writable calls

pub record Writable (c : RawCall) : Type 0 where
  pub kind_known : known c.kind ≡ true
  pub fields_fit : fit (written_widths c) c.fields ≡ true
  pub short : length (line_of c) ≤ longest_line

module _ (c : RawCall) where
  pub is_writable : writable c ≡ true → Writable c
  unfolding writable
  is_writable e =
      let t2 = and_true _ _ e in
      let t1 = and_true _ _ t2.0 in
      record { kind_known = t1.0; fields_fit = t1.1; short = leb-true (length (line_of c)) longest_line t2.1 }

  pub writable_test : Writable c → writable c ≡ true
  unfolding writable
  writable_test w = rw (w.kind_known, w.fields_fit, le-leb (length (line_of c)) longest_line w.short)

  pub hex_line : all_hex (line_of c) ≡ true
  unfolding line_of
  hex_line = hex_append (digits 2 c.kind) (text_at (written_widths c) c.fields) (hex_digits 2 c.kind) (hex_text (written_widths c) c.fields)

  line_behind_kind : drop 2 (line_of c) ≡ text_at (written_widths c) c.fields
  unfolding line_of
  line_behind_kind = drop_at (digits 2 c.kind) (text_at (written_widths c) c.fields) 2 (length_digits 2 c.kind)

  module _ (w : Writable c) where
    line_kind : kind_of (line_of c) ≡ c.kind
    unfolding kind_of line_of
    line_kind =
        ap hex_number (take_at (digits 2 c.kind) (text_at (written_widths c) c.fields) 2 (length_digits 2 c.kind))
        ∙ number_digits 2 c.kind (known_two_digits c.kind w.kind_known)

    line_fields : fields_at (written_widths c) (drop 2 (line_of c)) ≡ c.fields
    line_fields =
        let f = fitting (written_widths c) c.fields w.fields_fit in
        ap (fields_at (written_widths c)) (line_behind_kind ∙ sym (append-nil (text_at (written_widths c) c.fields)))
        ∙ fields_text_lem (written_widths c) c.fields [] f.0 f.1

    line_asks : asked_widths (line_of c) ≡ written_widths c
    unfolding asked_widths written_widths
    line_asks =
        let k : ℕ = c.kind in
        let r : List ℕ = drop 2 (line_of c) in
        let n : count k (fields_at (fixed k) r) ≡ count k c.fields = sym (count_front k (repeats k c.fields) r) ∙ ap (count k) line_fields in
        ap (λ (j : ℕ). layout j (repeats j (fields_at (fixed j) r))) line_kind ∙ ap (λ (m : ℕ). layout k (each k * m)) n

    line_well_formed : WellFormed (line_of c)
    line_well_formed = record {
      short = w.short;
      hex = hex_line;
      kind_known = ap known line_kind ∙ w.kind_known;
      exact = length_line c ∙ ap (λ (ws : List ℕ). 2 + total ws) (sym line_asks);
    }

    line_call : call_of (line_of c) ≡ c
    unfolding call_of
    line_call = ap₂ raw_call line_kind (ap (λ (ws : List ℕ). fields_at ws (drop 2 (line_of c))) line_asks ∙ line_fields)

  -- the frame of a writable call, without its 0A, reads back to that call
  pub reads_back : writable c ≡ true → read (line_of c) ≡ some c
  reads_back e = let w = is_writable e in reads (line_of c) (line_well_formed w) ∙ ap some (line_call w)

-- ---- lines that are read

module _ (l : List ℕ) (w : WellFormed l) where
  call_widths : written_widths (call_of l) ≡ asked_widths l
  unfolding written_widths call_of asked_widths
  call_widths =
      let k : ℕ = kind_of l in
      ap (λ (m : ℕ). layout k (each k * m)) (count_front k (repeats k (fields_at (fixed k) (drop 2 l))) (drop 2 l))

  call_line : line_of (call_of l) ≡ l
  unfolding line_of call_of kind_of
  call_line =
      let h = hex_parts 2 l w.hex in
      let n : length (drop 2 l) ≡ total (asked_widths l) = omega (arith, length-drop 2 l, w.exact) in
      ap₂ ◌++◌ (digits_number 2 (take 2 l) h.0 (length-take-le 2 l (omega (arith, w.exact))))
      (ap (λ (ws : List ℕ). text_at ws (fields_at (asked_widths l) (drop 2 l))) call_widths ∙ text_fields (asked_widths l) (drop 2 l) h.1 n)
      ∙ take-append-drop 2 l

  call_writable : Writable (call_of l)
  unfolding call_of
  call_writable = record {
    kind_known = w.kind_known;
    fields_fit = ap (λ (ws : List ℕ). fit ws (call_of l).fields) call_widths ∙ read_fitting (asked_widths l) (drop 2 l);
    short = subst (λ (s : List ℕ). length s ≤ longest_line) (sym call_line) w.short;
  }

-- each well-formed line read and then written is the same bytes
pub writes_back : (l : List ℕ) (c : RawCall) → read l ≡ some c → (line_of c ≡ l) × (writable c ≡ true)
writes_back l c e =
    let r = was_read l c e in
    subst (λ (d : RawCall). (line_of d ≡ l) × (writable d ≡ true)) r.1 (call_line l r.0, writable_test (call_of l) (call_writable l r.0))

-- ---- a record written call by call

not_hex : (c : ℕ) → c ≡ 10 → is_hex c ≡ true → ⊥
unfolding is_hex
not_hex c z e = false≢true (sym (ap is_hex z) ∙ e)

-- no digit is 0A
pub hex_first : (cs rest : List ℕ) → all_hex cs ≡ true → lines (cs ++ (10 ∷ rest)) ≡ cs ∷ lines rest
unfolding lines all on_first
hex_first [] rest e = refl
hex_first (c ∷ cs) rest e =
    let b = and_true (is_hex c) (all_hex cs) e in
    rw (ne_eqb c 10 (λ z. not_hex c z b.0), hex_first cs rest b.1)

-- a frame is the first line of a record that it begins
pub frame_first : (c : RawCall) (rest : List ℕ) → lines (frame_of c ++ rest) ≡ line_of c ∷ lines rest
unfolding frame_of
frame_first c rest = ap lines (append_assoc (line_of c) (10 ∷ []) rest) ∙ hex_first (line_of c) rest (hex_line c)
