-- Reading a line by the table: its fields one by one, and what the tests of `decode` say of the line.
use Prim.Native.Nat.{ℕ, suc, ◌+◌, ◌-◌, ◌*◌, ◌≤◌, ◌<◌}
use mathlib.Core.Path.{◌≡◌, refl, sym, ap, ap₂, ◌∙◌}
use mathlib.Core.Bool.{true}
use mathlib.Core.List.{List, [], ◌∷◌, ◌++◌, append_assoc, append-nil}
use mathlib.Core.Option.{some}
use native.Mathlib.Numerals.{add-one}
use native.Mathlib.Omega.{arith}
use lib.ListN.{length, take, drop, get_or, set, replicate, length-set, length-replicate, drop_of_length-le}
use lib.Seq.{drop-drop, take-suc-set, take-length}
use Rattle.rules_numbers.specs.Lists.{total, padded}
use Rattle.rules_format.specs.Hex.{all_hex, hex_number}
use Rattle.rules_format.specs.Fields.{listed, known, longest_line, raw_call, fixed, each, count, repeats, layout, fields_at, kind_of, asked_widths, call_of, read}
use Rattle.rules_format.specs.WidthLaws.{take_fields, fields_fit}
use Rattle.rules_format.specs.FieldLaws.{WellFormed, reads, reads_none, total_layout}
use Rattle.frame_bytes.specs.field_table.Fitting.{fitting_kind, repeats_few}
use Rattle.frame_bytes.specs.field_table.RowLaws.{known_not_0, width_end, widths_left, digits_passed}
use Rattle.frame_reading.specs.declared.frames.Frame.{Frame}
use Rattle.frame_reading.specs.frames.Decoded.{call_in, Zero, call_none, call_some}
use Rattle.frame_reading.specs.frames.FixedFields.{FixedRead}

-- ---- field by field: those at the first n places of an array, and those that stand in the line from a place on at the widths left, make the whole

pub record Reading (left line out whole : List ℕ) (at n : ℕ) : Type 0 where
  pub long : length out ≡ 32
  pub room : n + length left ≤ 32
  pub whole_is : take n out ++ fields_at left (drop at line) ≡ whole

module _ (line out whole : List ℕ) (at n : ℕ) where
  pub reading_next : (w : ℕ) (left : List ℕ) → Reading (w ∷ left) line out whole at n → (v : ℕ) → v ≡ hex_number (take w (drop at line))
      → Reading left line (set out n v) whole (at + w) (n + 1)
  unfolding fields_at
  reading_next w left r v q = record {
    long = length-set out n v ∙ r.long;
    room = omega (arith, r.room);
    whole_is =
        let t : take (n + 1) (set out n v) ≡ take n out ++ (v ∷ []) = rw add-one (take-suc-set out n v (omega (arith, r.long, r.room))) in
        let rest : List ℕ = fields_at left (drop (at + w) line) in
        let f : fields_at (w ∷ left) (drop at line) ≡ v ∷ rest = rw (q, drop-drop w at line) in
        ap (λ (a : List ℕ). a ++ rest) t ∙ append_assoc (take n out) (v ∷ []) rest ∙ ap (λ (a : List ℕ). take n out ++ a) (sym f) ∙ r.whole_is;
  }

  pub reading_end : Reading [] line out whole at n → take n out ≡ whole
  unfolding fields_at
  reading_end r = sym (append-nil (take n out)) ∙ r.whole_is

-- ---- the fixed fields, by the row of the kind

pub record ReadingFixed (k : ℕ) (line out : List ℕ) (at n : ℕ) : Type 0 where
  pub inside : n ≤ length (fixed k)
  pub place : at ≡ 2 + total (take n (fixed k))
  pub room : at ≤ length line
  pub reading : Reading (drop n (fixed k)) line out (fields_at (fixed k) (drop 2 line)) at n

pub fixed_first : (k : ℕ) (line out : List ℕ) → length out ≡ 32 → 2 ≤ length line → ReadingFixed k line out 2 0
unfolding total
fixed_first k line out e h = record {
  inside = omega arith;
  place = refl;
  room = h;
  reading = record { long = e; room = omega (arith, (fitting_kind k).at_most_seven); whole_is = refl };
}

module _ (k : ℕ) (held : List ℕ) (e : held ≡ padded 8 (fixed k)) (line out : List ℕ) (at n : ℕ) (r : ReadingFixed k line out at n) where
  -- the line is too short for the next
  pub fixed_short : n < length (fixed k) → length line - at < get_or held n 0 → length line < 2 + total (fixed k)
  fixed_short h g = omega (arith, r.place, r.room, digits_passed k held e n h)

  pub fixed_next : n < length (fixed k) → at + get_or held n 0 ≤ length line → (v : ℕ) → v ≡ hex_number (take (get_or held n 0) (drop at line))
      → ReadingFixed k line (set out n v) (at + get_or held n 0) (n + 1)
  fixed_next h g v q = record {
    inside = omega arith;
    place = omega (arith, r.place, (digits_passed k held e n h).0);
    room = g;
    reading = reading_next line out _ at n _ (drop (n + 1) (fixed k)) (rw (widths_left k held e n h) at r.reading) v q;
  }

  pub fixed_end : get_or held n 0 ≡ 0 → FixedRead k line out n at
  unfolding fields_at
  fixed_end z =
      let m : n ≡ length (fixed k) = width_end k held e n r.inside z in
      let none : drop n (fixed k) ≡ [] = drop_of_length-le (fixed k) {i = n} (omega arith) in
      record {
        many = m;
        place = r.place ∙ ap (λ (l : List ℕ). 2 + total l) (ap (λ (i : ℕ). take i (fixed k)) m ∙ take-length (fixed k));
        inside = r.room;
        fields = reading_end line out _ at n (rw none at r.reading);
      }

-- ---- the fields that follow

-- those up to place `end` of the array are still to be read
pub record ReadingListed (line out whole : List ℕ) (end at n : ℕ) : Type 0 where
  pub inside : n ≤ end
  pub room : at + listed * (end - n) ≤ length line
  pub reading : Reading (replicate (end - n) listed) line out whole at n

pub listed_first : (line out : List ℕ) (start first more : ℕ) → length out ≡ 32 → first + more ≤ 32 → start + listed * more ≤ length line
    → ReadingListed line out (take first out ++ fields_at (replicate more listed) (drop start line)) (first + more) start first
listed_first line out start first more e few room =
    let m : first + more - first ≡ more = omega arith in
    let r : Reading (replicate more listed) line out (take first out ++ fields_at (replicate more listed) (drop start line)) start first =
    record { long = e; room = omega (arith, length-replicate {A = ℕ} more listed); whole_is = refl } in
    record { inside = omega arith; room = omega (arith, room); reading = rw m r }

module _ (line out whole : List ℕ) (end at n : ℕ) (r : ReadingListed line out whole end at n) where
  pub listed_next : n < end → (v : ℕ) → v ≡ hex_number (take listed (drop at line)) → ReadingListed line (set out n v) whole end (at + listed) (n + 1)
  listed_next h v q =
      let m : end - n ≡ suc (end - (n + 1)) = omega arith in
      record {
        inside = omega arith;
        room = omega (arith, r.room);
        reading = reading_next line out whole at n listed (replicate (end - (n + 1)) listed) (rw m at r.reading) v q;
      }

  pub listed_end : end ≤ n → take end out ≡ whole
  listed_end h =
      let m : end - n ≡ 0 = omega arith in
      let e : n ≡ end = omega (arith, r.inside) in
      ap (λ (i : ℕ). take i out) (sym e) ∙ reading_end line out whole at n (rw m at r.reading)

-- those of widths one behind the other
fields_append : (ws vs cs : List ℕ) → fields_at (ws ++ vs) cs ≡ fields_at ws cs ++ fields_at vs (drop (total ws) cs)
unfolding fields_at total
fields_append [] vs cs = refl
fields_append (w ∷ ws) vs cs =
    ap (λ (l : List ℕ). hex_number (take w cs) ∷ l) (fields_append ws vs (drop w cs)
    ∙ ap (λ (l : List ℕ). fields_at ws (drop w cs) ++ fields_at vs l) (drop-drop (total ws) w cs))

-- read behind the fixed ones, all are those of the layout
pub all_read : (k : ℕ) (line first out : List ℕ) (n end more : ℕ) → FixedRead k line first n end
    → take (n + more) out ≡ take n first ++ fields_at (replicate more listed) (drop end line) → take (n + more) out ≡ fields_at (layout k more) (drop 2 line)
unfolding layout
all_read k line first out n end more f e =
    let rest : List ℕ = replicate more listed in
    let d : drop end line ≡ drop (total (fixed k)) (drop 2 line) = ap (λ (i : ℕ). drop i line) f.place ∙ sym (drop-drop (total (fixed k)) 2 line) in
    e ∙ ap₂ (λ (a b : List ℕ). a ++ fields_at rest b) f.fields d ∙ sym (fields_append (fixed k) rest (drop 2 line))

-- ---- the count: the last of the fixed fields, which first holds

module _ (k m : ℕ) (first cs : List ℕ) (q : m ≡ length (fixed k)) (r : take m first ≡ fields_at (fixed k) cs) where
  count_is : count k first ≡ count k (fields_at (fixed k) cs)
  unfolding count
  count_is = rw (sym q, r, q, take_fields (fixed k) cs)

  pub counts_same : repeats k first ≡ repeats k (fields_at (fixed k) cs)
  counts_same = ap (λ (n : ℕ). each k * n) count_is

  pub counts_few : repeats k first ≤ 512
  unfolding count
  counts_few = repeats_few k first (rw (sym q, r, q) (fields_fit (fixed k) cs (length (fixed k) - 1)))

-- ---- what the tests of `decode` say of a line

-- the length that its kind and count ask
pub asked_length : (l : List ℕ) → WellFormed l → (k : ℕ) → k ≡ kind_of l → length l ≡ 2 + total (fixed k) + listed * repeats k (fields_at (fixed k) (drop 2 l))
unfolding asked_widths
asked_length l w k e = rw e (omega (arith, w.exact, total_layout (kind_of l) (repeats (kind_of l) (fields_at (fixed (kind_of l)) (drop 2 l)))))

-- past all of them, where it is of kind k and n fields follow the fixed ones
module _ (l : List ℕ) (k n : ℕ) (e : k ≡ kind_of l) (q : n ≡ repeats k (fields_at (fixed k) (drop 2 l))) where
  asked_are : asked_widths l ≡ layout k n
  unfolding asked_widths
  asked_are = rw (q, e)

  pub passed : length l ≤ longest_line → all_hex l ≡ true → known k ≡ true → length l ≡ 2 + total (fixed k) + listed * n → WellFormed l
  passed short hex there exact = record {
    short = short;
    hex = hex;
    kind_known = rw e at there;
    exact = exact ∙ omega (arith, ap total asked_are, total_layout k n);
  }

module _ (l : List ℕ) (f : Frame) where
  -- what `decode` ensures
  abbrev pub Decodes : Type 0
  Decodes = (call_in f ≡ read l) × (f.kind ≡ 0 → Zero f)

  pub refused : Zero f → (WellFormed l → ⊥) → Decodes
  refused z h = (call_none f z.0 ∙ sym (reads_none l h), λ e. z)

  pub accepted : (k n : ℕ) → k ≡ kind_of l → n ≡ repeats k (fields_at (fixed k) (drop 2 l)) → length l ≤ longest_line → all_hex l ≡ true → known k ≡ true
      → length l ≡ 2 + total (fixed k) + listed * n → f.kind ≡ k → take f.count f.fields ≡ fields_at (layout k n) (drop 2 l)
      → Decodes
  unfolding call_of
  accepted k n e q short hex there exact fk ff =
      let fz : f.kind ≡ 0 → ⊥ = λ z. known_not_0 k there (sym fk ∙ z) in
      let fields = ff ∙ ap (λ (ws : List ℕ). fields_at ws (drop 2 l)) (sym (asked_are l k n e q)) in
      let w = passed l k n e q short hex there exact in
      (call_some f fz ∙ ap some (ap₂ raw_call (fk ∙ e) fields) ∙ sym (reads l w), λ z. absurd (fz z))
