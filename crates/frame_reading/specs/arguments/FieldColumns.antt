-- The fields of a frame, one by one and in columns.
use Rattle.std.specs.Prelude.{ℕ, zero, suc, ◌+◌, ◌-◌, ◌*◌, ◌^◌, ◌≤◌, ◌<◌, ◌≡◌, refl, List, [], ◌∷◌, ◌++◌, length, take, drop, get_or, set}
use Rattle.std.proofs.Common.{sym, ap, ap₂, ◌∙◌, arith, add-one, length-take, length-set, drop_of_length-le, drop-cons, get_or-take, take-suc-set}
use Rattle.std.proofs.Math.ListN.{get_or-eq_default}
use Rattle.rules_numbers.specs.Lists.{total}
use Rattle.rules_format.specs.Fields.{listed, longest_line, fixed, each}
use Rattle.rules_format.specs.FieldLaws.{field_below, repeated_below, listed_fields}
use Rattle.rules_replies.specs.Orders.{firsts, seconds}
use Rattle.frame_reading.specs.frames.Decoded.{raw_call_in}
use Rattle.frame_reading.specs.declared.frames.Frame.{Frame}
use Rattle.frame_reading.specs.arguments.FrameFields.{fields_in, every, Framed}

-- of the first n of a list: one behind them, one behind the list, and one of them
module _ (n : ℕ) (xs : List ℕ) (j : ℕ) where
  pub front_none : n ≤ j → 0 ≡ get_or (take n xs) j 0
  front_none h = sym (get_or-eq_default (take n xs) 0 (omega (arith, length-take n xs)))

  pub front_out : length xs ≤ j → 0 ≡ get_or (take n xs) j 0
  front_out h = sym (get_or-eq_default (take n xs) 0 (omega (arith, length-take n xs)))

  pub front_there : j < n → get_or xs j 0 ≡ get_or (take n xs) j 0
  front_there h = sym (get_or-take n xs j 0 h)

pub field_none : (f : Frame) (j : ℕ) → f.count ≤ j → 0 ≡ get_or (fields_in f) j 0
unfolding fields_in
field_none f j h = front_none f.count f.fields j h

pub field_out : (f : Frame) (j : ℕ) → length f.fields ≤ j → 0 ≡ get_or (fields_in f) j 0
unfolding fields_in
field_out f j h = front_out f.count f.fields j h

pub field_there : (f : Frame) (j : ℕ) → j < f.count → get_or f.fields j 0 ≡ get_or (fields_in f) j 0
unfolding fields_in
field_there f j h = front_there f.count f.fields j h

-- a field of the table is below 16 to its width
pub below : (k : ℕ) (f : Frame) → Framed k f → (j b : ℕ) → 16 ^ get_or (fixed k) j listed ≡ b → get_or (fields_in f) j 0 < b
unfolding fields_in
below k f w j b e = field_below (raw_call_in f) w.formed k j b w.kind e

-- and so is each behind the fixed ones
pub below_behind : (k : ℕ) (f : Frame) → Framed k f → (j : ℕ) → length (fixed k) ≤ j → get_or (fields_in f) j 0 < 2 ^ 32
unfolding fields_in
below_behind k f w j h = repeated_below (raw_call_in f) w.formed k j w.kind h

-- a list of fields behind the fixed ones: as many as the last of those counts, in a line that is not too long
pub listed_count : (k : ℕ) (f : Frame) → Framed k f → 0 < length (fixed k) →
    let n = each k * get_or (fields_in f) (length (fixed k) - 1) 0 in
    (length (fields_in f) ≡ length (fixed k) + n) × (2 + (total (fixed k) + listed * n) ≤ longest_line)
unfolding fields_in
listed_count k f w h = listed_fields (raw_call_in f) w.formed k w.kind h

-- ---- columns

-- one more of a column, at the front
every_front : (from apart n : ℕ) (ns : List ℕ) → every from apart (suc n) ns ≡ get_or ns from 0 ∷ every (from + apart) apart n ns
unfolding every
every_front from apart zero ns = ap (λ (j : ℕ). get_or ns j 0 ∷ []) (omega arith)
every_front from apart (suc n) ns =
    let e : from + apart * suc n ≡ (from + apart) + apart * n = omega arith in
    ap₂ (λ (l : List ℕ) (j : ℕ). l ++ (get_or ns j 0 ∷ [])) (every_front from apart n ns) e

-- all numbers behind a place
pub every_one : (a n : ℕ) (ns : List ℕ) → length ns ≡ a + n → every a 1 n ns ≡ drop a ns
unfolding every
every_one a zero ns h = sym (drop_of_length-le ns {i = a} (omega arith))
every_one a (suc n) ns h =
    let e : every (a + 1) 1 n ns ≡ drop (suc a) ns = every_one (a + 1) n ns (omega arith) ∙ ap (λ (j : ℕ). drop j ns) (add-one a) in
    every_front a 1 n ns ∙ ap (λ (l : List ℕ). get_or ns a 0 ∷ l) e ∙ sym (drop-cons ns a 0 (omega arith))

pairs : (a : ℕ) (ns : List ℕ) → suc a < length ns → drop a ns ≡ get_or ns a 0 ∷ get_or ns (suc a) 0 ∷ drop (a + 2) ns
pairs a ns h =
    let e : suc (suc a) ≡ a + 2 = omega arith in
    drop-cons ns a 0 (omega arith) ∙ ap (λ (l : List ℕ). get_or ns a 0 ∷ l) (drop-cons ns (suc a) 0 h ∙ ap (λ (j : ℕ). get_or ns (suc a) 0 ∷ drop j ns) e)

-- the first numbers of the pairs behind a place, and the second ones
pub every_first : (a n : ℕ) (ns : List ℕ) → length ns ≡ a + 2 * n → every a 2 n ns ≡ firsts (drop a ns)
unfolding every firsts
every_first a zero ns h = sym (ap firsts (drop_of_length-le ns {i = a} (omega arith)))
every_first a (suc n) ns h =
    every_front a 2 n ns ∙ ap (λ (l : List ℕ). get_or ns a 0 ∷ l) (every_first (a + 2) n ns (omega arith)) ∙ sym (ap firsts (pairs a ns (omega arith)))

pub every_second : (a n : ℕ) (ns : List ℕ) → length ns ≡ a + 2 * n → every (a + 1) 2 n ns ≡ seconds (drop a ns)
unfolding every seconds
every_second a zero ns h = sym (ap seconds (drop_of_length-le ns {i = a} (omega arith)))
every_second a (suc n) ns h =
    let e : a + 1 + 2 ≡ a + 2 + 1 = omega arith in
    let g : get_or ns (a + 1) 0 ≡ get_or ns (suc a) 0 = ap (λ (j : ℕ). get_or ns j 0) (add-one a) in
    every_front (a + 1) 2 n ns ∙ ap₂ (λ (x j : ℕ). x ∷ every j 2 n ns) g e
    ∙ ap (λ (l : List ℕ). get_or ns (suc a) 0 ∷ l) (every_second (a + 2) n ns (omega arith)) ∙ sym (ap seconds (pairs a ns (omega arith)))

-- ---- the loop: the first i numbers of the array are the column's

pub record Filling (from apart n i : ℕ) (ns values : List ℕ) : Type 0 where
  pub so_far : take i values ≡ every from apart i ns
  pub inside : i ≤ n
  pub room : length values ≡ 16

pub filling_first : (from apart n : ℕ) (ns values : List ℕ) → length values ≡ 16 → Filling from apart n 0 ns values
unfolding every
filling_first from apart n ns values h = record { so_far = refl; inside = omega arith; room = h }

pub filling_again : (from apart n i v : ℕ) (ns values : List ℕ) → Filling from apart n i ns values → i < n → n ≤ 16 → v ≡ get_or ns (from + apart * i) 0
    → Filling from apart n (i + 1) ns (set values i v)
unfolding every
filling_again from apart n i v ns values f h m e = record {
  so_far = rw add-one (take-suc-set values i v (omega (arith, f.room)) ∙ ap₂ (λ (l : List ℕ) (x : ℕ). l ++ (x ∷ [])) f.so_far e);
  inside = omega arith;
  room = length-set values i v ∙ f.room;
}

pub filling_end : (from apart n i : ℕ) (ns values : List ℕ) → Filling from apart n i ns values → n ≤ i
    → (take n values ≡ every from apart n ns) × (length values ≡ 16)
filling_end from apart n i ns values f h =
    let e : i ≡ n = omega (arith, f.inside) in
    (rw e at f.so_far, f.room)
