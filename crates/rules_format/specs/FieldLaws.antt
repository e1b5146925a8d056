-- Laws of the field table, once over all kinds: which lines are read, and what holds of a call that was read.
use Rattle.std.specs.Prelude.{ℕ, zero, suc, ◌+◌, ◌-◌, ◌*◌, ◌^◌, ◌≤◌, ◌<◌, Bool, List, length, drop, get_or, replicate}
use Rattle.std.proofs.Math.Path.{◌≡◌, refl}
use Rattle.std.proofs.Common.{ap, ◌∙◌, subst, arith, length-append}
use Rattle.std.proofs.Math.Bool.{true, false, cond}
use Rattle.std.proofs.Math.Option.{none, some}
use Rattle.std.proofs.lemmas.List.{length-replicate}
use Rattle.std.proofs.Math.ListN.{get_or-eq_default}
use Rattle.std.proofs.Math.Seq.{get_or-take}
use borrow.Author.Tests.{le-leb, leb-true, eq-eqb, eqb-true}
use Rattle.rules_numbers.specs.Cases.{and_true, never_true}
use Rattle.rules_numbers.specs.Lists.{total}
use Rattle.rules_numbers.specs.ListLaws.{total_append}
use Rattle.rules_format.specs.Hex.{all_hex}
use Rattle.rules_format.specs.Fields.{listed, known, longest_line, fixed, each, count, repeats, layout, RawCall, fields_at, kind_of, asked_widths}
use Rattle.rules_format.specs.Fields.{well_formed, call_of, read}
use Rattle.rules_format.specs.WidthLaws.{behind, length_fields, fields_front, take_fields, fields_fit}

-- ---- which lines are read

pub record WellFormed (l : List ℕ) : Type 0 where
  pub short : length l ≤ longest_line
  pub hex : all_hex l ≡ true
  pub kind_known : known (kind_of l) ≡ true
  pub exact : length l ≡ 2 + total (asked_widths l)

module _ (l : List ℕ) where
  well_formed_lem : well_formed l ≡ true → WellFormed l
  unfolding well_formed
  well_formed_lem e =
      let t3 = and_true _ _ e in
      let t2 = and_true _ _ t3.0 in
      let t1 = and_true _ _ t2.0 in
      record {
        short = leb-true (length l) longest_line t1.0;
        hex = t1.1;
        kind_known = t2.1;
        exact = eqb-true (length l) (2 + total (asked_widths l)) t3.1;
      }

  well_formed_test : WellFormed l → well_formed l ≡ true
  unfolding well_formed
  well_formed_test w = rw (le-leb (length l) longest_line w.short, w.hex, w.kind_known, eq-eqb (length l) (2 + total (asked_widths l)) w.exact)

  pub reads : WellFormed l → read l ≡ some (call_of l)
  unfolding read
  reads w = rw (well_formed_test w)

  pub reads_none : (WellFormed l → ⊥) → read l ≡ none
  unfolding read
  reads_none h = rw (never_true (well_formed l) (λ e. h (well_formed_lem e)))

  pub was_read : (c : RawCall) → read l ≡ some c → WellFormed l × (call_of l ≡ c)
  unfolding read
  was_read c e = go (well_formed l) refl e
    where
      go : (b : Bool) → well_formed l ≡ b → cond b (some (call_of l)) none ≡ some c → WellFormed l × (call_of l ≡ c)
      go true t e = (well_formed_lem t, (cc))
      go false t e = absurd (let z : ◌≡◌ {A = ℕ} 0 1 = cc in omega arith)

-- ---- the widths of a kind

total_listed : (n : ℕ) → total (replicate n listed) ≡ listed * n
unfolding total
total_listed zero = refl
total_listed (suc n) = omega (arith, total_listed n)

pub total_layout : (k n : ℕ) → total (layout k n) ≡ total (fixed k) + listed * n
unfolding layout
total_layout k n = rw (total_append, total_listed)

pub length_layout : (k n : ℕ) → length (layout k n) ≡ length (fixed k) + n
unfolding layout
length_layout k n = rw (length-append, length-replicate)

pub layout_at : (k n j : ℕ) → get_or (layout k n) j listed ≡ get_or (fixed k) j listed
unfolding layout
layout_at k n j = behind listed (fixed k) n j

-- what the fixed fields count, all the fields count
pub count_front : (k n : ℕ) (cs : List ℕ) → count k (fields_at (layout k n) cs) ≡ count k (fields_at (fixed k) cs)
unfolding count layout
count_front k n cs = rw (fields_front (fixed k) (replicate n listed) cs, take_fields (fixed k) cs)

-- ---- a call that was read

pub record Formed (c : RawCall) : Type 0 where
  pub kind_known : known c.kind ≡ true
  pub as_many : length c.fields ≡ length (fixed c.kind) + repeats c.kind c.fields
  pub short : 2 + (total (fixed c.kind) + listed * repeats c.kind c.fields) ≤ longest_line
  pub below : (j : ℕ) → get_or c.fields j 0 < 16 ^ get_or (fixed c.kind) j listed

call_formed : (l : List ℕ) → WellFormed l → Formed (call_of l)
unfolding call_of asked_widths
call_formed l w =
    let k : ℕ = kind_of l in
    let n : ℕ = repeats k (fields_at (fixed k) (drop 2 l)) in
    let e : repeats k (fields_at (layout k n) (drop 2 l)) ≡ n = ap (λ (m : ℕ). each k * m) (count_front k n (drop 2 l)) in
    let s : total (layout k n) ≡ total (fixed k) + listed * n = total_layout k n in
    record {
      kind_known = w.kind_known;
      as_many = rw e (length_fields (layout k n) (drop 2 l) ∙ length_layout k n);
      short = rw e (omega (arith, s, w.short, w.exact));
      below = λ j. rw layout_at at (fields_fit (layout k n) (drop 2 l) j);
    }

pub formed : (l : List ℕ) (c : RawCall) → read l ≡ some c → Formed c
formed l c e = let r = was_read l c e in subst Formed r.1 (call_formed l r.0)

module _ (c : RawCall) (f : Formed c) where
  -- a field of the table is below 16 to its width: at a kind and a place in the table, b is a numeral and the equation `refl`
  pub field_below : (k j b : ℕ) → c.kind ≡ k → 16 ^ get_or (fixed k) j listed ≡ b → get_or c.fields j 0 < b
  field_below k j b e w = rw (e, w) at (f.below j)

  -- and so is each field behind the fixed ones
  pub repeated_below : (k j : ℕ) → c.kind ≡ k → length (fixed k) ≤ j → get_or c.fields j 0 < 2 ^ 32
  repeated_below k j e h = field_below k j (2 ^ 32) e (ap (λ (w : ℕ). 16 ^ w) (get_or-eq_default (fixed k) listed h))

  pub as_many_at : (k : ℕ) → c.kind ≡ k → length c.fields ≡ length (fixed k) + repeats k c.fields
  as_many_at k e = subst (λ (j : ℕ). length c.fields ≡ length (fixed j) + repeats j c.fields) e f.as_many

  short_at : (k : ℕ) → c.kind ≡ k → 2 + (total (fixed k) + listed * repeats k c.fields) ≤ longest_line
  short_at k e = subst (λ (j : ℕ). 2 + (total (fixed j) + listed * repeats j c.fields) ≤ longest_line) e f.short

  -- a list of fields: as many as the last fixed field counts, in a line that is not too long; at a kind of the table these are numerals
  pub listed_fields : (k : ℕ) → c.kind ≡ k → 0 < length (fixed k) →
      let n = each k * get_or c.fields (length (fixed k) - 1) 0 in
      (length c.fields ≡ length (fixed k) + n) × (2 + (total (fixed k) + listed * n) ≤ longest_line)
  unfolding count
  listed_fields k e h =
      let g = get_or-take (length (fixed k)) c.fields (length (fixed k) - 1) 0 (omega arith) in
      (rw g at (as_many_at k e), rw g at (short_at k e))
