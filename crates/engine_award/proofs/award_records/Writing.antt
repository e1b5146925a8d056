-- The records of the awards laid over a buffer's start, record by record.
use Prim.Native.Nat.{ℕ, suc, ◌+◌, ◌-◌, ◌*◌, ◌≤◌, ◌<◌}
use mathlib.Core.Path.{◌≡◌, refl, sym, ap, ◌∙◌, subst}
use mathlib.Core.Bool.{Bool, true, false, cond}
use mathlib.Core.List.{List, ◌∷◌, ◌++◌, flatten}
use native.Mathlib.Omega.{arith}
use native.Mathlib.Numerals.{add-one}
use lib.Dec.{eqb}
use lib.ListN.{length, get_or, drop, length-drop, drop_of_length-le}
use lib.Seq.{drop-cons}
use borrow.Author.Tests.{eq-eqb, ne_eqb}
use borrow.Rule.Slice.PartMut.{put_mid, mid_of, same_len_mid}
use Rattle.rules_auction.specs.Settling.{record_of}
use Rattle.engine_award.specs.award_records.Records.{award_count, records_of}
use Rattle.engine_award.specs.award_records.RecordLaws.{records_count, records_length}
use Rattle.rules_numbers.specs.Tails.{laid, Filled, filled_more, filled_all}

-- what is left at place i: the record of its level, if that is above 0, and what is left behind it
records_turn :
    (k : ℕ) (vs ns : List ℕ) (i : ℕ) → i < length vs → i < length ns →
    let rest = flatten (records_of (suc k) (drop (i + 1) vs) (drop (i + 1) ns)) in
    flatten (records_of k (drop i vs) (drop i ns)) ≡ cond (eqb (get_or vs i 0) 0) rest (record_of k (get_or ns i 0) (get_or vs i 0) ++ rest)
unfolding records_of flatten
records_turn k vs ns i h g = rw (drop-cons vs i 0 h, drop-cons ns i 0 g, add-one i) (go (eqb (get_or vs i 0) 0))
  where
    rest : List (List ℕ)
    rest = records_of (suc k) (drop (suc i) vs) (drop (suc i) ns)

    next : List ℕ
    next = record_of k (get_or ns i 0) (get_or vs i 0)

    go : (b : Bool) → flatten (cond b rest (next ∷ rest)) ≡ cond b (flatten rest) (next ++ flatten rest)
    go true = refl
    go false = refl

-- all that is written
abbrev text : List ℕ → List ℕ → List ℕ
text award winners = flatten (records_of 1 award winners)

-- what is left before project i + 1
abbrev left : List ℕ → List ℕ → ℕ → List ℕ
left award winners i = flatten (records_of (i + 1) (drop i award) (drop i winners))

-- the loop before project i + 1: out is the buffer, o what it was at first
pub record Writing (award winners o out : List ℕ) (used i : ℕ) : Type 0 where
  pub levels : length award ≡ 32
  pub developers : length winners ≡ 32
  pub within : i ≤ 32
  pub long : length out ≡ length o
  pub room : length (text award winners) ≤ length o
  pub filled : Filled (text award winners) o out (left award winners i) used

pub writing_first : (award winners o : List ℕ) → length award ≡ 32 → length winners ≡ 32 → 6 * award_count award ≤ length o → Writing award winners o o 0 0
unfolding laid
writing_first award winners o l d h = record {
  levels = l;
  developers = d;
  within = omega arith;
  long = refl;
  room = omega (arith, records_length 1 award winners, records_count 1 award winners (d ∙ sym l));
  filled = record { inside = omega arith; left = refl; holds = refl };
}

module _ (award winners o out : List ℕ) (used i : ℕ) (w : Writing award winners o out used i) where
  module _ (h : i < 32) where
    abbrev next : List ℕ
    next = record_of (i + 1) (get_or winners i 0) (get_or award i 0)

    turn : left award winners i ≡ cond (eqb (get_or award i 0) 0) (left award winners (i + 1)) (next ++ left award winners (i + 1))
    turn = rw (add-one (i + 1)) (records_turn (i + 1) award winners i (omega arith) (omega arith))

    pub writing_passed : get_or award i 0 ≤ 0 → Writing award winners o out used (i + 1)
    writing_passed z =
        let e : left award winners i ≡ left award winners (i + 1) = rw (eq-eqb (get_or award i 0) 0 (omega arith)) at turn in
        record {
          levels = w.levels;
          developers = w.developers;
          within = omega arith;
          long = w.long;
          room = w.room;
          filled = subst (λ (r : List ℕ). Filled (text award winners) o out r used) e w.filled;
        }

    module _ (z : 0 < get_or award i 0) where
      before : Filled (text award winners) o out (next ++ left award winners (i + 1)) used
      before =
          let e : left award winners i ≡ next ++ left award winners (i + 1) = rw (ne_eqb (get_or award i 0) 0 (λ d. omega arith)) at turn in
          subst (λ (r : List ℕ). Filled (text award winners) o out r used) e w.filled

      pub writing_room : used + 6 ≤ length out
      writing_room = omega (arith, ap length before.left, length-drop used (text award winners), before.inside)

      pub writing_taken :
          (ys : List ℕ) → length ys ≡ length (mid_of used (length out - used) out) → ys ≡ laid next (mid_of used (length out - used) out) →
          Writing award winners o (put_mid used (length out - used) out ys) (used + 6) (i + 1)
      writing_taken ys k e = record {
        levels = w.levels;
        developers = w.developers;
        within = omega arith;
        long = same_len_mid used (length out - used) out ys k ∙ w.long;
        room = w.room;
        filled = filled_more _ _ _ _ used next ys before e;
      }

  pub writing_end : 32 ≤ i → out ≡ laid (flatten (records_of 1 award winners)) o
  unfolding records_of flatten
  writing_end h =
      (filled_all _ _ _ _ _ w.filled (ap (λ (xs : List ℕ). flatten (records_of (i + 1) xs (drop i winners)))
      (drop_of_length-le award {i = i} (omega arith)))).1
