-- Laws of the records: one for each level above 0, each of 6 bytes.
use Rattle.std.specs.Prelude.{ℕ, zero, suc, ◌*◌, ◌≤◌, ◌≡◌, refl, cond, ltb, eqb, length}
use Rattle.std.proofs.Common.{ap, arith, lt-ltb}
use mathlib.Core.List.Memᴰ
use mathlib.Core.List.{List, [], ◌∷◌, flatten}
use Rattle.std.proofs.Math.Dec.{eqb-suc-zero}
use Rattle.rules_numbers.specs.Lists.{keep}
use Rattle.rules_numbers.specs.ListLaws.{Each, each_more, flat_length}
use Rattle.rules_auction.specs.Settling.{record_of}
use Rattle.engine_award.specs.award_records.Records.{award_count, records_of}

-- the number of the records does not depend on the developers
pub records_count : (k : ℕ) (vs ns : List ℕ) → length ns ≡ length vs → length (records_of k vs ns) ≡ award_count vs
unfolding records_of keep
records_count k [] ns e = refl
records_count k (v ∷ vs) [] e = absurd (omega arith)
records_count k (v ∷ vs) (n ∷ ns) e = go v (records_count (suc k) vs ns (omega arith))
  where
    go :
        (w : ℕ) → length (records_of (suc k) vs ns) ≡ award_count vs →
        length (cond (eqb w 0) (records_of (suc k) vs ns) (record_of k n v ∷ records_of (suc k) vs ns))
        ≡ length (cond (ltb 0 w) (v ∷ keep (ltb 0) vs) (keep (ltb 0) vs))
    go zero d = d
    go (suc w) d = rw (eqb-suc-zero w, lt-ltb 0 (suc w) (omega arith)) (ap suc d)

-- and they are no more, however many developers there are
pub records_few : (k : ℕ) (vs ns : List ℕ) → length (records_of k vs ns) ≤ award_count vs
unfolding records_of keep
records_few k [] ns = omega arith
records_few k (v ∷ vs) [] = omega arith
records_few k (v ∷ vs) (n ∷ ns) = go v (records_few (suc k) vs ns)
  where
    go :
        (w : ℕ) → length (records_of (suc k) vs ns) ≤ award_count vs →
        length (cond (eqb w 0) (records_of (suc k) vs ns) (record_of k n v ∷ records_of (suc k) vs ns)) ≤ length
        (cond (ltb 0 w) (v ∷ keep (ltb 0) vs) (keep (ltb 0) vs))
    go zero d = d
    go (suc w) d = rw (eqb-suc-zero w, lt-ltb 0 (suc w) (omega arith)) (omega arith)

-- a record has 6 bytes
six_bytes : (k : ℕ) (vs ns : List ℕ) → Each (λ r. length r ≡ 6) (records_of k vs ns)
unfolding records_of
six_bytes k [] ns r m = absurd (Memᴰ.not-nil m)
six_bytes k (v ∷ vs) [] r m = absurd (Memᴰ.not-nil m)
six_bytes k (v ∷ vs) (n ∷ ns) r m = each_more (λ q. length q ≡ 6) (eqb v 0) (record_of k n v) _ refl (six_bytes (suc k) vs ns) r m

pub records_length : (k : ℕ) (vs ns : List ℕ) → length (flatten (records_of k vs ns)) ≡ 6 * length (records_of k vs ns)
records_length k vs ns = flat_length 6 (records_of k vs ns) (six_bytes k vs ns)
