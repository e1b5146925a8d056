-- What the code's tests say: a quotient against a number, a level that counts by two tests, and the price by the mark.
use Prim.Native.Nat.{ℕ, min, ◌*◌, ◌/◌, ◌<◌}
use mathlib.Core.Path.{◌≡◌, refl, sym, ap₂, ◌∙◌}
use mathlib.Core.Bool.{Bool, true, false, cond, not, ◌&&◌}
use native.Mathlib.Nat.{div-lt_iff_lt-mul, le-div_iff_mul-le, mul_comm}
use lib.Dec.{leb, ltb}
use borrow.Author.Tests.{leb-true, leb-false, ltb-true, ltb-false, lt-ltb, le-ltb}
use Rattle.rules_auction.specs.Participation.{sufficient, price_paid}
use Rattle.engine_award.specs.participation.Judged.{Pays}

-- x below k times d, by a quotient: no product of d is taken
pub by_quotient : (x k d : ℕ) → 0 < k → ltb (x / k) d ≡ ltb x (k * d)
by_quotient x k d h = go (ltb (x / k) d) refl
  where
    go : (b : Bool) → ltb (x / k) d ≡ b → b ≡ ltb x (k * d)
    go true e = sym (lt-ltb x (k * d) (rw (mul_comm k d) ((div-lt_iff_lt-mul h).0 (ltb-true (x / k) d e))))
    go false e = sym (le-ltb x (k * d) (rw (mul_comm k d) ((le-div_iff_mul-le h).0 (ltb-false (x / k) d e))))

-- y counts x by the second test, x counts v by the first
pub both : (s t : Bool) (v : ℕ) {x y : ℕ} → x ≡ cond s v 0 → y ≡ cond t x 0 → y ≡ cond (s && t) v 0
both true true v e f = f ∙ e
both true false v e f = f
both false true v e f = f ∙ e
both false false v e f = f

-- what counts nothing by the first test counts nothing by both
pub neither : (s t : Bool) (v : ℕ) → 0 ≡ cond s v 0 → 0 ≡ cond (s && t) v 0
neither true true v e = e
neither true false v e = refl
neither false true v e = refl
neither false false v e = refl

-- n is below m exactly where m is not at most n
pub not_leb : (m n : ℕ) → ltb n m ≡ not (leb m n)
not_leb m n = go (leb m n) refl
  where
    go : (b : Bool) → leb m n ≡ b → ltb n m ≡ not b
    go true e = le-ltb n m (leb-true m n e)
    go false e = lt-ltb n m (leb-false m n e)

-- the price paid, by the mark
pub pays : (insufficient : Bool) (ce p : ℕ) {r : ℕ} → r ≡ cond insufficient (min p (ce * 11 / 10)) p → Pays insufficient ce p r
unfolding price_paid
pays insufficient ce p e = record {
  paid = λ l gs m h. e ∙ ap₂ (λ (b : Bool) (n : ℕ). cond b (min p (n * 11 / 10)) p) m h ∙ turned (sufficient l gs) (min p (l.settings.ce * 11 / 10));
}
  where
    turned : (b : Bool) (n : ℕ) → cond (not b) n p ≡ cond b p n
    turned true n = refl
    turned false n = refl
