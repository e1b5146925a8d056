-- What the code asks of the table, one computed test over its rows.
use Rattle.std.specs.Prelude.{ℕ, zero, suc, ◌-◌, ◌*◌, ◌^◌, ◌≤◌, ◌<◌, ◌≡◌, refl, Bool, true, ◌&&◌, ◌||◌, List, [], ◌∷◌, eqb, leb, length, get_or}
use Rattle.std.proofs.Common.{⊎_elim, zero-mul, mul-le-mul, zero-lt-suc, arith, eqb-true, leb-true, get_or-take}
use Rattle.std.proofs.Math.Nat.{pow-le-pow_right}
use Rattle.rules_numbers.specs.Cases.{and_true, or_true, le_or_lt}
use Rattle.rules_numbers.specs.Lists.{total, all}
use Rattle.rules_format.specs.Fields.{Row, table_rows, listed, table_row_in, fixed, each, count, repeats}
use Rattle.rules_format.specs.TableLaws.{row_passes}

-- at most 7 fixed fields, of 1 to 16 digits; at most 2 follow for each one that a last fixed field of 2 digits counts

narrow : ℕ → Bool
narrow w = leb 1 w && leb w 16

fitting : Row → Bool
fitting r =
    leb (length r.widths) 7 && all narrow r.widths && leb (total r.widths) 128 && leb r.repeated 2
    && (eqb r.repeated 0 || (leb 1 (length r.widths) && leb (get_or r.widths (length r.widths - 1) listed) 2))

-- of widths and how many fields follow
pub record Fitting (ws : List ℕ) (n : ℕ) : Type 0 where
  pub at_most_seven : length ws ≤ 7
  pub digits : total ws ≤ 128
  pub positive : (j : ℕ) → j < length ws → 1 ≤ get_or ws j 0
  pub small : (j : ℕ) → get_or ws j 0 ≤ 16
  pub follow : n ≤ 2
  pub counts : (n ≡ 0 → ⊥) → (1 ≤ length ws) × (get_or ws (length ws - 1) listed ≤ 2)

narrow_positive : (ws : List ℕ) → all narrow ws ≡ true → (j : ℕ) → j < length ws → 1 ≤ get_or ws j 0
unfolding narrow all
narrow_positive [] e j h = absurd (omega arith)
narrow_positive (w ∷ ws) e zero h = leb-true 1 w (and_true (leb 1 w) (leb w 16) (and_true (narrow w) (all narrow ws) e).0).0
narrow_positive (w ∷ ws) e (suc j) h = narrow_positive ws (and_true (narrow w) (all narrow ws) e).1 j (omega arith)

narrow_small : (ws : List ℕ) → all narrow ws ≡ true → (j : ℕ) → get_or ws j 0 ≤ 16
unfolding narrow all
narrow_small [] e j = omega arith
narrow_small (w ∷ ws) e zero = leb-true w 16 (and_true (leb 1 w) (leb w 16) (and_true (narrow w) (all narrow ws) e).0).1
narrow_small (w ∷ ws) e (suc j) = narrow_small ws (and_true (narrow w) (all narrow ws) e).1 j

counts_in : (ws : List ℕ) (n : ℕ) → eqb n 0 || (leb 1 (length ws) && leb (get_or ws (length ws - 1) listed) 2) ≡ true → (n ≡ 0 → ⊥)
    → (1 ≤ length ws) × (get_or ws (length ws - 1) listed ≤ 2)
counts_in ws n e h =
    ⊎_elim
    (λ z. absurd (h (eqb-true n 0 z)))
    (λ z. let b = and_true (leb 1 (length ws)) (leb (get_or ws (length ws - 1) listed) 2) z in (leb-true _ _ b.0, leb-true _ _ b.1))
    (or_true (eqb n 0) (leb 1 (length ws) && leb (get_or ws (length ws - 1) listed) 2) e)

fitting_row : (r : Row) → fitting r ≡ true → Fitting r.widths r.repeated
unfolding fitting
fitting_row r e =
    let t4 = and_true _ _ e in
    let t3 = and_true _ _ t4.0 in
    let t2 = and_true _ _ t3.0 in
    let t1 = and_true _ _ t2.0 in
    record {
      at_most_seven = leb-true _ _ t1.0;
      digits = leb-true _ _ t2.1;
      positive = narrow_positive r.widths t1.1;
      small = narrow_small r.widths t1.1;
      follow = leb-true _ _ t3.1;
      counts = counts_in r.widths r.repeated t4.1;
    }

pub fitting_kind : (k : ℕ) → Fitting (fixed k) (each k)
unfolding fitting narrow fixed each total all
fitting_kind k = fitting_row (table_row_in table_rows k) (row_passes fitting table_rows refl refl k)

-- ---- how many fields follow

-- none for a kind that repeats nothing
pub repeats_none : (k : ℕ) (ns : List ℕ) → each k ≡ 0 → repeats k ns ≡ 0
repeats_none k ns z = rw (z, zero-mul)

-- few where the last fixed field fits its width
pub repeats_few : (k : ℕ) (ns : List ℕ) → count k ns < 16 ^ get_or (fixed k) (length (fixed k) - 1) listed → repeats k ns ≤ 512
repeats_few k ns h = ⊎_elim
    (λ z. let e : each k ≡ 0 = omega arith in omega (arith, repeats_none k ns e))
    (λ z.
    let f = fitting_kind k in
    let w : get_or (fixed k) (length (fixed k) - 1) listed ≤ 2 = (f.counts (λ e. omega arith)).1 in
    let b : 16 ^ get_or (fixed k) (length (fixed k) - 1) listed ≤ 256 = pow-le-pow_right (zero-lt-suc 15) w in
    mul-le-mul {n₂ = 2} {m₂ = 256} (omega (arith, f.follow)) (omega arith))
    (le_or_lt (each k) 0)

-- the last fixed field counts them
pub repeats_are : (k : ℕ) (ns : List ℕ) → (each k ≡ 0 → ⊥) → (1 ≤ length (fixed k)) × (each k * get_or ns (length (fixed k) - 1) 0 ≡ repeats k ns)
unfolding count
repeats_are k ns z =
    let h : 1 ≤ length (fixed k) = ((fitting_kind k).counts z).0 in
    (h, rw (get_or-take (length (fixed k)) ns (length (fixed k) - 1) 0 (omega arith)))
