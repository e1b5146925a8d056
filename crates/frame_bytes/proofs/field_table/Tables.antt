-- What the code's table has of each kind is what the format's has: lists indexed by kind, compared as antt computes them. A kind behind them has nothing.
use Prim.Native.Nat.{ℕ, zero, suc, ◌+◌, ◌≤◌, ◌<◌}
use mathlib.Core.Path.{◌≡◌, refl, sym, ap, ◌∙◌}
use mathlib.Core.Bool.{Bool, true, false, cond}
use mathlib.Core.List.{List, [], ◌∷◌}
use native.Mathlib.Omega.{arith}
use native.Mathlib.Nat.{zero-add}
use borrow.Author.Tests.{ne_eqb, ltb-true}
use lib.Dec.{ltb}
use lib.ListN.{get_or}
use Rattle.rules_numbers.specs.Cases.{and_true}
use Rattle.rules_numbers.specs.Lists.{any, all, padded}
use Rattle.rules_format.specs.Fields as format
use Rattle.rules_format.specs.Fields.{no_row, table_row_in}
use Rattle.rules_format.specs.Fields.{table_rows, known, fixed, each}
use Rattle.rules_format.specs.TableLaws.{row_kind}
use Rattle.frame_bytes.specs.declared.field_table.Row.{Row}
use Rattle.frame_bytes.specs.field_table.Shapes.{Tabled}

-- what f has of n kinds from k on
abbrev pub of_kinds : {A : Type 0} → (ℕ → A) → ℕ → ℕ → List A
of_kinds f k zero = []
of_kinds f k (suc n) = f k ∷ of_kinds f (suc k) n

of_kind_lem : {A : Type 0} (f : ℕ → A) (n k i : ℕ) (d : A) → i < n → get_or (of_kinds f k n) i d ≡ f (k + i)
of_kind_lem f zero k i d h = absurd (omega arith)
of_kind_lem f (suc n) k zero d h = let e : k ≡ k + 0 = omega arith in ap f e
of_kind_lem f (suc n) k (suc i) d h = let e : suc k + i ≡ k + suc i = omega arith in of_kind_lem f n (suc k) i d (omega arith) ∙ ap f e

-- the law of each list of the table: where it is f's of the ten kinds, it has at each kind's place what f has of the kind
pub table_at : {A : Type 0} (f : ℕ → A) (xs : List A) (k : ℕ) (d : A) → xs ≡ of_kinds f 0 10 → k < 10 → get_or xs k d ≡ f k
table_at f xs k d e h = ap (λ l. get_or l k d) e ∙ of_kind_lem f 10 0 k d h ∙ ap f (zero-add k)

-- a kind above those of all rows has none
row_none : (rs : List format.Row) (n k : ℕ) → all (λ r. ltb r.kind n) rs ≡ true → n ≤ k → table_row_in rs k ≡ no_row
unfolding all
row_none [] n k e h = refl
row_none (r ∷ rs) n k e h =
    let b = and_true (ltb r.kind n) (all (λ q. ltb q.kind n) rs) e in
    let f : r.kind ≡ k → ⊥ = λ q. omega (arith, ltb-true r.kind n b.0) in
    rw (ne_eqb r.kind k f) (row_none rs n k b.1 h)

module _ (k : ℕ) where
  -- the kind of the row tells whether the table has it
  has_kind : (table_row_in table_rows k).kind ≡ cond (known k) k 0
  unfolding known any
  has_kind = row_kind table_rows k

  -- each kind below 10 but 0 has its own row
  pub tabled_here : (k ≡ 0 → ⊥) → k < 10 → (r : Row) → r.kind ≡ k → r.widths ≡ padded 8 (table_row_in table_rows k).widths
      → r.each ≡ (table_row_in table_rows k).repeated → (known k ≡ true) × Tabled k r
  unfolding fixed each
  tabled_here z h r e w f =
      let own : k ≡ (table_row_in table_rows k).kind =
      sym (of_kind_lem (λ (j : ℕ). j) 10 0 k 0 h ∙ zero-add k) ∙ table_at (λ (j : ℕ). (table_row_in table_rows j).kind) (of_kinds (λ (j : ℕ). j) 0 10) k 0 refl h in
      (go (known k) (own ∙ has_kind), record { kind = e; widths = w; follow = f })
    where
      go : (b : Bool) → k ≡ cond b k 0 → b ≡ true
      go true e = refl
      go false e = absurd (z e)

  pub tabled_none : 10 ≤ k → known k ≡ false
  unfolding all
  tabled_none h = go (known k) (ap (λ (q : format.Row). q.kind) (sym (row_none table_rows 10 k refl h)) ∙ has_kind)
    where
      go : (b : Bool) → 0 ≡ cond b k 0 → b ≡ false
      go true e = absurd (omega arith)
      go false e = refl

pub no_kind_0 : known 0 ≡ false
unfolding known any
no_kind_0 = refl
