-- Laws of the table, over any rows: the row of a kind, and what one computed test shows of it.
use Rattle.std.specs.Prelude.{ℕ, ◌≡◌, refl, Bool, true, false, cond, ◌||◌, List, [], ◌∷◌, eqb}
use Rattle.std.proofs.Common.{eqb-true}
use Rattle.rules_numbers.specs.Cases.{and_true}
use Rattle.rules_numbers.specs.Lists.{any, all}
use Rattle.rules_format.specs.Fields.{Row, no_row, table_row_in}

-- a test that no row and every row passes, the row of each kind passes
pub row_passes : (test : Row → Bool) (rs : List Row) → test no_row ≡ true → all test rs ≡ true → (k : ℕ) → test (table_row_in rs k) ≡ true
unfolding all
row_passes test [] z e k = z
row_passes test (r ∷ rs) z e k = go (eqb r.kind k) (and_true (test r) (all test rs) e).0 (row_passes test rs z (and_true (test r) (all test rs) e).1 k)
  where
    go : (b : Bool) → test r ≡ true → test (table_row_in rs k) ≡ true → test (cond b r (table_row_in rs k)) ≡ true
    go true h g = h
    go false h g = g

-- the kind of a kind's row: the kind itself where the rows have it, else 0
pub row_kind : (rs : List Row) (k : ℕ) → (table_row_in rs k).kind ≡ cond (any (λ r. eqb r.kind k) rs) k 0
unfolding any
row_kind [] k = refl
row_kind (r ∷ rs) k = go (eqb r.kind k) refl (row_kind rs k)
  where
    go : (b : Bool) → eqb r.kind k ≡ b → (table_row_in rs k).kind ≡ cond (any (λ q. eqb q.kind k) rs) k 0
        → (cond b r (table_row_in rs k)).kind ≡ cond (b || any (λ q. eqb q.kind k) rs) k 0
    go true e h = eqb-true r.kind k e
    go false e h = h
