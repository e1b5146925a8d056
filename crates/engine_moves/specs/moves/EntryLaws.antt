-- The place of a developer's entry, and the number under which it stands.
use Rattle.std.specs.Prelude.{ℕ, ◌-◌, ◌<◌, ◌≡◌, refl, Bool, true, false, cond, ◌&&◌, eqb}
use Rattle.std.proofs.Common.{arith}
use Rattle.rules_auction.specs.Refusals.{is_number, is_of_kind}
use Rattle.rules_auction.specs.CheckLaws.{is_number_lem}
use Rattle.engine_held.specs.supply.ByProject.{place_of}
use Rattle.engine_moves.specs.moves.Entries.{seat}

-- what follows a developer's number counts only under one
pub where_true : (b : Bool) {x y : Bool} → (b ≡ true → x ≡ y) → b && x ≡ b && y
where_true true h = h refl
where_true false h = refl

pub seat_is : (n : ℕ) → is_number n ≡ true → seat n ≡ n
unfolding place_of
seat_is n e = let b = is_number_lem n e in rw e (omega arith)

pub place_below : (n : ℕ) → place_of n < 32
unfolding place_of
place_below n = go (is_number n) refl
  where
    go : (b : Bool) → is_number n ≡ b → cond b (n - 1) 0 < 32
    go true e = let w = is_number_lem n e in omega arith
    go false e = omega arith

pub kind_number : (k n kind : ℕ) → is_of_kind k n kind ≡ true → is_number n ≡ true
unfolding is_of_kind
kind_number k n kind = go (is_number n) (eqb kind k)
  where
    go : (b x : Bool) → b && x ≡ true → b ≡ true
    go true x e = refl
    go false x e = e
