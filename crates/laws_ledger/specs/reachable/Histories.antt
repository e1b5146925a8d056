-- Withdrawals behind withdrawals: levels that fall, prices that do not rise, the last level.
use Rattle.std.specs.Prelude.{ℕ, ◌≤◌, ◌<◌, ◌≡◌, true, List, [], ◌∷◌, ◌++◌}
use Rattle.std.proofs.Common.{arith, lt-ltb}
use Rattle.rules_auction.specs.Ledger.{declared_or_zero, Step}
use Rattle.rules_auction.specs.Refusals.{falling, lowering}
use Rattle.rules_auction.specs.Rounds.{last_level}
use Rattle.laws_ledger.specs.Sound.{prices_of, levels_of, Descends}
use Rattle.rules_auction.specs.CheckLaws.{falling_first, lowering_first}
pub use Rattle.rules_auction.specs.RoundLaws.{last_level_append}

pub lowering_next : (ls : List ℕ) (q v : ℕ) (vs : List ℕ) → declared_or_zero ls v ≡ true → v < q → lowering ls v vs ≡ true → lowering ls q (v ∷ vs) ≡ true
unfolding lowering
lowering_next ls q v vs d h e = rw (d, lt-ltb v q h) e

pub lowering_append :
    (ls : List ℕ) (q : ℕ) (ws vs : List Step) →
    lowering ls q (levels_of ws) ≡ true → lowering ls (last_level q ws) (levels_of vs) ≡ true → lowering ls q (levels_of (ws ++ vs)) ≡ true
unfolding last_level
lowering_append ls q [] vs e f = f
lowering_append ls q (w ∷ ws) vs e f =
    let t = lowering_first ls q w.level (levels_of ws) e in
    lowering_next ls q w.level (levels_of (ws ++ vs)) t.0 t.1 (lowering_append ls w.level ws vs t.2 f)

-- a list that may begin at o may begin above it
pub descends_from : (c o a : ℕ) (ws : List Step) → o ≤ a → Descends c o ws → Descends c a ws
unfolding Descends
descends_from c o a [] h d = tt
descends_from c o a (w ∷ ws) h d = (d.0, (let k = d.1 in omega arith), d.2)

pub descends_append : (c o a : ℕ) (ws vs : List Step) → c ≤ o → o ≤ a → Descends o a ws → Descends c o vs → Descends c a (ws ++ vs)
unfolding Descends
descends_append c o a [] vs h g d e = descends_from c o a vs g e
descends_append c o a (w ∷ ws) vs h g d e = ((let k = d.0 in omega arith), d.1, descends_append c o w.price ws vs h d.0 d.2 e)

-- the prices of an offer do not rise
pub falling_descends : (c o : ℕ) (ss : List Step) → falling c o (prices_of ss) ≡ true → Descends c o ss
unfolding Descends
falling_descends c o [] e = tt
falling_descends c o (s ∷ ss) e =
    let t = falling_first c o s.price (prices_of ss) e in
    (t.0, (let k = t.1 in omega arith), falling_descends c s.price ss t.2)
