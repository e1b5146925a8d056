-- PROMISED of participation (document 02, 10): who is small and what is sufficient where there is nothing to count; mark and price paid depend on who
-- gets how much, not on the order.
use Rattle.std.specs.Prelude.{ℕ, min, ◌*◌, ◌/◌, ◌<◌, ◌≡◌, Bool, true, ◌&&◌}
use Rattle.std.proofs.Math.Path.{ap, ap₂}
use Rattle.std.proofs.Math.Bool.{cond}
use mathlib.Core.List.{List, [], Permᴰ}
use Rattle.std.proofs.Common.{arith, le-leb, lt-ltb}
use Rattle.std.proofs.Math.Dec.{leb}
use Rattle.rules_numbers.specs.Lists.{total}
use Rattle.rules_numbers.specs.Sums.{total_kept_permuted}
use Rattle.rules_auction.specs.Ledger.{Ledger}
use Rattle.rules_auction.specs.Participation.{existing_plants, is_small, Grant, is_new, is_to_small, new_award, new_to_small, sufficient, price_paid}

-- an agent without existing plants is small
pub none_small : (l : Ledger) (g : ℕ) → existing_plants l g ≡ [] → 0 < l.settings.d → is_small l g ≡ true
unfolding is_small total
none_small l g e h = rw e (lt-ltb 0 (15 * l.settings.d) (omega arith))

-- with no new award participation is sufficient
pub none_sufficient : (l : Ledger) (gs : List Grant) → new_award l gs ≡ 0 → sufficient l gs ≡ true
unfolding sufficient
none_sufficient l gs e = le-leb (new_award l gs) (2 * new_to_small l gs) (omega arith)

-- ---- whatever the order of the grants

module _ (l : Ledger) {gs hs : List Grant} (d : Permᴰ gs hs) where
  pub sufficient_permuted : sufficient l gs ≡ sufficient l hs
  unfolding sufficient new_award new_to_small
  sufficient_permuted =
      let new = total_kept_permuted (λ g. g.quantity) (is_new l) d in
      let small = total_kept_permuted (λ g. g.quantity) (λ g. is_new l g && is_to_small l g) d in
      ap₂ (λ (m n : ℕ). leb m (2 * n)) new small

  pub paid_permuted : (p : ℕ) → price_paid l p gs ≡ price_paid l p hs
  unfolding price_paid
  paid_permuted p = ap (λ (b : Bool). cond b p (min p (l.settings.ce * 11 / 10))) sufficient_permuted
