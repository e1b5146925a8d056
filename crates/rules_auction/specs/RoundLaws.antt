-- Closing a round in words (document 01, Rounds): what it leaves of each developer, the excess, and when the auction is closed.
use Rattle.std.specs.Prelude.{ℕ, suc, ◌+◌, ◌-◌, ◌/◌, ◌<◌, ◌≡◌, ◌⊎◌, ◌↔◌, ◌||◌, List, [], ◌∷◌, ◌++◌, ltb, eqb, negsuc, ◌-ℤ◌}
use Rattle.std.proofs.Math.Path.{refl, ap}
use Rattle.std.proofs.Common.{sym, ◌∙◌, ⊎_elim, true≢false, arith, ltb-true, ltb-false, lt-ltb, le-ltb, eqb-true, eq-eqb, ne_eqb}
use Rattle.std.proofs.Math.Logic.{⊎_map}
use Rattle.std.proofs.Math.Bool.{Bool, true, false, cond}
use Rattle.std.proofs.Math.IntN.{pos}
use Rattle.rules_numbers.specs.Cases.{and_true, or_true, or_left, or_right, le_or_lt}
use Rattle.rules_demand.specs.Signs.{minus}
use Rattle.rules_auction.specs.Ledger.{Step, Close, Standing, none, Developer, Phase, Between, Closed, Ledger}
use Rattle.rules_auction.specs.Clearing.{developers_of, greatest_of, supply, demand_at}
use Rattle.rules_auction.specs.Refusals.{floor}
use Rattle.rules_auction.specs.Rounds.{withdraws_all, reached, unreached, added, last_level, applied, supply_after, thousandths, at_most_zero, clears}
use Rattle.rules_auction.specs.Rounds.{phase_after, accepted}

pub last_level_append : (q : ℕ) (ws vs : List Step) → last_level q (ws ++ vs) ≡ last_level (last_level q ws) vs
unfolding last_level
last_level_append q [] vs = refl
last_level_append q (w ∷ ws) vs = last_level_append w.level ws vs

-- ---- a developer after the closing

-- a missing offer adds a withdrawal to 0 at the opening price o, of a kind 2 developer above 0 alone; of the others the lodged steps reached
pub by_missing :
    (P : List Step → Type 0) (c o : ℕ) (x : Developer) → (x.declared.kind ≡ 2 → 0 < x.quantity → P (record { price = o; level = 0 } ∷ [])) →
    ((x.declared.kind ≡ 2 → 0 < x.quantity → ⊥) → P (reached c o x.lodged)) → P (added c o x none)
unfolding added withdraws_all
by_missing P c o x h g = go (withdraws_all x.declared.kind x.quantity) refl
  where
    go : (b : Bool) → withdraws_all x.declared.kind x.quantity ≡ b → P (cond b (record { price = o; level = 0 } ∷ []) (reached c o x.lodged))
    go true e = let t = and_true (eqb x.declared.kind 2) (ltb 0 x.quantity) e in h (eqb-true _ 2 t.0) (ltb-true 0 _ t.1)
    go false e = g (λ k q. true≢false (rw (eq-eqb x.declared.kind 2 k, lt-ltb 0 x.quantity q) at e))

-- developer n after the closing: at quantity q, with ws behind its withdrawals and no offer; its declaration and its agent stay, and so do the
-- lodged steps not reached
pub record AfterClosing (l : Ledger) (n q : ℕ) (ws : List Step) : Type 0 where
  pub declared : ((accepted l Close).developers n).declared ≡ (l.developers n).declared
  pub agent : ((accepted l Close).developers n).agent ≡ (l.developers n).agent
  pub quantity : ((accepted l Close).developers n).quantity ≡ q
  pub withdrawals : ((accepted l Close).developers n).withdrawals ≡ (l.developers n).withdrawals ++ ws
  pub offer : ((accepted l Close).developers n).offer ≡ none
  pub lodged : ((accepted l Close).developers n).lodged ≡ unreached l.closing l.opening (l.developers n).lodged

-- by what the closing adds for its standing offer
pub after_closing : (l : Ledger) (n : ℕ) (s : Standing) (ws : List Step) → (l.developers n).offer ≡ s →
    added l.closing l.opening (l.developers n) s ≡ ws → AfterClosing l n (last_level (l.developers n).quantity ws) ws
unfolding accepted applied
after_closing l n s ws e a =
    let b = ap (added l.closing l.opening (l.developers n)) e ∙ a in
    record {
      declared = refl;
      agent = refl;
      quantity = ap (last_level (l.developers n).quantity) b;
      withdrawals = ap (λ vs. (l.developers n).withdrawals ++ vs) b;
      offer = refl;
      lodged = refl;
    }

-- ---- the excess in thousandths of a GWh (document 02, 1)

zero_or_less : (m : ℕ) → at_most_zero (pos 0 -ℤ pos m) ≡ true
zero_or_less m = rw (minus 0 m) (go (ltb 0 m))
  where
    go : (b : Bool) → at_most_zero (cond b (negsuc (m - 1)) (pos (0 - m))) ≡ true
    go true = refl
    go false = eq-eqb (0 - m) 0 (omega arith)

whole_thousands : (n : ℕ) → eqb (n / 1000) 0 ≡ ltb n 1000
whole_thousands n = ⊎_elim
    (λ h. ne_eqb (n / 1000) 0 (λ e. omega arith) ∙ sym (le-ltb n 1000 h))
    (λ h. eq-eqb (n / 1000) 0 (omega arith) ∙ sym (lt-ltb n 1000 h))
    (le_or_lt 1000 n)

-- so read, an excess is 0 or less exactly when it is below 1,000 kWh
pub below_a_thousand : (s d : ℕ) → at_most_zero (thousandths (pos s -ℤ pos d)) ≡ ltb s (d + 1000)
unfolding thousandths
below_a_thousand s d = rw (minus s d) (go (ltb s d) refl)
  where
    go : (b : Bool) → ltb s d ≡ b → at_most_zero (thousandths (cond b (negsuc (d - suc s)) (pos (s - d)))) ≡ ltb s (d + 1000)
    go true e = zero_or_less (suc (d - suc s) / 1000) ∙ sym (lt-ltb s (d + 1000) (let h = ltb-true s d e in omega arith))
    go false e = whole_thousands (s - d) ∙ ⊎_elim
        (λ h. le-ltb (s - d) 1000 (omega arith) ∙ sym (le-ltb s (d + 1000) h))
        (λ h. lt-ltb (s - d) 1000 (let g = ltb-false s d e in omega arith) ∙ sym (lt-ltb s (d + 1000) h))
        (le_or_lt (d + 1000) s)

-- ---- the auction after the closing

module _ (l : Ledger) where
  -- supply after the withdrawals at C is that of the quantities they leave
  pub supply_after_closing : supply_after l ≡ supply (λ x. x.quantity) (accepted l Close)
  unfolding supply_after supply greatest_of developers_of accepted applied
  supply_after_closing = refl

  -- the auction is closed exactly where the excess is below 1,000 kWh or C is the floor
  pub closed_when : ((accepted l Close).phase ≡ Closed) ↔ ((supply_after l < demand_at l l.closing + 1000) ⊎ (l.closing ≡ floor l))
  unfolding accepted phase_after clears
  closed_when = (decided test refl, (λ h. ap (λ b. cond b Closed Between) (passes h)))
    where
      met : Bool
      met = at_most_zero (thousandths (pos (supply_after l) -ℤ pos (demand_at l l.closing)))

      met_is : met ≡ ltb (supply_after l) (demand_at l l.closing + 1000)
      met_is = below_a_thousand (supply_after l) (demand_at l l.closing)

      test : Bool
      test = met || eqb l.closing (floor l)

      decided : (b : Bool) → test ≡ b → cond b Closed Between ≡ Closed → (supply_after l < demand_at l l.closing + 1000) ⊎ (l.closing ≡ floor l)
      decided true e h = ⊎_map (λ t. ltb-true _ _ (sym met_is ∙ t)) (eqb-true _ _) (or_true met _ e)
      decided false e h = absurd (let z : ◌≡◌ {A = ℕ} 0 1 = cc in omega arith)

      passes : (supply_after l < demand_at l l.closing + 1000) ⊎ (l.closing ≡ floor l) → test ≡ true
      passes = ⊎_elim (λ h. or_left met _ (met_is ∙ lt-ltb _ _ h)) (λ h. or_right met _ (eq-eqb _ _ h))

  pub by_phase_after : (P : Phase → Type 0) → P Closed → P Between → P (phase_after l)
  unfolding phase_after
  by_phase_after P h g = go (clears (supply_after l) (demand_at l l.closing) l.closing (floor l))
    where
      go : (b : Bool) → P (cond b Closed Between)
      go true = h
      go false = g
