-- Bounds that a sound ledger keeps: few withdrawals, quantities that are declared or 0, prices from the last C to A and from the floor to
-- twice CE.
use Rattle.std.specs.Prelude.{ℕ, ◌+◌, ◌≤◌, ◌≡◌, true, false, length}
use Rattle.std.proofs.Common.{sym, subst, ⊎_elim, arith, length-append}
use mathlib.Core.List.Memᴰ
use mathlib.Core.List.{List, [], ◌∷◌, ◌++◌, Memᴰ}
use Rattle.std.proofs.lemmas.List.{length-map}
use Rattle.rules_numbers.specs.ListLaws.{last_in}
use Rattle.rules_demand.specs.Demand.{InRange}
use Rattle.rules_auction.specs.Ledger.{declared_or_zero, Step, Standing, made, Developer, Ledger}
use Rattle.rules_auction.specs.Clearing.{highest}
use Rattle.rules_auction.specs.Refusals.{is_fresh, lowering}
use Rattle.rules_auction.specs.Rounds.{last_level}
use Rattle.rules_auction.specs.CheckLaws.{in_settings, levels_facts, lowering_first}
use Rattle.laws_ledger.specs.Sound.{started, levels_of, Descends, SoundDeveloper, SoundSteps, SoundOffer, Registered, Sound}
use Rattle.laws_ledger.specs.clearing.HighLow.{highest_declared_lem}
use Rattle.laws_ledger.specs.clearing.ClosingPrice.{passed_in_range}
use Rattle.laws_ledger.specs.reachable.Histories.{lowering_append}
use Rattle.laws_ledger.specs.reachable.Counting.{lowering_few}

-- ---- withdrawals and quantities

pub falls_few : {c a : ℕ} {x : Developer} → SoundDeveloper c a x → (ws : List Step) → lowering x.declared.levels (highest x) (levels_of ws) ≡ true →
    length ws ≤ 8
falls_few {x = x} d ws e =
    let f = levels_facts x.declared.levels d.declared.levels in
    omega (arith, length-map ws (λ (w : Step). w.level), lowering_few x.declared.levels (highest x) (levels_of ws) (last_in 0 x.declared.levels) e)

pub withdrawals_few : {c a : ℕ} {x : Developer} → SoundDeveloper c a x → length x.withdrawals ≤ 8
withdrawals_few {x = x} d = falls_few d x.withdrawals d.falls

-- of every number of a sound ledger
pub history_few : (l : Ledger) → Sound l → (n : ℕ) → length (l.developers n).withdrawals ≤ 8
history_few l s n = ⊎_elim
    (λ e. subst (λ (x : Developer). length x.withdrawals ≤ 8) (sym e) (omega arith))
    (λ r. withdrawals_few r.developer) (s.each n)

-- steps that fall from the quantity stand behind the withdrawals, and both are eight at most
behind_few :
    {c a : ℕ} {x : Developer} (ss : List Step) → SoundDeveloper c a x → lowering x.declared.levels x.quantity (levels_of ss) ≡ true →
    length x.withdrawals + length ss ≤ 8
behind_few {x = x} ss d e =
    let behind = subst (λ (q : ℕ). lowering x.declared.levels q (levels_of ss) ≡ true) d.quantity e in
    let falls = lowering_append x.declared.levels (highest x) x.withdrawals ss d.falls behind in
    omega (arith, length-append x.withdrawals ss, falls_few d (x.withdrawals ++ ss) falls)

-- the withdrawals and behind them the steps of the standing offer are eight at most
pub offer_fits : {l : Ledger} {n : ℕ} {ss : List Step} → Registered l n → (l.developers n).offer ≡ made ss →
    length (l.developers n).withdrawals + length ss ≤ 8
unfolding SoundOffer
offer_fits {l} {n} {ss} r e =
    let x = l.developers n in
    let o : SoundSteps l x ss = subst (λ (s : Standing). SoundOffer l x s) e r.offer in
    behind_few ss r.developer o.levels

-- and so are the withdrawals and the lodged steps not reached
pub lodged_fits : {l : Ledger} {n : ℕ} → Registered l n → length (l.developers n).withdrawals + length (l.developers n).lodged ≤ 8
lodged_fits {l} {n} r = behind_few (l.developers n).lodged r.developer r.lodged.levels

pub descends_each : (c a : ℕ) (w : Step) (ws : List Step) → Memᴰ w ws → Descends c a ws → (c ≤ w.price) × (w.price ≤ a)
unfolding Descends
descends_each c a w [] m d = absurd (Memᴰ.not-nil m)
descends_each c a w (u ∷ ws) m d = ⊎_elim
    (λ e. subst (λ (s : Step). (c ≤ s.price) × (s.price ≤ a)) (sym e) (d.0, d.1))
    (λ k. let r = descends_each c u.price w ws k d.2 in (r.0, (let h = d.1 in omega arith)))
    (Memᴰ.cases_cons m)

last_declared : (ls : List ℕ) (q : ℕ) (ws : List Step) → lowering ls q (levels_of ws) ≡ true → declared_or_zero ls q ≡ true →
    declared_or_zero ls (last_level q ws) ≡ true
unfolding last_level
last_declared ls q [] e d = d
last_declared ls q (w ∷ ws) e d = let k = lowering_first ls q w.level (levels_of ws) e in last_declared ls w.level ws k.2 k.0

-- the quantity is a declared level or 0
pub quantity_declared : {c a : ℕ} {x : Developer} → SoundDeveloper c a x → declared_or_zero x.declared.levels x.quantity ≡ true
quantity_declared {x = x} d = rw d.quantity (last_declared x.declared.levels (highest x) x.withdrawals d.falls (highest_declared_lem x))

-- ---- prices

module _ {l : Ledger} (s : Sound l) where
  pub a_in_range : is_fresh l.phase ≡ false → InRange l.settings.ce l.settings.a
  a_in_range e = let f = in_settings l.settings (s.settings e) in record { low = omega arith; high = f.high }

  pub closing_in_range : started l.phase ≡ true → InRange l.settings.ce l.closing
  closing_in_range e = let p = s.prices e in passed_in_range l s e l.closing (omega arith) (omega arith)
