-- An accepted closing keeps the ledger sound: what it adds falls through declared levels or 0, from the opening price down to C.
use Rattle.std.specs.Prelude.{ℕ, ◌≤◌, ◌≡◌, true, false}
use Rattle.std.proofs.Math.Path.{refl, sym, ap, subst}
use Rattle.std.proofs.Common.{◌∙◌, arith}
use Rattle.std.proofs.Math.Logic.{inl, inr, ⊎_elim}
use mathlib.Core.List.{List, []}
use Rattle.std.proofs.Math.Nat.{le_refl}
use Rattle.rules_numbers.specs.Cases.{clash}
use Rattle.rules_numbers.specs.Lists.{keep}
use Rattle.rules_auction.specs.Ledger.{Step, Close, Standing, none, made, Developer, Phase, Round, Ledger, with_phase, with_developers}
use Rattle.rules_auction.specs.Clearing.{highest, high}
use Rattle.rules_auction.specs.Refusals.{is_fresh, floor, falling, lowering}
use Rattle.rules_auction.specs.Rounds.{withdraws_all, reached, unreached, added, last_level, applied, phase_after, accepted}
use Rattle.rules_auction.specs.RoundLaws.{last_level_append, by_missing, by_phase_after}
use Rattle.laws_ledger.specs.Sound.{started, applied_to, levels_of, Descends, SoundDeclaration, SoundDeveloper, SoundOffer, SoundLodged, Stands}
use Rattle.laws_ledger.specs.Sound.{RoundPrices, Sound}
use Rattle.laws_ledger.specs.LodgedLaws.{reached_descends, reached_lowers, unreached_falls, unreached_lowers}
use Rattle.laws_ledger.specs.reachable.Checks.{ClosePassed}
use Rattle.laws_ledger.specs.reachable.Histories.{lowering_next, lowering_append, descends_append, falling_descends}
use Rattle.laws_ledger.specs.reachable.Supplies.{covered_same, high_at_start}
use Rattle.laws_ledger.specs.reachable.Held.{in_round_lem, Kept}

-- ---- what closing adds to a developer

module _ (l : Ledger) (x : Developer) (g : SoundLodged (floor l) l.opening x) where
  pub added_lowers : (o : Standing) → SoundOffer l x o → lowering x.declared.levels x.quantity (levels_of (added l.closing l.opening x o)) ≡ true
  unfolding SoundOffer added lowering
  added_lowers none h = by_missing (λ ss. lowering x.declared.levels x.quantity (levels_of ss) ≡ true) l.closing l.opening x
      (λ k q. lowering_next x.declared.levels x.quantity 0 [] refl q refl)
      (λ i. reached_lowers x.declared.levels x.quantity (floor l) l.opening l.closing l.opening x.lodged (le_refl _) g.prices g.levels)
  added_lowers (made ss) h = h.levels

  pub added_descends : l.closing ≤ l.opening → (o : Standing) → SoundOffer l x o → Descends l.closing l.opening (added l.closing l.opening x o)
  unfolding SoundOffer added Descends
  added_descends k none h = by_missing (Descends l.closing l.opening) l.closing l.opening x
      (λ i q. (k, le_refl l.opening, tt))
      (λ i. reached_descends (floor l) l.opening l.closing l.opening x.lodged (le_refl _) g.prices)
  added_descends k (made ss) h = falling_descends l.closing l.opening ss h.prices

  -- what an existing plant's closing adds: the lodged steps reached
  added_existing : (o : Standing) → SoundOffer l x o → (x.declared.kind ≡ 2 → ⊥) →
      added l.closing l.opening x o ≡ reached l.closing l.opening x.lodged
  unfolding SoundOffer added
  added_existing none h k = by_missing (λ ss. ss ≡ reached l.closing l.opening x.lodged) l.closing l.opening x (λ e q. absurd (k e)) (λ i. refl)
  added_existing (made ss) h k = absurd (k h.kind)

  -- the lodged steps not reached
  lodged_left : SoundDeclaration x.declared → SoundOffer l x x.offer → SoundLodged (floor l) l.closing (applied l.closing l.opening x)
  unfolding applied unreached keep falling lowering
  lodged_left d h = ⊎_elim
      (λ e. record {
        kind = λ i. absurd (omega (arith, e, i));
        prices = unreached_falls (floor l) l.opening l.closing l.opening x.lodged (le_refl _) g.prices;
        levels = subst
            (λ (ws : List Step). lowering x.declared.levels (last_level x.quantity ws) (levels_of (unreached l.closing l.opening x.lodged))
            ≡ true)
            (sym (added_existing x.offer h (λ i. omega (arith, e, i))))
            (unreached_lowers x.declared.levels x.quantity (floor l) l.opening l.closing l.opening x.lodged (le_refl _) g.prices
            g.levels);
      })
      (λ e. let n : unreached l.closing l.opening x.lodged ≡ [] = ap (unreached l.closing l.opening) (g.kind e) in
      record { kind = λ i. n; prices = rw n refl; levels = rw n refl })
      d.kind

  pub applied_sound :
      RoundPrices l → SoundDeveloper l.opening l.settings.a x → SoundOffer l x x.offer →
      SoundDeveloper l.closing l.settings.a (applied l.closing l.opening x)
  unfolding applied
  applied_sound r d h = let more = added l.closing l.opening x x.offer in record {
    declared = d.declared;
    falls = lowering_append _ _ x.withdrawals _ d.falls (rw (← d.quantity) (added_lowers x.offer h));
    prices = descends_append _ _ _ x.withdrawals _ (omega arith) r.high d.prices (added_descends (omega arith) x.offer h);
    quantity = ap (λ (q : ℕ). last_level q more) d.quantity ∙ sym (last_level_append (highest x) x.withdrawals more);
  }

-- ---- the ledger

module _ (l : Ledger) (s : Sound l) (p : ClosePassed l) where
  round : l.phase ≡ Round
  round = in_round_lem l.phase p.phase

  prices : RoundPrices l
  prices = s.prices (ap started round)

  abbrev next : Ledger
  next = with_phase (with_developers l (λ n. applied l.closing l.opening (l.developers n))) (phase_after l)

  before : (x : Developer) → SoundDeveloper (applied_to l.phase l) l.settings.a x → SoundDeveloper l.opening l.settings.a x
  before x d = subst (λ (q : Phase). SoundDeveloper (applied_to q l) l.settings.a x) round d

  before_lodged : (x : Developer) → SoundLodged (floor l) (applied_to l.phase l) x → SoundLodged (floor l) l.opening x
  before_lodged x d = subst (λ (q : Phase). SoundLodged (floor l) (applied_to q l) x) round d

  applied_held : (n : ℕ) (x : Developer) → Stands l n x → SoundDeveloper l.closing l.settings.a (applied l.closing l.opening x)
  applied_held n x h = applied_sound l x (before_lodged x h.lodged) prices (before x h.developer) h.offer

  lodged_held : (n : ℕ) (x : Developer) → Stands l n x → SoundLodged (floor l) l.closing (applied l.closing l.opening x)
  lodged_held n x h = lodged_left l x (before_lodged x h.lodged) h.developer.declared h.offer

  each : (n : ℕ) → Kept next n (applied l.closing l.opening (l.developers n))
  unfolding SoundOffer applied added withdraws_all reached unreached keep last_level
  each n = ⊎_elim
      (λ e. inl (ap (applied l.closing l.opening) e))
      (λ h. inr (record {
        number_low = h.number_low;
        number_high = h.number_high;
        developer =
            by_phase_after l (λ q. SoundDeveloper (applied_to q next) l.settings.a (applied l.closing l.opening (l.developers n)))
            (applied_held n (l.developers n) h) (applied_held n (l.developers n) h);
        offer = tt;
        lodged =
            by_phase_after l (λ q. SoundLodged (floor l) (applied_to q next) (applied l.closing l.opening (l.developers n)))
            (lodged_held n (l.developers n) h) (lodged_held n (l.developers n) h);
      })) (s.each n)

  -- withdrawals at A and below leave the high at A
  high_stays : (n : ℕ) → high l.settings.a (applied l.closing l.opening (l.developers n)) ≡ high l.settings.a (l.developers n)
  unfolding high applied added withdraws_all reached keep
  high_stays n = ⊎_elim
      (λ e. subst (λ (d : Developer). high l.settings.a (applied l.closing l.opening d) ≡ high l.settings.a d) (sym e) refl)
      (λ h. high_at_start _ _ _ (applied_held n (l.developers n) h) ∙ sym (high_at_start _ _ _ h.developer))
      (s.each n)

  pub sound_close : Sound (accepted l Close)
  unfolding accepted applied
  sound_close = record {
    fresh = λ e. absurd (clash e (by_phase_after l (λ q. is_fresh q ≡ false) refl refl));
    settings = λ e. s.settings (ap is_fresh round);
    unopened = λ e. absurd (clash (by_phase_after l (λ q. started q ≡ true) refl refl) e);
    idle = λ e. absurd (clash (by_phase_after l (λ q. started q ≡ true) refl refl) e);
    prices = λ e. record { low = prices.low; order = prices.order; high = prices.high };
    start_covered_lem = λ e. covered_same next l l.settings.a refl (λ n. refl) high_stays ∙ s.start_covered_lem (ap started round);
    each = each;
    alone = s.alone;
  }
