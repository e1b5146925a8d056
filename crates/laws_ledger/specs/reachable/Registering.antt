-- An accepted registration keeps the ledger sound.
use Rattle.std.specs.Prelude.{ℕ, ◌≤◌, ◌≡◌, true, ◌&&◌, [], eqb}
use Rattle.std.proofs.Math.Path.{refl}
use Rattle.std.proofs.Common.{sym, ap, inr, ⊎_elim, arith, eqb-true}
use Rattle.rules_numbers.specs.Cases.{and_true, clash}
use Rattle.rules_numbers.specs.ListLaws.{all_true}
use Rattle.rules_auction.specs.Ledger.{Declaration, Agency, agent_for, Register, Developer, Ready, Ledger, put, with_developers, newcomer}
use Rattle.rules_auction.specs.Clearing.{developers_of}
use Rattle.rules_auction.specs.Refusals.{is_fresh, may_join, falling, lowering}
use Rattle.rules_auction.specs.Rounds.{last_level, accepted}
use Rattle.rules_auction.specs.Projects.{in_developers_of}
use Rattle.laws_ledger.specs.Sound.{started, Descends, SoundDeclaration, SoundDeveloper, SoundOffer, Stands, Sound}
use Rattle.laws_ledger.specs.reachable.Checks.{RegisterPassed, Numbers, numbers_facts, Declared, declaration_facts}
use Rattle.laws_ledger.specs.reachable.Held.{is_ready_lem, Kept, by_put, kept_with, sound_with}

-- a developer with a project is registered
pub used_number : (l : Ledger) → Sound l → (m : ℕ) → 1 ≤ (l.developers m).declared.project → (1 ≤ m) × (m ≤ 32)
used_number l s m h = ⊎_elim
    (λ e. let z : (l.developers m).declared.project ≡ 0 = ap (λ (d : Developer). d.declared.project) e in absurd (omega arith))
    (λ k. (k.number_low, k.number_high)) (s.each m)

-- whoever joins others is of kind 2, and so are they
pub joined_kinds : (l : Ledger) → Sound l → (k kind m : ℕ) → may_join l k kind ≡ true → 1 ≤ k → (l.developers m).declared.project ≡ k →
    (kind ≡ 2) × ((l.developers m).declared.kind ≡ 2)
unfolding may_join
joined_kinds l s k kind m e h g =
    let n = used_number l s m (omega arith) in
    let listed = (in_developers_of l k m).1 (n.0, n.1, g) in
    let t = and_true (eqb kind 2) (eqb (l.developers m).declared.kind 2)
    (all_true (λ j. eqb kind 2 && eqb (l.developers j).declared.kind 2) (developers_of l k) e m listed) in
    (eqb-true kind 2 t.0, eqb-true _ 2 t.1)

newcomer_sound : (c a g : ℕ) (x : Declaration) → SoundDeclaration x → SoundDeveloper c a (newcomer g x)
unfolding lowering Descends last_level
newcomer_sound c a g x d = record { declared = d; falls = refl; prices = tt; quantity = refl }

module _ (l : Ledger) (n : ℕ) (w : Agency) (x : Declaration) (s : Sound l) (p : RegisterPassed l n w x) where
  abbrev new : Developer
  new = newcomer (agent_for n w) x

  numbers : Numbers x.project n (l.developers n).declared.project
  numbers = numbers_facts x.project n _ p.numbers

  declared : Declared l x
  declared = declaration_facts l x p.declaration

  abbrev next : ℕ → Developer
  next = put n new l.developers

  held : Stands (with_developers l next) n new
  unfolding SoundOffer falling lowering
  held = record {
    number_low = numbers.number_low;
    number_high = numbers.number_high;
    developer =
        newcomer_sound _ _ _ x (record {
          project_low = numbers.project_low;
          project_high = numbers.project_high;
          kind = declared.kind;
          levels = declared.levels;
        });
    offer = tt;
    lodged = record { kind = λ e. refl; prices = refl; levels = refl };
  }

  kinds : (m : ℕ) → (l.developers m).declared.project ≡ x.project → (x.kind ≡ 2) × ((l.developers m).declared.kind ≡ 2)
  kinds m e = joined_kinds l s x.project x.kind m declared.joins numbers.project_low e

  not_both : {k : ℕ} → k ≡ 1 → k ≡ 2 → ⊥
  not_both e f = omega arith

  alone : (m j : ℕ) → (next m).declared.kind ≡ 1 → (next m).declared.project ≡ (next j).declared.project → m ≡ j
  alone = by_put (λ m d. (j : ℕ) → d.declared.kind ≡ 1 → d.declared.project ≡ (next j).declared.project → m ≡ j) n new l.developers
      (by_put (λ j d. x.kind ≡ 1 → x.project ≡ d.declared.project → n ≡ j) n new l.developers
      (λ k e. refl)
      (λ j k e. absurd (not_both k (kinds j (sym e)).0)))
      (λ m. by_put (λ j d. (l.developers m).declared.kind ≡ 1 → (l.developers m).declared.project ≡ d.declared.project → m ≡ j) n new l.developers
      (λ k e. absurd (not_both k (kinds m e).1))
      (λ j. s.alone m j))

  pub sound_register : Sound (accepted l (Register n w x))
  unfolding accepted
  sound_register = sound_with l next s (ap is_fresh ready) (record {
    idle = λ e. by_put (λ m d. d.withdrawals ≡ []) n new l.developers refl (s.idle e);
    start_covered_lem = λ e. absurd (clash e (ap started ready));
    each = by_put (Kept (with_developers l next)) n new l.developers (inr held) (λ m. kept_with l next m (l.developers m) (s.each m));
    alone = alone;
  })
    where
      ready : l.phase ≡ Ready
      ready = is_ready_lem l.phase p.phase
