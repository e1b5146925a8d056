-- What a ledger may hold under a developer's number, said of the developer held there; and ledgers that differ in their developers alone.
use Rattle.std.specs.Prelude.{ℕ, ◌≡◌, refl, ◌⊎◌, Bool, true, false, cond, [], eqb}
use Rattle.std.proofs.Common.{sym, subst, inl, inr, ⊎_elim, eqb-true}
use Rattle.rules_numbers.specs.Cases.{clash}
use Rattle.rules_auction.specs.Ledger.{Standing, none, made, Developer, Phase, Fresh, Ready, Round, Between, Closed, Ledger, nobody, put, with_developers}
use Rattle.rules_auction.specs.Clearing.{covered}
use Rattle.rules_auction.specs.Refusals.{is_fresh, is_ready, may_open, in_round, is_between, floor}
use Rattle.laws_ledger.specs.Sound.{started, applied_to, SoundDeveloper, SoundOffer, SoundLodged, Stands, Sound}
pub use Rattle.laws_ledger.specs.clearing.ClosingPrice.{started_not_fresh}

-- ---- phases

pub is_fresh_lem : (p : Phase) → is_fresh p ≡ true → p ≡ Fresh
is_fresh_lem Fresh e = refl
is_fresh_lem Ready e = absurd (clash e refl)
is_fresh_lem Round e = absurd (clash e refl)
is_fresh_lem Between e = absurd (clash e refl)
is_fresh_lem Closed e = absurd (clash e refl)

pub is_ready_lem : (p : Phase) → is_ready p ≡ true → p ≡ Ready
is_ready_lem Ready e = refl
is_ready_lem Fresh e = absurd (clash e refl)
is_ready_lem Round e = absurd (clash e refl)
is_ready_lem Between e = absurd (clash e refl)
is_ready_lem Closed e = absurd (clash e refl)

pub in_round_lem : (p : Phase) → in_round p ≡ true → p ≡ Round
in_round_lem Round e = refl
in_round_lem Fresh e = absurd (clash e refl)
in_round_lem Ready e = absurd (clash e refl)
in_round_lem Between e = absurd (clash e refl)
in_round_lem Closed e = absurd (clash e refl)

pub is_between_lem : (p : Phase) → is_between p ≡ true → p ≡ Between
is_between_lem Between e = refl
is_between_lem Fresh e = absurd (clash e refl)
is_between_lem Ready e = absurd (clash e refl)
is_between_lem Round e = absurd (clash e refl)
is_between_lem Closed e = absurd (clash e refl)

pub by_may_open : (P : Phase → Type 0) → P Ready → P Between → (p : Phase) → may_open p ≡ true → P p
by_may_open P r b Ready e = r
by_may_open P r b Between e = b
by_may_open P r b Fresh e = absurd (clash e refl)
by_may_open P r b Round e = absurd (clash e refl)
by_may_open P r b Closed e = absurd (clash e refl)

-- ---- one number

-- under n stands x: nobody, or a registered developer
abbrev pub Kept : Ledger → ℕ → Developer → Type 0
Kept l n x = (x ≡ nobody) ⊎ Stands l n x

-- what holds of x under n and of every other developer holds of all once x is put under n
pub by_put : (P : ℕ → Developer → Type 0) (n : ℕ) (x : Developer) (f : ℕ → Developer) → P n x → ((m : ℕ) → P m (f m)) → (m : ℕ) → P m (put n x f m)
by_put P n x f h g m = go (eqb m n) refl
  where
    go : (b : Bool) → eqb m n ≡ b → P m (cond b x (f m))
    go true e = subst (λ (k : ℕ). P k x) (sym (eqb-true m n e)) h
    go false e = g m

-- ---- the ledger with other developers

applied_to_with : (p : Phase) (l : Ledger) (f : ℕ → Developer) → applied_to p l ≡ applied_to p (with_developers l f)
applied_to_with Fresh l f = refl
applied_to_with Ready l f = refl
applied_to_with Round l f = refl
applied_to_with Between l f = refl
applied_to_with Closed l f = refl

pub developer_with : (l : Ledger) (f : ℕ → Developer) (x : Developer) → SoundDeveloper (applied_to l.phase l) l.settings.a x →
    SoundDeveloper (applied_to l.phase (with_developers l f)) l.settings.a x
developer_with l f x d = subst (λ (c : ℕ). SoundDeveloper c l.settings.a x) (applied_to_with l.phase l f) d

pub lodged_with : (l : Ledger) (f : ℕ → Developer) (x : Developer) → SoundLodged (floor l) (applied_to l.phase l) x →
    SoundLodged (floor l) (applied_to l.phase (with_developers l f)) x
lodged_with l f x d = subst (λ (c : ℕ). SoundLodged (floor l) c x) (applied_to_with l.phase l f) d

pub offer_with : (l : Ledger) (f : ℕ → Developer) (x : Developer) (o : Standing) → SoundOffer l x o → SoundOffer (with_developers l f) x o
unfolding SoundOffer
offer_with l f x none h = tt
offer_with l f x (made ss) h = record { round = h.round; kind = h.kind; at_most_eight = h.at_most_eight; prices = h.prices; levels = h.levels }

pub kept_with : (l : Ledger) (f : ℕ → Developer) (n : ℕ) (x : Developer) → Kept l n x → Kept (with_developers l f) n x
kept_with l f n x k = ⊎_elim inl
    (λ h. inr (record {
      number_low = h.number_low;
      number_high = h.number_high;
      developer = developer_with l f x h.developer;
      offer = offer_with l f x x.offer h.offer;
      lodged = lodged_with l f x h.lodged;
    })) k

-- a sound ledger, set up, stays sound with developers of which these hold
pub record SoundWith (l : Ledger) (f : ℕ → Developer) : Type 0 where
  pub idle : started l.phase ≡ false → (n : ℕ) → (f n).withdrawals ≡ []
  pub start_covered_lem : started l.phase ≡ true → covered (with_developers l f) l.settings.a ≡ true
  pub each : (n : ℕ) → Kept (with_developers l f) n (f n)
  pub alone : (m n : ℕ) → (f m).declared.kind ≡ 1 → (f m).declared.project ≡ (f n).declared.project → m ≡ n

pub sound_with : (l : Ledger) (f : ℕ → Developer) → Sound l → is_fresh l.phase ≡ false → SoundWith l f → Sound (with_developers l f)
sound_with l f s p w = record {
  fresh = λ e. absurd (clash e p);
  settings = s.settings;
  unopened = s.unopened;
  idle = w.idle;
  prices = λ e. let r = s.prices e in record { low = r.low; order = r.order; high = r.high };
  start_covered_lem = w.start_covered_lem;
  each = w.each;
  alone = w.alone;
}
