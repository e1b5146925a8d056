-- An accepted move of a developer keeps the ledger sound: it changes that developer's entry alone, and of it neither the declaration nor
-- the withdrawals.
use Rattle.std.specs.Prelude.{ℕ, ◌≡◌, refl, true, false, List}
use Rattle.std.proofs.Common.{sym, subst, ◌∙◌, inr, ⊎_elim, arith}
use Rattle.std.proofs.Math.Path.{ap}
use Rattle.rules_auction.specs.Ledger.{Declaration, Move, Offer, Lodge, Cancel, By, Standing, none, made, Developer, Phase, Ready, Ledger, put, with_developer}
use Rattle.rules_auction.specs.Ledger.{with_offer, with_lodged}
use Rattle.rules_auction.specs.Clearing.{highest, high}
use Rattle.rules_auction.specs.Refusals.{is_fresh, in_round, is_of_kind, floor, move_refusal}
use Rattle.rules_auction.specs.Rounds.{steps, last_level, moved, accepted}
use Rattle.laws_ledger.specs.Sound.{started, applied_to, SoundOffer, SoundLodged, Stands, Registered, Sound}
use Rattle.laws_ledger.specs.StepLaws.{steps_prices, steps_levels, steps_length}
use Rattle.laws_ledger.specs.reachable.Checks.{OfferPassed, offer_passed, LodgePassed, lodge_passed, CancelPassed, cancel_passed, of_kind_facts}
use Rattle.laws_ledger.specs.reachable.Checks.{prices_facts}
use Rattle.laws_ledger.specs.reachable.Supplies.{covered_same}
use Rattle.rules_numbers.specs.Cases.{clash}
use Rattle.laws_ledger.specs.reachable.Held.{is_ready_lem, in_round_lem, Kept, by_put, developer_with, lodged_with, kept_with, sound_with}

-- ---- any move: y in the place of developer n's entry

-- with the same declaration and withdrawals, and a sound entry
pub record Moved (l : Ledger) (n : ℕ) (y : Developer) : Type 0 where
  pub declared : y.declared ≡ (l.developers n).declared
  pub withdrawals : y.withdrawals ≡ (l.developers n).withdrawals
  pub stands : Stands (with_developer l n y) n y

module _ (l : Ledger) (n : ℕ) (y : Developer) (s : Sound l) (f : is_fresh l.phase ≡ false) (k : Moved l n y) where
  abbrev next : ℕ → Developer
  next = put n y l.developers

  declared_stays : (m : ℕ) → (next m).declared ≡ (l.developers m).declared
  declared_stays = by_put (λ m d. d.declared ≡ (l.developers m).declared) n y l.developers k.declared (λ m. refl)

  withdrawals_stay : (m : ℕ) → (next m).withdrawals ≡ (l.developers m).withdrawals
  withdrawals_stay = by_put (λ m d. d.withdrawals ≡ (l.developers m).withdrawals) n y l.developers k.withdrawals (λ m. refl)

  high_stays : (p m : ℕ) → high p (next m) ≡ high p (l.developers m)
  unfolding high
  high_stays p m = rw (declared_stays m, withdrawals_stay m)

  pub sound_entry : Sound (with_developer l n y)
  sound_entry = sound_with l next s f (record {
    idle = λ e m. withdrawals_stay m ∙ s.idle e m;
    start_covered_lem =
        λ e. covered_same (with_developer l n y) l l.settings.a refl (λ m. ap (λ (d : Declaration). d.project) (declared_stays m))
        (high_stays l.settings.a) ∙ s.start_covered_lem e;
    each = by_put (Kept (with_developer l n y)) n y l.developers (inr k.stands) (λ m. kept_with l next m (l.developers m) (s.each m));
    alone = λ m j. rw (declared_stays m, declared_stays j) (s.alone m j);
  })

-- a developer of a kind is registered
registered_kind : (l : Ledger) (n : ℕ) → Sound l → (k : ℕ) → (l.developers n).declared.kind ≡ k → (k ≡ 0 → ⊥) → Registered l n
registered_kind l n s k e not = ⊎_elim
    (λ g. let z : (l.developers n).declared.kind ≡ 0 = ap (λ (d : Developer). d.declared.kind) g in absurd (not (sym e ∙ z)))
    (λ h. h) (s.each n)

-- ---- an offer made or taken back: another one stands, or none

module _ (l : Ledger) (n : ℕ) (o : Standing) (s : Sound l) (new : is_of_kind 2 n (l.developers n).declared.kind ≡ true) where
  abbrev offering : Developer
  offering = with_offer (l.developers n) o

  offer_moved : SoundOffer (with_developer l n offering) offering o → Moved l n offering
  offer_moved given =
      let r = registered_kind l n s 2 (of_kind_facts 2 n _ new).2 (λ z. omega arith) in
      let d = developer_with l (put n offering l.developers) (l.developers n) r.developer in
      let g = lodged_with l (put n offering l.developers) (l.developers n) r.lodged in
      record {
        declared = refl;
        withdrawals = refl;
        stands = record {
          number_low = r.number_low;
          number_high = r.number_high;
          developer = record { declared = d.declared; falls = d.falls; prices = d.prices; quantity = d.quantity };
          offer = given;
          lodged = record { kind = g.kind; prices = g.prices; levels = g.levels };
        };
      }

made_moved : (l : Ledger) (n : ℕ) (ps qs : List ℕ) → Sound l → OfferPassed l n (l.developers n) ps qs →
    Moved l n (with_offer (l.developers n) (made (steps ps qs)))
unfolding SoundOffer
made_moved l n ps qs s p =
    let f = prices_facts _ _ ps qs p.prices in
    offer_moved l n (made (steps ps qs)) s p.developer (record {
      round = p.phase;
      kind = (of_kind_facts 2 n _ p.developer).2;
      at_most_eight = omega (arith, steps_length ps qs f.same);
      prices = rw (steps_prices ps qs f.same) f.falls;
      levels = rw (steps_levels ps qs f.same) p.levels;
    })

cancel_moved : (l : Ledger) (n : ℕ) → Sound l → CancelPassed l n (l.developers n) → Moved l n (with_offer (l.developers n) none)
unfolding SoundOffer
cancel_moved l n s p = offer_moved l n none s p.developer tt

-- ---- a lodged list

module _ (l : Ledger) (n : ℕ) (ps qs : List ℕ) (s : Sound l) (p : LodgePassed l n (l.developers n) ps qs) where
  abbrev lodging : Developer
  lodging = with_lodged (l.developers n) (steps ps qs)

  ready : l.phase ≡ Ready
  ready = is_ready_lem l.phase p.phase

  existing : (l.developers n).declared.kind ≡ 1
  existing = (of_kind_facts 1 n _ p.developer).2

  registered : Registered l n
  registered = registered_kind l n s 1 existing (λ z. omega arith)

  -- before the first round nothing is withdrawn
  whole : (l.developers n).quantity ≡ highest (l.developers n)
  unfolding last_level
  whole = registered.developer.quantity ∙ ap (last_level (highest (l.developers n))) (s.idle (ap started ready) n)

  lodged_list : SoundLodged (floor l) (applied_to l.phase (with_developer l n lodging)) lodging
  lodged_list =
      let f = prices_facts _ _ ps qs p.prices in
      subst (λ (q : Phase). SoundLodged (floor l) (applied_to q (with_developer l n lodging)) lodging) (sym ready) (record {
        kind = λ e. absurd (omega (arith, existing, e));
        prices = rw (steps_prices ps qs f.same) f.falls;
        levels = rw (steps_levels ps qs f.same, whole) p.levels;
      })

  lodge_moved : Moved l n lodging
  unfolding SoundOffer
  lodge_moved =
      let d = developer_with l (put n lodging l.developers) (l.developers n) registered.developer in
      record {
        declared = refl;
        withdrawals = refl;
        stands = record {
          number_low = registered.number_low;
          number_high = registered.number_high;
          developer = record { declared = d.declared; falls = d.falls; prices = d.prices; quantity = d.quantity };
          offer = no_offer (l.developers n).offer registered.offer;
          lodged = lodged_list;
        };
      }
    where
      -- no round is open, so no offer stands
      no_offer : (o : Standing) → SoundOffer l (l.developers n) o → SoundOffer (with_developer l n lodging) lodging o
      no_offer none h = tt
      no_offer (made ss) h = absurd (clash h.round (ap in_round ready))

pub sound_move : (l : Ledger) (n : ℕ) (m : Move) → Sound l → move_refusal l n (l.developers n) m ≡ 0 → Sound (accepted l (By n m))
unfolding accepted moved
sound_move l n (Offer ps qs) s e =
    let p = offer_passed l n (l.developers n) ps qs e in
    sound_entry l n _ s (ap is_fresh (in_round_lem l.phase p.phase)) (made_moved l n ps qs s p)
sound_move l n (Lodge ps qs) s e =
    let p = lodge_passed l n (l.developers n) ps qs e in
    sound_entry l n _ s (ap is_fresh (is_ready_lem l.phase p.phase)) (lodge_moved l n ps qs s p)
sound_move l n Cancel s e =
    let p = cancel_passed l n (l.developers n) e in
    sound_entry l n _ s (ap is_fresh (in_round_lem l.phase p.phase)) (cancel_moved l n s p)
