-- What C gets through a seat of the auction in the hall behind a session (document 02, 14; docs/FORMAT.md, sessions), whatever kind of seat and number it
-- passes: 20 first, where they name no seat or it has no right; else what is stated over the ledger of the session's plain record. A reading every seat
-- may ask: the published values and, a developer, its own levels and standing offer.
use Rattle.std.specs.Prelude.{ℕ, ◌-◌, ◌^◌, ◌≡◌, Bool, true, false, cond, List, length}
use Rattle.std.proofs.Math.Path.{refl, subst}
use Rattle.std.proofs.Common.{sym, ◌∙◌, arith}
use Rattle.rules_auction.specs.Ledger.{Call, Close, Ledger}
use Rattle.rules_auction.specs.Refusals.{refusal}
use Rattle.rules_auction.specs.Rounds.{ledger}
use Rattle.rules_auction.specs.Preview.{preview}
use Rattle.rules_auction.specs.Settling.{settlement}
use Rattle.rules_supply_curve.specs.Curve.{supply_curve}
use Rattle.rules_replies.specs.record_calls.Calls.{calls_in}
use Rattle.rules_seats.specs.Seats.{Seat, may_conduct, may_settle}
use Rattle.rules_seats.specs.figures.Figures.{figures_refusal, lent_after, preview_figures, curve_figures, settlement_figures}
use Rattle.rules_seats.specs.figures.Figures.{award_bytes, settlement_refusal}
use Rattle.rules_seats.specs.sessions.Sessions.{session_record}
use Rattle.rules_seats.specs.sessions.SessionFigures.{seat_may, session_ledger, session_preview_refusal, session_preview}
use Rattle.rules_seats.specs.sessions.SessionFigures.{session_curve_refusal, session_curve, session_settlement_refusal, session_settlement}
use Rattle.rules_seats.specs.sessions.SessionLaws.{session_ledger_lem}
use Rattle.record_replay.specs.host_numbers.HostNumbers.{value_answer, host_number}
use Rattle.record_replay.specs.record_forcing.Chosen.{chosen_in}
use Rattle.host.specs.Forcing.{host_forcing}
use Rattle.statement.specs.calls_of_c.HostValues.{refused_value, refused_by, not_lent, alike}
use Rattle.statement.specs.calls_of_c.FiguresReturned.{PreviewReturned, preview_returned, preview_determined, CurveReturned, curve_returned}
use Rattle.statement.specs.calls_of_c.FiguresReturned.{curve_determined}
use Rattle.statement.specs.calls_of_c.SettlementReturned.{SettlementReturned, settlement_returned, settlement_determined}
use Rattle.statement.specs.calls_of_c.Forcing.{ForcingReturned, forcing_returned, forcing_determined}

-- ---- what is stated

-- the calls that a session's plain record asks, and their ledger: that of the auction in the hall
abbrev pub plain_calls : List ℕ → List Call
plain_calls session = calls_in (session_record session)

abbrev pub plain_ledger : List ℕ → Ledger
plain_ledger session = ledger (plain_calls session)

-- without the right (SeatRights) 2^64 less 20, and what was lent stays; with it what is allowed. r is what C gets
pub record ThroughSeat (right : Seat → Bool) (kind number r : ℕ) (Stays Allowed : Type 0) : Type 0 where
  pub barred : seat_may right kind number ≡ false → (r ≡ 2 ^ 64 - 20) × Stays
  pub allowed : seat_may right kind number ≡ true → Allowed

-- `old` and `new` are the lent numbers or bytes before and after
abbrev pub PreviewThrough : (session : List ℕ) (kind number : ℕ) (old new : List ℕ) → ℕ → Type 0
PreviewThrough session kind number old new r = ThroughSeat may_conduct kind number r (new ≡ old) (PreviewReturned (plain_ledger session) old new r)

abbrev pub CurveThrough : (session : List ℕ) (kind number : ℕ) (old new : List ℕ) → ℕ → Type 0
CurveThrough session kind number old new r = ThroughSeat may_conduct kind number r (new ≡ old) (CurveReturned (plain_ledger session) old new r)

abbrev pub SettlementThrough : (session : List ℕ) (kind number limit : ℕ) (old_f new_f old_a new_a : List ℕ) → ℕ → Type 0
SettlementThrough session kind number limit old_f new_f old_a new_a r =
    ThroughSeat may_settle kind number r ((new_f ≡ old_f) × (new_a ≡ old_a)) (SettlementReturned (plain_ledger session) limit old_f new_f old_a new_a r)

abbrev pub ForcingThrough : (session : List ℕ) (kind number m n : ℕ) (ps old new : List ℕ) → ℕ → Type 0
ForcingThrough session kind number m n ps old new r =
    ThroughSeat may_conduct kind number r (new ≡ old) (ForcingReturned (plain_ledger session) m n ps old new r)

-- ---- a look, by the definitions

module _ (session : List ℕ) (kind number : ℕ) where
  -- the refusal n before 11, without the right and with it
  abbrev Told : ℕ → ℕ → List ℕ → List ℕ → List ℕ → ℕ → Type 0
  Told n v figures old new r =
      (r ≡ host_number (value_answer (figures_refusal n figures (length old)) v)) × (new ≡ lent_after (figures_refusal n figures (length old)) figures old)

  refused_first : (v : ℕ) (figures old new : List ℕ) (r : ℕ) (n : ℕ) → n ≡ 20 → Told n v figures old new r → (r ≡ 2 ^ 64 - 20) × (new ≡ old)
  refused_first v figures old new r n h w =
      let w' = subst (λ (k : ℕ). Told k v figures old new r) h w in not_lent 20 v figures old new r w'.0 w'.1 (λ z. omega arith)

  module _ (old new : List ℕ) (r : ℕ) where
    pub preview_through : Told (session_preview_refusal session kind number) 0 (session_preview session) old new r → PreviewThrough session kind number old new r
    unfolding session_preview_refusal session_preview
    preview_through w = record {
      barred = λ b. refused_first 0 (session_preview session) old new r _ (rw b) w;
      allowed = λ b.
          let l = session_ledger session in
          let w' : Told (refusal l Close) 0 (preview_figures (preview l)) old new r = subst (λ (k : ℕ). Told k 0 (session_preview session) old new r) (rw b) w in
          subst (λ (k : Ledger). PreviewReturned k old new r) (session_ledger_lem session) (preview_returned l old new r w'.0 w'.1);
    }

    pub curve_through :
        Told (session_curve_refusal kind number) (length (supply_curve (session_ledger session))) (session_curve session) old new r →
        CurveThrough session kind number old new r
    unfolding session_curve_refusal session_curve
    curve_through w = record {
      barred = λ b. refused_first _ (session_curve session) old new r _ (rw b) w;
      allowed = λ b.
          let l = session_ledger session in
          let w' : Told 0 (length (supply_curve l)) (curve_figures (supply_curve l)) old new r =
          subst (λ (k : ℕ). Told k (length (supply_curve l)) (session_curve session) old new r) (rw b) w in
          subst (λ (k : Ledger). CurveReturned k old new r) (session_ledger_lem session) (curve_returned l old new r w'.0 w'.1);
    }

  module _ (limit : ℕ) (old_f new_f old_a new_a : List ℕ) (r : ℕ) where
    -- refused by n, or the figures and the award's bytes of the ledger l
    abbrev ToldBoth : ℕ → Ledger → Type 0
    ToldBoth n l =
        let m = settlement l in
        (r ≡ host_number (value_answer n 0)) × (new_f ≡ lent_after n (settlement_figures m) old_f) × (new_a ≡ lent_after n (award_bytes m) old_a)

    pub settlement_through :
        let n = session_settlement_refusal session kind number limit (length old_f) (length old_a) in
        r ≡ host_number (value_answer n 0) → new_f ≡ lent_after n (session_settlement session) old_f →
        new_a ≡ lent_after n (award_bytes (settlement (session_ledger session))) old_a → SettlementThrough session kind number limit old_f new_f old_a new_a r
    unfolding session_settlement_refusal session_settlement
    settlement_through e f g = record {
      barred = λ b.
          let w : ToldBoth 20 (session_ledger session) = subst (λ (k : ℕ). ToldBoth k (session_ledger session)) (rw b) (e, f, g) in
          let v = refused_by 20 0 _ old_f new_f r w.0 w.1 20 refl (λ z. omega arith) in
          (v.0, (v.1, (refused_by 20 0 _ old_a new_a r w.0 w.2 20 refl (λ z. omega arith)).1));
      allowed = λ b.
          let l = session_ledger session in
          let n = settlement_refusal l limit (length old_f) (length old_a) in
          let w : ToldBoth n l = subst (λ (k : ℕ). ToldBoth k l) (rw b) (e, f, g) in
          let v = subst (λ (k : Ledger). ToldBoth (settlement_refusal k limit (length old_f) (length old_a)) k) (session_ledger_lem session) w in
          settlement_returned (plain_calls session) limit old_f new_f old_a new_a r v.0 v.1 v.2;
    }

  pub forcing_through :
      (m n : ℕ) (ps old new : List ℕ) (r : ℕ) → let l = session_ledger session in
      r ≡ cond (seat_may may_conduct kind number) (host_forcing l m n ps (length old)) (host_number (value_answer 20 0)) →
      new ≡ cond (seat_may may_conduct kind number) (chosen_in l m n ps old) old → ForcingThrough session kind number m n ps old new r
  forcing_through m n ps old new r e f = record {
    barred = λ b. (e ∙ rw b (refused_value 20 0 (λ z. omega arith)), f ∙ rw b);
    allowed = λ b.
        subst (λ (k : Ledger). ForcingReturned k m n ps old new r) (session_ledger_lem session)
        (forcing_returned (session_ledger session) m n ps old new r (e ∙ rw b) (f ∙ rw b));
  }

-- ---- and nothing else is

through_only :
    {right : Seat → Bool} {kind number r r' : ℕ} {S S' A A' : Type 0} (T : Type 0) → ((r ≡ 2 ^ 64 - 20) × S → (r' ≡ 2 ^ 64 - 20) × S' → T) → (A → A' → T) →
    ThroughSeat right kind number r S A → ThroughSeat right kind number r' S' A' → T
through_only {right} {kind} {number} T b a x y = go (seat_may right kind number) refl
  where
    go : (t : Bool) → seat_may right kind number ≡ t → T
    go true e = a (x.allowed e) (y.allowed e)
    go false e = b (x.barred e) (y.barred e)

module _ (session : List ℕ) (kind number : ℕ) where
  module _ (old new new' : List ℕ) (r r' : ℕ) where
    pub preview_through_determined :
        PreviewThrough session kind number old new r → PreviewThrough session kind number old new' r' → (r ≡ r') × (new ≡ new')
    preview_through_determined = through_only _ alike (preview_determined (plain_ledger session) old new new' r r')

    pub curve_through_determined :
        CurveThrough session kind number old new r → CurveThrough session kind number old new' r' → (r ≡ r') × (new ≡ new')
    curve_through_determined = through_only _ alike (curve_determined (plain_ledger session) old new new' r r')

    pub forcing_through_determined :
        (m n : ℕ) (ps : List ℕ) → ForcingThrough session kind number m n ps old new r → ForcingThrough session kind number m n ps old new' r' →
        (r ≡ r') × (new ≡ new')
    forcing_through_determined m n ps = through_only _ alike (forcing_determined (plain_ledger session) m n ps old new new' r r')

  pub settlement_through_determined :
      (limit : ℕ) (old_f new_f new_f' old_a new_a new_a' : List ℕ) (r r' : ℕ) → SettlementThrough session kind number limit old_f new_f old_a new_a r →
      SettlementThrough session kind number limit old_f new_f' old_a new_a' r' → (r ≡ r') × (new_f ≡ new_f') × (new_a ≡ new_a')
  settlement_through_determined limit old_f new_f new_f' old_a new_a new_a' r r' =
      through_only _
      (λ a b. (a.0 ∙ sym b.0, a.1.0 ∙ sym b.1.0, a.1.1 ∙ sym b.1.1))
      (settlement_determined (plain_ledger session) limit old_f new_f new_f' old_a new_a new_a' r r')
