-- What acceptance says: the checks that an accepted call passed. What each of these says stands in the crate `rules_auction`.
use Rattle.std.specs.Prelude.{ℕ, suc, ◌≡◌, refl, Bool, true, false, not, List}
use Rattle.std.proofs.Common.{arith}
use Rattle.std.proofs.lemmas.Bool.{not-true}
use Rattle.rules_auction.specs.Ledger.{Settings, Declaration, Offer, Lodge, Cancel, Agency, agent_for, SetUp, Register, Open, Close, Developer, Ledger}
use Rattle.rules_auction.specs.Clearing.{highest}
use Rattle.rules_auction.specs.Refusals.{is_fresh, is_ready, may_open, in_round, settings_ok, is_number, numbers_ok, declaration_ok, floor, closing_ok, start_covered}
use Rattle.rules_auction.specs.Refusals.{is_none, is_of_kind, prices_ok, lowering, check, move_refusal, refusal}
pub use Rattle.rules_auction.specs.CheckLaws.{Numbers, numbers_facts, levels_facts, Declared, declaration_facts, closing_facts, of_kind_facts, prices_facts}

pub record SetUpPassed (l : Ledger) (s : Settings) : Type 0 where
  pub phase : is_fresh l.phase ≡ true
  pub settings : settings_ok s ≡ true

pub record RegisterPassed (l : Ledger) (n : ℕ) (w : Agency) (x : Declaration) : Type 0 where
  pub phase : is_ready l.phase ≡ true
  pub numbers : numbers_ok x.project n (l.developers n).declared.project ≡ true
  pub agent : is_number (agent_for n w) ≡ true
  pub declaration : declaration_ok l x ≡ true

pub record OpenPassed (l : Ledger) (c : ℕ) : Type 0 where
  pub phase : may_open l.phase ≡ true
  pub closing : closing_ok l c ≡ true
  pub covered : start_covered l ≡ true

pub record OfferPassed (l : Ledger) (n : ℕ) (x : Developer) (ps qs : List ℕ) : Type 0 where
  pub phase : in_round l.phase ≡ true
  pub developer : is_of_kind 2 n x.declared.kind ≡ true
  pub first : is_none x.offer ≡ true
  pub prices : prices_ok l.closing l.opening ps qs ≡ true
  pub levels : lowering x.declared.levels x.quantity qs ≡ true

pub record LodgePassed (l : Ledger) (n : ℕ) (x : Developer) (ps qs : List ℕ) : Type 0 where
  pub phase : is_ready l.phase ≡ true
  pub developer : is_of_kind 1 n x.declared.kind ≡ true
  pub prices : prices_ok (floor l) l.settings.a ps qs ≡ true
  pub levels : lowering x.declared.levels (highest x) qs ≡ true

pub record CancelPassed (l : Ledger) (n : ℕ) (x : Developer) : Type 0 where
  pub phase : in_round l.phase ≡ true
  pub developer : is_of_kind 2 n x.declared.kind ≡ true
  pub stands : is_none x.offer ≡ false

pub record ClosePassed (l : Ledger) : Type 0 where
  pub phase : in_round l.phase ≡ true

passed : (b : Bool) (k next : ℕ) → check b (suc k) next ≡ 0 → (b ≡ true) × (next ≡ 0)
passed true k next e = (refl, e)
passed false k next e = absurd (omega arith)

pub set_up_passed : (l : Ledger) (s : Settings) → refusal l (SetUp s) ≡ 0 → SetUpPassed l s
unfolding refusal
set_up_passed l s e =
    let p = passed (is_fresh l.phase) 1 _ e in
    let q = passed (settings_ok s) 0 _ p.1 in
    record { phase = p.0; settings = q.0 }

pub register_passed : (l : Ledger) (n : ℕ) (w : Agency) (x : Declaration) → refusal l (Register n w x) ≡ 0 → RegisterPassed l n w x
unfolding refusal
register_passed l n w x e =
    let p = passed (is_ready l.phase) 1 _ e in
    let q = passed (numbers_ok x.project n (l.developers n).declared.project) 2 _ p.1 in
    let g = passed (is_number (agent_for n w)) 2 _ q.1 in
    let r = passed (declaration_ok l x) 3 _ g.1 in
    record { phase = p.0; numbers = q.0; agent = g.0; declaration = r.0 }

pub open_passed : (l : Ledger) (c : ℕ) → refusal l (Open c) ≡ 0 → OpenPassed l c
unfolding refusal
open_passed l c e =
    let p = passed (may_open l.phase) 1 _ e in
    let q = passed (closing_ok l c) 4 _ p.1 in
    let r = passed (start_covered l) 8 _ q.1 in
    record { phase = p.0; closing = q.0; covered = r.0 }

pub offer_passed : (l : Ledger) (n : ℕ) (x : Developer) (ps qs : List ℕ) → move_refusal l n x (Offer ps qs) ≡ 0 → OfferPassed l n x ps qs
unfolding move_refusal
offer_passed l n x ps qs e =
    let p = passed (in_round l.phase) 1 _ e in
    let q = passed (is_of_kind 2 n x.declared.kind) 2 _ p.1 in
    let r = passed (is_none x.offer) 7 _ q.1 in
    let s = passed (prices_ok l.closing l.opening ps qs) 5 _ r.1 in
    let t = passed (lowering x.declared.levels x.quantity qs) 6 _ s.1 in
    record { phase = p.0; developer = q.0; first = r.0; prices = s.0; levels = t.0 }

pub lodge_passed : (l : Ledger) (n : ℕ) (x : Developer) (ps qs : List ℕ) → move_refusal l n x (Lodge ps qs) ≡ 0 → LodgePassed l n x ps qs
unfolding move_refusal
lodge_passed l n x ps qs e =
    let p = passed (is_ready l.phase) 1 _ e in
    let q = passed (is_of_kind 1 n x.declared.kind) 14 _ p.1 in
    let s = passed (prices_ok (floor l) l.settings.a ps qs) 5 _ q.1 in
    let t = passed (lowering x.declared.levels (highest x) qs) 6 _ s.1 in
    record { phase = p.0; developer = q.0; prices = s.0; levels = t.0 }

pub cancel_passed : (l : Ledger) (n : ℕ) (x : Developer) → move_refusal l n x Cancel ≡ 0 → CancelPassed l n x
unfolding move_refusal
cancel_passed l n x e =
    let p = passed (in_round l.phase) 1 _ e in
    let q = passed (is_of_kind 2 n x.declared.kind) 2 _ p.1 in
    record { phase = p.0; developer = q.0; stands = not-true (is_none x.offer) (passed (not (is_none x.offer)) 15 _ q.1).0 }

pub close_passed : (l : Ledger) → refusal l Close ≡ 0 → ClosePassed l
unfolding refusal
close_passed l e = record { phase = (passed (in_round l.phase) 1 0 e).0 }
