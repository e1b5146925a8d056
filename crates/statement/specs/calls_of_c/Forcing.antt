-- Who can force the price, asked by C (document 02, 11), for every record, any two numbers, every list of prices and every lent buffer, of the
-- ledger of the calls that the record asks: refused by 2 or 17 in their order, then by 11 where the buffer has no byte, it gives 2^64 less that
-- number and leaves the buffer; else the outcome that is forced, and the best first move in the buffer's first byte. It asks nothing.
use Rattle.std.specs.Prelude.{ℕ, ◌-◌, ◌^◌, ◌<◌, ◌≡◌, refl, Bool, true, false, List, [], ◌∷◌, eqb, length}
use Rattle.std.proofs.Common.{sym, ap, ◌∙◌, subst, ⊎_elim, arith}
use borrow.Author.Tests.{lt-ltb, le-ltb, eqb-true, eqb-false, eq-eqb, ne_eqb}
use contract.Lifetimes.{Lfts}
use denote.Triple.Clauses.{AtExit}
use borrow.Fn.World.{ArgsD}
use borrow.Fn.Kinds.{ended_of}
use Rattle.rules_numbers.specs.Cases.{le_or_lt}
use Rattle.rules_numbers.specs.Tails.{laid}
use Rattle.rules_auction.specs.Ledger.{Ledger}
use Rattle.rules_auction.specs.Rounds.{ledger}
use Rattle.rules_replies.specs.record_calls.Calls.{calls_in}
use Rattle.rules_forcing.specs.Game.{GameMove}
use Rattle.rules_forcing.specs.Forcing.{forcing_refusal, forced_outcome, first_move, ForcedBy}
use Rattle.rules_forcing.specs.ForcingLaws.{forced_by, forced_by_only}
use Rattle.record_replay.specs.record_forcing.Chosen.{told_refusal, told_outcome, move_byte, chosen_in}
use Rattle.host.specs.Forcing.{host_forcing}
use Rattle.statement.specs.calls_of_c.HostValues.{accepted_value, refused_value}
use Rattle.host.specs.contracts.who_can_force.{signature}
use Rattle.host.proofs.who_can_force.Kinds as kinds
use Rattle.host.proofs.who_can_force.Reads as forcing
use Rattle.host.proofs.who_can_force.Statement as forcing_states
use Rattle.host.proofs.who_can_force.Met as forcing_met

-- of the ledger l, developers m and n and the prices ps; `old` and `new` are the lent buffer before and after, r is what C gets
pub record ForcingReturned (l : Ledger) (m n : ℕ) (ps old new : List ℕ) (r : ℕ) : Type 0 where
  pub refused : (forcing_refusal l m n ps ≡ 0 → ⊥) → (r ≡ 2 ^ 64 - forcing_refusal l m n ps) × (new ≡ old)
  pub no_room : forcing_refusal l m n ps ≡ 0 → length old ≡ 0 → (r ≡ 2 ^ 64 - 11) × (new ≡ old)
  -- the first can force r against every strategy of the second, which can hold it to that; the byte is a move that begins such a strategy, 0 to keep
  -- if one that keeps forces it too, 1 to withdraw
  pub forced : forcing_refusal l m n ps ≡ 0 → 0 < length old → (c : GameMove) × ForcedBy l m n ps r c × (new ≡ laid (move_byte c ∷ []) old)

-- the arguments x: the record, the two developers, the prices, the buffer; y: the same at the call's end
pub record ForcingExported (M : Type 1) : Type 2 where
  pub meets : forcing_states.statement M
  pub asks : (κs : Lfts 3) (x : ArgsD signature κs) → forcing.Pre κs x × forcing.Asked κs x
  pub returns :
      (κs : Lfts 3) (x : ArgsD signature κs) (r : ℕ) (y : AtExit (ended_of 3 kinds.ps kinds.r) κs) → forcing.Post κs x r y →
      ForcingReturned (ledger (calls_in x.0.now)) x.1.0 x.1.1.0 x.1.1.1.0.now x.1.1.1.1.0.now y.1.1.1.1.0.now r
  -- what is stated leaves nothing free
  pub determined :
      (l : Ledger) (m n : ℕ) (ps old new new' : List ℕ) (r r' : ℕ) → ForcingReturned l m n ps old new r → ForcingReturned l m n ps old new' r' →
      (r ≡ r') × (new ≡ new')

-- ---- the proofs

module _ (l : Ledger) (m n : ℕ) (ps : List ℕ) where
  told_refused : (room : ℕ) → (forcing_refusal l m n ps ≡ 0 → ⊥) → told_refusal l m n ps room ≡ forcing_refusal l m n ps
  unfolding told_refusal
  told_refused room h = rw (ne_eqb (forcing_refusal l m n ps) 0 h)

  told_short : (room : ℕ) → forcing_refusal l m n ps ≡ 0 → room ≡ 0 → told_refusal l m n ps room ≡ 11
  unfolding told_refusal
  told_short room z e = rw (eq-eqb (forcing_refusal l m n ps) 0 z, le-ltb 0 room (omega arith))

  told_answered : (room : ℕ) → forcing_refusal l m n ps ≡ 0 → 0 < room → told_refusal l m n ps room ≡ 0
  unfolding told_refusal
  told_answered room z h = rw (eq-eqb (forcing_refusal l m n ps) 0 z, lt-ltb 0 room h)

  module _ (old : List ℕ) where
    abbrev k : ℕ
    k = told_refusal l m n ps (length old)

    not_told : (k ≡ 0 → ⊥) → host_forcing l m n ps (length old) ≡ 2 ^ 64 - k
    unfolding host_forcing
    not_told h = refused_value k (told_outcome l m n ps (length old)) h

    untouched : (k ≡ 0 → ⊥) → chosen_in l m n ps old ≡ old
    unfolding chosen_in
    untouched h = rw (ne_eqb k 0 h)

    told : k ≡ 0 → host_forcing l m n ps (length old) ≡ forced_outcome l m n ps
    unfolding host_forcing told_outcome
    told z = accepted_value k (told_outcome l m n ps (length old)) z ∙ rw (eq-eqb k 0 z)

    chosen : k ≡ 0 → chosen_in l m n ps old ≡ laid (move_byte (first_move l m n ps) ∷ []) old
    unfolding chosen_in
    chosen z = rw (eq-eqb k 0 z)

    as_number : (v : ℕ) → k ≡ v → (v ≡ 0 → ⊥) → (host_forcing l m n ps (length old) ≡ 2 ^ 64 - v) × (chosen_in l m n ps old ≡ old)
    as_number v e h = let z : k ≡ 0 → ⊥ = λ g. h (sym e ∙ g) in (not_told z ∙ ap (λ (x : ℕ). 2 ^ 64 - x) e, untouched z)

forced_first :
    (l : Ledger) (m n : ℕ) (ps old new : List ℕ) (r : ℕ) → r ≡ host_forcing l m n ps (length old) → new ≡ chosen_in l m n ps old →
    forcing_refusal l m n ps ≡ 0 → 0 < length old → (c : GameMove) × ForcedBy l m n ps r c × (new ≡ laid (move_byte c ∷ []) old)
forced_first l m n ps old new r e f z g =
    let a = told_answered l m n ps (length old) z g in (
      first_move l m n ps,
      subst (λ (v : ℕ). ForcedBy l m n ps v (first_move l m n ps)) (sym (e ∙ told l m n ps old a)) (forced_by l m n ps),
      f ∙ chosen l m n ps old a,
    )

pub forcing_returned :
    (l : Ledger) (m n : ℕ) (ps old new : List ℕ) (r : ℕ) → r ≡ host_forcing l m n ps (length old) → new ≡ chosen_in l m n ps old →
    ForcingReturned l m n ps old new r
forcing_returned l m n ps old new r e f = record {
  refused = λ h. let t = as_number l m n ps old _ (told_refused l m n ps (length old) h) h in (e ∙ t.0, f ∙ t.1);
  no_room = λ z g. let t = as_number l m n ps old 11 (told_short l m n ps (length old) z g) (λ w. omega arith) in (e ∙ t.0, f ∙ t.1);
  forced = forced_first l m n ps old new r e f;
}

-- and nothing else is
module _ (l : Ledger) (m n : ℕ) (ps old new new' : List ℕ) (r r' : ℕ) (x : ForcingReturned l m n ps old new r) (y : ForcingReturned l m n ps old new' r') where
  forced_alike : forcing_refusal l m n ps ≡ 0 → (r ≡ r') × (new ≡ new')
  forced_alike z = ⊎_elim
      (λ h. let g : length old ≡ 0 = omega arith in let a = x.no_room z g in let b = y.no_room z g in (a.0 ∙ sym b.0, a.1 ∙ sym b.1))
      (λ h.
      let a = x.forced z h in
      let b = y.forced z h in
      let p = forced_by_only l m n ps a.1 in
      let q = forced_by_only l m n ps b.1 in
      (p.0 ∙ sym q.0, a.2 ∙ ap (λ (c : GameMove). laid (move_byte c ∷ []) old) (p.1 ∙ sym q.1) ∙ sym b.2))
      (le_or_lt (length old) 0)

  pub forcing_determined : (r ≡ r') × (new ≡ new')
  forcing_determined = go (eqb (forcing_refusal l m n ps) 0) refl
    where
      go : (t : Bool) → eqb (forcing_refusal l m n ps) 0 ≡ t → (r ≡ r') × (new ≡ new')
      go true e = forced_alike (eqb-true _ 0 e)
      go false e =
          let h : forcing_refusal l m n ps ≡ 0 → ⊥ = eqb-false _ 0 e in
          let a = x.refused h in
          let b = y.refused h in
          (a.0 ∙ sym b.0, a.1 ∙ sym b.1)

-- ---- together

pub forcing_exported : {M : Type 1} → ForcingExported M
forcing_exported = record {
  meets = forcing_met.met;
  asks = λ κs x. (tt, tt);
  returns = λ κs x r y q. forcing_returned _ _ _ _ _ _ r q.0 q.1;
  determined = forcing_determined;
}
