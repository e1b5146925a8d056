-- READ OUT, up to C (document 01, Frames): what a host in C may conclude of the exported calls, from the statement alone. Each of them meets its
-- contract and asks nothing of its arguments. Calls with equal arguments and lent buffers of equal bytes give equal numbers and leave equal bytes
-- (`same-..`); a refusal is 2^64 less its number and leaves the buffer. The nine calls that write frames stand in WritersOfC. Each conclusion takes
-- the part of the record that it rests on, so that the loss of a clause is refused at the conclusion of that clause.
use Rattle.std.specs.Prelude.{ℕ, ◌+◌, ◌-◌, ◌*◌, ◌^◌, ◌≤◌, ◌<◌, ◌≡◌, refl, ◌↔◌, List, [], ◌∷◌, ◌++◌, length, Result}
use Rattle.std.proofs.Common.{sym, ◌∙◌}
use contract.Lifetimes.{Lfts}
use denote.Triple.Clauses.{AtExit}
use borrow.Fn.World.{ArgsD}
use borrow.Fn.Kinds.{ended_of}
use Rattle.rules_numbers.specs.Least.{Least}
use Rattle.rules_numbers.specs.Tails.{laid}
use Rattle.rules_demand.specs.Curve.{priced, PricedAt}
use Rattle.rules_format.specs.Lines.{lines}
use Rattle.rules_auction.specs.Ledger.{Call, Ledger}
use Rattle.rules_auction.specs.Rounds.{ledger, Answered, answer}
use Rattle.rules_replies.specs.Orders.{Malformed, Asks, Settle, order_in}
use Rattle.rules_replies.specs.Replies.{answer_line, award_room, replies}
use Rattle.rules_replies.specs.record_calls.Calls.{calls_in, asked_calls}
use Rattle.rules_forcing.specs.Game.{GameMove}
use Rattle.rules_forcing.specs.Forcing.{forcing_refusal, ForcedBy}
use Rattle.record_replay.specs.record_forcing.Chosen.{move_byte}
use Rattle.rules_sealed.specs.Sealed.{Book, book_of, awards, left_over, lent_refusal}
use Rattle.rules_sealed.specs.InWords.{InWords}
use Rattle.engine_refusals.specs.declared.Refusal.{Refusal}
use Rattle.engine_settling.specs.Settles.{Settled, settled_in}
use Rattle.engine_settling.specs.declared.Settlement.{Settlement}
use Rattle.engine_settling.specs.contracts.settle.{signature as settle_signature}
use Rattle.engine_settling.proofs.settle.Kinds as settle_kinds
use Rattle.engine_settling.proofs.settle.Reads as settle
use Rattle.host.specs.Version.{engine_version}
use Rattle.host.specs.contracts.engine_version.{signature as version_signature}
use Rattle.host.proofs.engine_version.Reads as asking_version
use Rattle.host.proofs.engine_version.Statement as version_states
use Rattle.host.specs.contracts.demand.{signature as demand_signature}
use Rattle.host.proofs.demand.Reads as demanding
use Rattle.host.proofs.demand.Statement as demand_states
use Rattle.host.specs.contracts.demand_remainder.{signature as remainder_signature}
use Rattle.host.proofs.demand_remainder.Reads as remaining
use Rattle.host.proofs.demand_remainder.Statement as remainder_states
use Rattle.host.specs.contracts.replay.{signature as replay_signature}
use Rattle.host.proofs.replay.Kinds as replay_kinds
use Rattle.host.proofs.replay.Reads as replaying
use Rattle.host.proofs.replay.Statement as replay_states
use Rattle.host.specs.contracts.who_can_force.{signature as forcing_signature}
use Rattle.host.proofs.who_can_force.Kinds as forcing_kinds
use Rattle.host.proofs.who_can_force.Reads as forcing
use Rattle.host.proofs.who_can_force.Statement as forcing_states
use Rattle.host.specs.contracts.sealed_auction.{signature as sealing_signature}
use Rattle.host.proofs.sealed_auction.Kinds as sealing_kinds
use Rattle.host.proofs.sealed_auction.Reads as sealing
use Rattle.host.proofs.sealed_auction.Statement as sealing_states
use Rattle.statement.specs.calls_of_c.Version.{VersionExported}
use Rattle.statement.specs.calls_of_c.Demand.{Inside, Demanded, Remains, DemandReturned, RemainderReturned, DemandExported}
use Rattle.statement.specs.calls_of_c.Replay.{called_text, settled_text, SettlingReplied, LineReplied, Replied, line_first, Replayed, ReplayExported}
use Rattle.statement.specs.calls_of_c.Forcing.{ForcingReturned, ForcingExported}
use Rattle.statement.specs.calls_of_c.Sealed.{SealedReturned, SealedExported}
use Rattle.statement.specs.settling.Stated.{Stated}
use Rattle.statement.specs.EveryList.{Run}
use Rattle.statement.specs.EngineCorrect.{EngineCorrect}

-- ---- calls made, as their own contracts have it

-- the call for the version gave r
abbrev pub Versions : ℕ → Type 0
Versions r = asking_version.Post tt tt r tt

-- to these numbers the call gave r
abbrev pub Demands : ℕ → ℕ → ℕ → ℕ → ℕ → ℕ → Type 0
Demands ce d m1 m2 p r = demanding.Post tt (ce, (d, (m1, (m2, (p, tt))))) r (ce, (d, (m1, (m2, (p, tt)))))

abbrev pub DemandsRemainder : ℕ → ℕ → ℕ → ℕ → ℕ → ℕ → Type 0
DemandsRemainder ce d m1 m2 p r = remaining.Post tt (ce, (d, (m1, (m2, (p, tt))))) r (ce, (d, (m1, (m2, (p, tt)))))

-- given this record and a lent buffer of the bytes `old`, the call gave r and left the bytes `new`
pub data Replays : (bytes old new : List ℕ) → ℕ → Type 0 where
  replays :
      (κs : Lfts 2) (x : ArgsD replay_signature κs) (r : ℕ) (y : AtExit (ended_of 2 replay_kinds.ps replay_kinds.r) κs) → replaying.Post κs x r y →
      Replays x.0.now x.1.0.now y.1.0.now r

-- given this record, two developers, prices and a buffer
pub data Forces : (bytes : List ℕ) (m n : ℕ) (ps old new : List ℕ) → ℕ → Type 0 where
  forces :
      (κs : Lfts 3) (x : ArgsD forcing_signature κs) (r : ℕ) (y : AtExit (ended_of 3 forcing_kinds.ps forcing_kinds.r) κs) → forcing.Post κs x r y →
      Forces x.0.now x.1.0 x.1.1.0 x.1.1.1.0.now x.1.1.1.1.0.now y.1.1.1.1.0.now r

-- given a ceiling, demand, the offers of a book and a buffer
pub data Seals : (ceiling demand : ℕ) (b : Book) (old new : List ℕ) → ℕ → Type 0 where
  seals :
      (κs : Lfts 5) (x : ArgsD sealing_signature κs) (r : ℕ) (y : AtExit (ended_of 5 sealing_kinds.ps sealing_kinds.r) κs) → sealing.Post κs x r y →
      Seals x.0 x.1.0 (book_of x.1.1.0.now x.1.1.1.0.now x.1.1.1.1.0.now x.1.1.1.1.1.0.now)
      x.1.1.1.1.1.1.0.now y.1.1.1.1.1.1.0.now r

-- ---- the parts of the statement

module _ {M : Type 1} (s : EngineCorrect M) where
  pub of_version : VersionExported M
  of_version = s.exported.version

  pub of_demand : DemandExported M
  of_demand = s.exported.demand

  pub of_replay : ReplayExported M
  of_replay = s.exported.replay

  pub of_forcing : ForcingExported M
  of_forcing = s.exported.forcing

  pub of_sealed : SealedExported M
  of_sealed = s.exported.sealed

-- ---- the engine's version

module _ {M : Type 1} (e : VersionExported M) where
  pub version_meets : version_states.statement M
  version_meets = e.meets

  pub version_asks_nothing : (κs : Lfts 0) (x : ArgsD version_signature κs) → asking_version.Pre κs x × asking_version.Asked κs x
  version_asks_nothing κs x = e.asks κs x

  pub version_returned : (r : ℕ) → Versions r → r ≡ engine_version
  version_returned r w = e.returns tt tt r tt w

module _ {M : Type 1} (s : EngineCorrect M) where
  pub same_version : (r r' : ℕ) → Versions r → Versions r' → r ≡ r'
  same_version r r' w v = let e = of_version s in version_returned e r w ∙ sym (version_returned e r' v)

-- ---- demand (document 01; document 02, 4)

module _ {M : Type 1} (e : DemandExported M) where
  pub demand_meets : demand_states.statement M
  demand_meets = e.demand_meets

  pub demand_asks_nothing : (κs : Lfts 0) (x : ArgsD demand_signature κs) → demanding.Pre κs x × demanding.Asked κs x
  demand_asks_nothing κs x = e.demand_asks κs x

  pub demand_returned : (ce d m1 m2 p r : ℕ) → Demands ce d m1 m2 p r → DemandReturned ce d m1 m2 p r
  demand_returned ce d m1 m2 p r w = e.demand_returns tt (ce, (d, (m1, (m2, (p, tt))))) r (ce, (d, (m1, (m2, (p, tt))))) w

  pub demand_decided : (ce d m1 m2 p r r' : ℕ) → DemandReturned ce d m1 m2 p r → DemandReturned ce d m1 m2 p r' → r ≡ r'
  demand_decided ce d m1 m2 p r r' w v = e.demand_determined ce d m1 m2 p r r' w v

  pub remainder_meets : remainder_states.statement M
  remainder_meets = e.remainder_meets

  pub remainder_asks_nothing : (κs : Lfts 0) (x : ArgsD remainder_signature κs) → remaining.Pre κs x × remaining.Asked κs x
  remainder_asks_nothing κs x = e.remainder_asks κs x

  pub remainder_returned : (ce d m1 m2 p r : ℕ) → DemandsRemainder ce d m1 m2 p r → RemainderReturned ce d m1 m2 p r
  remainder_returned ce d m1 m2 p r w = e.remainder_returns tt (ce, (d, (m1, (m2, (p, tt))))) r (ce, (d, (m1, (m2, (p, tt))))) w

  pub remainder_decided : (ce d m1 m2 p r r' : ℕ) → RemainderReturned ce d m1 m2 p r → RemainderReturned ce d m1 m2 p r' → r ≡ r'
  remainder_decided ce d m1 m2 p r r' w v = e.remainder_determined ce d m1 m2 p r r' w v

module _ {ce d m1 m2 p q : ℕ} (w : DemandReturned ce d m1 m2 p q) where
  -- 2^64 less 1 where settings or price are outside the bounds, and there alone
  pub demand_refused : (q ≡ 2 ^ 64 - 1) ↔ (Inside ce d m1 m2 p → ⊥)
  demand_refused = w.outside

  pub demand_given : Inside ce d m1 m2 p → Demanded ce d m1 m2 p q
  demand_given i = w.inside i

-- M1 at the top price, below it the least quantity that the curve prices at most p
module _ {ce d m1 m2 p q : ℕ} (w : Demanded ce d m1 m2 p q) where
  pub demand_at_top : p ≡ 2 * ce → q ≡ m1
  demand_at_top e = w.top e

  pub demand_below_top : p < 2 * ce → Least (priced ce d m1 m2 p) 0 m2 q
  demand_below_top h = w.least h

module _ {ce d m1 m2 p r : ℕ} (w : RemainderReturned ce d m1 m2 p r) where
  pub remainder_refused : (r ≡ 2 ^ 64 - 1) ↔ (Inside ce d m1 m2 p → ⊥)
  remainder_refused = w.outside

  pub remainder_given : Inside ce d m1 m2 p → Remains ce d m1 m2 p r
  remainder_given i = w.inside i

-- exact demand, in CE-ths of a kWh: from M1 to M2, priced at p itself; it and the remainder make up demand
module _ {ce d m1 m2 p r : ℕ} (w : Remains ce d m1 m2 p r) where
  pub exact_between : (m1 * ce ≤ w.exact) × (w.exact ≤ m2 * ce)
  exact_between = w.between

  pub exact_priced : PricedAt ce (d * ce) (m1 * ce) (m2 * ce) p w.exact
  exact_priced = w.at_p

  pub exact_made_up : (q : ℕ) → Demanded ce d m1 m2 p q → w.exact + r ≡ q * ce
  exact_made_up q v = w.makes_up q v

  pub remainder_below_ce : r < ce
  remainder_below_ce = w.below_ce

module _ {M : Type 1} (s : EngineCorrect M) (ce d m1 m2 p : ℕ) where
  pub same_demand : (r r' : ℕ) → Demands ce d m1 m2 p r → Demands ce d m1 m2 p r' → r ≡ r'
  same_demand r r' w v =
      let e = of_demand s in
      demand_decided e ce d m1 m2 p r r' (demand_returned e ce d m1 m2 p r w) (demand_returned e ce d m1 m2 p r' v)

  pub same_remainder : (r r' : ℕ) → DemandsRemainder ce d m1 m2 p r → DemandsRemainder ce d m1 m2 p r' → r ≡ r'
  same_remainder r r' w v =
      let e = of_demand s in
      remainder_decided e ce d m1 m2 p r r' (remainder_returned e ce d m1 m2 p r w) (remainder_returned e ce d m1 m2 p r' v)

-- ---- a record replayed (document 01, Frames)

module _ {M : Type 1} (e : ReplayExported M) where
  pub replay_meets : replay_states.statement M
  replay_meets = e.meets

  pub replay_asks_nothing : (κs : Lfts 2) (x : ArgsD replay_signature κs) → replaying.Pre κs x × replaying.Asked κs x
  replay_asks_nothing κs x = e.asks κs x

  pub replay_returned : {bytes old new : List ℕ} {r : ℕ} → Replays bytes old new r → Replayed bytes old new r
  replay_returned (replays κs x r y q) = e.returns κs x r y q

  pub replay_decided :
      (bytes old new new' : List ℕ) (r r' : ℕ) → Replayed bytes old new r → Replayed bytes old new' r' → (r ≡ r') × (new ≡ new')
  replay_decided bytes old new new' r r' w v = e.determined bytes old new new' r r' w v

  -- what is said of a text line by line says which one it is
  pub text_decided : (ls : List (List ℕ)) (t t' : List ℕ) → Replied [] ls t → Replied [] ls t' → t ≡ t'
  text_decided ls t t' w v = e.text_determined ls t t' w v

module _ {bytes old new : List ℕ} {r : ℕ} (w : Replayed bytes old new r) where
  -- the number of bytes of the replies, and they stand over the buffer's start
  pub replies_fit : length (replies bytes) ≤ length old → (r ≡ length (replies bytes)) × (new ≡ laid (replies bytes) old)
  replies_fit h = w.fit h

  pub replies_refused : length old < length (replies bytes) → (r ≡ 2 ^ 64 - 11) × (new ≡ old)
  replies_refused h = w.too_short h

  pub replies_by_line : Replied [] (lines bytes) (replies bytes)
  replies_by_line = w.line_by_line

-- a text said of lines is the first line's reply, and the text said of the others behind the calls that it asks
pub first_line :
    {cs : List Call} {line : List ℕ} {rest : List (List ℕ)} {text : List ℕ} → Replied cs (line ∷ rest) text →
    (t : List ℕ) × (more : List ℕ) × LineReplied cs (order_in line) t × Replied (cs ++ asked_calls (order_in line)) rest more × (text ≡ t ++ more)
first_line (line_first line t more w ws) = (t, more, w, ws, refl)

-- FF0C to a malformed line; to a call its kind, its number, and of an accepted closing its figures
pub malformed_line : (cs : List Call) (t : List ℕ) → LineReplied cs Malformed t → t ≡ answer_line 255 12 []
unfolding LineReplied
malformed_line cs t w = w

pub call_line : (cs : List Call) (c : Call) (t : List ℕ) → LineReplied cs (Asks c) t → t ≡ called_text c (answer (ledger cs) c)
unfolding LineReplied
call_line cs c t w = w

-- whatever 192 bytes are lent, there is an answer to a settling as stated
pub settling_line :
    (cs : List Call) (limit : ℕ) (t : List ℕ) → LineReplied cs (Settle limit) t → (old : List ℕ) → length old ≡ award_room →
    (new : List ℕ) × (r : Settled) × Stated (ledger cs) limit old new r
unfolding LineReplied
settling_line cs limit t w old e = (w.new old e, w.settled old e, w.as_stated old e)

module _ {M : Type 1} (s : EngineCorrect M) where
  pub same_replay : {bytes old new new' : List ℕ} {r r' : ℕ} → Replays bytes old new r → Replays bytes old new' r' → (r ≡ r') × (new ≡ new')
  same_replay w v = let e = of_replay s in replay_decided e _ _ _ _ _ _ (replay_returned e w) (replay_returned e v)

  -- whoever says a text line by line as the statement does says the replies
  pub replies_only : {bytes old new : List ℕ} {r : ℕ} → Replays bytes old new r → (t : List ℕ) → Replied [] (lines bytes) t → t ≡ replies bytes
  replies_only {bytes} w t v = let e = of_replay s in text_decided e (lines bytes) t (replies bytes) v (replies_by_line (replay_returned e w))

  -- the reply to a settling is the text of what the settling call itself answers after the same list of calls, and leaves in 192 lent bytes
  pub settling_text_lem :
      {cs : List Call} {rs : List Answered} (κs : Lfts 1) (x : ArgsD settle_signature κs) (r : Result Settlement Refusal)
      (y : AtExit (ended_of 1 settle_kinds.ps settle_kinds.r) κs) → Run cs rs x.0 → settle.Post κs x r y → length x.1.1.0.now ≡ award_room →
      (t : List ℕ) → SettlingReplied (ledger cs) x.1.0 t → t ≡ settled_text (settled_in r) y.1.1.0.now
  settling_text_lem κs x r y w q e t v = v.text _ _ (settled_in r) e (s.statement κs x r y w q)

-- ---- who can force the price (document 02, 11)

module _ {M : Type 1} (e : ForcingExported M) where
  pub forcing_meets : forcing_states.statement M
  forcing_meets = e.meets

  pub forcing_asks_nothing : (κs : Lfts 3) (x : ArgsD forcing_signature κs) → forcing.Pre κs x × forcing.Asked κs x
  forcing_asks_nothing κs x = e.asks κs x

  pub forcing_returned :
      {bytes : List ℕ} {m n : ℕ} {ps old new : List ℕ} {r : ℕ} → Forces bytes m n ps old new r →
      ForcingReturned (ledger (calls_in bytes)) m n ps old new r
  forcing_returned (forces κs x r y q) = e.returns κs x r y q

  pub forcing_decided :
      (l : Ledger) (m n : ℕ) (ps old new new' : List ℕ) (r r' : ℕ) → ForcingReturned l m n ps old new r → ForcingReturned l m n ps old new' r' →
      (r ≡ r') × (new ≡ new')
  forcing_decided l m n ps old new new' r r' w v = e.determined l m n ps old new new' r r' w v

module _ {l : Ledger} {m n : ℕ} {ps old new : List ℕ} {r : ℕ} (w : ForcingReturned l m n ps old new r) where
  pub forcing_refused : (forcing_refusal l m n ps ≡ 0 → ⊥) → (r ≡ 2 ^ 64 - forcing_refusal l m n ps) × (new ≡ old)
  forcing_refused z = w.refused z

  pub forcing_without_room : forcing_refusal l m n ps ≡ 0 → length old ≡ 0 → (r ≡ 2 ^ 64 - 11) × (new ≡ old)
  forcing_without_room z e = w.no_room z e

  -- the outcome that the first can force, and in the first byte a move that begins so
  pub outcome_forced :
      forcing_refusal l m n ps ≡ 0 → 0 < length old → (c : GameMove) × ForcedBy l m n ps r c × (new ≡ laid (move_byte c ∷ []) old)
  outcome_forced z h = w.forced z h

module _ {M : Type 1} (s : EngineCorrect M) where
  pub same_forcing :
      {bytes : List ℕ} {m n : ℕ} {ps old new new' : List ℕ} {r r' : ℕ} → Forces bytes m n ps old new r → Forces bytes m n ps old new' r' →
      (r ≡ r') × (new ≡ new')
  same_forcing w v = let e = of_forcing s in forcing_decided e _ _ _ _ _ _ _ _ _ (forcing_returned e w) (forcing_returned e v)

-- ---- the sealed auction for long builds (document 02, 13)

module _ {M : Type 1} (e : SealedExported M) where
  pub sealed_meets : sealing_states.statement M
  sealed_meets = e.meets

  pub sealed_asks_nothing : (κs : Lfts 5) (x : ArgsD sealing_signature κs) → sealing.Pre κs x × sealing.Asked κs x
  sealed_asks_nothing κs x = e.asks κs x

  pub sealed_returned :
      {ceiling demand : ℕ} {b : Book} {old new : List ℕ} {r : ℕ} → Seals ceiling demand b old new r → SealedReturned ceiling demand b old new r
  sealed_returned (seals κs x r y q) = e.returns κs x r y q

  pub sealed_decided :
      (ceiling demand : ℕ) (b : Book) (old new new' : List ℕ) (r r' : ℕ) → SealedReturned ceiling demand b old new r →
      SealedReturned ceiling demand b old new' r' → (r ≡ r') × (new ≡ new')
  sealed_decided ceiling demand b old new new' r r' w v = e.determined ceiling demand b old new new' r r' w v

module _ {ceiling demand : ℕ} {b : Book} {old new : List ℕ} {r : ℕ} (w : SealedReturned ceiling demand b old new r) where
  pub sealed_refused :
      (lent_refusal ceiling demand b (length old) ≡ 0 → ⊥) → (r ≡ 2 ^ 64 - lent_refusal ceiling demand b (length old)) × (new ≡ old)
  sealed_refused z = w.refused z

  -- each offer is treated as the request's words say; what is left is given, and the awards stand in the buffer
  pub sealed_awarded :
      lent_refusal ceiling demand b (length old) ≡ 0 → InWords demand b × (r ≡ left_over demand b) × (new ≡ laid (awards demand b) old)
  sealed_awarded z = w.awarded z

module _ {M : Type 1} (s : EngineCorrect M) where
  pub same_sealed :
      {ceiling demand : ℕ} {b : Book} {old new new' : List ℕ} {r r' : ℕ} → Seals ceiling demand b old new r → Seals ceiling demand b old new' r' →
      (r ≡ r') × (new ≡ new')
  same_sealed w v = let e = of_sealed s in sealed_decided e _ _ _ _ _ _ _ _ (sealed_returned e w) (sealed_returned e v)
