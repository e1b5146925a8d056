-- A record replayed for C (document 01, Frames), for every record and every lent buffer: where the replies fit, their number of bytes, and they
-- stand over the buffer's start; else 2^64 less 11, and the buffer as it was. The replies are, line by line, the text of the answer that is stated
-- for the calls that the lines before ask: so what is stated of settling (demand 3) reads for bytes. The call asks nothing and meets its contract.
use Rattle.std.specs.Prelude.{ℕ, ◌-◌, ◌*◌, ◌^◌, ◌≤◌, ◌<◌, ◌≡◌, Bool, cond, length, take, replicate}
use Rattle.std.proofs.Math.Path.{refl, sym, ap₂}
use Rattle.std.proofs.Common.{ap, ◌∙◌, subst, ⊎_elim, take_at}
use Rattle.std.proofs.Math.Bool.{true, false}
use mathlib.Core.List.{List, [], ◌∷◌, ◌++◌, map, flatten}
use Rattle.std.proofs.Math.Dec.{eqb}
use borrow.Author.Tests.{eqb-true, eqb-false}
use contract.Lifetimes.{Lfts}
use denote.Triple.Clauses.{AtExit}
use borrow.Fn.World.{ArgsD}
use borrow.Fn.Kinds.{ended_of}
use Rattle.rules_numbers.specs.Cases.{le_or_lt}
use Rattle.rules_numbers.specs.ListLaws.{Each, flat_length}
use Rattle.rules_numbers.specs.Tails.{laid}
use Rattle.rules_format.specs.Fields.{text_at}
use Rattle.rules_format.specs.Lines.{lines}
use Rattle.rules_auction.specs.Ledger.{Call, Ledger}
use Rattle.rules_auction.specs.Rounds.{step_all, ledger, Answered, answer}
use Rattle.rules_auction.specs.Settling.{Settlement, settlement, settling_refusal}
use Rattle.rules_replies.specs.Orders.{Order, Malformed, Asks, Settle, order_in}
use Rattle.rules_replies.specs.Replies.{call_kind, fields_text, settling_head, settling_tail, record_digits, closing_text, settling_text}
use Rattle.rules_replies.specs.Replies.{answer_line, award_room, reply_to, replies_from, replies}
use Rattle.rules_replies.specs.Lengths.{flat_digits, six}
use Rattle.rules_replies.specs.record_calls.Calls.{asked_calls}
use Rattle.rules_replies.specs.record_calls.CallLaws.{after_asked}
use Rattle.engine_settling.specs.Settles.{Settled, refused_with, settled_as}
use Rattle.reply_values.specs.ShowsLaws.{refused_line}
use Rattle.record_replay.specs.Replayed.{hosted, over}
use Rattle.statement.specs.settling.Stated.{Stated}
use Rattle.statement.specs.settling.StatedLaws.{stated_taken, stated_refused}
use Rattle.statement.specs.settling.Determined.{determined as stated_only}
use Rattle.statement.specs.calls_of_c.HostValues.{fits_number, short_number, fits_buffer, short_buffer}
use Rattle.host.specs.contracts.replay.{signature}
use Rattle.host.proofs.replay.Kinds as kinds
use Rattle.host.proofs.replay.Reads as replaying
use Rattle.host.proofs.replay.Statement as replay_states
use Rattle.host.proofs.replay.Met as replay_met

-- ---- the text of an answer

-- of a call: its kind, its number, and of an accepted closing the excess and the remainder
abbrev pub called_text : Call → Answered → List ℕ
called_text c r = answer_line (call_kind c) r.number (cond (eqb (call_kind c) 5) (closing_text r) [])

-- of a settling, by its answer and the lent buffer behind it: P, Dem, total, choices, covering, records; the bytes of the records; remainder, second
-- price and its mark, the mark of participation, the price paid to existing plants
unfoldable pub award_text : Settled → List ℕ → List ℕ
award_text s buffer =
    text_at (8 ∷ 10 ∷ 10 ∷ 8 ∷ 8 ∷ 2 ∷ []) (s.price ∷ s.demand ∷ s.total ∷ s.choices ∷ s.covering ∷ s.records ∷ [])
    ++ record_digits (take (6 * s.records) buffer)
    ++ text_at (8 ∷ 8 ∷ 2 ∷ 2 ∷ 8 ∷ []) (s.remainder ∷ s.second ∷ cond s.short 1 0 ∷ cond s.insufficient 1 0 ∷ s.paid ∷ [])

abbrev pub settled_text : Settled → List ℕ → List ℕ
settled_text s buffer = answer_line 6 s.number (award_text s buffer)

-- ---- what is stated

-- t is the reply to a settling: whatever 192 bytes are lent there is an answer as stated, and t is the text of it and of what the bytes then hold
pub record SettlingReplied (l : Ledger) (limit : ℕ) (t : List ℕ) : Type 0 where
  pub new : (old : List ℕ) → length old ≡ award_room → List ℕ
  pub settled : (old : List ℕ) → length old ≡ award_room → Settled
  pub as_stated : (old : List ℕ) (e : length old ≡ award_room) → Stated l limit old (new old e) (settled old e)
  pub text : (old new : List ℕ) (s : Settled) → length old ≡ award_room → Stated l limit old new s → t ≡ settled_text s new

-- t is the reply to a line that asks o, behind lines that ask the calls cs: FF0C to a malformed one
unfoldable pub LineReplied : List Call → Order → List ℕ → Type 0
LineReplied cs Malformed t = t ≡ answer_line 255 12 []
LineReplied cs (Asks c) t = t ≡ called_text c (answer (ledger cs) c)
LineReplied cs (Settle limit) t = SettlingReplied (ledger cs) limit t

-- `Replied cs ls text`: the text is the replies to the lines ls, one behind the other, behind lines that ask the calls cs
pub data Replied : List Call → List (List ℕ) → List ℕ → Type 0 where
  no_line : {cs : List Call} → Replied cs [] []
  line_first :
      {cs : List Call} {rest : List (List ℕ)} (line t text : List ℕ) → LineReplied cs (order_in line) t →
      Replied (cs ++ asked_calls (order_in line)) rest text → Replied cs (line ∷ rest) (t ++ text)

-- `old` and `new` are the lent buffer before and after, r is what C gets
pub record Replayed (bytes old new : List ℕ) (r : ℕ) : Type 0 where
  pub line_by_line : Replied [] (lines bytes) (replies bytes)
  pub fit : length (replies bytes) ≤ length old → (r ≡ length (replies bytes)) × (new ≡ laid (replies bytes) old)
  pub too_short : length old < length (replies bytes) → (r ≡ 2 ^ 64 - 11) × (new ≡ old)

-- the arguments x: the record, the buffer; y: the same at the call's end
pub record ReplayExported (M : Type 1) : Type 2 where
  pub meets : replay_states.statement M
  pub asks : (κs : Lfts 2) (x : ArgsD signature κs) → replaying.Pre κs x × replaying.Asked κs x
  pub returns :
      (κs : Lfts 2) (x : ArgsD signature κs) (r : ℕ) (y : AtExit (ended_of 2 kinds.ps kinds.r) κs) → replaying.Post κs x r y →
      Replayed x.0.now x.1.0.now y.1.0.now r
  -- what is stated leaves nothing free: neither the text, line by line, nor what C gets and the buffer
  pub text_determined : (ls : List (List ℕ)) (t t' : List ℕ) → Replied [] ls t → Replied [] ls t' → t ≡ t'
  pub determined :
      (bytes old new new' : List ℕ) (r r' : ℕ) → Replayed bytes old new r → Replayed bytes old new' r' → (r ≡ r') × (new ≡ new')

-- ---- a settling's reply

take_laid : (t o : List ℕ) (n : ℕ) → length t ≡ n → take n (laid t o) ≡ t
unfolding laid
take_laid t o n e = take_at t _ n e

shown : (m : Settlement) (old : List ℕ) → Each (λ x. length x ≡ 6) m.records → settling_text m ≡ award_text (settled_as m) (laid (flatten m.records) old)
unfolding settling_text award_text
shown m old h =
    let rs : List (List ℕ) = m.records in
    let a : take (6 * length rs) (laid (flatten rs) old) ≡ flatten rs = take_laid (flatten rs) old (6 * length rs) (flat_length 6 rs h) in
    let b : flatten (map record_digits rs) ≡ record_digits (take (6 * length rs) (laid (flatten rs) old)) = sym (ap record_digits a ∙ flat_digits rs) in
    ap (λ (x : List ℕ). fields_text settling_head m ++ x ++ fields_text settling_tail m) b

-- an answer as stated whose text the reply is
record Found (cs : List Call) (limit : ℕ) (old : List ℕ) : Type 0 where
  new : List ℕ
  settled : Settled
  as_stated : Stated (ledger cs) limit old new settled
  text : reply_to (ledger cs) (Settle limit) ≡ settled_text settled new

module _ (cs : List Call) (limit : ℕ) (old : List ℕ) (room : length old ≡ award_room) where
  abbrev l : Ledger
  l = ledger cs

  abbrev n : ℕ
  n = settling_refusal l limit award_room

  abbrev m : Settlement
  m = settlement l

  number_is : settling_refusal l limit (length old) ≡ n
  number_is = ap (settling_refusal l limit) room

  found : Found cs limit old
  unfolding reply_to
  found = go (eqb n 0) refl
    where
      go : (b : Bool) → eqb n 0 ≡ b → Found cs limit old
      go true e =
          let z : n ≡ 0 = eqb-true n 0 e in
          record {
            new = laid (flatten m.records) old;
            settled = settled_as m;
            as_stated = stated_taken cs limit old (number_is ∙ z);
            text = ap₂ (λ (k : ℕ) (t : List ℕ). answer_line 6 k t) z (shown m old (six l));
          }
      go false e =
          let z : n ≡ 0 → ⊥ = eqb-false n 0 e in
          record {
            new = old;
            settled = refused_with n;
            as_stated = stated_refused cs limit old n number_is z;
            text = sym (refused_line 6 n (settling_text m) z) ∙ refused_line 6 n (award_text (refused_with n) old) z;
          }

text_of_stated :
    (cs : List Call) (limit : ℕ) (old new : List ℕ) (s : Settled) → length old ≡ award_room → Stated (ledger cs) limit old new s →
    reply_to (ledger cs) (Settle limit) ≡ settled_text s new
text_of_stated cs limit old new s e w =
    let f : Found cs limit old = found cs limit old e in
    let d = stated_only (ledger cs) limit old f.new new f.settled s f.as_stated w in
    f.text ∙ ap₂ (λ (x : Settled) (b : List ℕ). settled_text x b) d.0 d.1

settling_replied : (cs : List Call) (limit : ℕ) → SettlingReplied (ledger cs) limit (reply_to (ledger cs) (Settle limit))
settling_replied cs limit = record {
  new = λ old e. (found cs limit old e).new;
  settled = λ old e. (found cs limit old e).settled;
  as_stated = λ old e. (found cs limit old e).as_stated;
  text = text_of_stated cs limit;
}

-- ---- all lines

pub line_replied : (cs : List Call) (o : Order) → LineReplied cs o (reply_to (ledger cs) o)
unfolding LineReplied reply_to
line_replied cs Malformed = refl
line_replied cs (Asks c) = refl
line_replied cs (Settle limit) = settling_replied cs limit

replied_from_lem : (cs : List Call) (ls : List (List ℕ)) → Replied cs ls (replies_from (ledger cs) ls)
unfolding replies_from
replied_from_lem cs [] = no_line
replied_from_lem cs (line ∷ rest) = line_first line _ _ (line_replied cs (order_in line)) (subst
    (λ (k : Ledger). Replied (cs ++ asked_calls (order_in line)) rest (replies_from k rest)) (after_asked cs (order_in line))
    (replied_from_lem (cs ++ asked_calls (order_in line)) rest))

pub record_replied : (bytes : List ℕ) → Replied [] (lines bytes) (replies bytes)
unfolding replies ledger step_all
record_replied bytes = replied_from_lem [] (lines bytes)

-- ---- and no other text is

settling_only : (cs : List Call) (limit : ℕ) (t : List ℕ) → SettlingReplied (ledger cs) limit t → t ≡ reply_to (ledger cs) (Settle limit)
settling_only cs limit t w =
    let old : List ℕ = replicate 192 0 in
    let e : length old ≡ award_room = refl in
    let f : Found cs limit old = found cs limit old e in
    let d = stated_only (ledger cs) limit old (w.new old e) f.new (w.settled old e) f.settled (w.as_stated old e) f.as_stated in
    w.text old (w.new old e) (w.settled old e) e (w.as_stated old e)
    ∙ ap₂ (λ (x : Settled) (b : List ℕ). settled_text x b) d.0 d.1 ∙ sym f.text

pub line_only : (cs : List Call) (o : Order) (t : List ℕ) → LineReplied cs o t → t ≡ reply_to (ledger cs) o
unfolding LineReplied reply_to
line_only cs Malformed t w = w
line_only cs (Asks c) t w = w
line_only cs (Settle limit) t w = settling_only cs limit t w

replied_only : {cs : List Call} {ls : List (List ℕ)} {text : List ℕ} → Replied cs ls text → text ≡ replies_from (ledger cs) ls
unfolding replies_from
replied_only no_line = refl
replied_only (line_first {cs} {rest} line t text w ws) =
    ap₂ ◌++◌ (line_only cs (order_in line) t w) (replied_only ws ∙ ap (λ (k : Ledger). replies_from k rest) (after_asked cs (order_in line)))

-- ---- the buffer

replayed : (bytes old new : List ℕ) (r : ℕ) → r ≡ hosted (replies bytes) old → new ≡ over (replies bytes) old → Replayed bytes old new r
replayed bytes old new r e f = record {
  line_by_line = record_replied bytes;
  fit = λ h. (e ∙ fits_number (replies bytes) old h, f ∙ fits_buffer (replies bytes) old h);
  too_short = λ h. (e ∙ short_number (replies bytes) old h, f ∙ short_buffer (replies bytes) old h);
}

-- and nothing else is
replayed_only :
    (bytes old new new' : List ℕ) (r r' : ℕ) → Replayed bytes old new r → Replayed bytes old new' r' → (r ≡ r') × (new ≡ new')
replayed_only bytes old new new' r r' x y = ⊎_elim
    (λ h. let a = x.fit h in let b = y.fit h in (a.0 ∙ sym b.0, a.1 ∙ sym b.1))
    (λ h. let a = x.too_short h in let b = y.too_short h in (a.0 ∙ sym b.0, a.1 ∙ sym b.1))
    (le_or_lt (length (replies bytes)) (length old))

-- ---- together

pub replay_exported : {M : Type 1} → ReplayExported M
replay_exported = record {
  meets = replay_met.met;
  asks = λ κs x. (tt, tt);
  returns = λ κs x r y q. replayed _ _ _ r q.0 q.1;
  text_determined = λ ls t t' w w'. replied_only w ∙ sym (replied_only w');
  determined = replayed_only;
}
