-- Calls of different developers in whichever order they arrive (document 02, 12): one ledger, and the same answer to each call.
use Rattle.std.specs.Prelude.{ℕ, ◌≡◌, true, false, List, [], ◌∷◌, eqb}
use Rattle.std.proofs.Math.Path.{refl, sym, ap}
use Rattle.std.proofs.Common.{◌∙◌, eqb-true, eq-eqb}
use Rattle.std.proofs.lemmas.Bool.{false≢true}
use Rattle.std.proofs.Math.Decide.{ℕ_discrete as dec_eq}
use Rattle.rules_auction.specs.Ledger.{Move, Call, SetUp, Register, Open, By, Close, Developer, Ledger, with_developer}
use Rattle.rules_auction.specs.Refusals.{refusal}
use Rattle.rules_auction.specs.Rounds.{moved, accepted, step, step_all, answer}
use Rattle.laws_ledger.specs.reachable.Steps.{step_refused, step_accepted, by_step}
use Rattle.laws_arrival.specs.cancelling.TakenBack.{own}
use Rattle.laws_arrival.specs.cancelling.Entries.{apart, same_number, move_beside}
use Rattle.rules_numbers.specs.reordering.Exchanges.{Exchanged}
use Rattle.rules_numbers.specs.reordering.ExchangeLaws.{exchanged, exchanged_same, exchanged_all}
use Rattle.laws_arrival.specs.arrival.Arrival.{is_move, Reordered, Alike}
use Rattle.laws_arrival.specs.arrival.WithAnswers.{ending, Free, exchanged_ending, exchanged_with_answers}

-- ---- two neighbours

module _ (l : Ledger) (n : ℕ) (m : Move) (k : ℕ) (o : Move) (d : eqb k n ≡ false) where
  abbrev first : Call
  first = By n m

  abbrev second : Call
  second = By k o

  -- the second is answered as if the first were not there
  pub answered_alone : answer (step l first) second ≡ answer l second
  unfolding accepted
  answered_alone = by_step (λ (s : Ledger). answer s second ≡ answer l second) l first refl (λ e. (move_beside n l k o d).answered (moved (l.developers n) m))

  number_stays : refusal (step l second) first ≡ refusal l first
  unfolding accepted
  number_stays = by_step (λ (s : Ledger). refusal s first ≡ refusal l first) l second refl (λ e. same_number k l n m (apart k n d) (moved (l.developers k) o))

  pub exchanging : step (step l first) second ≡ step (step l second) first
  unfolding accepted
  exchanging = go (dec_eq (refusal l first) 0)
    where
      go : Dec (refusal l first ≡ 0) → step (step l first) second ≡ step (step l second) first
      go (yes e) =
          let b = move_beside n l k o d in
          ap (λ (s : Ledger). step s second) (step_accepted l first e)
          ∙ b.next (moved (l.developers n) m)
          ∙ ap (λ (x : Developer). with_developer (step l second) n (moved x m)) (sym b.entry)
          ∙ sym (step_accepted (step l second) first (number_stays ∙ e))
      go (no e) =
          ap (λ (s : Ledger). step s second) (step_refused l first e)
          ∙ sym (step_refused (step l second) first (λ z. e (sym number_stays ∙ z)))

-- ---- all through the lists

pub own_once : (c : Call) (n k : ℕ) → own n c ≡ true → own k c ≡ true → n ≡ k
unfolding own
own_once (SetUp s) n k p q = absurd (false≢true p)
own_once (Register j w x) n k p q = absurd (false≢true p)
own_once (Open c) n k p q = absurd (false≢true p)
own_once (By j m) n k p q = sym (eqb-true j n p) ∙ eqb-true j k q
own_once Close n k p q = absurd (false≢true p)

pub someones : (c : Call) → is_move c ≡ true → (n : ℕ) × (own n c ≡ true)
unfolding own is_move
someones (SetUp s) e = absurd (false≢true e)
someones (Register j w x) e = absurd (false≢true e)
someones (Open c) e = absurd (false≢true e)
someones (By j m) e = (j, eq-eqb j j refl)
someones Close e = absurd (false≢true e)

pub calls_free : Free step answer own
unfolding own
calls_free l (SetUp s) d n k p q e = absurd (false≢true p)
calls_free l (Register j w x) d n k p q e = absurd (false≢true p)
calls_free l (Open c) d n k p q e = absurd (false≢true p)
calls_free l Close d n k p q e = absurd (false≢true p)
calls_free l (By i m) (SetUp s) n k p q e = absurd (false≢true q)
calls_free l (By i m) (Register j w x) n k p q e = absurd (false≢true q)
calls_free l (By i m) (Open c) n k p q e = absurd (false≢true q)
calls_free l (By i m) Close n k p q e = absurd (false≢true q)
calls_free l (By i m) (By j o) n k p q e =
    let d : eqb j i ≡ false = rw (eqb-true i n p) e in
    (exchanging l i m j o d, answered_alone l i m j o d)

ending_steps : (l : Ledger) (cs : List Call) → ending step answer l cs ≡ step_all l cs
unfolding ending step_all
ending_steps l [] = refl
ending_steps l (c ∷ cs) = ending_steps (step l c) cs

pub arrival : (l : Ledger) (ds es : List Call) → Reordered ds es → Alike l ds es
arrival l ds es h =
    let x : Exchanged own ds es = exchanged own own_once is_move someones ds es h.moves h.moves' h.each in
    let t = exchanged_with_answers step answer own own_once calls_free l x in
    record {
      ledgers = sym (ending_steps l ds) ∙ exchanged_ending step answer own own_once calls_free l x ∙ ending_steps l es;
      answered = exchanged_same (λ n p. own n p.0) (λ p. own_once p.0) t;
      accepted = exchanged_all (λ p. eqb p.1.number 0) t;
    }
