-- What a C host gets of who can force the price: the outcome, or 2^64 less the refusal's number (document 02, 11).
use Rattle.std.specs.Prelude.{ℕ, ◌≡◌, true, false, cond, List, length}
use Rattle.std.proofs.Common.{ap₂, ◌∙◌, subst}
use Rattle.rules_demand.specs.Answer.{Answer}
use Rattle.rules_auction.specs.Ledger.{Ledger}
use Rattle.rules_auction.specs.Rounds.{ledger}
use Rattle.rules_replies.specs.record_calls.Calls.{calls_in}
use Rattle.rules_seats.specs.Seats.{may_conduct}
use Rattle.rules_seats.specs.sessions.SessionFigures.{seat_may, session_ledger}
use Rattle.record_replay.specs.record_auction.Leaves.{ledger_of, record_ledger_of, session_ledger_of}
use Rattle.record_replay.specs.record_forcing.Chosen.{Told, told_refusal, told_outcome, chosen_in, Tells}
use Rattle.record_replay.specs.host_numbers.HostNumbers.{value_answer, host_number}

-- of the auction with this ledger, for a buffer of so many bytes
unfoldable pub host_forcing : Ledger → ℕ → ℕ → List ℕ → ℕ → ℕ
host_forcing l m n ps room = host_number (value_answer (told_refusal l m n ps room) (told_outcome l m n ps room))

-- ---- from what the library tells

abbrev pub outcome_answer : Told → Answer
outcome_answer t = value_answer t.number t.outcome

pub host_forcing_lem : (l : Ledger) (m n : ℕ) (ps old new : List ℕ) (t : Told) (r : ℕ) → Tells l m n ps old new t
    → r ≡ host_number (outcome_answer t) → r ≡ host_forcing l m n ps (length old)
unfolding host_forcing
host_forcing_lem l m n ps old new t r w e = e ∙ ap₂ (λ (k : ℕ) (v : ℕ). host_number (value_answer k v)) w.number w.outcome

-- behind a record: its ledger is that of the calls that it asks
pub record_forcing : (bytes : List ℕ) (m n : ℕ) (ps old new : List ℕ) (t : Told) → Tells (ledger_of false bytes) m n ps old new t →
    Tells (ledger (calls_in bytes)) m n ps old new t
record_forcing bytes m n ps old new t w = subst (λ (l : Ledger). Tells l m n ps old new t) (record_ledger_of bytes) w

-- ---- through a seat, behind a session: 20 first

pub record TellsForcingThrough (session : List ℕ) (kind number m n : ℕ) (ps old new : List ℕ) (r : ℕ) : Type 0 where
  pub outcome :
      r ≡ cond (seat_may may_conduct kind number) (host_forcing (session_ledger session) m n ps (length old)) (host_number (value_answer 20 0))
  pub buffer : new ≡ cond (seat_may may_conduct kind number) (chosen_in (session_ledger session) m n ps old) old

module _ (session : List ℕ) (kind number m n : ℕ) (ps old : List ℕ) where
  pub forcing_barred : (r : ℕ) → seat_may may_conduct kind number ≡ false → r ≡ host_number (value_answer 20 0) →
      TellsForcingThrough session kind number m n ps old old r
  forcing_barred r e er = record { outcome = er ∙ rw e; buffer = rw e }

  pub forcing_seated : (new : List ℕ) (t : Told) (r : ℕ) → seat_may may_conduct kind number ≡ true → Tells (ledger_of true session) m n ps old new t →
      r ≡ host_number (outcome_answer t) → TellsForcingThrough session kind number m n ps old new r
  forcing_seated new t r e w er =
      let v : Tells (session_ledger session) m n ps old new t = subst (λ (l : Ledger). Tells l m n ps old new t) (session_ledger_of session) w in
      record { outcome = host_forcing_lem (session_ledger session) m n ps old new t r v er ∙ rw e; buffer = v.buffer ∙ rw e }
