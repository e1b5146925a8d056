-- What is decided over parts of an auction, for every auction that has them: the clock behind a set-up and an opening, the newcomer that a
-- registration enters, and what closing a round changes.
use Rattle.std.specs.Prelude.{ℕ, ◌<◌, ◌≡◌, true, List, set, Result, Ok, Err, IfOk}
use Rattle.rules_auction.specs.Ledger.{Agency, agent_for, Call, Close}
use Rattle.rules_auction.specs.Refusals.{in_round}
use Rattle.rules_auction.specs.Rounds.{Answered}
use Rattle.engine_refusals.specs.Numbers.{after}
use Rattle.engine_refusals.specs.declared.Refusal.{Refusal}
use Rattle.engine_checks.specs.clock.Reading.{phase_in}
use Rattle.engine_checks.specs.declared.clock.Clock.{Clock}
use Rattle.engine_auction.specs.declared.Auction.{Auction}
use Rattle.engine_auction.specs.declared.Newcomer.{Newcomer}
use Rattle.engine_auction.specs.declared.Rounded.{Rounded}
use Rattle.engine_auction.specs.Called.{Called, answer_in, registers_by}
use Rattle.engine_auction.specs.Parts.{with_clock, with_courses}

-- ---- the clock

-- the auction a with this clock is the next one
abbrev pub AnswersClock : Call → Auction → Result Clock Refusal → Type 0
AnswersClock c a r = Called c a (with_clock a (after a.clock r)) (answer_in r)

-- the auction with the clock, the projects and the quantities of another, which an opening reads; with its own, the auction itself
abbrev pub with_round : Auction → Auction → Auction
with_round a now = record {
  clock = now.clock;
  projects = now.projects;
  kinds = a.kinds;
  agents = a.agents;
  studies = a.studies;
  days = a.days;
  quantities = now.quantities;
  declared = a.declared;
  histories = a.histories;
  curve = a.curve;
}

-- ---- a newcomer

-- the auction with the phase, the projects and the kinds of another, which a registration reads; with its own, the auction itself
abbrev pub with_books : Auction → Auction → Auction
with_books a now = record {
  clock = record { phase = now.clock.phase; settings = a.clock.settings; opening = a.clock.opening; closing = a.clock.closing };
  projects = now.projects;
  kinds = now.kinds;
  agents = a.agents;
  studies = a.studies;
  days = a.days;
  quantities = a.quantities;
  declared = a.declared;
  histories = a.histories;
  curve = a.curve;
}

-- the auction with the newcomer at its place
abbrev pub with_newcomer : Auction → Newcomer → Auction
with_newcomer a r = record {
  clock = a.clock;
  projects = set a.projects r.place r.project;
  kinds = set a.kinds r.place r.kind;
  agents = set a.agents r.place r.agent;
  studies = set a.studies r.place r.study;
  days = set a.days r.place r.day;
  quantities = set a.quantities r.place r.quantity;
  declared = set a.declared r.place r.declared;
  histories = a.histories;
  curve = a.curve;
}

abbrev pub after_newcomer : Auction → Result Newcomer Refusal → Auction
after_newcomer a (Ok x) = with_newcomer a x
after_newcomer a (Err e) = a

-- developer n of project k, by agent g, whether g is named or n's own (document 02, 10)
pub record Enters (a : Auction) (k n kind g study day : ℕ) (ls : List ℕ) (r : Result Newcomer Refusal) : Type 0 where
  pub inside : IfOk r (λ x. x.place < 32)
  pub entered : (w : Agency) → agent_for n w ≡ g → (b : Auction) →
      Called (registers_by w k n kind study day ls) (with_books b a) (after_newcomer (with_books b a) r) (answer_in r)

-- ---- a closing

-- the auction with the parts of another that the closing of an open round reads; with its own, the auction itself
abbrev pub with_play : Auction → Auction → Auction
with_play a now = record {
  clock = record { phase = a.clock.phase; settings = now.clock.settings; opening = now.clock.opening; closing = now.clock.closing };
  projects = now.projects;
  kinds = now.kinds;
  agents = a.agents;
  studies = a.studies;
  days = a.days;
  quantities = now.quantities;
  declared = now.declared;
  histories = now.histories;
  curve = now.curve;
}

-- the auction with the round closed
abbrev pub with_rounded : Auction → Rounded → Auction
with_rounded a r = with_clock (with_courses a r.quantities r.histories r.curve)
    (record { phase = r.phase; settings = a.clock.settings; opening = a.clock.opening; closing = a.clock.closing })

abbrev pub rounded_in : Rounded → Answered
rounded_in r = record { number = 0; excess = r.excess; remainder = r.remainder }

-- the closing of an open round
pub record Closes (a : Auction) (r : Rounded) : Type 0 where
  pub closes : (b : Auction) → in_round (phase_in b.clock.phase) ≡ true → Called Close (with_play b a) (with_rounded (with_play b a) r) (rounded_in r)
