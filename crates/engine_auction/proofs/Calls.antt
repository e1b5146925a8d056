-- A call that is refused and a call that is accepted, over the ledger that the auction holds.
use Prim.Native.Nat.{ℕ}
use mathlib.Core.Path.{◌≡◌, refl, sym, ap, ◌∙◌}
use Rattle.rules_auction.specs.Ledger.{Call, Ledger}
use Rattle.rules_auction.specs.Refusals.{refusal}
use Rattle.rules_auction.specs.Rounds.{accepted, ledger, Answered, bare_answer, granted}
use Rattle.laws_ledger.specs.reachable.Steps.{ledger_snoc, step_refused, step_accepted, answer_refused, answer_accepted}
use Rattle.laws_ledger.specs.reachable.Reachable.{sound}
pub use Rattle.engine_moves.specs.moves.EntryLaws.{where_true}
use Rattle.engine_auction.specs.declared.Auction.{Auction}
use Rattle.engine_auction.specs.Holds.{held_auction, Holding}
use Rattle.engine_auction.specs.Called.{Called}

-- refused by n
abbrev pub Refused : Call → Auction → ℕ → Type 0
Refused c a n = Called c a a (bare_answer n)

pub refused : (c : Call) (a : Auction) (n : ℕ) → (n ≡ 0 → ⊥) → Holding a (λ l. n ≡ refusal l c) → Refused c a n
refused c a n z f = record {
  same = λ _. refl;
  zero = λ _. refl;
  answer = λ cs h. let e = f (ledger cs) (sound cs) h in ap bare_answer e ∙ sym (answer_refused (ledger cs) c (λ w. z (e ∙ w)));
  next = λ cs h. h ∙ ap held_auction (sym (ledger_snoc cs c ∙ step_refused (ledger cs) c (λ w. z (f (ledger cs) (sound cs) h ∙ w))));
}

pub record Taken (c : Call) (b : Auction) (r : Answered) (l : Ledger) : Type 0 where
  pub number : refusal l c ≡ 0
  pub answer : r ≡ granted l c
  pub next : b ≡ held_auction (accepted l c)

pub taken : (c : Call) (a b : Auction) (r : Answered) → r.number ≡ 0 → Holding a (Taken c b r) → Called c a b r
taken c a b r z f = record {
  same = λ w. absurd (w z);
  zero = λ w. absurd (w z);
  answer = λ cs h. let t = f (ledger cs) (sound cs) h in t.answer ∙ sym (answer_accepted (ledger cs) c t.number);
  next = λ cs h. let t = f (ledger cs) (sound cs) h in t.next ∙ ap held_auction (sym (ledger_snoc cs c ∙ step_accepted (ledger cs) c t.number));
}
