-- A call through a seat, by the ledger that the hall holds.
use Rattle.std.specs.Prelude.{◌≡◌, Bool, true, false, cond, List, ℤ}
use Rattle.std.proofs.Math.Path.{refl, ap}
use Rattle.std.proofs.Common.{sym, ap₂, ◌∙◌}
use Rattle.rules_auction.specs.Ledger.{Call, Ledger}
use Rattle.rules_auction.specs.Rounds.{step, ledger, Answered, bare_answer, answer}
use Rattle.laws_ledger.specs.reachable.Steps.{ledger_snoc}
use Rattle.rules_seats.specs.Seats.{may_make, HallLedger, Seated, hall_answer, latest_excess, after_call, hall_step}
use Rattle.engine_auction.specs.Holds.{held_auction}
use Rattle.hall.specs.Through.{held_hall, CalledThrough}
use Rattle.hall.specs.declared.Hall.{Hall}

module _ (x : HallLedger) (m : Seated) (h k : Hall) (r : Answered) (cs : List Call) (e : x.ledger ≡ ledger cs) (f : h ≡ held_hall x) where
  pub held_through : CalledThrough m.seat m.call h k r → (k ≡ held_hall (hall_step x m)) × (r ≡ hall_answer x m)
  unfolding hall_step hall_answer
  held_through w = go (may_make m.seat m.call) refl
    where
      a : h.auction ≡ held_auction (ledger cs)
      a = ap (λ (y : Hall). y.auction) f ∙ ap held_auction e

      go : (b : Bool) → may_make m.seat m.call ≡ b →
          (k ≡ held_hall (cond b (after_call x m.call) x)) × (r ≡ cond b (answer x.ledger m.call) (bare_answer 20))
      go true t =
          let q : r ≡ answer x.ledger m.call = (w.made t).answer cs a ∙ ap (λ (l : Ledger). answer l m.call) (sym e) in
          let p : k.auction ≡ held_auction (step x.ledger m.call) =
          (w.made t).next cs a ∙ ap held_auction (ledger_snoc cs m.call ∙ ap (λ (l : Ledger). step l m.call) (sym e)) in
          let o : k.excess ≡ latest_excess m.call (answer x.ledger m.call) x.excess =
          w.excess t ∙ ap₂ (λ (y : Answered) (z : ℤ). latest_excess m.call y z) q (ap (λ (y : Hall). y.excess) f) in
          ((λ i. record { auction = p i; excess = o i }), q)
      go false t = let q = w.barred t in (q.0 ∙ f, q.1)
