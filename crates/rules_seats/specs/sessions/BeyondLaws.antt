-- Seats of a number that no developer has: whichever it is above 32, all read the same, the published values and nothing of their own.
use Rattle.std.specs.Prelude.{ℕ, ◌<◌, ◌≡◌, List}
use Rattle.std.proofs.Math.Path.{sym, ap}
use Rattle.std.proofs.Common.{◌∙◌, ⊎_elim, arith}
use Rattle.rules_auction.specs.Ledger.{Developer, nobody}
use Rattle.laws_ledger.specs.reachable.Reachable.{sound}
use Rattle.rules_seats.specs.Seats.{At, HallLedger, Seated, hall_ledger, published, reading, permitted, through_seats}
use Rattle.rules_seats.specs.SeatLaws.{hall_is}
use Rattle.rules_seats.specs.figures.Figures.{reading_figures}
use Rattle.rules_seats.specs.sessions.Sessions.{session_calls, session_hall}
use Rattle.rules_seats.specs.sessions.SessionFigures.{session_reading}

module _ (ms : List Seated) where
  abbrev h : HallLedger
  h = hall_ledger ms

  nobody_beyond : (n : ℕ) → 32 < n → h.ledger.developers n ≡ nobody
  nobody_beyond n b =
      ap (λ l. l.developers n) (hall_is ms)
      ∙ ⊎_elim (λ q. q) (λ q. absurd (omega (arith, q.number_high))) ((sound (permitted (through_seats ms))).each n)

  pub beyond_reads : (n m : ℕ) → 32 < n → 32 < m → reading h (At n) ≡ reading h (At m)
  unfolding reading
  beyond_reads n m b d =
      ap (λ (x : Developer). record { values = published h; levels = x.declared.levels; offer = x.offer }) (nobody_beyond n b ∙ sym (nobody_beyond m d))

-- and so behind a session, in numbers
pub beyond_figures : (session : List ℕ) (n m : ℕ) → 32 < n → 32 < m → session_reading session 2 n ≡ session_reading session 2 m
unfolding session_reading session_hall reading_figures
beyond_figures session n m b d = ap (reading_figures (At n)) (beyond_reads (session_calls session) n m b d)
