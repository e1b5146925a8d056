-- What a seat reads behind a session, as C gets it (document 02, 14; docs/FORMAT.md, sessions), for every session, kind of seat, number and whatever was
-- lent: the published values of the auction in the hall and, a developer, its own declared levels and standing offer; 20 where kind and number name no seat.
use Rattle.std.specs.Prelude.{ℕ, ◌-◌, ◌^◌, ◌≤◌, ◌≡◌, refl, Bool, true, false, List, [], ◌∷◌, ◌++◌, ℤ, length}
use Rattle.std.proofs.Common.{sym, ◌∙◌, subst}
use Rattle.std.proofs.Math.Path.{ap}
use Rattle.std.proofs.Math.Logic.{⊎_elim}
use native.Mathlib.Omega.{arith}
use Rattle.rules_numbers.specs.Cases.{le_or_lt}
use Rattle.rules_format.specs.SessionLines.{is_seat}
use Rattle.rules_auction.specs.Ledger.{Developer, Ledger}
use Rattle.rules_replies.specs.Replies.{twos_complement}
use Rattle.rules_seats.specs.Seats.{Seat, Auctioneer, Auditor, At, HallLedger, fresh_hall, reading}
use Rattle.rules_seats.specs.figures.Figures.{figures_refusal, lent_after, phase_figure, hall_after, record_hall, offer_figures, reading_figures}
use Rattle.rules_seats.specs.figures.FigureLaws.{record_ledger_held}
use Rattle.rules_seats.specs.sessions.Sessions.{session_hall, session_record}
use Rattle.rules_seats.specs.sessions.SessionFigures.{session_reading_refusal, session_reading}
use Rattle.rules_seats.specs.sessions.SessionFigureLaws.{session_hall_lem}
use Rattle.record_replay.specs.host_numbers.HostNumbers.{value_answer, host_number}
use Rattle.statement.specs.calls_of_c.HostValues.{Lent, not_lent, as_lent, alike, lent_only}
use Rattle.statement.specs.calls_of_c.LatestExcess.{LatestExcess, latest_published, latest_only}
use Rattle.statement.specs.calls_of_c.SeatRights.{unnumbered_seat, developer_seat, seated}
use Rattle.statement.specs.calls_of_c.SeatedFigures.{plain_calls, plain_ledger}

-- ---- what is stated

-- opening, closing, excess, phase
abbrev pub published_numbers : Ledger → ℤ → List ℕ
published_numbers l e = l.opening ∷ l.closing ∷ twos_complement e ∷ phase_figure l.phase ∷ []

-- number of levels, the levels; 0 no offer or 1, number of steps, each step's price and level
abbrev pub own_numbers : Developer → List ℕ
own_numbers x = (length x.declared.levels ∷ x.declared.levels) ++ offer_figures x.offer

-- of the ledger of the session's plain record; `old` and `new` are the lent numbers before and after, r is what C gets: how many numbers
pub record ReadingReturned (session : List ℕ) (kind number : ℕ) (old new : List ℕ) (r : ℕ) : Type 0 where
  pub unseated : is_seat kind number ≡ false → (r ≡ 2 ^ 64 - 20) × (new ≡ old)
  pub excess : ℤ
  pub latest : LatestExcess (plain_calls session) excess
  pub published : kind ≤ 1 → number ≡ 0 → Lent 4 (published_numbers (plain_ledger session) excess) old new r
  pub own : kind ≡ 2 →
      let figures = published_numbers (plain_ledger session) excess ++ own_numbers ((plain_ledger session).developers number) in
      Lent (length figures) figures old new r

-- ---- by the definitions

abbrev LentAll : List ℕ → List ℕ → List ℕ → ℕ → Type 0
LentAll figures old new r = Lent (length figures) figures old new r

module _ (session : List ℕ) where
  abbrev h : HallLedger
  h = hall_after fresh_hall (plain_calls session)

  hall_held : session_hall session ≡ h
  unfolding record_hall
  hall_held = session_hall_lem session

  ledger_held : h.ledger ≡ plain_ledger session
  unfolding record_hall
  ledger_held = record_ledger_held (session_record session)

  pub published_words : (kind number : ℕ) → kind ≤ 1 → session_reading session kind number ≡ published_numbers (plain_ledger session) h.excess
  unfolding session_reading reading_figures reading
  published_words kind number k = ⊎_elim
      (λ g. let z : kind ≡ 0 = omega arith in rw z (whole Auctioneer) ∙ held)
      (λ g. let z : kind ≡ 1 = omega arith in rw z (whole Auditor) ∙ held)
      (le_or_lt kind 0)
    where
      whole : (s : Seat) → reading_figures s (reading (session_hall session) s) ≡ reading_figures s (reading h s)
      whole s = ap (λ (k : HallLedger). reading_figures s (reading k s)) hall_held

      held : published_numbers h.ledger h.excess ≡ published_numbers (plain_ledger session) h.excess
      held = ap (λ (l : Ledger). published_numbers l h.excess) ledger_held

  pub own_words :
      (number : ℕ) →
      session_reading session 2 number
      ≡ published_numbers (plain_ledger session) h.excess ++ own_numbers ((plain_ledger session).developers number)
  unfolding session_reading reading_figures reading
  own_words number =
      ap (λ (k : HallLedger). reading_figures (At number) (reading k (At number))) hall_held
      ∙ ap (λ (l : Ledger). published_numbers l h.excess ++ own_numbers (l.developers number)) ledger_held

module _ (session : List ℕ) (kind number : ℕ) (old new : List ℕ) (r : ℕ) where
  abbrev figures : List ℕ
  figures = session_reading session kind number

  abbrev n : ℕ
  n = figures_refusal (session_reading_refusal kind number) figures (length old)

  module _ (e : r ≡ host_number (value_answer n (length figures))) (f : new ≡ lent_after n figures old) where
    refused : is_seat kind number ≡ false → (r ≡ 2 ^ 64 - 20) × (new ≡ old)
    unfolding session_reading_refusal
    refused t =
        let z : session_reading_refusal kind number ≡ 20 = rw t in
        let w = not_lent (session_reading_refusal kind number) (length figures) figures old new r e f (λ g. omega arith) in
        (w.0 ∙ ap (λ (k : ℕ). 2 ^ 64 - k) z, w.1)

    read : is_seat kind number ≡ true → LentAll figures old new r
    unfolding session_reading_refusal
    read t = as_lent (session_reading_refusal kind number) (length figures) figures old new r e f (rw t)

    pub reading_returned : ReadingReturned session kind number old new r
    reading_returned = record {
      unseated = refused;
      excess = (h session).excess;
      latest = latest_published (plain_calls session);
      published = λ k z.
          subst (λ (fs : List ℕ). LentAll fs old new r) (published_words session kind number k) (read (unnumbered_seat kind number k z));
      own = λ k. subst (λ (fs : List ℕ). LentAll fs old new r)
          (ap (λ (x : ℕ). session_reading session x number) k ∙ own_words session number) (read (developer_seat kind number k));
    }

-- ---- and nothing else is

-- the numbers are those of the definition
module _ (session : List ℕ) (old new : List ℕ) (r : ℕ) where
  module _ (kind number : ℕ) (x : ReadingReturned session kind number old new r) where
    same_excess_lem : x.excess ≡ (h session).excess
    same_excess_lem = latest_only (plain_calls session) x.excess (h session).excess x.latest (latest_published (plain_calls session))

    published_read : kind ≤ 1 → number ≡ 0 → LentAll (session_reading session kind number) old new r
    published_read k z =
        subst (λ (fs : List ℕ). LentAll fs old new r)
        (ap (λ (e : ℤ). published_numbers (plain_ledger session) e) same_excess_lem ∙ sym (published_words session kind number k)) (x.published k z)

  pub own_read : (number : ℕ) → ReadingReturned session 2 number old new r → LentAll (session_reading session 2 number) old new r
  own_read number x =
      let l = plain_ledger session in
      subst (λ (fs : List ℕ). LentAll fs old new r)
      (ap (λ (e : ℤ). published_numbers l e ++ own_numbers (l.developers number)) (same_excess_lem 2 number x) ∙ sym (own_words session number)) (x.own refl)

  numbers_read :
      (kind number : ℕ) → is_seat kind number ≡ true → ReadingReturned session kind number old new r → LentAll (session_reading session kind number) old new r
  numbers_read kind number t x = ⊎_elim
      (λ s. published_read kind number x s.0 s.1)
      (λ s. subst (λ (k : ℕ). LentAll (session_reading session k number) old new r) (sym s)
      (own_read number (subst (λ (k : ℕ). ReadingReturned session k number old new r) s x)))
      (seated kind number t)

pub reading_determined :
    (session : List ℕ) (kind number : ℕ) (old new new' : List ℕ) (r r' : ℕ) → ReadingReturned session kind number old new r →
    ReadingReturned session kind number old new' r' → (r ≡ r') × (new ≡ new')
reading_determined session kind number old new new' r r' x y = go (is_seat kind number) refl
  where
    go : (t : Bool) → is_seat kind number ≡ t → (r ≡ r') × (new ≡ new')
    go false t = alike (x.unseated t) (y.unseated t)
    go true t = lent_only _ _ old new new' r r' (numbers_read session old new r kind number t x) (numbers_read session old new' r' kind number t y)
