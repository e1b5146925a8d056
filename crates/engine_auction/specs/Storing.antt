-- Storing a moved developer's history at its place gives the auction of the next ledger.
use Rattle.std.specs.Prelude.{ℕ, suc, ◌-◌, ◌<◌, ◌≡◌, refl, Bool, true, false, eqb, get_or}
use Rattle.std.proofs.Common.{sym, ◌∙◌, arith, eq-eqb, eqb-true}
use Rattle.std.proofs.Math.Path.{ap, subst}
use Rattle.std.proofs.Math.Bool.{cond}
use Rattle.std.proofs.Math.ListN.{set}
use Rattle.std.proofs.lemmas.Bool.{eqb-false}
use Rattle.rules_auction.specs.Ledger.{Developer, Move, Offer, Lodge, Cancel, By, Ledger, put, with_developer}
use Rattle.rules_auction.specs.Clearing.{of_each}
use Rattle.rules_auction.specs.Refusals.{is_number, refusal}
use Rattle.rules_auction.specs.Rounds.{moved, accepted, step}
use Rattle.laws_ledger.specs.reachable.Checks.{offer_passed, lodge_passed, cancel_passed}
use Rattle.laws_ledger.specs.reachable.Held.{by_put}
use Rattle.laws_ledger.specs.reachable.Steps.{step_refused, step_accepted}
use Rattle.engine_held.specs.supply.ByProject.{place_of}
use Rattle.engine_held.specs.levels.Held.{no_levels, held_levels}
use Rattle.engine_held.specs.declared.history.History.{History}
use Rattle.engine_moves.specs.closing_entries.Places.{each_at, put_stores, put_keeps}
use Rattle.engine_moves.specs.moves.Entries.{Entry}
use Rattle.engine_moves.specs.moves.Entries.{no_history, seat, Held, MovedTo}
use Rattle.engine_moves.specs.moves.EntryLaws.{seat_is, place_below, kind_number}
use Rattle.engine_auction.specs.declared.Auction.{Auction}
use Rattle.engine_auction.specs.Holds.{held_course, held_auction}
use Rattle.engine_auction.specs.Parts.{lasting, with_courses, courses_held, curve_stays}

-- the history h at place i
abbrev pub with_history_at : Auction → ℕ → History → Auction
with_history_at a i h = with_courses a a.quantities (set a.histories i h) a.curve

-- ---- what the auction holds at n's place

at_place : {A : Type 0} (f : Developer → A) (l : Ledger) (n : ℕ) (d : A) → get_or (of_each f l) (place_of n) d ≡ f (l.developers (seat n))
at_place f l n d =
    let e : place_of n ≡ seat n - 1 = omega arith in
    ap (λ (j : ℕ). get_or (of_each f l) j d) e ∙ each_at f l (seat n) d (omega arith) (omega (arith, place_below n))

-- what is held at place i
abbrev pub entry_at : Auction → ℕ → Entry
entry_at a i = record {
  kind = get_or a.kinds i 0;
  declared = get_or a.declared i no_levels;
  quantity = get_or a.quantities i 0;
  history = get_or a.histories i no_history;
}

pub entry_held :
    (a : Auction) (l : Ledger) (n i : ℕ) → a ≡ held_auction l → i ≡ place_of n → Held a.clock (entry_at a i) l (l.developers (seat n))
unfolding held_auction
entry_held a l n i h ei = rw ei record {
  clock = λ j. (h j).clock;
  entry = λ j. record {
    kind = (ap (λ (x : Auction). get_or x.kinds (place_of n) 0) h ∙ at_place (λ x. x.declared.kind) l n 0) j;
    declared = (ap (λ (x : Auction). get_or x.declared (place_of n) no_levels) h ∙ at_place (λ x. held_levels x.declared.levels) l n no_levels) j;
    quantity = (ap (λ (x : Auction). get_or x.quantities (place_of n) 0) h ∙ at_place (λ x. x.quantity) l n 0) j;
    history = (ap (λ (x : Auction). get_or x.histories (place_of n) no_history) h ∙ at_place held_course l n no_history) j;
  };
}

-- ---- one entry stored

-- an entry that differs in its offer and lodged steps alone, stored at place i
entry_stored :
    (a : Auction) (l : Ledger) (i : ℕ) (x : Developer) (h : History) → a ≡ held_auction l → i < 32 → h ≡ held_course x →
    lasting x ≡ lasting (l.developers (suc i)) → x.quantity ≡ (l.developers (suc i)).quantity → x.withdrawals ≡ (l.developers (suc i)).withdrawals →
    with_history_at a i h ≡ held_auction (with_developer l (suc i) x)
unfolding held_auction
entry_stored a l i x h ea low eh el eq ew =
    let next = put (suc i) x l.developers in
    let same : (j : ℕ) → lasting (next j) ≡ lasting (l.developers j) = by_put (λ j y. lasting y ≡ lasting (l.developers j)) (suc i) x _ el (λ j. refl) in
    courses_held a l next ea same
    (ap (λ (y : Auction). y.quantities) ea ∙ sym (put_keeps (λ y. y.quantity) l (suc i) x eq))
    (ap (λ (y : Auction). set y.histories i h) ea ∙ put_stores held_course l i x h low eh)
    (curve_stays a l next ea same (by_put (λ j y. y.withdrawals ≡ (l.developers j).withdrawals) (suc i) x _ ew (λ j. refl)))

moved_keeps : (x : Developer) (m : Move) → (lasting (moved x m) ≡ lasting x) × ((moved x m).quantity ≡ x.quantity) × ((moved x m).withdrawals ≡ x.withdrawals)
unfolding moved
moved_keeps x (Offer ps qs) = (refl, refl, refl)
moved_keeps x (Lodge ps qs) = (refl, refl, refl)
moved_keeps x Cancel = (refl, refl, refl)

-- an accepted move is that of a developer's number
move_number : (l : Ledger) (n : ℕ) (m : Move) → refusal l (By n m) ≡ 0 → is_number n ≡ true
unfolding refusal
move_number l n (Offer ps qs) e = kind_number 2 n _ (offer_passed l n (l.developers n) ps qs e).developer
move_number l n (Lodge ps qs) e = kind_number 1 n _ (lodge_passed l n (l.developers n) ps qs e).developer
move_number l n Cancel e = kind_number 2 n _ (cancel_passed l n (l.developers n) e).developer

-- ---- a move's history stored at its developer's place, refused or not

module _ (a : Auction) (l : Ledger) (n : ℕ) (m : Move) (k : ℕ) (h : History) (ea : a ≡ held_auction l) (w : MovedTo l n m k h) where
  stored_refused : (refusal l (By n m) ≡ 0 → ⊥) → with_history_at a (place_of n) h ≡ held_auction (step l (By n m))
  unfolding held_auction
  stored_refused z =
      let eh : h ≡ held_course (l.developers (seat n)) = w.history ∙ ap (λ (x : Ledger). held_course (x.developers (seat n))) (step_refused l (By n m) z) in
      courses_held a l l.developers ea (λ j. refl)
      (ap (λ (y : Auction). y.quantities) ea)
      (ap (λ (y : Auction). set y.histories (place_of n) h) ea ∙ put_stores held_course l (place_of n) (l.developers (seat n)) h (place_below n) eh
      ∙ put_keeps held_course l (seat n) (l.developers (seat n)) refl)
      (curve_stays a l l.developers ea (λ j. refl) (λ j. refl))
      ∙ ap held_auction (sym (step_refused l (By n m) z))

  stored_taken : refusal l (By n m) ≡ 0 → with_history_at a (place_of n) h ≡ held_auction (step l (By n m))
  unfolding accepted
  stored_taken z =
      let x : Developer = moved (l.developers n) m in
      let i : seat n ≡ n = seat_is n (move_number l n m z) in
      let keeps = moved_keeps (l.developers n) m in
      let is = step_accepted l (By n m) z in
      let here : (step l (By n m)).developers (seat n) ≡ x = ap (λ (y : Ledger). y.developers (seat n)) is
      ∙ ap (λ (t : Bool). cond t x (l.developers (seat n))) (eq-eqb (seat n) n i) in
      subst (λ (j : ℕ). with_history_at a (place_of n) h ≡ held_auction (with_developer l j x)) i
      (entry_stored a l (place_of n) x h ea (place_below n) (w.history ∙ ap held_course here)
      (keeps.0 ∙ ap (λ (j : ℕ). lasting (l.developers j)) (sym i))
      (keeps.1 ∙ ap (λ (j : ℕ). (l.developers j).quantity) (sym i))
      (keeps.2 ∙ ap (λ (j : ℕ). (l.developers j).withdrawals) (sym i)))
      ∙ ap held_auction (sym is)

  pub move_stored : with_history_at a (place_of n) h ≡ held_auction (step l (By n m))
  move_stored = go (eqb (refusal l (By n m)) 0) refl
    where
      go : (b : Bool) → eqb (refusal l (By n m)) 0 ≡ b → with_history_at a (place_of n) h ≡ held_auction (step l (By n m))
      go true e = stored_taken (eqb-true _ 0 e)
      go false e = stored_refused (eqb-false _ 0 e)
