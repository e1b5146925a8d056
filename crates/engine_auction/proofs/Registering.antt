-- Registration: the number of the ledger that is read from the arrays is that of the ledger that the auction holds; and a newcomer is stored to one
-- place of each array.
use Prim.Native.Nat.{ℕ, ◌-◌, ◌≤◌}
use mathlib.Core.Path.{◌≡◌, refl, sym, ap, ◌∙◌, subst}
use mathlib.Core.Logic.{⊎_elim}
use mathlib.Core.Bool.{Bool, true, false, cond, ◌&&◌}
use mathlib.Core.List.{List, [], map}
use native.Mathlib.Omega.{arith}
use lib.ListN.{length, get_or, set, take}
use lib.Seq.{take_all}
use borrow.Author.Tests.{le-leb}
use Rattle.rules_numbers.specs.Cases.{clash}
use Rattle.rules_numbers.specs.Lists.{one_to, last_or}
use Rattle.rules_auction.specs.Ledger.{Declaration, Agency, Own, Named, agent_for, Call, Register, Developer, Ledger, nobody, put, newcomer}
use Rattle.rules_auction.specs.Clearing.{of_each}
use Rattle.rules_auction.specs.Refusals.{is_number, may_join, declaration_ok, refusal}
use Rattle.rules_auction.specs.CheckLaws.{is_number_lem}
use Rattle.rules_auction.specs.Rounds.{accepted, step, Answered, bare_answer, granted, answer}
use Rattle.laws_ledger.specs.Sound.{started, Sound}
use Rattle.rules_supply_curve.specs.Closings.{curve_empty}
use Rattle.laws_ledger.specs.reachable.Held.{by_put, is_ready_lem}
use Rattle.laws_ledger.specs.reachable.Steps.{ledger_snoc}
use Rattle.engine_checks.specs.registrations.Numbers.{in_phase, books_in, RegistrationNumber}
use Rattle.laws_ledger.specs.reachable.Checks.{RegisterPassed, register_passed, Numbers, numbers_facts, declaration_facts, levels_facts}
use Rattle.engine_curve.specs.kept_curve.Held.{held_curve}
use Rattle.engine_held.specs.levels.Held.{held_levels, levels_in, levels_read}
use Rattle.engine_held.specs.declared.levels.Levels.{Levels}
use Rattle.engine_held.specs.supply.ByProject.{place_of}
use Rattle.engine_held.specs.supply.ByProjectLaws.{joins_of}
use Rattle.engine_moves.specs.moves.EntryLaws.{seat_is, place_below}
use Rattle.std.specs.Prelude.{Ok, Err}
use Rattle.engine_refusals.specs.Numbers.{number_of}
use Rattle.engine_refusals.specs.NumberLaws.{number_not_0}
use Rattle.engine_refusals.specs.declared.Refusal.{Refusal}
use Rattle.engine_auction.specs.declared.Auction.{Auction}
use Rattle.engine_auction.specs.declared.Newcomer.{Newcomer}
use Rattle.engine_auction.specs.Holds.{held_phase, held_course, held_auction, Holding}
use Rattle.engine_auction.specs.Called.{Called, registers_by, registers, registers_for}
use Rattle.engine_auction.specs.Decided.{with_books, with_newcomer, Enters}
use Rattle.engine_moves.specs.closing_entries.Places.{numbered_length, each_at, put_at, put_keeps}
use Rattle.engine_auction.proofs.Calls.{Refused, refused, taken}
use Rattle.engine_checks.specs.clock.Reading.{standing_at, developers_in}
use Rattle.engine_checks.specs.clock.ReadingLaws.{phase_read, joins_in}

-- ---- the number

-- the place of a number is one before it
place_is : (n : ℕ) → is_number n ≡ true → place_of n ≡ n - 1
place_is n e = let q = seat_is n e in omega arith

number_good : (n : ℕ) → 1 ≤ n → n ≤ 32 → is_number n ≡ true
number_good n low high = rw (le-leb 1 n low, le-leb n 32 high)

-- the project read under the number n is the ledger's
project_read :
    (l : Ledger) → Sound l → (kinds : List ℕ) (n : ℕ) →
    (developers_in (of_each (λ x. x.declared.project) l) kinds [] n).declared.project ≡ (l.developers n).declared.project
unfolding developers_in
project_read l s kinds n = go (is_number n) refl
  where
    go : (b : Bool) → is_number n ≡ b →
        (cond b (standing_at (get_or (of_each (λ x. x.declared.project) l) (n - 1) 0) (get_or kinds (n - 1) 0) 0) nobody).declared.project
        ≡ (l.developers n).declared.project
    go true e = let b = is_number_lem n e in each_at (λ x. x.declared.project) l n 0 b.0 b.1
    go false e =
        ⊎_elim (λ z. sym (ap (λ (x : Developer). x.declared.project) z)) (λ r. absurd (clash (number_good n r.number_low r.number_high) e)) (s.each n)

module _ (l : Ledger) (s : Sound l) where
  -- the ledger that a registration reads
  abbrev read : Ledger
  read = books_in (held_phase l.phase) (of_each (λ x. x.declared.project) l) (of_each (λ x. x.declared.kind) l)

  joins_read : (k kind : ℕ) → may_join read k kind ≡ may_join l k kind
  joins_read k kind = sym (joins_in (in_phase (held_phase l.phase)) _ _ [] (numbered_length _) (numbered_length _) k kind) ∙ joins_of l k kind

  number_read : (n : ℕ) (w : Agency) (x : Declaration) → refusal read (Register n w x) ≡ refusal l (Register n w x)
  unfolding refusal declaration_ok
  number_read n w x = rw (joins_read x.project x.kind, project_read l s _ n, phase_read l.phase)

-- under an unused number stands nobody
unused_nobody : {l : Ledger} → Sound l → (n : ℕ) → (l.developers n).declared.project ≡ 0 → l.developers n ≡ nobody
unused_nobody s n e = ⊎_elim (λ w. w) (λ r. let low = r.developer.declared.project_low in absurd (omega arith)) (s.each n)

-- ---- registration

module _ (a : Auction) (n : ℕ) (ls : List ℕ) (r : Newcomer) (j : ℕ) where
  abbrev declaration : Declaration
  declaration = record { project = r.project; kind = r.kind; study = r.study; day = r.day; levels = ls }

  abbrev new : Developer
  new = newcomer r.agent declaration

  abbrev call : Call
  call = registers_for r.project n r.kind r.agent r.study r.day ls

  abbrev Numbered : Type 0
  Numbered =
      RegistrationNumber a.clock.phase a.projects a.kinds (is_number r.project && is_number n && is_number r.agent) r.project n r.kind ls j

  number_held : Numbered → Holding a (λ l. j ≡ refusal l call)
  unfolding held_auction
  number_held w l s h =
      let numbered = is_number r.project && is_number n && is_number r.agent in
      let read_so : RegistrationNumber (held_auction l).clock.phase (held_auction l).projects (held_auction l).kinds numbered r.project n r.kind ls j =
      subst (λ (x : Auction). RegistrationNumber x.clock.phase x.projects x.kinds numbered r.project n r.kind ls j) h w in
      read_so.as_ruled (Named r.agent) r.study r.day refl ∙ number_read l s n (Named r.agent) declaration

  module _ (e : Numbered) where
    pub register_refused : (j ≡ 0 → ⊥) → Refused call a j
    register_refused z = refused _ a j z (number_held e)

    module _ (place : r.place ≡ place_of n) (copied : r.declared ≡ held_levels (take 8 ls)) (highest : r.quantity ≡ last_or 0 (levels_in r.declared)) where
      holds : Holding a (λ l. refusal l call ≡ 0 → with_newcomer a r ≡ held_auction (accepted l call))
      unfolding accepted held_auction
      holds l s h e = λ i. record {
        clock = (h i).clock;
        projects = stored (λ x. x.declared.project) (λ j. (h j).projects) refl i;
        kinds = stored (λ x. x.declared.kind) (λ j. (h j).kinds) refl i;
        agents = stored (λ x. x.agent) (λ j. (h j).agents) refl i;
        studies = stored (λ x. x.declared.study) (λ j. (h j).studies) refl i;
        days = stored (λ x. x.declared.day) (λ j. (h j).days) refl i;
        quantities = stored (λ x. x.quantity) (λ j. (h j).quantities) top i;
        declared = stored (λ x. held_levels x.declared.levels) (λ j. (h j).declared) levels i;
        histories = (ap (λ (x : Auction). x.histories) h ∙ sym (put_keeps held_course l n new kept)) i;
        curve = (ap (λ (x : Auction). x.curve) h ∙ ap held_curve (curve_empty l idle ∙ sym (curve_empty (accepted l call) still_idle))) i;
      }
        where
          passed : RegisterPassed l n (Named r.agent) declaration
          passed = register_passed l n (Named r.agent) declaration e

          numbers : Numbers r.project n (l.developers n).declared.project
          numbers = numbers_facts r.project n _ passed.numbers

          few : length ls ≤ 8
          few = (levels_facts ls (declaration_facts l declaration passed.declaration).levels).at_most_eight

          levels : r.declared ≡ held_levels ls
          levels = copied ∙ ap held_levels (take_all 8 ls few)

          top : r.quantity ≡ last_or 0 ls
          top = highest ∙ ap (λ (x : Levels). last_or 0 (levels_in x)) levels ∙ ap (last_or 0) (levels_read ls)

          -- nothing is withdrawn before the first round
          idle : (m : ℕ) → (l.developers m).withdrawals ≡ []
          idle = s.idle (ap started (is_ready_lem l.phase passed.phase))

          still_idle : (m : ℕ) → (put n new l.developers m).withdrawals ≡ []
          still_idle = by_put (λ _ y. y.withdrawals ≡ []) n new l.developers refl idle

          kept : held_course new ≡ held_course (l.developers n)
          kept = ap held_course (sym (unused_nobody s n numbers.unused))

          here : r.place ≡ n - 1
          here = place ∙ place_is n (number_good n numbers.number_low numbers.number_high)

          stored : {A : Type 0} (f : Developer → A) {xs : List A} {w : A} → xs ≡ of_each f l → w ≡ f new →
              set xs r.place w ≡ map (λ m. f (put n new l.developers m)) (one_to 32)
          stored f {xs} {w} d g =
              ap (λ ys. set ys r.place w) d ∙ ap (λ (j : ℕ). set (of_each f l) j w) here ∙ put_at f l n new w numbers.number_low numbers.number_high g

      pub register_taken : j ≡ 0 → Called call a (with_newcomer a r) (bare_answer 0)
      unfolding granted
      register_taken z = taken _ a (with_newcomer a r) _ refl (λ l s h.
          let passes : refusal l call ≡ 0 = sym (number_held e l s h) ∙ z in
          record { number = passes; answer = refl; next = holds l s h passes })

-- the call that makes the agent the developer's own number does what the one does that names this agent
pub own_named :
    (k n kind study day : ℕ) (ls : List ℕ) (a b : Auction) (r : Answered) →
    Called (registers_for k n kind n study day ls) a b r → Called (registers k n kind study day ls) a b r
unfolding refusal accepted granted answer step
own_named k n kind study day ls a b r c = record {
  same = c.same;
  zero = c.zero;
  answer = c.answer;
  next = λ cs h. c.next cs h ∙ ap held_auction (ledger_snoc cs _ ∙ sym (ledger_snoc cs _));
}

-- so does every call by which the developer's agent is this one
by_agency :
    (w : Agency) (k n kind g study day : ℕ) (ls : List ℕ) (a b : Auction) (r : Answered) → agent_for n w ≡ g →
    Called (registers_for k n kind g study day ls) a b r → Called (registers_by w k n kind study day ls) a b r
by_agency Own k n kind g study day ls a b r e c =
    own_named k n kind study day ls a b r (subst (λ (j : ℕ). Called (registers_for k n kind j study day ls) a b r) (sym e) c)
by_agency (Named h) k n kind g study day ls a b r e c = subst (λ (j : ℕ). Called (registers_for k n kind j study day ls) a b r) (sym e) c

-- ---- what `entering` decides

module _ (a : Auction) (n : ℕ) (ls : List ℕ) (r : Newcomer) (j : ℕ)
    (e : RegistrationNumber a.clock.phase a.projects a.kinds (is_number r.project && is_number n && is_number r.agent) r.project n r.kind ls j) where
  pub entering_refused : (f : Refusal) → j ≡ number_of f → Enters a r.project n r.kind r.agent r.study r.day ls (Err f)
  entering_refused f q = record {
    inside = tt;
    entered = λ w z b. by_agency w _ n _ _ _ _ ls _ _ _ z (rw q at (register_refused (with_books b a) n ls r j e (λ h. number_not_0 f (sym q ∙ h))));
  }

  pub entering_taken :
      j ≡ 0 → r.place ≡ place_of n → r.declared ≡ held_levels (take 8 ls) → r.quantity ≡ last_or 0 (levels_in r.declared) →
      Enters a r.project n r.kind r.agent r.study r.day ls (Ok r)
  entering_taken z place copied highest = record {
    inside = rw place (place_below n);
    entered = λ w q b. by_agency w _ n _ _ _ _ ls _ _ _ q (register_taken (with_books b a) n ls r j e place copied highest z);
  }
