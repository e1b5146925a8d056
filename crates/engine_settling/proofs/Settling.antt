-- From what the parts of settling ensure to the ledger's settlement: each refusal in its order, and the accepted answer with its records.
use Prim.Native.Nat.{ℕ, min, ◌*◌, ◌≤◌, ◌<◌}
use mathlib.Core.Path.{◌≡◌, refl, sym, ap, ap₂, ◌∙◌, subst}
use mathlib.Core.Bool.{Bool, true, false, cond, not}
use mathlib.Core.List.{List, flatten}
use native.Mathlib.Omega.{arith}
use lib.Dec.{leb}
use lib.ListN.{length, drop}
use borrow.Author.Tests.{le-leb, lt-leb}
use Rattle.rules_numbers.specs.Tails.{laid, length_laid, behind_laid}
use Rattle.rules_choices.specs.Choices.{choices}
use Rattle.rules_auction.specs.Ledger.{Ledger}
use Rattle.rules_auction.specs.Clearing.{covered, demand_at, closing_price}
use Rattle.rules_auction.specs.Refusals.{is_closed}
use Rattle.rules_auction.specs.Rounds.{ledger}
use Rattle.rules_auction.specs.Award.{rows, admissible, covering_choices, kept_choices, award}
use Rattle.rules_auction.specs.Participation.{grants_from, grants, sufficient, price_paid}
use Rattle.rules_auction.specs.Settling.{records_from, records, settling_refusal, settlement_at, settlement}
use Rattle.laws_ledger.specs.Sound.{Sound}
use Rattle.laws_ledger.specs.clearing.ClosingPrice.{closed_started, closing_price_lem}
use Rattle.laws_ledger.specs.reachable.Reachable.{sound}
use Rattle.laws_ledger.specs.awards.AwardLaws.{some_cover}
use Rattle.engine_checks.specs.clock.Reading.{phase_in}
use Rattle.engine_auction.specs.Holds.{held_auction, Holding}
use Rattle.engine_auction.specs.PhaseHeld.{phase_is}
use Rattle.engine_auction.specs.declared.Auction.{Auction}
use Rattle.engine_price.specs.clearing.Clears.{cleared_at, Clears}
use Rattle.engine_price.specs.declared.clearing.Cleared.{Cleared}
use Rattle.engine_table.specs.table.Rows.{HoldsRows}
use Rattle.engine_table.specs.declared.table.Table.{Table}
use Rattle.engine_table.specs.open_levels.Tabled.{Tabled}
use Rattle.engine_search.specs.selection.Selection.{Selection, selected_as, chosen_from, refused_selection, Selects}
use Rattle.engine_award.specs.awarding.Choosing.{standing_in}
use Rattle.engine_award.specs.awarding.Awarding.{winners_from}
use Rattle.engine_award.specs.awarding.AwardingLaws.{winners_back}
use Rattle.engine_award.specs.participation.Judged.{judged_in, grants_in, Pays}
use Rattle.engine_award.specs.participation.JudgedLaws.{sufficient_back, grants_are}
use Rattle.engine_award.specs.award_records.Records.{award_count, records_of}
use Rattle.engine_award.specs.award_records.RecordLaws.{records_few, records_length}
use Rattle.engine_settling.specs.Settles.{Settled, Settles, refused_with, settled_as}
use Rattle.engine_settling.proofs.Records.{records_are, records_from_count}

-- the numbers of an accepted settling, from what its parts gave
abbrev pub accepted_with : Cleared → Selection → Bool → ℕ → ℕ → Settled
accepted_with c s insufficient paid records = record {
  number = 0;
  price = c.price;
  demand = c.demand;
  remainder = c.remainder;
  total = s.total;
  choices = s.choices;
  covering = s.covering;
  kept = s.kept;
  second = c.second;
  short = c.short;
  insufficient = insufficient;
  paid = paid;
  records = records;
}

module _ (a : Auction) (limit : ℕ) (old : List ℕ) where
  refusal : (n : ℕ) → (n ≡ 0 → ⊥) → Holding a (λ l. n ≡ settling_refusal l limit (length old)) → Settles a limit old old (refused_with n)
  refusal n z f = record {
    same = λ _. (refl, refl);
    behind = (refl, refl);
    number = λ cs h. f (ledger cs) (sound cs) h;
    answer = λ cs h e. absurd (z e);
    buffer = λ cs h e. absurd (z e);
  }

  pub settle_phase : is_closed (phase_in a.clock.phase) ≡ false → Settles a limit old old (refused_with 2)
  unfolding settling_refusal
  settle_phase z = refusal 2 (omega arith) (λ l s h. simp (ap is_closed (sym (phase_is a l h)) ∙ z))

-- what the parts computed: the figures, the table of open levels and the selection from it
pub record Computed (a : Auction) (limit : ℕ) (r : Cleared) (t : Table) (s : Selection) : Type 0 where
  pub phase : is_closed (phase_in a.clock.phase) ≡ true
  pub clears : Clears a r
  pub tabled : Tabled a.projects a.declared r.lows r.highs t
  pub selects : Selects t r.demand (min limit 65536) s

-- what it gave then: the developers of the awarded levels, the mark of participation and the price paid
pub record Given (a : Auction) (r : Cleared) (s : Selection) (ns : List ℕ) (mark : Bool) (paid : ℕ) : Type 0 where
  pub won : ns ≡ winners_from (standing_in a.projects a.studies a.days a.declared r.lows r.highs) 0 1 s.award
  pub judged : mark ≡ not (sufficient (judged_in a.clock.settings.d a.agents a.kinds r.highest) (grants_in s.award ns))
  pub to_pay : Pays mark a.clock.settings.ce r.price paid

-- what that is of the ledger
pub record Known (l : Ledger) (limit : ℕ) (r : Cleared) (s : Selection) : Type 0 where
  pub closed : is_closed l.phase ≡ true
  pub figures : r ≡ cleared_at l (closing_price l)
  pub covers : covered l (closing_price l) ≡ true
  pub selected : s ≡ selected_as (min limit 65536) (demand_at l (closing_price l)) (rows l (closing_price l))

pub known : (a : Auction) (limit : ℕ) (r : Cleared) (t : Table) (s : Selection) → Computed a limit r t s → Holding a (λ l. Known l limit r s)
unfolding held_auction covering_choices admissible
known a limit r t s c l snd h = record {
  closed = closed;
  figures = figures;
  covers = covers;
  selected = (subst (λ (x : Cleared). Selects t x.demand (min limit 65536) s) figures c.selects).selection_is _ lays (some_cover l _ snd covers);
}
  where
    closed : is_closed l.phase ≡ true
    closed = ap is_closed (sym (phase_is a l h)) ∙ c.phase

    figures : r ≡ cleared_at l (closing_price l)
    figures = c.clears.figures_are l snd h closed

    lays : HoldsRows t (rows l (closing_price l))
    lays = c.tabled.holds_rows l _ snd (ap (λ (x : Auction). x.projects) h) (ap (λ (x : Auction). x.declared) h)
        (ap (λ (x : Cleared). x.lows) figures) (ap (λ (x : Cleared). x.highs) figures)

    covers : covered l (closing_price l) ≡ true
    covers = (closing_price_lem l snd (closed_started l.phase closed)).passes

-- ---- the selection's two answers

-- refused: by 10, and the choices outnumber the limit
over_limit : (limit d : ℕ) (rs : List (List ℕ)) (s : Selection) → s ≡ selected_as (min limit 65536) d rs → (s.number ≡ 0 → ⊥) →
    (s.number ≡ 10) × (leb (length (choices rs)) (min limit 65536) ≡ false)
unfolding selected_as
over_limit limit d rs s e z = go (leb (length (choices rs)) (min limit 65536)) refl e
  where
    go : (b : Bool) → leb (length (choices rs)) (min limit 65536) ≡ b → s ≡ cond b (chosen_from d rs) (refused_selection 10) → (s.number ≡ 10) × (b ≡ false)
    go true f e = absurd (z (ap (λ (x : Selection). x.number) e))
    go false f e = (ap (λ (x : Selection). x.number) e, refl)

within_limit : (limit d : ℕ) (rs : List (List ℕ)) (s : Selection) → s ≡ selected_as (min limit 65536) d rs → s.number ≡ 0 →
    (s ≡ chosen_from d rs) × (leb (length (choices rs)) (min limit 65536) ≡ true)
unfolding selected_as
within_limit limit d rs s e z = go (leb (length (choices rs)) (min limit 65536)) refl e
  where
    go : (b : Bool) → leb (length (choices rs)) (min limit 65536) ≡ b → s ≡ cond b (chosen_from d rs) (refused_selection 10) → (s ≡ chosen_from d rs) × (b ≡ true)
    go true f e = (e, refl)
    go false f e = absurd (let k : ◌≡◌ {A = ℕ} 10 0 = sym (ap (λ (x : Selection). x.number) e) ∙ z in omega arith)

-- ---- the returns

module _ (a : Auction) (limit : ℕ) (r : Cleared) (t : Table) (s : Selection) (c : Computed a limit r t s) (old : List ℕ) where
  pub settle_over : (s.number ≡ 0 → ⊥) → Settles a limit old old (refused_with s.number)
  unfolding settling_refusal admissible
  settle_over z = refusal a limit old s.number z (λ l snd h.
      let k = known a limit r t s c l snd h in
      let o = over_limit limit _ _ s k.selected z in
      o.0 ∙ sym (simp (k.closed, o.1)))

  module _ (z : s.number ≡ 0) (n : ℕ) (counted : n ≡ award_count s.award) where
    -- accepted so far: the award, its total and the counts are the ledger's
    module _ (l : Ledger) (snd : Sound l) (h : a ≡ held_auction l) where
      k : Known l limit r s
      k = known a limit r t s c l snd h

      w : (s ≡ chosen_from (demand_at l (closing_price l)) (rows l (closing_price l))) × (leb (length (choices (rows l (closing_price l)))) (min limit 65536) ≡ true)
      w = within_limit limit _ _ s k.selected z

      award_is : s.award ≡ award l (closing_price l)
      unfolding award covering_choices admissible
      award_is = ap (λ (x : Selection). x.award) w.0

      records_are_n : length (records l (closing_price l)) ≡ n
      unfolding records
      records_are_n = records_from_count l _ 1 (award l (closing_price l)) ∙ ap award_count (sym award_is) ∙ sym counted

    pub settle_no_room : length old < 6 * n → Settles a limit old old (refused_with 11)
    unfolding settling_refusal admissible
    settle_no_room short = refusal a limit old 11 (omega arith) (λ l snd h.
        let e = records_are_n l snd h in
        simp ((k l snd h).closed, (w l snd h).1, lt-leb (6 * length (records l (closing_price l))) (length old) (omega arith)))

    module _
        (room : 6 * n ≤ length old) (ns new : List ℕ) (mark : Bool) (paid : ℕ) (g : Given a r s ns mark paid)
        (written : new ≡ laid (flatten (records_of 1 s.award ns)) old)
      where
        abbrev given : List (List ℕ)
        given = records_of 1 s.award ns

        flat : length (flatten given) ≤ 6 * n
        flat = omega (arith, records_length 1 s.award ns, records_few 1 s.award ns, counted)

        module _ (l : Ledger) (snd : Sound l) (h : a ≡ held_auction l) where
          figures : r ≡ cleared_at l (closing_price l)
          figures = (k l snd h).figures

          winners_are : ns ≡ winners_from l (closing_price l) 1 s.award
          unfolding held_auction
          winners_are =
              g.won
              ∙ ap₂ (λ (x : Auction) (y : Cleared). winners_from (standing_in x.projects x.studies x.days x.declared y.lows y.highs) 0 1
              s.award) h figures
              ∙ winners_back l (closing_price l) snd 1 s.award

          records_written : given ≡ records l (closing_price l)
          unfolding records
          records_written =
              ap (records_of 1 s.award) winners_are
              ∙ records_are l (closing_price l) 1 s.award
              ∙ ap (records_from l (closing_price l) 1) (award_is l snd h)

          granted : grants_in s.award ns ≡ grants l (closing_price l)
          unfolding grants
          granted =
              ap (grants_in s.award) winners_are
              ∙ grants_are l (closing_price l) 1 s.award
              ∙ ap (grants_from l (closing_price l) 1) (award_is l snd h)

          mark_is : mark ≡ not (sufficient l (grants l (closing_price l)))
          unfolding held_auction
          mark_is =
              g.judged
              ∙ ap₂ (λ (x : Auction) (y : Cleared). not
              (sufficient (judged_in x.clock.settings.d x.agents x.kinds y.highest) (grants_in s.award ns))) h figures
              ∙ ap not (sufficient_back l snd (grants_in s.award ns) ∙ ap (sufficient l) granted)

          paid_is : paid ≡ price_paid l (closing_price l) (grants l (closing_price l))
          unfolding held_auction
          paid_is =
              g.to_pay.paid l (grants l (closing_price l)) mark_is (ap (λ (x : Auction). x.clock.settings.ce) h)
              ∙ ap (λ (y : Cleared). price_paid l y.price (grants l (closing_price l))) figures

          settled_is : accepted_with r s mark paid n ≡ settled_as (settlement l)
          unfolding settlement settlement_at award covering_choices kept_choices admissible
          settled_is = λ i. accepted_with (figures i) ((w l snd h).0 i) (mark_is i) (paid_is i) (sym (records_are_n l snd h) i)

        pub settle_accepted : Settles a limit old new (accepted_with r s mark paid n)
        unfolding settling_refusal admissible settlement settlement_at
        settle_accepted = record {
          same = λ f. absurd (f refl);
          behind = (
            ap length written ∙ length_laid (flatten given) old (omega (arith, flat)),
            ap (drop (6 * n)) written
                ∙ behind_laid (flatten given) old (6 * n) flat,
          );
          number = λ cs h.
              let l = ledger cs in
              let e = records_are_n l (sound cs) h in
              sym (simp ((k l (sound cs) h).closed, (w l (sound cs) h).1, le-leb (6 * length (records l (closing_price l))) (length old) (omega arith)));
          answer = λ cs h _. settled_is (ledger cs) (sound cs) h;
          buffer = λ cs h _. written ∙ ap (λ (rs : List (List ℕ)). laid (flatten rs) old) (records_written (ledger cs) (sound cs) h);
        }
