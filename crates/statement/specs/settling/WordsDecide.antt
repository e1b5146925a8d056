-- The words of what is stated of an accepted settling decide it, without the equations beside them: of one ledger and buffer, any two answers and
-- buffers of which the words hold are equal (`words_decide`). And the words are stated (`accepted_words`), so none can be lost unseen. Equations
-- that stay: demand and its remainder, the numbers of admissible and covering choices, and that of kept choices, of which the words say only that
-- it is at least 1 and at most the covering ones, so they decide it where one choice covers or all lows do (`kept_decided`).
use Rattle.std.specs.Prelude.{ℕ, zero, suc, min, ◌+◌, ◌-◌, ◌*◌, ◌/◌, ◌≤◌, ◌<◌, ◌≡◌, refl, ◌⊎◌, ◌↔◌, Bool, true, false, length, get_or}
use Rattle.std.proofs.Common.{sym, ap, ◌∙◌, ⊎_elim}
use Rattle.std.proofs.Math.Path.{subst}
use mathlib.Core.List.{List, [], ◌∷◌, flatten, map}
use native.Mathlib.Omega.{arith}
use Rattle.std.proofs.Math.ListN.{length-map}
use Rattle.rules_numbers.specs.Cases.{clash}
use Rattle.rules_numbers.specs.Lists.{one_to, total}
use Rattle.rules_numbers.specs.ListLaws.{length_one_to}
use Rattle.rules_numbers.specs.Least.{Least, Rising, least_is}
use Rattle.rules_numbers.specs.Tails.{laid}
use Rattle.rules_demand.specs.Remainder.{exact_times_ce, remainder}
use Rattle.rules_choices.specs.Choices.{IsBest}
use Rattle.rules_choices.specs.Pairwise.{Distinct}
use Rattle.rules_choices.specs.Count.{choice_length}
use Rattle.rules_choices.specs.Best.{best_unique}
use Rattle.rules_choices.specs.EachChoice.{nth_in}
use Rattle.rules_auction.specs.Ledger.{Call, Ledger}
use Rattle.rules_auction.specs.Clearing.{low, supply, covered, demand_at, remainder_at}
use Rattle.rules_auction.specs.Refusals.{is_closed}
use Rattle.rules_auction.specs.Rounds.{ledger}
use Rattle.rules_auction.specs.Award.{row, rows, admissible, covering_choices, kept_choices, award}
use Rattle.rules_auction.specs.Second.{taken_out, remaining}
use Rattle.rules_auction.specs.Participation.{Grant, grants, new_award, new_to_small}
use Rattle.rules_auction.specs.Settling.{records}
use Rattle.laws_ledger.specs.Sound.{Sound}
use Rattle.laws_ledger.specs.reachable.Reachable.{sound}
use Rattle.laws_ledger.specs.clearing.ClosingPrice.{closed_started, covered_rises}
use Rattle.laws_ledger.specs.clearing.Second.{remaining_part}
use Rattle.engine_settling.specs.Settles.{Settled}
use Rattle.statement.specs.settling.AwardRecords.{quantity_of, granted}
use Rattle.statement.specs.settling.RecordsInWords.{RecordEach, records_decided, award_recorded, quantities_are, grants_are}
use Rattle.statement.specs.settling.Stated.{Accepted, Stated}

-- the second price m and its mark b: unmarked the least covered price passed, marked A, which is then not covered (document 02, 5)
pub record SecondInWords (l : Ledger) (b : Bool) (m : ℕ) : Type 0 where
  pub unmarked : b ≡ false → Least (covered (remaining l)) l.closing l.settings.a m
  pub marked : b ≡ true → (covered (remaining l) l.settings.a ≡ false) × (m ≡ l.settings.a)

-- the price m paid to existing plants, by the closing price p and the mark b (document 02, 10)
pub record PaidInWords (l : Ledger) (p : ℕ) (b : Bool) (m : ℕ) : Type 0 where
  pub marked : b ≡ true → m ≡ min p (l.settings.ce * 11 / 10)
  pub unmarked : b ≡ false → m ≡ p

-- twice what these records give to small agents of the new award is below the whole new award
abbrev pub TooLittle : Ledger → List (List ℕ) → Type 0
TooLittle l rs = 2 * new_to_small l (map granted rs) < new_award l (map granted rs)

pub record InWordsAlone (l : Ledger) (old new : List ℕ) (r : Settled) : Type 0 where
  pub number : r.number ≡ 0
  pub price : Least (covered l) l.closing l.settings.a r.price
  pub demand : r.demand ≡ demand_at l r.price
  pub remainder : r.remainder ≡ remainder_at l r.price
  -- some choice is the best, whatever list it is
  pub chosen : List ℕ
  pub best : IsBest (demand_at l r.price) (admissible l r.price) chosen
  pub total_is : r.total ≡ total chosen
  pub choices : r.choices ≡ length (admissible l r.price)
  pub covering : r.covering ≡ length (covering_choices l r.price)
  pub kept : r.kept ≡ kept_choices l r.price
  pub second : SecondInWords l r.short r.second
  -- some records are those of its levels, and the buffer is they, then the bytes that stood behind them
  pub recorded : List (List ℕ)
  pub each : RecordEach l r.price chosen recorded
  pub count : r.records ≡ length recorded
  pub written : new ≡ laid (flatten recorded) old
  pub insufficient : (r.insufficient ≡ true) ↔ TooLittle l recorded
  pub paid : PaidInWords l r.price r.insufficient r.paid

-- ---- the words decide

-- two marks that say the same are the same
same_mark : (b d : Bool) → (b ≡ true → d ≡ true) → (d ≡ true → b ≡ true) → b ≡ d
same_mark true true f g = refl
same_mark true false f g = sym (f refl)
same_mark false true f g = g refl
same_mark false false f g = refl

module _ (l : Ledger) (up : Rising (covered (remaining l)) l.closing l.settings.a) where
  -- where a price passed is covered, A is
  not_short : (m : ℕ) → Least (covered (remaining l)) l.closing l.settings.a m → covered (remaining l) l.settings.a ≡ false → ⊥
  not_short m g e = clash (up m l.settings.a g.low g.high (omega arith) g.passes) e

  second_decided : (b d : Bool) (m n : ℕ) → SecondInWords l b m → SecondInWords l d n → (b ≡ d) × (m ≡ n)
  second_decided true true m n x y = (refl, (x.marked refl).1 ∙ sym (y.marked refl).1)
  second_decided true false m n x y = absurd (not_short n (y.unmarked refl) (x.marked refl).0)
  second_decided false true m n x y = absurd (not_short m (x.unmarked refl) (y.marked refl).0)
  second_decided false false m n x y = (
    refl,
    least_is (covered (remaining l)) l.closing l.settings.a m (x.unmarked refl)
        ∙ sym (least_is (covered (remaining l)) l.closing l.settings.a n (y.unmarked refl)),
  )

paid_decided : (l : Ledger) (p : ℕ) (b : Bool) (m n : ℕ) → PaidInWords l p b m → PaidInWords l p b n → m ≡ n
paid_decided l p true m n x y = x.marked refl ∙ sym (y.marked refl)
paid_decided l p false m n x y = x.unmarked refl ∙ sym (y.unmarked refl)

module _ (l : Ledger) (s : Sound l) (c : is_closed l.phase ≡ true) (old new new' : List ℕ) (r r' : Settled)
    (w : InWordsAlone l old new r) (v : InWordsAlone l old new' r') where
  same_price : r.price ≡ r'.price
  same_price =
      least_is (covered l) l.closing l.settings.a r.price w.price ∙ sym (least_is (covered l) l.closing l.settings.a r'.price v.price)

  same_choice : w.chosen ≡ v.chosen
  same_choice =
      best_unique (demand_at l r.price) (admissible l r.price) w.chosen v.chosen w.best
      (subst (λ (p : ℕ). IsBest (demand_at l p) (admissible l p) v.chosen) (sym same_price) v.best)

  same_records : w.recorded ≡ v.recorded
  same_records =
      records_decided l r.price w.chosen w.recorded v.recorded w.each
      (subst (λ (p : ℕ). RecordEach l p w.chosen v.recorded) (sym same_price)
      (subst (λ (x : List ℕ). RecordEach l r'.price x v.recorded) (sym same_choice) v.each))

  same_second : (r.short ≡ r'.short) × (r.second ≡ r'.second)
  same_second =
      second_decided l (covered_rises l s (closed_started l.phase c) (remaining l) (remaining_part l))
      r.short r'.short r.second r'.second w.second v.second

  same_insufficient : r.insufficient ≡ r'.insufficient
  same_insufficient = same_mark r.insufficient r'.insufficient
      (λ e. v.insufficient.1 (subst (TooLittle l) same_records (w.insufficient.0 e)))
      (λ e. w.insufficient.1 (subst (TooLittle l) (sym same_records) (v.insufficient.0 e)))

  same_paid : r.paid ≡ r'.paid
  same_paid = paid_decided l r.price r.insufficient r.paid r'.paid w.paid
      (subst (λ (p : ℕ). PaidInWords l p r.insufficient r'.paid) (sym same_price)
      (subst (λ (b : Bool). PaidInWords l r'.price b r'.paid) (sym same_insufficient) v.paid))

  same_figure : (f : ℕ → ℕ) (m n : ℕ) → m ≡ f r.price → n ≡ f r'.price → m ≡ n
  same_figure f m n e g = e ∙ ap f same_price ∙ sym g

  same_answer : r ≡ r'
  same_answer = λ i. record {
    number = (w.number ∙ sym v.number) i;
    price = same_price i;
    demand = same_figure (demand_at l) r.demand r'.demand w.demand v.demand i;
    remainder = same_figure (remainder_at l) r.remainder r'.remainder w.remainder v.remainder i;
    total = (w.total_is ∙ ap total same_choice ∙ sym v.total_is) i;
    choices = same_figure (λ p. length (admissible l p)) r.choices r'.choices w.choices v.choices i;
    covering = same_figure (λ p. length (covering_choices l p)) r.covering r'.covering w.covering v.covering i;
    kept = same_figure (kept_choices l) r.kept r'.kept w.kept v.kept i;
    second = same_second.1 i;
    short = same_second.0 i;
    insufficient = same_insufficient i;
    paid = same_paid i;
    records = (w.count ∙ ap length same_records ∙ sym v.count) i;
  }

  same_buffer : new ≡ new'
  same_buffer = w.written ∙ ap (λ (rs : List (List ℕ)). laid (flatten rs) old) same_records ∙ sym v.written

-- of the ledger after any list of calls
pub words_decide :
    (cs : List Call) (old new new' : List ℕ) (r r' : Settled) → is_closed (ledger cs).phase ≡ true →
    InWordsAlone (ledger cs) old new r → InWordsAlone (ledger cs) old new' r' → (r ≡ r') × (new ≡ new')
words_decide cs old new new' r r' c w v =
    (same_answer (ledger cs) (sound cs) c old new new' r r' w v, same_buffer (ledger cs) (sound cs) c old new new' r r' w v)

-- ---- and are stated

module _ (l : Ledger) (old new : List ℕ) (r : Settled) (a : Accepted l old new r) where
  award_long : length (award l r.price) ≡ 32
  unfolding admissible rows
  award_long = choice_length (rows l r.price) (award l r.price) a.best.admissible ∙ length-map (one_to 32) (row l r.price) ∙ length_one_to 32

  recorded_each : RecordEach l r.price (award l r.price) (records l r.price)
  recorded_each = award_recorded l r.price award_long a.goes a.rising

  second_in_words : SecondInWords l r.short r.second
  second_in_words = record { unmarked = a.second_least; marked = a.second_short }

  paid_in_words : PaidInWords l r.price r.insufficient r.paid
  paid_in_words = record { marked = a.paid_insufficient; unmarked = a.paid_sufficient }

  -- the grants are those that the records say
  quantities_read : map quantity_of (records l r.price) ≡ map (λ g. g.quantity) (grants l r.price)
  quantities_read = quantities_are l r.price a.reads

  grants_recorded : grants l r.price ≡ map granted (records l r.price)
  grants_recorded = grants_are (grants l r.price) (records l r.price) a.judged quantities_read

  insufficient_in_words : (r.insufficient ≡ true) ↔ TooLittle l (records l r.price)
  insufficient_in_words =
      subst (λ (gs : List Grant). (r.insufficient ≡ true) ↔ (2 * new_to_small l gs < new_award l gs)) grants_recorded a.insufficient_exactly

  pub accepted_words : r.number ≡ 0 → InWordsAlone l old new r
  accepted_words z = record {
    number = z;
    price = a.price;
    demand = a.demand;
    remainder = a.remainder;
    chosen = award l r.price;
    best = a.best;
    total_is = a.total_is;
    choices = a.choices;
    covering = a.covering;
    kept = a.kept;
    second = second_in_words;
    recorded = records l r.price;
    each = recorded_each;
    count = a.count;
    written = a.written;
    insufficient = insufficient_in_words;
    paid = paid_in_words;
  }

  -- ---- what the other words give

  -- rounding adds less than 1 kWh to exact demand
  pub rounded_by_less :
      r.demand * l.settings.ce < exact_times_ce l.settings.ce l.settings.d l.settings.m1 l.settings.m2 r.price + l.settings.ce
  unfolding remainder
  rounded_by_less =
      subst (λ (q : ℕ). q * l.settings.ce < exact_times_ce l.settings.ce l.settings.d l.settings.m1 l.settings.m2 r.price + l.settings.ce)
      (sym a.demand) (less _ _ l.settings.ce (subst (λ (n : ℕ). n < l.settings.ce) a.remainder a.remainder_small))
    where
      less : (x e c : ℕ) → x - e < c → x < e + c
      less x e c h = omega arith

  -- kept: decided where one choice covers, or all lows do
  one_kept : r.covering ≡ 1 → r.kept ≡ 1
  one_kept e = omega (arith, a.kept_some, a.kept_few)

  pub kept_decided : (r.covering ≡ 1) ⊎ (demand_at l r.price ≤ supply (low r.price) l) → r.kept ≡ 1
  kept_decided = ⊎_elim one_kept a.kept_one

  -- existing plants are not paid more than new ones
  pub not_paid_more : r.paid ≤ r.second
  not_paid_more = omega (arith, a.paid_at_most, a.second_not_below)

  -- no lodged step was applied and participation is sufficient: all are paid the same
  pub paid_alike : ((k : ℕ) → taken_out l k ≡ false) → r.insufficient ≡ false → r.paid ≡ r.second
  paid_alike h e = a.paid_sufficient e ∙ sym (a.second_first h).0

  -- at two places of the list of admissible choices stand two choices
  pub listed_once :
      (i j : ℕ) → i < j → j < length (admissible l r.price) → get_or (admissible l r.price) i [] ≡ get_or (admissible l r.price) j [] → ⊥
  listed_once = apart (admissible l r.price) a.distinct
    where
      apart : (cs : List (List ℕ)) → Distinct cs → (i j : ℕ) → i < j → j < length cs → get_or cs i [] ≡ get_or cs j [] → ⊥
      apart [] d i j h g e = omega arith
      apart (x ∷ cs) d i zero h g e = omega arith
      apart (x ∷ cs) d zero (suc j) h g e = d.0 (get_or cs j []) (nth_in [] cs j (omega arith)) e
      apart (x ∷ cs) d (suc i) (suc j) h g e = apart cs d.1 i j (omega arith) (omega arith) e

-- all that is stated of settling says these words of an acceptance
pub stated_words :
    (l : Ledger) (limit : ℕ) (old new : List ℕ) (r : Settled) →
    Stated l limit old new r → is_closed l.phase ≡ true → r.number ≡ 0 → InWordsAlone l old new r
stated_words l limit old new r s c z = accepted_words l old new r (s.accepted c z) z
