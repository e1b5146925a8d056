-- Settling into own bytes, and from there into lent ones: 2 and 10 are those of the first settling, and 11 is tested for either buffer.
use Prim.Native.Nat.{ℕ, min, ◌*◌, ◌≤◌, ◌<◌}
use mathlib.Core.Path.{◌≡◌, refl, sym, ap, ap₂, ◌∙◌}
use mathlib.Core.Bool.{Bool, true, false, cond, false≢true}
use mathlib.Core.List.{List}
use native.Mathlib.Omega.{arith}
use lib.Dec.{leb, eqb}
use lib.ListN.{length, take, drop}
use lib.Seq.{take_at}
use borrow.Author.Tests.{ne_eqb, le-leb, lt-leb}
use Rattle.rules_numbers.specs.ListLaws.{flat_length}
use Rattle.rules_numbers.specs.Tails.{laid}
use Rattle.rules_auction.specs.Ledger.{Call, Ledger}
use Rattle.rules_auction.specs.Award.{admissible}
use Rattle.rules_auction.specs.Clearing.{closing_price}
use Rattle.rules_auction.specs.Refusals.{check, is_closed}
use Rattle.rules_auction.specs.Rounds.{ledger}
use Rattle.rules_auction.specs.Settling.{settlement_at, settlement, settling_refusal}
use Rattle.rules_replies.specs.Lengths.{six, records_room}
use Rattle.rules_seats.specs.figures.Figures.{figures_refusal, settlement_figures, award_bytes, settlement_refusal}
use Rattle.rules_seats.specs.figures.FigureLaws.{settling_clamped, awards_few}
use Rattle.engine_auction.specs.Holds.{held_auction}
use Rattle.engine_auction.specs.declared.Auction.{Auction}
use Rattle.engine_settling.specs.Settles.{Settled, Settles}
use Rattle.figure_writing.specs.lent_numbers.LentLaws.{gives_refused, gives_short, gives_all}
use Rattle.figure_writing.specs.settlement_figures.Settled.{settled_figures}
use Rattle.figure_writing.specs.settlement_figures.SettledLaws.{settled_figures_lem}
use Rattle.figure_writing.specs.Writes.{WritesSettlement}

-- how many bytes the award records have
abbrev size : Ledger → ℕ
size l = 6 * length (settlement l).records

module _ (cs : List Call) where
  abbrev l : Ledger
  l = ledger cs

  -- those of a closed auction have room in 192
  own_room : is_closed l.phase ≡ true → leb (size l) 192 ≡ true
  own_room e = le-leb (size l) 192 (omega (arith, awards_few cs e, flat_length 6 (settlement l).records (six l)))

  -- settling into so many bytes, by the number of a settling into 192
  into_room : (limit room : ℕ) → let n = settling_refusal l limit 192 in settling_refusal l limit room ≡ cond (eqb n 0) (check (leb (size l) room) 11 0) n
  unfolding settling_refusal settlement settlement_at
  into_room limit room =
      go (is_closed l.phase) (leb (length (admissible l (closing_price l))) (min limit 65536)) (leb (size l) 192) (leb (size l) room) own_room
    where
      go : (x y z t : Bool) → (x ≡ true → z ≡ true) → let n = check x 2 (check y 10 (check z 11 0)) in
          check x 2 (check y 10 (check t 11 0)) ≡ cond (eqb n 0) (check t 11 0) n
      go true true true t h = refl
      go true true false t h = absurd (false≢true (h refl))
      go true false z t h = refl
      go false y z t h = refl

module _
    (a : Auction) (limit cap : ℕ) (zeros own : List ℕ) (s : Settled) (w : Settles a cap zeros own s) (capped : cap ≡ min limit 65536)
    (long : length zeros ≡ 192) (old old_bytes : List ℕ)
  where
    own_number : (cs : List Call) → a ≡ held_auction (ledger cs) → settling_refusal (ledger cs) limit 192 ≡ s.number
    own_number cs h = sym (w.number cs h ∙ ap₂ (settling_refusal (ledger cs)) capped long ∙ settling_clamped (ledger cs) limit 192)

    lent_number : (cs : List Call) → a ≡ held_auction (ledger cs) →
        settling_refusal (ledger cs) limit (length old_bytes) ≡ cond (eqb s.number 0) (check (leb (size (ledger cs)) (length old_bytes)) 11 0) s.number
    lent_number cs h = into_room cs limit (length old_bytes)
        ∙ ap (λ (n : ℕ). cond (eqb n 0) (check (leb (size (ledger cs)) (length old_bytes)) 11 0) n) (own_number cs h)

    -- refused by n, from the settling's own number into the lent bytes
    refused :
        (n : ℕ) → (n ≡ 0 → ⊥) → ((cs : List Call) → a ≡ held_auction (ledger cs) → n ≡ settlement_refusal (ledger cs) limit (length old) (length old_bytes)) →
        WritesSettlement a limit old old old_bytes old_bytes n
    refused n z f = record {
      same = λ _. (refl, refl);
      number = f;
      lent = λ cs h. (gives_refused (settlement_figures (settlement (ledger cs))) old n z).lent;
      awards = λ cs h. (gives_refused (award_bytes (settlement (ledger cs))) old_bytes n z).lent;
    }

    pub settlement_refused : (s.number ≡ 0 → ⊥) → WritesSettlement a limit old old old_bytes old_bytes s.number
    unfolding settlement_refusal
    settlement_refused z = refused s.number z (λ cs h.
        let fs = settlement_figures (settlement (ledger cs)) in
        (gives_refused fs old s.number z).number
        ∙ ap (λ (k : ℕ). figures_refusal k fs (length old)) (sym (lent_number cs h ∙ rw (ne_eqb s.number 0 z))))

    module _ (z : s.number ≡ 0) (filled : ℕ) (filled_is : filled ≡ 6 * min s.records 32) where
      filled_size : (cs : List Call) → a ≡ held_auction (ledger cs) → filled ≡ size (ledger cs)
      filled_size cs h =
          let n : s.records ≡ length (settlement (ledger cs)).records = ap (λ (x : Settled). x.records) (w.answer cs h z) in
          omega (arith, records_room (ledger cs) limit (own_number cs h ∙ z))

      taken : (cs : List Call) → a ≡ held_auction (ledger cs) →
          settling_refusal (ledger cs) limit (length old_bytes) ≡ check (leb (size (ledger cs)) (length old_bytes)) 11 0
      taken cs h = lent_number cs h ∙ rw z

      pub awards_short : length old_bytes < filled → WritesSettlement a limit old old old_bytes old_bytes 11
      unfolding settlement_refusal
      awards_short v = refused 11 (omega arith) (λ cs h.
          let fs = settlement_figures (settlement (ledger cs)) in
          (gives_refused fs old 11 (omega arith)).number
          ∙ ap (λ (k : ℕ). figures_refusal k fs (length old))
          (sym (taken cs h ∙ rw (lt-leb (size (ledger cs)) (length old_bytes) (omega (arith, filled_size cs h))))))

      module _ (room : filled ≤ length old_bytes) where
        none_refused : (cs : List Call) → a ≡ held_auction (ledger cs) → settling_refusal (ledger cs) limit (length old_bytes) ≡ 0
        none_refused cs h = taken cs h ∙ rw (le-leb (size (ledger cs)) (length old_bytes) (omega (arith, filled_size cs h)))

        pub figures_short : length old < 12 → WritesSettlement a limit old old old_bytes old_bytes 11
        unfolding settlement_refusal settlement_figures
        figures_short v = refused 11 (omega arith) (λ cs h.
            let fs = settlement_figures (settlement (ledger cs)) in
            (gives_short fs old v).number ∙ ap (λ (k : ℕ). figures_refusal k fs (length old)) (sym (none_refused cs h)))

        pub settlement_written :
            (numbers new new_bytes : List ℕ) → 12 ≤ length old → numbers ≡ settled_figures s → new ≡ laid numbers old →
            new_bytes ≡ laid (take filled own) old_bytes → WritesSettlement a limit old new old_bytes new_bytes 0
        unfolding settlement_refusal settlement_figures laid
        settlement_written numbers new new_bytes v k e f = record {
          same = λ r. absurd (r refl);
          number = λ cs h.
              let fs = settlement_figures (settlement (ledger cs)) in
              (gives_all fs old new v (figures cs h)).number ∙ ap (λ (k : ℕ). figures_refusal k fs (length old)) (sym (none_refused cs h));
          lent = λ cs h. (gives_all (settlement_figures (settlement (ledger cs))) old new v (figures cs h)).lent;
          awards = λ cs h.
              let bytes = award_bytes (settlement (ledger cs)) in
              let n : length bytes ≡ filled = flat_length 6 (settlement (ledger cs)).records (six (ledger cs)) ∙ sym (filled_size cs h) in
              let first : take filled own ≡ bytes = ap (take filled) (w.buffer cs h z) ∙ take_at bytes (drop (length bytes) zeros) filled n in
              (gives_all bytes old_bytes new_bytes (omega arith) (f ∙ ap (λ (t : List ℕ). laid t old_bytes) first)).lent;
        }
          where
            figures : (cs : List Call) → a ≡ held_auction (ledger cs) → new ≡ laid (settlement_figures (settlement (ledger cs))) old
            figures cs h = e ∙ ap (λ (t : List ℕ). laid t old) (k ∙ ap settled_figures (w.answer cs h z) ∙ settled_figures_lem (settlement (ledger cs)))
