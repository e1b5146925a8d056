-- THE SEALED AUCTION'S WORDS DECIDE (document 02, 13), of the engine's call: where it is accepted, the request's words hold of the defined turns,
-- awards and rest; and whatever order, awards and rest they hold of, the rest is what the call answers, and the awards are what it writes.
use Rattle.std.specs.Prelude.{ℕ, ◌≡◌, List}
use Rattle.std.proofs.Common.{sym, ap, ◌∙◌}
use Rattle.rules_numbers.specs.Tails.{laid}
use Rattle.rules_sealed.specs.Sealed.{Book, taking_order, awards, left_over}
use Rattle.rules_sealed.specs.WordsDecide.{AsAsked, as_asked, the_awards}
use Rattle.engine_sealed.specs.sealed_auction.Cleared.{Lent}
use Rattle.statement.specs.SealedStated.{SealedAnswered}

-- `old` and `new` are the lent buffer before and after
pub record Decided (demand : ℕ) (b : Book) (old new : List ℕ) (r : Lent) : Type 0 where
  pub asked : AsAsked demand b (taking_order b) (awards demand b) (left_over demand b)
  pub only : (order given : List ℕ) (rest : ℕ) → AsAsked demand b order given rest → (r.left ≡ rest) × (new ≡ laid given old)

abbrev pub SealedDecided : Type 0
SealedDecided =
    (ceiling demand : ℕ) (b : Book) (old new : List ℕ) (r : Lent) → SealedAnswered ceiling demand b old new r → r.number ≡ 0 →
    Decided demand b old new r

pub sealed_decided : SealedDecided
sealed_decided ceiling demand b old new r s z =
    let a = s.accepted z in
    record {
      asked = as_asked demand b a.0;
      only = λ order given rest w.
          let e = the_awards demand b a.0 order given rest w in
          (a.1 ∙ sym e.2, a.2 ∙ ap (λ (xs : List ℕ). laid xs old) (sym e.1));
    }
