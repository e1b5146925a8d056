-- The number that C gets of an answer (document 01, Frames, the C host): the value of an accepted one, 2^64 less the number of a refused one. And what
-- then stands in what it lent: behind a refusal all as it was, else a text or figures over its start, and behind them what stood there.
use Rattle.std.specs.Prelude.{ℕ, ◌-◌, ◌^◌, ◌≤◌, ◌<◌, ◌≡◌, refl, Bool, true, false, List, eqb, length}
use Rattle.std.proofs.Common.{sym, ◌∙◌, ⊎_elim, arith}
use Rattle.std.proofs.Math.Path.{ap}
use borrow.Author.Tests.{le-leb, lt-leb, eqb-true, eqb-false, eq-eqb, ne_eqb}
use Rattle.rules_numbers.specs.Cases.{le_or_lt}
use Rattle.rules_numbers.specs.Tails.{laid}
use Rattle.rules_seats.specs.figures.Figures.{figures_refusal, lent_after}
use Rattle.record_replay.specs.host_numbers.HostNumbers.{value_answer, host_number}
use Rattle.record_replay.specs.Replayed.{hosted, over}

-- refused by n; or, where n is 0, the value v with the figures. `old` and `new` are what was lent before and after, r is what C gets
pub record Given (n v : ℕ) (figures old new : List ℕ) (r : ℕ) : Type 0 where
  pub refused : (n ≡ 0 → ⊥) → (r ≡ 2 ^ 64 - n) × (new ≡ old)
  pub given : n ≡ 0 → (r ≡ v) × (new ≡ laid figures old)

-- where the figures, or a text, fit what was lent: the value v, and they stand over its start; else 2^64 less 11, and it stays
pub record Lent (v : ℕ) (figures old new : List ℕ) (r : ℕ) : Type 0 where
  pub fit : length figures ≤ length old → (r ≡ v) × (new ≡ laid figures old)
  pub too_short : length old < length figures → (r ≡ 2 ^ 64 - 11) × (new ≡ old)

-- ---- by the definitions

module _ (n v : ℕ) where
  pub accepted_value : n ≡ 0 → host_number (value_answer n v) ≡ v
  unfolding host_number
  accepted_value z = rw (eq-eqb n 0 z)

  pub refused_value : (n ≡ 0 → ⊥) → host_number (value_answer n v) ≡ 2 ^ 64 - n
  unfolding host_number
  refused_value h = rw (ne_eqb n 0 h)

module _ (n v : ℕ) (figures old new : List ℕ) (r : ℕ) (e : r ≡ host_number (value_answer n v)) (f : new ≡ lent_after n figures old) where
  pub refused_by : (k : ℕ) → n ≡ k → (k ≡ 0 → ⊥) → (r ≡ 2 ^ 64 - k) × (new ≡ old)
  unfolding lent_after
  refused_by k h z =
      let y : n ≡ 0 → ⊥ = λ g. z (sym h ∙ g) in
      (e ∙ refused_value n v y ∙ ap (λ (x : ℕ). 2 ^ 64 - x) h, f ∙ rw (ne_eqb n 0 y))

  pub value_given : n ≡ 0 → (r ≡ v) × (new ≡ laid figures old)
  unfolding lent_after
  value_given z = (e ∙ accepted_value n v z, f ∙ rw (eq-eqb n 0 z))

-- a refusal n before 11
module _ (n : ℕ) (figures : List ℕ) (room : ℕ) where
  pub figures_refused : (n ≡ 0 → ⊥) → figures_refusal n figures room ≡ n
  unfolding figures_refusal
  figures_refused z = rw (ne_eqb n 0 z)

  pub figures_short : n ≡ 0 → room < length figures → figures_refusal n figures room ≡ 11
  unfolding figures_refusal
  figures_short z h = rw (eq-eqb n 0 z, lt-leb (length figures) room h)

  pub figures_fit : n ≡ 0 → length figures ≤ room → figures_refusal n figures room ≡ 0
  unfolding figures_refusal
  figures_fit z h = rw (eq-eqb n 0 z, le-leb (length figures) room h)

module _ (n v : ℕ) (figures old new : List ℕ) (r : ℕ) (e : r ≡ host_number (value_answer (figures_refusal n figures (length old)) v))
    (f : new ≡ lent_after (figures_refusal n figures (length old)) figures old) where
  abbrev k : ℕ
  k = figures_refusal n figures (length old)

  pub not_lent : (n ≡ 0 → ⊥) → (r ≡ 2 ^ 64 - n) × (new ≡ old)
  not_lent z = refused_by k v figures old new r e f n (figures_refused n figures (length old) z) z

  pub as_lent : n ≡ 0 → Lent v figures old new r
  as_lent z = record {
    fit = λ h. value_given k v figures old new r e f (figures_fit n figures (length old) z h);
    too_short = λ h. refused_by k v figures old new r e f 11 (figures_short n figures (length old) z h) (λ g. omega arith);
  }

-- a text that no refusal precedes
module _ (t o : List ℕ) where
  pub fits_number : length t ≤ length o → hosted t o ≡ length t
  unfolding hosted
  fits_number h = rw (le-leb (length t) (length o) h) (accepted_value 0 (length t) refl)

  pub short_number : length o < length t → hosted t o ≡ 2 ^ 64 - 11
  unfolding hosted
  short_number h = rw (lt-leb (length t) (length o) h) (refused_value 11 (length t) (λ e. omega arith))

  pub fits_buffer : length t ≤ length o → over t o ≡ laid t o
  unfolding over
  fits_buffer h = rw (le-leb (length t) (length o) h)

  pub short_buffer : length o < length t → over t o ≡ o
  unfolding over
  short_buffer h = rw (lt-leb (length t) (length o) h)

pub text_lent : (t old new : List ℕ) (r : ℕ) → r ≡ hosted t old → new ≡ over t old → Lent (length t) t old new r
text_lent t old new r e f = record {
  fit = λ h. (e ∙ fits_number t old h, f ∙ fits_buffer t old h);
  too_short = λ h. (e ∙ short_number t old h, f ∙ short_buffer t old h);
}

-- two numbers and two buffers that are the same
pub alike : {r r' v : ℕ} {new new' b : List ℕ} → (r ≡ v) × (new ≡ b) → (r' ≡ v) × (new' ≡ b) → (r ≡ r') × (new ≡ new')
alike x y = (x.0 ∙ sym y.0, x.1 ∙ sym y.1)

-- ---- and nothing else is

pub given_only :
    (n v : ℕ) (figures old new new' : List ℕ) (r r' : ℕ) → Given n v figures old new r → Given n v figures old new' r' → (r ≡ r') × (new ≡ new')
given_only n v figures old new new' r r' x y = go (eqb n 0) refl
  where
    go : (b : Bool) → eqb n 0 ≡ b → (r ≡ r') × (new ≡ new')
    go true e = alike (x.given (eqb-true n 0 e)) (y.given (eqb-true n 0 e))
    go false e = alike (x.refused (eqb-false n 0 e)) (y.refused (eqb-false n 0 e))

pub lent_only :
    (v : ℕ) (figures old new new' : List ℕ) (r r' : ℕ) → Lent v figures old new r → Lent v figures old new' r' → (r ≡ r') × (new ≡ new')
lent_only v figures old new new' r r' x y =
    ⊎_elim (λ h. alike (x.fit h) (y.fit h)) (λ h. alike (x.too_short h) (y.too_short h)) (le_or_lt (length figures) (length old))
