-- The ledger that arrays hold, in the rules' words: developer n stands at place n - 1, and what is not read is as of nobody. A function's contract says
-- a rule of the ledger that its arrays hold; where these are a sound ledger's, `read_back` says that each figure is that ledger's own.
use Rattle.std.specs.Prelude.{ℕ, zero, suc, ◌≤◌, ◌≡◌, refl, List, [], ◌∷◌, get_or}
use Rattle.std.proofs.Common.{sym, ap, ◌∙◌, ⊎_elim, arith}
use Rattle.std.proofs.lemmas.List.{length-map}
use Rattle.std.proofs.Math.ListN.{get_or-eq_default}
use Rattle.rules_numbers.specs.Cases.{le_or_lt}
use Rattle.rules_numbers.specs.Lists.{one_to}
use Rattle.rules_numbers.specs.ListLaws.{length_one_to, numbered_nth}
use Rattle.rules_numbers.specs.Numbered.{at_number}
use Rattle.rules_auction.specs.Ledger.{with_course, Developer, Ledger, nobody, with_developers}
use Rattle.rules_auction.specs.Clearing.{of_each}
use Rattle.laws_ledger.specs.Sound.{Sound}

-- ---- the ledger with what one array holds of each developer

abbrev with_each : Ledger → (ℕ → Developer → Developer) → Ledger
with_each l f = with_developers l (λ n. f n (l.developers n))

abbrev declared_as : Developer → ℕ → ℕ → ℕ → ℕ → List ℕ → Developer
declared_as x project kind study day levels = record {
  declared = record { project = project; kind = kind; study = study; day = day; levels = levels };
  agent = x.agent;
  quantity = x.quantity;
  withdrawals = x.withdrawals;
  offer = x.offer;
  lodged = x.lodged;
}

abbrev pub with_projects : Ledger → List ℕ → Ledger
with_projects l ps = with_each l (λ n x. declared_as x (at_number ps n) x.declared.kind x.declared.study x.declared.day x.declared.levels)

abbrev pub with_kinds : Ledger → List ℕ → Ledger
with_kinds l ks = with_each l (λ n x. declared_as x x.declared.project (at_number ks n) x.declared.study x.declared.day x.declared.levels)

abbrev pub with_studies : Ledger → List ℕ → Ledger
with_studies l ss = with_each l (λ n x. declared_as x x.declared.project x.declared.kind (at_number ss n) x.declared.day x.declared.levels)

abbrev pub with_days : Ledger → List ℕ → Ledger
with_days l ds = with_each l (λ n x. declared_as x x.declared.project x.declared.kind x.declared.study (at_number ds n) x.declared.levels)

abbrev pub with_levels : Ledger → List (List ℕ) → Ledger
with_levels l vss = with_each l (λ n x. declared_as x x.declared.project x.declared.kind x.declared.study x.declared.day (get_or ([] ∷ vss) n []))

-- the highest levels, as if no other were declared
abbrev pub with_highest : Ledger → List ℕ → Ledger
with_highest l vs = with_each l (λ n x. declared_as x x.declared.project x.declared.kind x.declared.study x.declared.day (at_number vs n ∷ []))

abbrev pub with_agents : Ledger → List ℕ → Ledger
with_agents l gs = with_each l (λ n x. record {
  declared = x.declared;
  agent = at_number gs n;
  quantity = x.quantity;
  withdrawals = x.withdrawals;
  offer = x.offer;
  lodged = x.lodged;
})

-- lows and highs at price 0: each withdrew down to its high above that price, and down to its low there
abbrev pub with_standing : Ledger → List ℕ → List ℕ → Ledger
with_standing l lows highs = with_each l (λ n x. with_course x x.quantity
    (record { price = 1; level = at_number highs n } ∷ record { price = 0; level = at_number lows n } ∷ []) x.offer x.lodged)

-- ---- a figure of a sound ledger's developers, read back from its array

module _ {A : Type 0} (l : Ledger) (s : Sound l) (f : Developer → A) (d : A) (z : f nobody ≡ d) where
  -- under what is no number stands nobody
  nobodys : (n : ℕ) → ((1 ≤ n) × (n ≤ 32) → ⊥) → d ≡ f (l.developers n)
  nobodys n h = ⊎_elim (λ e. sym (ap f e ∙ z)) (λ r. absurd (h (r.number_low, r.number_high))) (s.each n)

  pub read_place : (n : ℕ) → get_or (d ∷ of_each f l) n d ≡ f (l.developers n)
  read_place zero = nobodys 0 (λ h. omega arith)
  read_place (suc i) = ⊎_elim
      (λ h. numbered_nth (λ n. f (l.developers n)) 32 (of_each f l) i d refl h)
      (λ h. get_or-eq_default (of_each f l) d {n = i} (omega (arith, length-map (one_to 32) (λ n. f (l.developers n)), length_one_to 32))
      ∙ nobodys (suc i) (λ g. omega arith))
      (le_or_lt (suc i) 32)

pub read_back : (l : Ledger) → Sound l → (f : Developer → ℕ) → f nobody ≡ 0 → (n : ℕ) → at_number (of_each f l) n ≡ f (l.developers n)
unfolding at_number
read_back l s f z = read_place l s f 0 z
