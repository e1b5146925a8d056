-- The ledger that an auction holds, read back from its arrays. Of a sound ledger it is the ledger itself, so an auction holds one sound
-- ledger at most: what a contract says of every list of calls whose ledger the auction holds, it says of one ledger.
use Rattle.std.specs.Prelude.{ℕ, zero, suc, ◌-◌, ◌≤◌, ◌≡◌, refl, Bool, true, false, cond, ◌&&◌, length, get_or, take, drop}
use Rattle.std.proofs.Common.{sym, ap, ap₂, ◌∙◌, ⊎_elim, arith, take_at, drop_at, le-leb}
use Rattle.std.proofs.Math.Path.{fun_ext}
use mathlib.Core.List.{List, [], ◌∷◌, ◌++◌, map, map-append, append_assoc}
use Rattle.std.proofs.lemmas.List.{length-map}
use Rattle.std.proofs.Math.Seq.{take-append_seam}
use Rattle.rules_numbers.specs.Cases.{clash}
use Rattle.rules_auction.specs.Ledger.{Step, Standing, none, made, Developer, Ledger, nobody, with_developers}
use Rattle.rules_auction.specs.Clearing.{of_each}
use Rattle.rules_auction.specs.Refusals.{is_number}
use Rattle.rules_auction.specs.CheckLaws.{is_number_lem}
use Rattle.rules_auction.specs.Rounds.{steps}
use Rattle.laws_ledger.specs.Sound.{prices_of, levels_of, Sound}
use Rattle.engine_held.specs.levels.Held.{no_levels, held_levels, levels_in}
use Rattle.engine_held.specs.history.Held.{held_history}
use Rattle.engine_held.specs.declared.history.History.{History}
use Rattle.engine_checks.specs.clock.Reading.{clock_in}
use Rattle.engine_checks.specs.clock.ReadingLaws.{phase_read}
use Rattle.engine_auction.specs.Holds.{held_course, held_auction}
use Rattle.engine_moves.specs.closing_entries.Places.{each_at}
use Rattle.engine_auction.specs.declared.Auction.{Auction}

-- ---- histories

abbrev withdrawals_in : History → List Step
withdrawals_in h = steps (take h.count h.prices) (take h.count h.levels)

-- by the number that stands for the offer
abbrev offer_in : ℕ → History → Standing
offer_in zero h = none
offer_in (suc k) h = made (steps (take k (drop h.count h.prices)) (take k (drop h.count h.levels)))

-- behind both
abbrev lodged_part : History → List ℕ → List ℕ
lodged_part h xs = take h.lodged (drop (h.offered - 1) (drop h.count xs))

abbrev lodged_in : History → List Step
lodged_in h = steps (lodged_part h h.prices) (lodged_part h h.levels)

steps_back : (ss : List Step) → steps (prices_of ss) (levels_of ss) ≡ ss
unfolding steps
steps_back [] = refl
steps_back (s ∷ ss) = ap (λ (r : List Step). s ∷ r) (steps_back ss)

module _ (f : Step → ℕ) where
  front : (ws vs : List Step) (rest : List ℕ) → take (length ws) (map f (ws ++ vs) ++ rest) ≡ map f ws
  front [] vs rest = refl
  front (w ∷ ws) vs rest = ap (λ (xs : List ℕ). f w ∷ xs) (front ws vs rest)

  -- what stands behind ws: vs, then us
  behind : (ws vs us : List Step) (rest : List ℕ) → drop (length ws) (map f (ws ++ (vs ++ us)) ++ rest) ≡ map f vs ++ (map f us ++ rest)
  behind [] vs us rest = ap (λ (xs : List ℕ). xs ++ rest) (map-append f vs us) ∙ append_assoc (map f vs) (map f us) rest
  behind (w ∷ ws) vs us rest = behind ws vs us rest

  middle : (ws vs us : List Step) (rest : List ℕ) → take (length vs) (drop (length ws) (map f (ws ++ (vs ++ us)) ++ rest)) ≡ map f vs
  middle ws vs us rest = ap (take (length vs)) (behind ws vs us rest) ∙ take_at (map f vs) _ (length vs) (length-map vs f)

  last : (ws vs us : List Step) (rest : List ℕ) → take (length us) (drop (length vs) (drop (length ws) (map f (ws ++ (vs ++ us)) ++ rest))) ≡ map f us
  last ws vs us rest =
      ap (λ (xs : List ℕ). take (length us) (drop (length vs) xs)) (behind ws vs us rest)
      ∙ ap (take (length us)) (drop_at (map f vs) _ (length vs) (length-map vs f)) ∙ take_at (map f us) rest (length us) (length-map us f)

module _ (ws : List Step) where
  withdrawals_back : (o : Standing) (ls : List Step) → withdrawals_in (held_history ws o ls) ≡ ws
  withdrawals_back o ls = ap₂ steps (front (λ s. s.price) ws _ _) (front (λ s. s.level) ws _ _) ∙ steps_back ws

  offer_back : (o : Standing) (ls : List Step) → offer_in (held_history ws o ls).offered (held_history ws o ls) ≡ o
  offer_back none ls = refl
  offer_back (made ss) ls = ap made (ap₂ steps (middle (λ s. s.price) ws ss ls _) (middle (λ s. s.level) ws ss ls _) ∙ steps_back ss)

  lodged_back : (o : Standing) (ls : List Step) → lodged_in (held_history ws o ls) ≡ ls
  lodged_back none ls = ap₂ steps (last (λ s. s.price) ws [] ls _) (last (λ s. s.level) ws [] ls _) ∙ steps_back ls
  lodged_back (made ss) ls =
      let e : suc (length ss) - 1 ≡ length ss = omega arith in
      rw e (ap₂ steps (last (λ s. s.price) ws ss ls _) (last (λ s. s.level) ws ss ls _) ∙ steps_back ls)

-- ---- developers, developer n from place n - 1 of each array

abbrev history_in : Auction → ℕ → History
history_in a n = get_or a.histories (n - 1) (held_history [] none [])

abbrev entry_in : Auction → ℕ → Developer
entry_in a n = record {
  declared = record {
    project = get_or a.projects (n - 1) 0;
    kind = get_or a.kinds (n - 1) 0;
    study = get_or a.studies (n - 1) 0;
    day = get_or a.days (n - 1) 0;
    levels = levels_in (get_or a.declared (n - 1) no_levels);
  };
  agent = get_or a.agents (n - 1) 0;
  quantity = get_or a.quantities (n - 1) 0;
  withdrawals = withdrawals_in (history_in a n);
  offer = offer_in (history_in a n).offered (history_in a n);
  lodged = lodged_in (history_in a n);
}

abbrev developer_in : Auction → ℕ → Developer
developer_in a n = cond (is_number n) (entry_in a n) nobody

module _ (l : Ledger) (n : ℕ) where
  module _ (low : 1 ≤ n) (high : n ≤ 32) where
    abbrev x : Developer
    x = l.developers n

    at : (f : Developer → ℕ) → get_or (of_each f l) (n - 1) 0 ≡ f x
    at f = each_at f l n 0 low high

    levels : levels_in (get_or (of_each (λ y. held_levels y.declared.levels) l) (n - 1) no_levels) ≡ x.declared.levels
    levels = ap levels_in (each_at (λ y. held_levels y.declared.levels) l n no_levels low high) ∙ take-append_seam x.declared.levels _

    history : history_in (held_auction l) n ≡ held_course x
    unfolding held_auction
    history = each_at held_course l n (held_history [] none []) low high

    entry_back : entry_in (held_auction l) n ≡ x
    unfolding held_auction
    entry_back = λ i. record {
      declared = record {
        project = at (λ y. y.declared.project) i;
        kind = at (λ y. y.declared.kind) i;
        study = at (λ y. y.declared.study) i;
        day = at (λ y. y.declared.day) i;
        levels = levels i;
      };
      agent = at (λ y. y.agent) i;
      quantity = at (λ y. y.quantity) i;
      withdrawals = (ap withdrawals_in history ∙ withdrawals_back x.withdrawals x.offer x.lodged) i;
      offer = (ap (λ (h : History). offer_in h.offered h) history ∙ offer_back x.withdrawals x.offer x.lodged) i;
      lodged = (ap lodged_in history ∙ lodged_back x.withdrawals x.offer x.lodged) i;
    }

  -- outside 1 to 32 a sound ledger has nobody
  developer_back : Sound l → developer_in (held_auction l) n ≡ l.developers n
  developer_back s = go (is_number n) refl
    where
      go : (b : Bool) → is_number n ≡ b → cond b (entry_in (held_auction l) n) nobody ≡ l.developers n
      go true e = let b = is_number_lem n e in entry_back b.0 b.1
      go false e = ⊎_elim sym (λ r. absurd (clash (ap₂ ◌&&◌ (le-leb 1 n r.number_low) (le-leb n 32 r.number_high)) e)) (s.each n)

-- ---- the ledger

abbrev ledger_in : Auction → Ledger
ledger_in a = with_developers (clock_in a.clock) (developer_in a)

read_back : (l : Ledger) → Sound l → ledger_in (held_auction l) ≡ l
unfolding held_auction
read_back l s = λ i. record {
  phase = phase_read l.phase i;
  settings = l.settings;
  opening = l.opening;
  closing = l.closing;
  developers = fun_ext (λ n. developer_back l n s) i;
}

pub auction_determines : (l m : Ledger) → Sound l → Sound m → held_auction l ≡ held_auction m → l ≡ m
auction_determines l m s t e = sym (read_back l s) ∙ ap ledger_in e ∙ read_back m t
