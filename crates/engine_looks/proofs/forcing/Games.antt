-- The game over the ledger and the game that is played go in step: supply with a rival's quantity or 0 at its place is supply by the quantities that are left.
use Prim.Native.Nat.{ℕ, ◌-◌, ◌≤◌, ◌<◌}
use mathlib.Core.Path.{◌≡◌, refl, sym, ap, ap₂, ◌∙◌}
use mathlib.Core.Bool.{Bool, true, false, cond}
use mathlib.Core.List.{List, map, ◌++◌}
use native.Mathlib.Omega.{arith}
use lib.Dec.{leb, ltb}
use lib.ListN.{length, get_or, set, take, replicate, length-map, length-append}
use lib.Seq.{set-get_or, get_or-set_other, take-append_seam}
use borrow.Author.Tests.{ne_eqb}
use Rattle.rules_numbers.specs.ListLaws.{Each}
use Rattle.rules_demand.specs.Demand.{InRange}
use Rattle.rules_auction.specs.Ledger.{Developer, Ledger, with_developer}
use Rattle.rules_auction.specs.Clearing.{of_each, supply, demand_at}
use Rattle.rules_auction.specs.Refusals.{is_fresh, is_between}
use Rattle.rules_auction.specs.CheckLaws.{in_settings}
use Rattle.laws_ledger.specs.Sound.{started, Sound}
use Rattle.laws_ledger.specs.reachable.Held.{is_between_lem}
use Rattle.laws_ledger.specs.reachable.Bounds.{closing_in_range}
use Rattle.engine_held.specs.supply.ByProject.{supply_of}
use Rattle.engine_held.specs.supply.ByProjectLaws.{supply_of_lem}
use Rattle.engine_checks.specs.clock.Demands.{demand_is}
use Rattle.engine_checks.specs.clock.Reading.{demanded_at}
use Rattle.engine_checks.specs.declared.clock.Settings.{Settings}
use Rattle.engine_moves.specs.closing_entries.Places.{each_at, put_at, put_keeps}
use Rattle.rules_forcing.specs.Game.{First, value, best}
use Rattle.rules_forcing.specs.SimulationLaws.{InStep, value_same, best_same}
use Rattle.rules_forcing.specs.Forcing.{may_withdraw, withdrawing, with_rivals, outcome_of, list_ok, forced_outcome, first_move}
use Rattle.rules_forcing.specs.ForcingLaws.{Rival as Standing, keeping as still, rival_leaves, with_quantity, left_at, rivals_at, outcome_rivals, list_facts}
use Rattle.rules_forcing.specs.ForcingLaws.{listed_in_lem}
use Rattle.engine_looks.specs.forcing_checks.AskingLaws.{Pair}
use Rattle.engine_auction.specs.Holds.{held_settings}
use Rattle.engine_looks.specs.declared.rivals.Rival.{Rival}
use Rattle.engine_looks.specs.declared.rivals.Supplies.{Supplies}
use Rattle.engine_looks.specs.declared.rivals.Game.{Game}
use Rattle.engine_looks.specs.rivals.Plain.{Held, leaving, supply_at, lowest_covered, listed_in, demands_in, outcome_in, high_in, withdraws_by, withdraws_in}
use Rattle.engine_looks.specs.rivals.PlainLaws.{lowest_covered_is}
use Rattle.engine_looks.specs.forcing.Playing.{keeping, supplies_of, game_of}

-- ---- supply with and without the rivals

module _ (l : Ledger) (m n : ℕ) (b : Pair m n) where
  abbrev projects : List ℕ
  projects = of_each (λ x. x.declared.project) l

  abbrev quantities : List ℕ
  quantities = of_each (λ x. x.quantity) l

  -- the ledger's supplies
  abbrev pub supplies : Supplies
  supplies = supplies_of projects quantities (m - 1) (n - 1)

  -- with the quantity v for developer m and w for developer n
  module _ (v w : ℕ) where
    abbrev first : Developer
    first = with_quantity v (l.developers m)

    abbrev second : Developer
    second = with_quantity w (l.developers n)

    abbrev one : Ledger
    one = with_developer l m first

    stored : set (set quantities (m - 1) v) (n - 1) w ≡ of_each (λ x. x.quantity) (with_rivals l m n first second)
    stored =
        ap (λ (qs : List ℕ). set qs (n - 1) w) (put_at (λ x. x.quantity) l m first v b.first_low b.first_high refl)
        ∙ put_at (λ x. x.quantity) one n second w b.second_low b.second_high refl

    kept : of_each (λ x. x.declared.project) (with_rivals l m n first second) ≡ projects
    kept =
        put_keeps (λ x. x.declared.project) one n second
        (ap (λ (t : Bool). (cond t first (l.developers n)).declared.project) (sym (ne_eqb n m (λ e. b.different (sym e)))))
        ∙ put_keeps (λ x. x.declared.project) l m first refl

    supplied : supply_of projects (set (set quantities (m - 1) v) (n - 1) w) ≡ supply (λ x. x.quantity) (with_rivals l m n first second)
    supplied = ap₂ supply_of (sym kept) stored ∙ supply_of_lem (λ x. x.quantity) (with_rivals l m n first second)

  -- a store of the quantity that stands there changes nothing
  first_stays : set quantities (m - 1) (l.developers m).quantity ≡ quantities
  first_stays = ap (set quantities (m - 1)) (sym (each_at (λ x. x.quantity) l m 0 b.first_low b.first_high)) ∙ set-get_or quantities (m - 1) 0

  second_stays : (v : ℕ) → set (set quantities (m - 1) v) (n - 1) (l.developers n).quantity ≡ set quantities (m - 1) v
  second_stays v =
      ap (set (set quantities (m - 1) v) (n - 1)) (sym (there ∙ each_at (λ x. x.quantity) l n 0 b.second_low b.second_high))
      ∙ set-get_or (set quantities (m - 1) v) (n - 1) 0
    where
      there : get_or (set quantities (m - 1) v) (n - 1) 0 ≡ get_or quantities (n - 1) 0
      there = get_or-set_other quantities (m - 1) (n - 1) v 0 (λ e. b.different (let a = b.first_low in let c = b.second_low in omega arith))

  pub supply_left : (p : ℕ) (x y : Rival) → supply_at supplies p x y ≡ supply (λ d. d.quantity) (rivals_at p l m n x.left y.left)
  unfolding supply_at
  supply_left p x y =
      go (ltb p x.left) (ltb p y.left)
      ∙ supplied (left_at p x.left (l.developers m).quantity) (left_at p y.left (l.developers n).quantity)
    where
      go : (s t : Bool) →
          cond s (cond t supplies.neither supplies.second) (cond t supplies.first supplies.both) ≡
          supply_of projects (set (set quantities (m - 1) (cond s 0 (l.developers m).quantity)) (n - 1) (cond t 0 (l.developers n).quantity))
      go true true = refl
      go true false = ap (supply_of projects) (sym (second_stays 0))
      go false true = ap (λ (qs : List ℕ). supply_of projects (set qs (n - 1) 0)) (sym first_stays)
      go false false = ap (supply_of projects) (sym (second_stays (l.developers m).quantity ∙ first_stays))

-- ---- the listed prices

module _ {l : Ledger} (s : Sound l) (between : is_between l.phase ≡ true) (ps : List ℕ) (ok : list_ok l ps ≡ true) where
  listed_range : Each (λ p. InRange l.settings.ce p) ps
  listed_range p i =
      let b = (list_facts l ps ok).2 p i in
      let c = closing_in_range s (ap started (is_between_lem l.phase between)) in
      record { low = b.0; high = omega arith }

  listed_demands : Each (λ p. (demanded_at (held_settings l.settings) p).value ≡ demand_at l p) ps
  listed_demands p i =
      demand_is _ _ _ _ p (in_settings l.settings (s.settings (ap is_fresh (is_between_lem l.phase between)))).bounds (listed_range p i)

-- ---- the two games

-- the played game has as many prices as are listed
pub game_held : (t : Settings) (standing : ℕ) (s : Supplies) (ps : List ℕ) → length ps ≤ 10 → Held (game_of t standing s ps)
game_held t standing s ps h = record {
  at_most_ten = h;
  prices = let e = length-append ps (replicate (10 - length ps) 0) in omega arith;
  demands =
      let ds = map (λ p. (demanded_at t p).value) ps in
      let e = length-append ds (replicate (10 - length ds) 0) in
      let k = length-map ps (λ p. (demanded_at t p).value) in
      omega arith;
}

-- and the first of its places are the listed ones
first_places : (ps zs : List ℕ) (k : ℕ) → k ≡ length ps → take k (ps ++ zs) ≡ ps
first_places ps zs k e = ap (λ (i : ℕ). take i (ps ++ zs)) e ∙ take-append_seam ps zs

pub listed_is : (t : Settings) (standing : ℕ) (s : Supplies) (ps : List ℕ) → listed_in (game_of t standing s ps) ≡ ps
listed_is t standing s ps = first_places ps _ (length ps) refl

module _ {l : Ledger} (s : Sound l) (between : is_between l.phase ≡ true) (m n : ℕ) (b : Pair m n) (ps : List ℕ) (ok : list_ok l ps ≡ true) where
  abbrev t : Settings
  t = held_settings l.settings

  abbrev demand : ℕ → ℕ
  demand p = (demanded_at t p).value

  abbrev pub game : Game
  game = game_of t l.closing (supplies l m n b) ps

  -- a rival in the ledger's game, and in the played one
  abbrev Related : ℕ → Developer → Rival → Type 0
  Related k x r = Standing (l.developers k) x r.left × (may_withdraw x ≡ r.able)

  outcome_same : (x y : Developer) (u v : Rival) → Related m x u → Related n y v → outcome_of l m n ps x y ≡ outcome_in game u v
  unfolding outcome_in
  outcome_same x y u v r q =
      outcome_rivals s between m n u.left v.left x y r.0 q.0 ps (λ p i. (listed_in_lem s between ps ok p i).1)
      ∙ sym (lowest_covered_is supplied_at_lem demand _ l.closing ps covered_same)
      ∙ ap₂ (lowest_covered supplied_at_lem l.closing) (sym (listed_is t l.closing (supplies l m n b) ps)) (sym demands_are)
    where
      supplied_at_lem : ℕ → ℕ
      supplied_at_lem p = supply_at (supplies l m n b) p u v

      covered_same : Each (λ p. leb (demand p) (supplied_at_lem p) ≡ leb (demand_at l p) (supply (λ d. d.quantity) (rivals_at p l m n u.left v.left))) ps
      covered_same p i = ap₂ leb (listed_demands s between ps ok p i) (supply_left l m n b p u v)

      demands_are : demands_in game ≡ map demand ps
      demands_are = first_places (map demand ps) _ (length ps) (sym (length-map ps demand))

  leaves : (k : ℕ) (x : Developer) (r : Rival) (p : ℕ) → 0 < p → Related k x r → r.able ≡ true → Related k (withdrawing p x) (leaving p r)
  unfolding may_withdraw withdrawing
  leaves k x r p h e w = (rival_leaves p h (e.1 ∙ w) e.0, refl)

  in_step : InStep may_withdraw withdrawing (outcome_of l m n ps) (λ r. r.able) leaving (outcome_in game) (λ p. 0 < p) (Related m) (Related n)
  in_step = record {
    first_may = λ x r e. e.1;
    second_may = λ y r e. e.1;
    first_leaves = leaves m;
    second_leaves = leaves n;
    outcomes = outcome_same;
  }

  begins : (k : ℕ) → Related k (l.developers k) (keeping (l.developers k).quantity)
  unfolding may_withdraw
  begins k = (still, refl)

  abbrev first_rival : Rival
  first_rival = keeping (l.developers m).quantity

  abbrev second_rival : Rival
  second_rival = keeping (l.developers n).quantity

  positive : Each (λ p. 0 < p) ps
  positive p i = (listed_in_lem s between ps ok p i).0

  pub value_played : high_in game 0 first_rival second_rival ≡ forced_outcome l m n ps
  unfolding forced_outcome
  value_played =
      ap (value (λ r. r.able) leaving (outcome_in game) First first_rival second_rival) (listed_is t l.closing (supplies l m n b) ps)
      ∙ sym (value_same in_step First (l.developers m) (l.developers n) first_rival second_rival ps positive (begins m) (begins n))

  pub move_played : withdraws_in game first_rival second_rival ≡ withdraws_by (first_move l m n ps)
  unfolding first_move
  move_played = ap withdraws_by (
      ap (best (λ r. r.able) leaving (outcome_in game) first_rival second_rival) (listed_is t l.closing (supplies l m n b) ps)
      ∙ sym (best_same in_step (l.developers m) (l.developers n) first_rival second_rival ps positive (begins m) (begins n)))
