-- The game over the ledger (document 02, 11): what the definitions report is what the first can force and the second can hold it to; below the
-- last C of a sound ledger each developer stands at its quantity, so supply there is that of the quantities, the rivals' as they stand in the game.
use Rattle.std.specs.Prelude.{ℕ, ◌≤◌, ◌<◌, ◌≡◌, refl, Bool, true, false, cond, ◌&&◌, List, [], ◌∷◌, ◌++◌, leb, ltb, eqb, length}
use Rattle.std.proofs.Math.Path.{sym, ap}
use Rattle.std.proofs.Common.{◌∙◌, subst, ⊎_elim, arith, le-div_iff_mul-le, leb-true, lt-ltb, le-ltb}
use Rattle.std.proofs.lemmas.Bool.{false≢true}
use mathlib.Core.List.Memᴰ
use Rattle.rules_numbers.specs.Cases.{and_true}
use Rattle.rules_numbers.specs.Lists.{keep}
use Rattle.rules_numbers.specs.ListLaws.{Each}
use Rattle.rules_auction.specs.Ledger.{with_course, Step, Developer, Phase, Fresh, Ready, Round, Between, Closed, Ledger, put}
use Rattle.rules_auction.specs.Clearing.{highest, quantity_after, high, supply, demand_at, covered}
use Rattle.rules_auction.specs.Refusals.{is_fresh, is_between, floor, falling}
use Rattle.rules_auction.specs.Rounds.{last_level}
use Rattle.rules_auction.specs.CheckLaws.{in_settings, falling_first}
use Rattle.laws_ledger.specs.Sound.{applied_to, Descends, Sound}
use Rattle.laws_ledger.specs.clearing.Course.{courses}
use Rattle.laws_ledger.specs.reachable.Supplies.{supply_same}
use Rattle.rules_forcing.specs.Game.{GameMove}
use Rattle.rules_forcing.specs.GameLaws.{forced, forced_only}
use Rattle.rules_forcing.specs.Forcing.{may_withdraw, withdrawing, lowest_or, with_rivals, outcome_of, list_ok, forced_outcome, first_move, ForcedBy}

-- ---- what is reported

pub forced_by : (l : Ledger) (m n : ℕ) (ps : List ℕ) → ForcedBy l m n ps (forced_outcome l m n ps) (first_move l m n ps)
unfolding forced_outcome first_move
forced_by l m n ps = forced may_withdraw withdrawing (outcome_of l m n ps) (l.developers m) (l.developers n) ps

-- and nothing else is
pub forced_by_only : (l : Ledger) (m n : ℕ) (ps : List ℕ) {v : ℕ} {c : GameMove} → ForcedBy l m n ps v c →
    (v ≡ forced_outcome l m n ps) × (c ≡ first_move l m n ps)
forced_by_only l m n ps a = forced_only may_withdraw withdrawing (outcome_of l m n ps) a (forced_by l m n ps)

-- ---- quantities below the last C

-- below the prices of all withdrawals, all have passed
after_all : (p c a q : ℕ) (ws : List Step) → p < c → Descends c a ws → quantity_after (ltb p) q ws ≡ last_level q ws
unfolding quantity_after Descends last_level
after_all p c a q [] h d = refl
after_all p c a q (w ∷ ws) h d = rw (lt-ltb p w.price (omega arith)) (after_all p c w.price w.level ws h d.2)

between_applied : (f : Phase) (l : Ledger) → is_between f ≡ true → applied_to f l ≡ l.closing
between_applied Fresh l e = absurd (false≢true e)
between_applied Ready l e = absurd (false≢true e)
between_applied Round l e = absurd (false≢true e)
between_applied Between l e = refl
between_applied Closed l e = absurd (false≢true e)

between_not_fresh : (f : Phase) → is_between f ≡ true → is_fresh f ≡ false
between_not_fresh Fresh e = absurd (false≢true e)
between_not_fresh Ready e = refl
between_not_fresh Round e = refl
between_not_fresh Between e = refl
between_not_fresh Closed e = refl

pub falling_each : (c o : ℕ) (ps : List ℕ) → falling c o ps ≡ true → Each (λ p. (c ≤ p) × (p < o)) ps
falling_each c o [] e p i = absurd (Memᴰ.not-nil i)
falling_each c o (q ∷ ps) e p i =
    let f = falling_first c o q ps e in
    ⊎_elim (λ d. subst (λ (r : ℕ). (c ≤ r) × (r < o)) (sym d) (f.0, f.1)) (λ k. let r = falling_each c q ps f.2 p k in (r.0, omega arith))
    (Memᴰ.cases_cons i)

pub list_facts : (l : Ledger) (ps : List ℕ) → list_ok l ps ≡ true → (1 ≤ length ps) × (length ps ≤ 10) × Each (λ p. (floor l ≤ p) × (p < l.closing)) ps
unfolding list_ok
list_facts l ps e =
    let h = and_true (leb 1 (length ps) && leb (length ps) 10) (falling (floor l) l.closing ps) e in
    let k = and_true (leb 1 (length ps)) (leb (length ps) 10) h.0 in
    (leb-true 1 (length ps) k.0, leb-true (length ps) 10 k.1, falling_each (floor l) l.closing ps h.1)

after_append : (t : ℕ → Bool) (q : ℕ) (ws vs : List Step) → quantity_after t q (ws ++ vs) ≡ quantity_after t (quantity_after t q ws) vs
unfolding quantity_after
after_append t q [] vs = refl
after_append t q (w ∷ ws) vs = after_append t (cond (t w.price) w.level q) ws vs

-- a withdrawal at w lowers what stands below w, and not yet at w
pub high_withdrawing : (p w : ℕ) (x : Developer) → high p (withdrawing w x) ≡ cond (ltb p w) 0 (high p x)
unfolding high withdrawing quantity_after
high_withdrawing p w x = after_append (ltb p) (highest x) x.withdrawals (record { price = w; level = 0 } ∷ [])

-- what stands in the game of a rival that began as x: it withdrew at price w, or, where w is 0, it keeps
pub data Rival (x : Developer) : Developer → ℕ → Type 0 where
  keeping : Rival x x 0
  withdrawn : (w : ℕ) → 0 < w → Rival x (withdrawing w x) w

pub rival_leaves : {x y : Developer} {w : ℕ} (p : ℕ) → 0 < p → may_withdraw y ≡ true → Rival x y w → Rival x (withdrawing p y) p
unfolding may_withdraw withdrawing
rival_leaves p h e keeping = withdrawn p h
rival_leaves p h e (withdrawn w k) = absurd (false≢true e)

rival_project : {x y : Developer} {w : ℕ} → Rival x y w → y.declared.project ≡ x.declared.project
unfolding withdrawing
rival_project keeping = refl
rival_project (withdrawn w h) = refl

-- the same developer at another quantity
abbrev pub with_quantity : ℕ → Developer → Developer
with_quantity q x = with_course x q x.withdrawals x.offer x.lodged

-- what is left at price p of the quantity q that is withdrawn at w, or, where w is 0, is kept
abbrev pub left_at : ℕ → ℕ → ℕ → ℕ
left_at p w q = cond (ltb p w) 0 q

-- the ledger with the quantities that are left at p of developer m, withdrawn at a, and of n, withdrawn at b
abbrev pub rivals_at : ℕ → Ledger → ℕ → ℕ → ℕ → ℕ → Ledger
rivals_at p l m n a b =
    with_rivals l m n (with_quantity (left_at p a (l.developers m).quantity) (l.developers m))
    (with_quantity (left_at p b (l.developers n).quantity) (l.developers n))

-- what holds of both entries put under one number, and of all others
put_both : (R : Developer → Developer → Type 0) (n : ℕ) (x y : Developer) (f g : ℕ → Developer) → R x y → ((k : ℕ) → R (f k) (g k)) → (k : ℕ) →
    R (put n x f k) (put n y g k)
put_both R n x y f g h each k = go (eqb k n)
  where
    go : (b : Bool) → R (cond b x (f k)) (cond b y (g k))
    go true = h
    go false = each k

keep_same : (t u : ℕ → Bool) (ps : List ℕ) → Each (λ p. t p ≡ u p) ps → keep t ps ≡ keep u ps
unfolding keep
keep_same t u [] h = refl
keep_same t u (p ∷ ps) h = rw (h p (Memᴰ.head refl), keep_same t u ps (λ q i. h q (Memᴰ.tail i)))

module _ {l : Ledger} (s : Sound l) (between : is_between l.phase ≡ true) where
  -- a listed price is above 0 and below the last C
  pub listed_in_lem : (ps : List ℕ) → list_ok l ps ≡ true → Each (λ p. (0 < p) × (p < l.closing)) ps
  listed_in_lem ps e p i =
      let h = (list_facts l ps e).2 p i in
      let b = (in_settings l.settings (s.settings (between_not_fresh l.phase between))).bounds in
      (omega (arith, (le-div_iff_mul-le {k = 2} {x = 1} {y = l.settings.ce} (omega arith)).1 (omega arith)), h.1)

  pub high_stands : (n p : ℕ) → p < l.closing → high p (l.developers n) ≡ (l.developers n).quantity
  unfolding high
  high_stands n p h =
      let k = courses l s n in
      let c = between_applied l.phase l between in
      after_all p (applied_to l.phase l) l.settings.a (highest (l.developers n)) (l.developers n).withdrawals (omega arith) k.prices
      ∙ sym k.quantity

  pub high_rival : (n p w : ℕ) (x : Developer) → p < l.closing → Rival (l.developers n) x w → high p x ≡ left_at p w (l.developers n).quantity
  high_rival n p _ _ h keeping = rw (le-ltb p 0 (omega arith)) (high_stands n p h)
  high_rival n p _ _ h (withdrawn w k) = high_withdrawing p w (l.developers n) ∙ ap (left_at p w) (high_stands n p h)

  -- at a price below the last C supply is that of the quantities; a rival's is 0 below the price at which it withdrew
  module _ (m n a b : ℕ) (x y : Developer) (first : Rival (l.developers m) x a) (second : Rival (l.developers n) y b) where
    pub supply_rivals :
        (p : ℕ) → p < l.closing →
        supply (high p) (with_rivals l m n x y) ≡
        supply (λ d. d.quantity) (rivals_at p l m n a b)
    supply_rivals p h = supply_same (high p) (λ d. d.quantity) _ _ (λ k. (each k).0) (λ k. (each k).1)
      where
        Same : Developer → Developer → Type 0
        Same d e = (d.declared.project ≡ e.declared.project) × (high p d ≡ e.quantity)

        each : (k : ℕ) → Same ((with_rivals l m n x y).developers k) ((rivals_at p l m n a b).developers k)
        each = put_both Same n y _ _ _ (rival_project second, high_rival n p b y h second)
            (put_both Same m x _ _ _ (rival_project first, high_rival m p a x h first) (λ k. (refl, high_stands k p h)))

    pub outcome_rivals :
        (ps : List ℕ) → Each (λ p. p < l.closing) ps →
        outcome_of l m n ps x y ≡
        lowest_or l.closing (keep (λ p. leb (demand_at l p) (supply (λ d. d.quantity) (rivals_at p l m n a b))) ps)
    unfolding outcome_of covered
    outcome_rivals ps h = ap (lowest_or l.closing) (keep_same _ _ ps (λ p i. ap (leb (demand_at l p)) (supply_rivals p (h p i))))
