-- Applying the offers and the lodged steps reached: of each developer by the rules, and of all of them place by place.
use Prim.Native.Nat.{ℕ, suc, ◌+◌, ◌≤◌, ◌<◌}
use mathlib.Core.Path.{◌≡◌, refl, sym, ap, subst, ◌∙◌}
use mathlib.Core.Logic.{◌⊎◌, inl, inr, ⊎_elim}
use mathlib.Core.Bool.{Bool, true, false, cond, ◌||◌, true≢false}
use mathlib.Core.List.{List, [], ◌∷◌, ◌++◌, append-nil, append_assoc}
use native.Mathlib.Omega.{arith}
use lib.ListN.{length, get_or, set, length-append}
use lib.Dec.{eqb, ltb}
use borrow.Author.Tests.{eqb-true, ltb-false}
use Rattle.rules_numbers.specs.Cases.{and_true}
use Rattle.rules_numbers.specs.Lists.{keep}
use Rattle.rules_numbers.specs.ListLaws.{numbered_nth}
use Rattle.rules_auction.specs.Ledger.{Step, Standing, none, made, Developer, Phase, Round, Ledger, nobody, with_course}
use Rattle.rules_auction.specs.Clearing.{of_each, highest}
use Rattle.rules_auction.specs.Refusals.{floor, falling}
use Rattle.rules_auction.specs.Rounds.{withdraws_all, reached, unreached, added, last_level, applied}
use Rattle.laws_ledger.specs.Sound.{applied_to, prices_of, SoundOffer, SoundLodged, Registered, Sound}
use Rattle.laws_ledger.specs.reachable.Histories.{last_level_append, lowering_append}
use Rattle.laws_ledger.specs.reachable.Bounds.{falls_few, lodged_fits}
use Rattle.laws_ledger.specs.reachable.Closing.{added_lowers}
use Rattle.engine_held.specs.history.Held.{held_history, held_offer, additions, Reached, Applied, LastLevel}
use Rattle.engine_held.specs.declared.history.History.{History}
use Rattle.engine_moves.specs.declared.closing_entries.Course.{Course}
use Rattle.engine_moves.specs.declared.closing_entries.Courses.{Courses}
use Rattle.engine_moves.specs.closing_entries.Courses.{held_course, after_round, moves, OfferApplied, OffersApplied}
use Rattle.engine_moves.specs.closing_entries.Places.{filling_all, Replacing, replacing_first, replacing_stored, replacing_kept}

-- ---- one developer

-- what closing a round from o to c adds makes eight withdrawals at most, the quantity is what the withdrawals leave, and lodged steps, which an
-- existing plant alone has, fall from below o
record Applicable (c o : ℕ) (x : Developer) : Type 0 where
  at_most_eight : length (x.withdrawals ++ added c o x x.offer) ≤ 8
  last : last_level x.quantity x.withdrawals ≡ x.quantity
  alone : (x.offer ≡ none) ⊎ (x.lodged ≡ [])
  existing : withdraws_all x.declared.kind x.quantity ≡ true → x.lodged ≡ []
  floor : ℕ
  falls : falling floor o (prices_of x.lodged) ≡ true
  fits : length x.withdrawals + length x.lodged ≤ 8

last_level_again : (q : ℕ) (ws : List Step) → last_level (last_level q ws) ws ≡ last_level q ws
unfolding last_level
last_level_again q [] = refl
last_level_again q (w ∷ ws) = refl

-- a standing offer is of kind 2, which has nothing lodged
lodged_alone : (l : Ledger) (x : Developer) (s : Standing) → SoundOffer l x s → (x.declared.kind ≡ 2 → x.lodged ≡ []) → (s ≡ none) ⊎ (x.lodged ≡ [])
unfolding SoundOffer
lodged_alone l x none h g = inl refl
lodged_alone l x (made ss) h g = inr (g h.kind)

applicable : (l : Ledger) → Sound l → l.phase ≡ Round → (n : ℕ) → Applicable l.closing l.opening (l.developers n)
unfolding added withdraws_all reached keep last_level falling
applicable l s round n = ⊎_elim
    (λ e. rw e (record { at_most_eight = omega arith; last = refl; alone = inl refl; existing = λ _. refl; floor = 0; falls = refl; fits = omega arith }))
    held_so
    (s.each n)
  where
    held_so : Registered l n → Applicable l.closing l.opening (l.developers n)
    held_so r =
        let x = l.developers n in
        let d = r.developer in
        let g = subst (λ (p : Phase). SoundLodged (floor l) (applied_to p l) x) round r.lodged in
        record {
          at_most_eight =
              falls_few d (x.withdrawals ++ added l.closing l.opening x x.offer)
              (lowering_append _ _ x.withdrawals _ d.falls (rw (← d.quantity) (added_lowers l x g x.offer r.offer)));
          last = rw d.quantity (last_level_again (highest x) x.withdrawals);
          alone = lodged_alone l x x.offer r.offer g.kind;
          existing = λ t. g.kind (eqb-true _ 2 (and_true (eqb x.declared.kind 2) _ t).0);
          floor = floor l;
          falls = g.prices;
          fits = lodged_fits r;
        }

-- the lodged steps reached, then what the offer or a missing one adds
additions_are :
    (c o : ℕ) (x : Developer) (s : Standing) → (s ≡ none) ⊎ (x.lodged ≡ []) → (withdraws_all x.declared.kind x.quantity ≡ true → x.lodged ≡ []) →
    reached c o x.lodged ++ additions (withdraws_all x.declared.kind x.quantity) o s ≡ added c o x s
unfolding added reached keep
additions_are c o x none a e = go (withdraws_all x.declared.kind x.quantity) e
  where
    go : (b : Bool) → (b ≡ true → x.lodged ≡ []) → reached c o x.lodged
        ++ cond b (record { price = o; level = 0 } ∷ []) [] ≡ cond b (record { price = o; level = 0 } ∷ []) (reached c o x.lodged)
    go true e = rw (e refl)
    go false e = append-nil (reached c o x.lodged)
additions_are c o x (made ss) a e = ⊎_elim (λ z. absurd (let y : ◌≡◌ {A = ℕ} 0 1 = cc in omega arith)) (λ z. rw z) a

module _ (c o : ℕ) (x : Developer) (f : Applicable c o x) (h r : History) where
  abbrev missing : Bool
  missing = withdraws_all x.declared.kind x.quantity

  applied_history : Reached (held_course x) c h → Applied h missing o r → r ≡ held_course (applied c o x)
  unfolding applied unreached keep
  applied_history g k =
      let ws = x.withdrawals in
      let rs = reached c o x.lodged in
      let e = additions_are c o x x.offer f.alone f.existing in
      let both : (ws ++ rs) ++ additions missing o x.offer ≡ ws ++ added c o x x.offer = append_assoc ws rs _ ∙ ap (λ (vs : List Step). ws ++ vs) e in
      let n = length-append (ws ++ rs) (additions missing o x.offer) in
      let m : length ((ws ++ rs) ++ additions missing o x.offer) ≤ 8 = subst (λ (vs : List Step). length vs ≤ 8) (sym both) f.at_most_eight in
      k.offer_applied (ws ++ rs) x.offer (unreached c o x.lodged)
      (g.reached_withdrawn ws x.offer x.lodged f.floor o refl f.alone f.falls f.fits)
      (λ t. ap (unreached c o) (f.existing t)) (omega arith)
      ∙ ap (λ (vs : List Step). held_history vs none (unreached c o x.lodged)) both

  applied_quantity : (q : ℕ) → r ≡ held_course (applied c o x) → LastLevel r x.quantity q → q ≡ (applied c o x).quantity
  unfolding applied
  applied_quantity q e h = h.last_level_lem _ _ e f.at_most_eight ∙ last_level_append x.quantity x.withdrawals _
      ∙ ap (λ (v : ℕ). last_level v (added c o x x.offer)) f.last

-- what the functions over histories computed of a developer is its course after the round
pub offer_applied :
    (kind q : ℕ) (h g r : History) (o c : ℕ) (missing : Bool) (v : ℕ) → missing ≡ withdraws_all kind q → Reached h c g → Applied g missing o r →
    LastLevel r q v →
    OfferApplied kind q h o c (record { quantity = v; history = r })
offer_applied kind q h g r o c missing v em er ea el = record {
  as_ruled = λ l n s round ek eq eh eo ec.
      let x = l.developers n in
      let f = applicable l s round n in
      let history = applied_history l.closing l.opening x f g r (rw (eh, ec) at er) (rw (em, ek, eq, eo) at ea) in
      (applied_quantity l.closing l.opening x f g r v history (rw eq at el), history);
}

-- ---- a developer that no closing moves

none_stands : (s : Standing) → held_offer s ≡ 0 → s ≡ none
none_stands none e = refl
none_stands (made ss) e = absurd (omega arith)

none_lodged : (ls : List Step) → length ls ≡ 0 → ls ≡ []
none_lodged [] e = refl
none_lodged (s ∷ ls) e = absurd (omega arith)

none_of : (a b c : Bool) → a || (b || c) ≡ false → (a ≡ false) × ((b ≡ false) × (c ≡ false))
none_of true b c e = absurd (true≢false e)
none_of false true c e = absurd (true≢false e)
none_of false false c e = (refl, (refl, e))

unmoved : (c o : ℕ) (x : Developer) → moves (held_offer x.offer) (length x.lodged) x.declared.kind x.quantity ≡ false → applied c o x ≡ x
unfolding moves applied added unreached reached keep last_level
unmoved c o x e =
    let t = none_of (ltb 0 (held_offer x.offer)) (ltb 0 (length x.lodged)) (withdraws_all x.declared.kind x.quantity) e in
    let s : x.offer ≡ none = none_stands x.offer (omega (arith, ltb-false 0 (held_offer x.offer) t.0)) in
    let ls : x.lodged ≡ [] = none_lodged x.lodged (omega (arith, ltb-false 0 (length x.lodged) t.1.0)) in
    let nothing : added c o x x.offer ≡ [] = ap (added c o x) s ∙ rw (t.1.1, ls) in
    let stays : unreached c o x.lodged ≡ x.lodged = ap (unreached c o) ls ∙ sym ls in
    ap (λ (vs : List Step). with_course x (last_level x.quantity vs) (x.withdrawals ++ vs) none (unreached c o x.lodged)) nothing
    ∙ (λ i. with_course x x.quantity (append-nil x.withdrawals i) (sym s i) (stays i))

-- ---- the loop

-- the first i places of the next courses are those after the round, the others those before it
record Part (l : Ledger) (next : Courses) (i : ℕ) : Type 0 where
  quantities : Replacing (λ n. (l.developers n).quantity) (λ n. (after_round l (l.developers n)).quantity) 0 next.quantities i
  histories : Replacing (λ n. held_course (l.developers n)) (λ n. held_course (after_round l (l.developers n))) (held_course nobody) next.histories i

module _ (ks qs : List ℕ) (hs : List History) (o c : ℕ) where
  -- the arrays and prices that the loop starts from are those of the ledger
  record Held (l : Ledger) : Type 0 where
    sound : Sound l
    round : l.phase ≡ Round
    kinds : ks ≡ of_each (λ x. x.declared.kind) l
    quantities : qs ≡ of_each (λ x. x.quantity) l
    histories : hs ≡ of_each held_course l
    opening : o ≡ l.opening
    closing : c ≡ l.closing

  pub record Turn (next : Courses) (i : ℕ) : Type 0 where
    pub within : i ≤ 32
    part : (l : Ledger) → Held l → Part l next i
    stays : next.moved ≡ false → next.histories ≡ hs

  pub turn_first : Turn (record { moved = false; quantities = qs; histories = hs }) 0
  turn_first = record {
    within = omega arith;
    stays = λ _. refl;
    part = λ l h. record {
      quantities = replacing_first _ _ _ _ h.quantities;
      histories = replacing_first _ _ _ _ h.histories;
    };
  }

  module _ (next : Courses) (i : ℕ) (d : History) (t : Turn next i) (w : i < 32) where
    -- the developer of this turn, as it is before the round
    module _ (l : Ledger) (h : Held l) where
      abbrev x : Developer
      x = l.developers (suc i)

      kind : get_or ks i 0 ≡ x.declared.kind
      kind = numbered_nth _ 32 ks i 0 h.kinds w

      quantity : get_or next.quantities i 0 ≡ x.quantity
      quantity = (t.part l h).quantities.left i 0 (omega arith) w

      history : get_or next.histories i d ≡ held_course x
      history = (t.part l h).histories.left i d (omega arith) w

    pub turn_moved :
        (r : Course) → OfferApplied (get_or ks i 0) (get_or next.quantities i 0) (get_or next.histories i d) o c r →
        Turn (record { moved = true; quantities = set next.quantities i r.quantity; histories = set next.histories i r.history }) (i + 1)
    turn_moved r a = record {
      within = omega arith;
      stays = λ e. absurd (true≢false e);
      part = λ l h.
          let e = a.as_ruled l (suc i) h.sound h.round (kind l h) (quantity l h) (history l h) h.opening h.closing in
          record {
            quantities = replacing_stored _ _ _ _ i _ (t.part l h).quantities w e.0;
            histories = replacing_stored _ _ _ _ i _ (t.part l h).histories w e.1;
          };
    }

    pub turn_passed :
        (b : Bool) → b ≡ moves (get_or next.histories i d).offered (get_or next.histories i d).lodged (get_or ks i 0) (get_or next.quantities i 0) →
        b ≡ false → Turn next (i + 1)
    turn_passed b e f = record {
      within = omega arith;
      stays = t.stays;
      part = λ l h.
          let same = unmoved l.closing l.opening (x l h) (sym (rw (history l h, kind l h, quantity l h) at e) ∙ f) in
          record {
            quantities = replacing_kept _ _ _ _ i (t.part l h).quantities w (ap (λ (y : Developer). y.quantity) (sym same));
            histories = replacing_kept _ _ _ _ i (t.part l h).histories w (ap held_course (sym same));
          };
    }

  pub turn_last : (next : Courses) → Turn next 32 → OffersApplied ks qs hs o c next
  turn_last next t = record {
    as_ruled = λ l s r k q h eo ec.
        let p = t.part l (record { sound = s; round = r; kinds = k; quantities = q; histories = h; opening = eo; closing = ec }) in
        (filling_all _ _ _ p.quantities.filled, filling_all _ _ _ p.histories.filled);
    stays = t.stays;
  }
