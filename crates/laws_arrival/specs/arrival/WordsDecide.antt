-- The words decide what is answered in the other order (document 02, 12): whoever has the answers in the one order, and exchanges them so that the
-- calls stand in the other and each developer's answers stay its own, has the answers in the other order. So no word that decides can be lost unseen.
use Rattle.std.specs.Prelude.{ℕ, ◌≡◌, Bool, true, false, length, take, drop}
use Rattle.std.proofs.Math.Path.{refl, ap, ap₂}
use Rattle.std.proofs.Common.{sym, ◌∙◌, true≢false, take_at, drop_at}
use Rattle.std.proofs.Math.Bool.{cond}
use mathlib.Core.List.{List, [], ◌∷◌, ◌++◌, map, head-eq_of_cons-eq, tail-eq_of_cons-eq}
use Rattle.std.proofs.lemmas.List.{length-map}
use Rattle.rules_numbers.specs.Cases.{and_true}
use Rattle.rules_numbers.specs.Lists.{keep, is_empty, all}
use Rattle.rules_auction.specs.Ledger.{Call, Ledger}
use Rattle.rules_auction.specs.Rounds.{step, Answered, answer}
use Rattle.laws_arrival.specs.cancelling.TakenBack.{own}
use Rattle.rules_replies.specs.Orders.{order_in}
use Rattle.rules_numbers.specs.reordering.Exchanges.{SameOfEach}
use Rattle.laws_arrival.specs.arrival.Arrival.{is_move, Reordered, answered_from, SameAnswers, Alike}
use Rattle.laws_arrival.specs.arrival.Arrival.{order_is_move, line_own, ReorderedLines, replied, SameReplies, AsReplied, RepliedAlike}
use Rattle.laws_arrival.specs.arrival.ArrivalLaws.{someones}
use Rattle.laws_arrival.specs.arrival.LineLaws.{asked_with_answers, order_someones}

-- ---- lists of pairs

-- the first of each
abbrev firsts_of : {A B : Type 0} → List (A × B) → List A
firsts_of ts = map (λ t. t.0) ts

-- two lists of which the firsts are equal, each of them someone's, and that are the same of each: one list
module _ {N A B : Type 0} (its : N → A → Bool) (t : A → Bool) (someones : (x : A) → t x ≡ true → (n : N) × (its n x ≡ true)) where
  abbrev kept : N → List (A × B) → List (A × B)
  kept n ts = keep (λ p. its n p.0) ts

  pub one_list : (xs ys : List (A × B)) → firsts_of xs ≡ firsts_of ys → all t (firsts_of xs) ≡ true → SameOfEach (λ n p. its n p.0) xs ys → xs ≡ ys
  unfolding keep all
  one_list [] [] e a h = refl
  one_list [] (y ∷ ys) e a h = absurd (true≢false (ap is_empty e))
  one_list (x ∷ xs) [] e a h = absurd (true≢false (sym (ap is_empty e)))
  one_list (x ∷ xs) (y ∷ ys) e a h =
      let b = and_true (t x.0) (all t (firsts_of xs)) a in
      let o = someones x.0 b.0 in
      let n = o.0 in
      ap₂ ◌∷◌ (first n (its n x.0) o.1 (both n)) (one_list xs ys (tail-eq_of_cons-eq e) b.1 (λ j. behind j (its j x.0) (both j)))
    where
      -- the heads are the same one's
      both : (n : N) → cond (its n x.0) (x ∷ kept n xs) (kept n xs) ≡ cond (its n x.0) (y ∷ kept n ys) (kept n ys)
      both n = h n ∙ ap (λ (k : A). cond (its n k) (y ∷ kept n ys) (kept n ys)) (sym (head-eq_of_cons-eq e))

      first : (n : N) (c : Bool) → c ≡ true → cond c (x ∷ kept n xs) (kept n xs) ≡ cond c (y ∷ kept n ys) (kept n ys) → x ≡ y
      first n true f g = head-eq_of_cons-eq g
      first n false f g = absurd (true≢false (sym f))

      behind : (n : N) (c : Bool) → cond c (x ∷ kept n xs) (kept n xs) ≡ cond c (y ∷ kept n ys) (kept n ys) → kept n xs ≡ kept n ys
      behind n true g = tail-eq_of_cons-eq g
      behind n false g = g

-- ---- lists in parts

-- two lists are one: so are their parts, if the first ones are as long
pub same_parts : {A : Type 0} (xs xs' ys ys' : List A) → length xs ≡ length xs' → xs ++ ys ≡ xs' ++ ys' → (xs ≡ xs') × (ys ≡ ys')
same_parts xs xs' ys ys' l e = (
  sym (take_at xs ys (length xs') l) ∙ ap (take (length xs')) e ∙ take_at xs' ys' (length xs') refl,
  sym (drop_at xs ys (length xs') l) ∙ ap (drop (length xs')) e ∙ drop_at xs' ys' (length xs') refl,
)

-- as many as their firsts
firsts_long : {A B : Type 0} (ts us : List (A × B)) → firsts_of ts ≡ firsts_of us → length ts ≡ length us
firsts_long ts us e = sym (length-map ts (λ t. t.0)) ∙ ap length e ∙ length-map us (λ t. t.0)

-- pairs with equal firsts, of which the seconds stand first in one list: the pairs are the same, and what stands behind
pub same_pairs : {A B : Type 0} (ts us : List (A × B)) (ys zs : List B) → firsts_of ts ≡ firsts_of us → map (λ t. t.1) ts ++ ys ≡ map (λ t. t.1) us ++ zs →
    (ts ≡ us) × (ys ≡ zs)
same_pairs [] [] ys zs e f = (refl, f)
same_pairs [] (u ∷ us) ys zs e f = absurd (true≢false (ap is_empty e))
same_pairs (t ∷ ts) [] ys zs e f = absurd (true≢false (sym (ap is_empty e)))
same_pairs (t ∷ ts) (u ∷ us) ys zs e f =
    let r = same_pairs ts us ys zs (tail-eq_of_cons-eq e) (tail-eq_of_cons-eq f) in
    (ap₂ ◌∷◌ (ap₂ (λ a b. (a, b)) (head-eq_of_cons-eq e) (head-eq_of_cons-eq f)) r.0, r.1)

-- ---- calls

module _ (l : Ledger) (ds es : List Call) (h : Reordered ds es) (k : Alike l ds es) where
  -- any answers to es that are of each developer what it is answered in the order ds
  pub answers_decided : (ts : List (Call × Answered)) → map (λ t. t.0) ts ≡ es → SameAnswers (answered_from l ds) ts → ts ≡ answered_from l es
  answers_decided ts e same =
      let each : SameAnswers (answered_from l ds) (answered_from l es) = k.answered in
      one_list own is_move someones ts (answered_from l es)
      (e ∙ sym (asked_with_answers step answer l es)) (ap (all is_move) e ∙ h.moves') (λ n. sym (same n) ∙ each n)

-- ---- lines

module _ {bytes bytes' : List ℕ} {bs ds es : List (List ℕ)} (h : ReorderedLines ds es) (k : RepliedAlike bytes bytes' bs ds es)
    (before midst midst' behind : List (List ℕ × List ℕ)) (w : AsReplied bytes bs ds es before midst midst' behind) where
  -- what the words say of the parts: w of these, k of those that there are
  lines_before_lem : firsts_of before ≡ firsts_of k.before
  lines_before_lem = let there : firsts_of k.before ≡ bs = k.one.asked.0 in w.asked.0 ∙ sym there

  lines_in_midst : firsts_of midst ≡ firsts_of k.midst
  lines_in_midst = let there : firsts_of k.midst ≡ ds = k.one.asked.1 in w.asked.1 ∙ sym there

  lines_in_midst' : firsts_of midst' ≡ firsts_of k.midst'
  lines_in_midst' = let there : firsts_of k.midst' ≡ es = k.one.asked.2 in w.asked.2 ∙ sym there

  one_record_lem : before ++ (midst ++ behind) ≡ k.before ++ (k.midst ++ k.behind)
  one_record_lem = let there : replied bytes ≡ k.before ++ (k.midst ++ k.behind) = k.one.parts in sym w.parts ∙ there

  each_developer : midst ≡ k.midst → SameReplies midst' k.midst'
  each_developer e n =
      let here : SameReplies midst midst' = w.each in
      let there : SameReplies k.midst k.midst' = k.one.each in
      sym (here n) ∙ ap (keep (λ t. line_own n t.0)) e ∙ there n

  other_record_lem : before ≡ k.before → midst' ≡ k.midst' → behind ≡ k.behind → before ++ (midst' ++ behind) ≡ replied bytes'
  other_record_lem e f g =
      let there : replied bytes' ≡ k.before ++ (k.midst' ++ k.behind) = k.other in
      ap₂ ◌++◌ e (ap₂ ◌++◌ f g) ∙ sym there

  the_parts : (before ≡ k.before) × (midst ≡ k.midst) × (behind ≡ k.behind)
  the_parts =
      let front = same_parts before k.before (midst ++ behind) (k.midst ++ k.behind) (firsts_long before k.before lines_before_lem) one_record_lem in
      let back = same_parts midst k.midst behind k.behind (firsts_long midst k.midst lines_in_midst) front.1 in
      (front.0, back.0, back.1)

  pub replies_decided : replied bytes' ≡ before ++ (midst' ++ behind)
  replies_decided =
      let there = one_list line_own (λ line. order_is_move (order_in line)) (λ line. order_someones (order_in line)) midst' k.midst' lines_in_midst'
      (ap (all (λ line. order_is_move (order_in line))) w.asked.2 ∙ h.moves') (each_developer the_parts.1) in
      sym (other_record_lem the_parts.0 there the_parts.2)
