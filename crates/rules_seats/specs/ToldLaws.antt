-- The answers along the moments of a run are those to the developer's own calls.
use Rattle.std.specs.Prelude.{ℕ, ◌≡◌, refl, Bool, true, false, cond, ◌&&◌, eqb}
use Rattle.std.proofs.Common.{sym, ap, ◌∙◌}
use mathlib.Core.List.{List, [], ◌∷◌, ◌++◌, map, flatten, append_assoc}
use Rattle.rules_auction.specs.Rounds.{Answered}
use Rattle.rules_seats.specs.Seats.{At, Seated, HallLedger, fresh_hall, hall_answer, hall_step, hall_answers_from, hall_answers, published, reading}
use Rattle.rules_seats.specs.Views.{same_values, Asked, ForIt, Changed, own_seat, is_for, asked_by, made_for, changes, shown, Moment, answers_at, moment_of}
use Rattle.rules_seats.specs.Views.{moments, told_from, told, own_answers}

abbrev answers_of : List Moment → List Answered
answers_of ps = flatten (map (λ p. p.answers) ps)

answers_append : (ps qs : List Moment) → answers_of (ps ++ qs) ≡ answers_of ps ++ answers_of qs
unfolding flatten
answers_append [] qs = refl
answers_append (p ∷ ps) qs = ap (λ (rs : List Answered). p.answers ++ rs) (answers_append ps qs)
    ∙ sym (append_assoc p.answers (answers_of ps) (answers_of qs))

answers_at_lem : (n : ℕ) (h : HallLedger) (m : Seated) → answers_of (moments n h m) ≡ cond (own_seat n m.seat) (hall_answer h m ∷ []) []
unfolding moments shown asked_by made_for changes answers_at flatten
answers_at_lem n h m =
    go (own_seat n m.seat) (is_for n m.call && eqb (hall_answer h m).number 0) (same_values (published h) (published (hall_step h m)))
  where
    go :
        (a b c : Bool) →
        answers_of (map (moment_of (hall_answer h m) (reading (hall_step h m) (At n)))
        (cond a (Asked m.call ∷ []) [] ++ (cond b (ForIt m.call ∷ []) [] ++ cond c [] (Changed (published (hall_step h m)) ∷ []))))
        ≡ cond a (hall_answer h m ∷ []) []
    go true true true = refl
    go true true false = refl
    go true false true = refl
    go true false false = refl
    go false true true = refl
    go false true false = refl
    go false false true = refl
    go false false false = refl

told_answers : (n : ℕ) (h : HallLedger) (ms : List Seated) → own_answers n ms (hall_answers_from h ms) ≡ answers_of (told_from n h ms)
unfolding own_answers hall_answers_from told_from flatten
told_answers n h [] = refl
told_answers n h (m ∷ ms) =
    go (own_seat n m.seat) (told_answers n (hall_step h m) ms)
    ∙ ap (λ (rs : List Answered). rs ++ answers_of (told_from n (hall_step h m) ms)) (sym (answers_at_lem n h m))
    ∙ sym (answers_append (moments n h m) (told_from n (hall_step h m) ms))
  where
    go :
        (b : Bool) {xs ys : List Answered} → xs ≡ ys →
        cond b (hall_answer h m ∷ xs) xs ≡ cond b (hall_answer h m ∷ []) [] ++ ys
    go true e = ap (λ (rs : List Answered). hall_answer h m ∷ rs) e
    go false e = e

-- so they are the same where the moments are
pub same_answers : (n : ℕ) (ms ms' : List Seated) → told n ms ≡ told n ms' → own_answers n ms (hall_answers ms) ≡ own_answers n ms' (hall_answers ms')
unfolding told hall_answers
same_answers n ms ms' e = told_answers n fresh_hall ms ∙ ap answers_of e ∙ sym (told_answers n fresh_hall ms')
