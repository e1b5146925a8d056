-- The number by what the auction holds is the ledger's; where it is 0, what is played is the ledger's game.
use Prim.Native.Nat.{ℕ, ◌-◌, ◌≤◌, ◌<◌, ◌^◌}
use mathlib.Core.Path.{◌≡◌, refl, sym, ap, ◌∙◌, subst}
use mathlib.Core.Bool.{Bool}
use mathlib.Core.List.{List}
use native.Mathlib.Omega.{arith}
use lib.ListN.{length, get_or}
use Rattle.rules_auction.specs.Ledger.{Ledger}
use Rattle.rules_auction.specs.Rounds.{ledger}
use Rattle.laws_ledger.specs.Sound.{Sound}
use Rattle.laws_ledger.specs.reachable.Reachable.{sound}
use Rattle.rules_forcing.specs.Forcing.{forcing_refusal, forced_outcome, first_move}
use Rattle.rules_forcing.specs.ForcingLaws.{list_facts}
use Rattle.engine_looks.specs.forcing_checks.Asking.{asked_in}
use Rattle.engine_looks.specs.forcing_checks.AskingLaws.{Pair, Question, question_facts, asked_back}
use Rattle.engine_looks.specs.declared.rivals.Rival.{Rival}
use Rattle.engine_looks.specs.declared.rivals.Supplies.{Supplies}
use Rattle.engine_looks.specs.declared.rivals.Game.{Game}
use Rattle.engine_looks.specs.rivals.Plain.{Held, high_in, withdraws_by, withdraws_in}
use Rattle.engine_auction.specs.declared.Auction.{Auction}
use Rattle.engine_auction.specs.Holds.{held_auction, Holding}
use Rattle.engine_auction.proofs.DeveloperHeld.{quantity_at_lem}
use Rattle.engine_looks.specs.forcing.Forces.{refused_forcing, ForcesPrice}
use Rattle.engine_looks.specs.forcing.Playing.{keeping, supplies_of, game_of, Fitting}
use Rattle.engine_looks.proofs.forcing.Games.{game_held, game, value_played, move_played}

module _ (a : Auction) (m n : ℕ) (ps : List ℕ) where
  -- ---- the number

  number_held : Holding a (λ l. forcing_refusal (asked_in a) m n ps ≡ forcing_refusal l m n ps)
  number_held l s h = ap (λ (x : Auction). forcing_refusal (asked_in x) m n ps) h ∙ asked_back l m n s ps

  pub forcing_refused : (k : ℕ) → k ≡ forcing_refusal (asked_in a) m n ps → (k ≡ 0 → ⊥) → ForcesPrice a m n ps (refused_forcing k)
  forcing_refused k f z = record {
    same = λ _. refl;
    number = λ cs h. f ∙ number_held (ledger cs) (sound cs) h;
    answer = λ cs h w. absurd (z w);
  }

  -- ---- the answer

  module _ (e : 0 ≡ forcing_refusal (asked_in a) m n ps) where
    question : Question (asked_in a) m n ps
    question = question_facts (asked_in a) m n ps (sym e)

    pub pair : Pair m n
    pair = question.pair

    at_most_ten : length ps ≤ 10
    at_most_ten = (list_facts (asked_in a) ps question.list).1

    pub fitting : a.clock.closing < 2 ^ 32 → Fitting ps
    fitting w = record { at_most_ten = at_most_ten; each = λ p i. let b = (list_facts (asked_in a) ps question.list).2 p i in omega arith }

    -- the game as it is played
    abbrev played : Auction → Game
    played x = game_of x.clock.settings x.clock.closing (supplies_of x.projects x.quantities (m - 1) (n - 1)) ps

    module _ (s : Supplies) (g : Game) (es : s ≡ supplies_of a.projects a.quantities (m - 1) (n - 1))
        (eg : g ≡ game_of a.clock.settings a.clock.closing s ps) where
      game_is : g ≡ played a
      game_is = eg ∙ ap (λ (t : Supplies). game_of a.clock.settings a.clock.closing t ps) es

      pub played_held : Held g
      played_held = subst Held (sym game_is) (game_held a.clock.settings _ _ ps at_most_ten)

      module _ (x y : Rival) (ex : x ≡ keeping (get_or a.quantities (m - 1) 0)) (ey : y ≡ keeping (get_or a.quantities (n - 1) 0)) where
        module _ (l : Ledger) (sound_l : Sound l) (h : a ≡ held_auction l) where
          ours_asked : Question l m n ps
          ours_asked = question_facts l m n ps (sym (number_held l sound_l h) ∙ sym e)

          -- the ledger's game
          abbrev ours : Game
          ours = game sound_l ours_asked.between m n pair ps ours_asked.list

          ours_is : g ≡ ours
          unfolding held_auction
          ours_is = game_is ∙ ap played h

          first_is : x ≡ keeping (l.developers m).quantity
          first_is = ex ∙ ap keeping (quantity_at_lem m a l h pair.first_low pair.first_high)

          second_is : y ≡ keeping (l.developers n).quantity
          second_is = ey ∙ ap keeping (quantity_at_lem n a l h pair.second_low pair.second_high)

          value_is : high_in g 0 x y ≡ forced_outcome l m n ps
          value_is = (λ i. high_in (ours_is i) 0 (first_is i) (second_is i)) ∙ value_played sound_l ours_asked.between m n pair ps ours_asked.list

          move_is : withdraws_in g x y ≡ withdraws_by (first_move l m n ps)
          move_is = (λ i. withdraws_in (ours_is i) (first_is i) (second_is i)) ∙ move_played sound_l ours_asked.between m n pair ps ours_asked.list

        pub forcing_answered :
            (v : ℕ) (w : Bool) → v ≡ high_in g 0 x y → w ≡ withdraws_in g x y →
            ForcesPrice a m n ps (record { number = 0; outcome = v; withdraws = w })
        forcing_answered v w ev ew = record {
          same = λ f. absurd (f refl);
          number = λ cs h. e ∙ number_held (ledger cs) (sound cs) h;
          answer = λ cs h _ i. record {
            number = 0;
            outcome = (ev ∙ value_is (ledger cs) (sound cs) h) i;
            withdraws = (ew ∙ move_is (ledger cs) (sound cs) h) i;
          };
        }
