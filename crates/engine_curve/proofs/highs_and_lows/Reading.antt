-- The developers' highest levels and lows, read place by place.
use Prim.Native.Nat.{ℕ, suc, ◌+◌, ◌≤◌, ◌<◌}
use mathlib.Core.Path.{◌≡◌, ap, ◌∙◌, subst}
use mathlib.Core.List.{List}
use native.Mathlib.Omega.{arith}
use lib.Dec.{leb}
use lib.ListN.{length, get_or, set}
use Rattle.rules_numbers.specs.Lists.{last_or}
use Rattle.rules_numbers.specs.ListLaws.{numbered_nth}
use Rattle.rules_auction.specs.Ledger.{Ledger}
use Rattle.rules_auction.specs.Clearing.{highest, quantity_after, low, of_each}
use Rattle.laws_ledger.specs.Sound.{Sound}
use Rattle.laws_ledger.specs.reachable.Bounds.{history_few}
use Rattle.engine_held.specs.levels.Held.{held_levels, levels_in, levels_read}
use Rattle.engine_held.specs.declared.levels.Levels.{Levels}
use Rattle.engine_held.specs.history.Held.{LevelAt}
use Rattle.engine_held.specs.declared.history.History.{History}
use Rattle.engine_moves.specs.closing_entries.Courses.{held_course}
use Rattle.engine_moves.specs.closing_entries.Places.{Filling, filling_next, filling_all}
use Rattle.engine_curve.specs.highs_and_lows.Lows.{Highests, Lows}

module _ (declared : List Levels) (out : List ℕ) (d : Levels) where
  pub highests_read : length out ≡ 32 → ((i : ℕ) → i < 32 → get_or out i 0 ≡ last_or 0 (levels_in (get_or declared i d))) → Highests declared out
  highests_read long read = record {
    highest_are = λ l s h. filling_all _ 0 out (record {
      long = long;
      done = λ i w. read i w
          ∙ ap (λ (x : Levels). last_or 0 (levels_in x)) (numbered_nth (λ n. held_levels (l.developers n).declared.levels) 32 declared i d h w)
          ∙ ap (last_or 0) (levels_read (l.developers (suc i)).declared.levels);
    });
  }

pub record LowTurn (histories : List History) (firsts : List ℕ) (p : ℕ) (out : List ℕ) (i : ℕ) : Type 0 where
  pub within : i ≤ 32
  pub part : (l : Ledger) → Sound l → histories ≡ of_each held_course l → firsts ≡ of_each highest l → Filling (λ n. low p (l.developers n)) 0 out i

pub low_first : (histories : List History) (firsts : List ℕ) (p : ℕ) (out : List ℕ) → length out ≡ 32 → LowTurn histories firsts p out 0
low_first histories firsts p out e = record { within = omega arith; part = λ l s h g. record { long = e; done = λ j w. absurd (omega arith) } }

pub low_next : (histories : List History) (firsts : List ℕ) (p : ℕ) (out : List ℕ) (i : ℕ) (d : History) (v : ℕ) → LowTurn histories firsts p out i →
    i < 32 → LevelAt (get_or histories i d) (get_or firsts i 0) p v → LowTurn histories firsts p (set out i v) (i + 1)
unfolding low
low_next histories firsts p out i d v t w r = record {
  within = omega arith;
  part = λ l s h g. filling_next _ 0 out i v (t.part l s h g) w
      (r.level_at (l.developers (suc i)).withdrawals (l.developers (suc i)).offer (l.developers (suc i)).lodged
      (numbered_nth (λ n. held_course (l.developers n)) 32 histories i d h w) (history_few l s (suc i))
      ∙ ap (λ (q : ℕ). quantity_after (leb p) q (l.developers (suc i)).withdrawals) (numbered_nth (λ n. highest (l.developers n)) 32 firsts i 0 g w));
}

pub low_all : (histories : List History) (firsts : List ℕ) (p : ℕ) (out : List ℕ) (i : ℕ) → LowTurn histories firsts p out i → 32 ≤ i →
    Lows histories firsts p out
low_all histories firsts p out i t w =
    let e : i ≡ 32 = let z = t.within in omega arith in
    record { lows_are = λ l s h g. filling_all _ 0 out (subst (λ (k : ℕ). Filling (λ n. low p (l.developers n)) 0 out k) e (t.part l s h g)) }
