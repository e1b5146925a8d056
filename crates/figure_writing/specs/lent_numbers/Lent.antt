-- What a call over lent numbers ensures. `old` and `new` are what was lent before and after.
use Rattle.std.specs.Prelude.{ℕ, ◌≡◌, cond, List, ◌++◌, eqb, length, take, Result, Ok, Err}
use Rattle.rules_numbers.specs.Tails.{laid}
use Rattle.rules_seats.specs.figures.Figures.{figures_refusal, lent_after}
use Rattle.engine_refusals.specs.Numbers.{number_of}
use Rattle.engine_refusals.specs.declared.Refusal.{Refusal}

-- the figures laid behind the first `at` of the lent numbers
unfoldable pub laid_behind : ℕ → List ℕ → List ℕ → List ℕ
laid_behind at figures old = laid (take at old ++ figures) old

-- the number n of a call that is refused by `refused` where that is not 0, and by 11 where the figures do not fit; and every lent number
pub record GivesFigures (refused : ℕ) (figures old new : List ℕ) (n : ℕ) : Type 0 where
  pub number : n ≡ figures_refusal refused figures (length old)
  pub lent : new ≡ lent_after n figures old

-- 0 or a refusal's number, and how many points or numbers were written, 0 in a refusal
pub record Counted : Type 0 where
  pub number : ℕ
  pub count : ℕ

abbrev pub counted_as : ℕ → ℕ → Counted
counted_as n count = record { number = n; count = count }

-- what an answer that counts says in numbers
abbrev pub counted_in : Result ℕ Refusal → Counted
counted_in (Ok n) = counted_as 0 n
counted_in (Err e) = counted_as (number_of e) 0

-- a call that nothing else refuses, and that counts what it writes: `count`, or 0 in a refusal
pub record Counts (count : ℕ) (figures old new : List ℕ) (r : Counted) : Type 0 where
  pub gives : GivesFigures 0 figures old new r.number
  pub counted : r.count ≡ cond (eqb r.number 0) count 0
