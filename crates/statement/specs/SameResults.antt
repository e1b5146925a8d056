-- An answer in numbers says which result it is: of a settling, and of a frame written.
use Rattle.std.specs.Prelude.{ℕ, ◌≡◌, Result, Ok, Err}
use Rattle.std.proofs.Common.{sym, ap}
use Rattle.engine_refusals.specs.NumberLaws.{number_not_0}
use Rattle.engine_refusals.specs.declared.Refusal.{Refusal}
use Rattle.engine_settling.specs.Settles.{Settled, settled_in}
use Rattle.engine_settling.specs.declared.Settlement.{Settlement}
use Rattle.frame_writing.specs.Encodes.{Written, written_in}
use Rattle.statement.specs.RefusalNumbers.{number_determines}

pub settled_determines : (r r' : Result Settlement Refusal) → settled_in r ≡ settled_in r' → r ≡ r'
settled_determines (Ok s) (Ok t) h = λ i. Ok (record {
  price = (h i).price;
  demand = (h i).demand;
  remainder = (h i).remainder;
  total = (h i).total;
  choices = (h i).choices;
  covering = (h i).covering;
  kept = (h i).kept;
  second = (h i).second;
  short = (h i).short;
  insufficient = (h i).insufficient;
  paid = (h i).paid;
  records = (h i).records;
})
settled_determines (Ok s) (Err f) h = absurd (number_not_0 f (sym (ap (λ (x : Settled). x.number) h)))
settled_determines (Err e) (Ok t) h = absurd (number_not_0 e (ap (λ (x : Settled). x.number) h))
settled_determines (Err e) (Err f) h = ap Err (number_determines e f (ap (λ (x : Settled). x.number) h))

pub written_determines : (r r' : Result ℕ Refusal) → written_in r ≡ written_in r' → r ≡ r'
written_determines (Ok m) (Ok n) h = λ i. Ok (h i).bytes
written_determines (Ok m) (Err f) h = absurd (number_not_0 f (sym (ap (λ (x : Written). x.number) h)))
written_determines (Err e) (Ok n) h = absurd (number_not_0 e (ap (λ (x : Written). x.number) h))
written_determines (Err e) (Err f) h = ap Err (number_determines e f (ap (λ (x : Written). x.number) h))
