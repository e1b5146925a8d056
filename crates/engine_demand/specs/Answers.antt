-- What the demand call's answer says in numbers and values.
use Rattle.std.specs.Prelude.{Result, Ok, Err}
use Rattle.rules_demand.specs.Answer.{Answer}
use Rattle.engine_refusals.specs.Numbers.{number_of}
use Rattle.engine_refusals.specs.declared.Refusal.{Refusal}
use Rattle.engine_demand.specs.declared.Demanded.{Demanded}

-- accepted, Dem(p) with its remainder; a refusal's number, with 0 in every other place
abbrev pub demanded_in : Result Demanded Refusal → Answer
demanded_in (Ok x) = record { number = 0; value = x.quantity; remainder = x.remainder }
demanded_in (Err e) = record { number = number_of e; value = 0; remainder = 0 }
