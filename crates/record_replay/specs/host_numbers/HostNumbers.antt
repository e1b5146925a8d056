-- What a C host gets of an answer: one number of 64 bits (document 01, Frames, the C host).
use Rattle.std.specs.Prelude.{ℕ, ◌-◌, ◌^◌, cond, eqb, Result, Ok, Err}
use Rattle.rules_demand.specs.Answer.{Answer}
use Rattle.engine_refusals.specs.Numbers.{number_of}
use Rattle.engine_refusals.specs.declared.Refusal.{Refusal}

-- a value, or for a refusal 2^64 less its number
abbrev value_or : Answer → ℕ → ℕ
value_or a value = cond (eqb a.number 0) value (2 ^ 64 - a.number)

unfoldable pub host_number : Answer → ℕ
host_number a = value_or a a.value

-- the same of the remainder (document 02, 4)
unfoldable pub host_remainder : Answer → ℕ
host_remainder a = value_or a a.remainder

-- an answer of a number and a value alone
abbrev pub value_answer : ℕ → ℕ → Answer
value_answer n v = record { number = n; value = v; remainder = 0 }

-- what a call answers, as such a number and value: 0 and the value, or its refusal's number and 0
abbrev pub answered : Result ℕ Refusal → Answer
answered (Ok v) = value_answer 0 v
answered (Err e) = value_answer (number_of e) 0
