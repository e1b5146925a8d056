-- The numbers of a settlement, in the order of the fields.
use Rattle.std.specs.Prelude.{ℕ, ◌≡◌, cond, List, [], ◌∷◌}
use Rattle.std.proofs.Common.{ap}
use Rattle.engine_settling.specs.Settles.{Settled}
use Rattle.reply_values.proofs.settling_values.Goals as goal
use Rattle.reply_values.proofs.settling_values.Goals.{After-mark-2}

head_of : Settled → List ℕ
head_of x = x.price ∷ x.demand ∷ x.total ∷ x.choices ∷ x.covering ∷ x.records ∷ 0 ∷ 0 ∷ []

tail_of : Settled → List ℕ
tail_of x = x.remainder ∷ x.second ∷ cond x.short 1 0 ∷ cond x.insufficient 1 0 ∷ x.paid ∷ 0 ∷ 0 ∷ 0 ∷ []

-- the second mark is that of participation
marked : (c : After-mark-2) → c.mark-2.result ≡ cond c.args.settlement.insufficient 1 0
marked c = c.mark-2.ensures

pub returns : goal.returns
unfolding head_of tail_of
returns c = λ s e. record { head = ap head_of e; tail = rw (c.mark.ensures, marked (goal.at.returns c).After-mark-2) (ap tail_of e) }
