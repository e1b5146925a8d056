-- Two lists with the same accepted calls, computed (document 02, 8): the one holds no others, in the other calls are refused before, between and
-- behind them; so both have one ledger.
use Rattle.std.specs.Prelude.{◌≡◌, refl, List, [], ◌∷◌}
use Rattle.rules_auction.specs.Ledger.{Offer, Cancel, Own, Call, SetUp, Register, Open, By, Close, start}
use Rattle.rules_auction.specs.Rounds.{ledger}
use Rattle.rules_auction.specs.Computing.{call_refusals}
use Rattle.laws_ledger.specs.reachable.AcceptedCalls.{accepted_from, accepted_calls, same_accepted}

abbrev setting_up : Call
setting_up = SetUp (record { ce = 20000; d = 1000; m1 = 900; m2 = 1200; a = 40000 })

abbrev existing : Call
existing = Register 1 Own (record { project = 1; kind = 1; study = 0; day = 0; levels = 820 ∷ [] })

abbrev new_plant : Call
new_plant = Register 2 Own (record { project = 2; kind = 2; study = 0; day = 0; levels = 200 ∷ [] })

abbrev offering : Call
offering = By 2 (Offer (26000 ∷ []) (0 ∷ []))

-- one round from set-up to its closing
abbrev pub plain : List Call
plain = setting_up ∷ existing ∷ new_plant ∷ Open 25000 ∷ offering ∷ Close ∷ []

abbrev pub with_refused : List Call
with_refused =
    Close ∷ setting_up ∷ setting_up ∷ existing ∷ offering ∷ new_plant ∷ new_plant ∷ Open 40001 ∷ Open 25000 ∷ offering ∷ offering ∷ By 1 Cancel
    ∷ Close ∷ Close ∷ []

pub refused_between : call_refusals start with_refused ≡ 2 ∷ 0 ∷ 2 ∷ 0 ∷ 2 ∷ 0 ∷ 3 ∷ 5 ∷ 0 ∷ 0 ∷ 8 ∷ 3 ∷ 0 ∷ 2 ∷ []
unfolding call_refusals
refused_between = refl

pub same_calls : accepted_calls plain ≡ accepted_calls with_refused
unfolding call_refusals accepted_from accepted_calls
same_calls = refl

pub one_ledger : ledger plain ≡ ledger with_refused
one_ledger = same_accepted plain with_refused same_calls
