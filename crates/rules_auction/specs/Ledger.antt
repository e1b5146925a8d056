-- The calls, and what the ledger holds (document 01, Registration, Rounds and Closing price and award). Nothing here is the engine's.
use Rattle.std.specs.Prelude.{ℕ, Bool, cond, ◌||◌, List, [], eqb}
use Rattle.rules_numbers.specs.Lists.{last_or, member}

-- CE, D, M1, M2 and the opening price A (document 01, Demand)
pub record Settings : Type 0 where
  pub ce : ℕ
  pub d : ℕ
  pub m1 : ℕ
  pub m2 : ℕ
  pub a : ℕ

abbrev pub settings_of : ℕ → ℕ → ℕ → ℕ → ℕ → Settings
settings_of ce d m1 m2 a = record { ce = ce; d = d; m1 = m1; m2 = m2; a = a }

-- what a registration declares (document 01, Registration): the project, the kind of plant (1 existing, 2 new), study value, start day,
-- levels
pub record Declaration : Type 0 where
  pub project : ℕ
  pub kind : ℕ
  pub study : ℕ
  pub day : ℕ
  pub levels : List ℕ

-- the highest level declared, at which a developer's quantity starts (document 01, Registration)
abbrev pub highest_declared : Declaration → ℕ
highest_declared x = last_or 0 x.levels

-- v is one of the levels declared, or 0, which may always be offered (document 01, Registration)
abbrev pub declared_or_zero : List ℕ → ℕ → Bool
declared_or_zero levels v = eqb v 0 || member v levels

-- a step of an offer, or a withdrawal: at a price, down to a level (document 01, Rounds)
pub record Step : Type 0 where
  pub price : ℕ
  pub level : ℕ

-- What a registered developer does for itself: it makes an offer, or, an existing plant, lodges a withdrawal list (document 02, 5), of prices
-- and levels, of any lengths; or it takes back its offer (document 02, 7)
pub data Move : Type 0 where
  Offer : List ℕ → List ℕ → Move
  Lodge : List ℕ → List ℕ → Move
  Cancel : Move

-- The agent that a registration names (document 02, 10): the one with the developer's own number (frame 02), or this one (frame 08)
pub data Agency : Type 0 where
  Own : Agency
  Named : ℕ → Agency

-- the agent of developer n
abbrev pub agent_for : ℕ → Agency → ℕ
agent_for n Own = n
agent_for n (Named g) = g

-- The calls, with any arguments, absurd ones too. A registration and a move name the developer
pub data Call : Type 0 where
  SetUp : Settings → Call
  Register : ℕ → Agency → Declaration → Call
  Open : ℕ → Call
  By : ℕ → Move → Call
  Close : Call

-- the offer of a developer in the open round; one of no steps is an offer too
pub data Standing : Type 0 where
  none : Standing
  made : List Step → Standing

-- what is held of a developer number; `agent` is its agent (document 02, 10), `lodged` are the lodged steps that no closing has reached
-- (document 02, 5). Of one that is not registered, all is 0 or empty: `nobody`
pub record Developer : Type 0 where
  pub declared : Declaration
  pub agent : ℕ
  pub quantity : ℕ
  pub withdrawals : List Step
  pub offer : Standing
  pub lodged : List Step

-- The phases of document 01, Rounds. Fresh: before set-up. Ready: set up, no round opened yet. Round: a round is open. Between: a round
-- was closed, another may be opened. Closed: the auction is closed
pub data Phase : Type 0 where
  Fresh : Phase
  Ready : Phase
  Round : Phase
  Between : Phase
  Closed : Phase

-- The ledger, a term of document 01 (Closing price and award). `opening` and `closing` are the prices of the open or else the latest
-- round, 0 before the first; so between rounds and after the last, `closing` is the last C
pub record Ledger : Type 0 where
  pub phase : Phase
  pub settings : Settings
  pub opening : ℕ
  pub closing : ℕ
  pub developers : ℕ → Developer

-- under a number that is not registered
abbrev pub nobody : Developer
nobody = record {
  declared = record { project = 0; kind = 0; study = 0; day = 0; levels = [] };
  agent = 0;
  quantity = 0;
  withdrawals = [];
  offer = none;
  lodged = [];
}

-- the ledger starts empty
abbrev pub start : Ledger
start = record {
  phase = Fresh;
  settings = record { ce = 0; d = 0; m1 = 0; m2 = 0; a = 0 };
  opening = 0;
  closing = 0;
  developers = λ _. nobody;
}

-- ---- the same with one part replaced

-- developer n is x, the others stay
abbrev pub put : ℕ → Developer → (ℕ → Developer) → ℕ → Developer
put n x f m = cond (eqb m n) x (f m)

abbrev pub with_phase : Ledger → Phase → Ledger
with_phase l p = record { phase = p; settings = l.settings; opening = l.opening; closing = l.closing; developers = l.developers }

abbrev pub with_settings : Ledger → Settings → Ledger
with_settings l s = record { phase = l.phase; settings = s; opening = l.opening; closing = l.closing; developers = l.developers }

-- a round's opening price and C
abbrev pub with_prices : Ledger → ℕ → ℕ → Ledger
with_prices l o c = record { phase = l.phase; settings = l.settings; opening = o; closing = c; developers = l.developers }

abbrev pub with_developers : Ledger → (ℕ → Developer) → Ledger
with_developers l f = record { phase = l.phase; settings = l.settings; opening = l.opening; closing = l.closing; developers = f }

abbrev pub with_developer : Ledger → ℕ → Developer → Ledger
with_developer l n x = with_developers l (put n x l.developers)

-- a developer's course: its quantity, withdrawals, offer and lodged steps; what its registration declared stays
abbrev pub with_course : Developer → ℕ → List Step → Standing → List Step → Developer
with_course x q ws o ls = record { declared = x.declared; agent = x.agent; quantity = q; withdrawals = ws; offer = o; lodged = ls }

abbrev pub with_offer : Developer → Standing → Developer
with_offer x o = with_course x x.quantity x.withdrawals o x.lodged

abbrev pub with_lodged : Developer → List Step → Developer
with_lodged x ss = with_course x x.quantity x.withdrawals x.offer ss

-- a developer of agent g at its registration
abbrev pub newcomer : ℕ → Declaration → Developer
newcomer g x = record { declared = x; agent = g; quantity = highest_declared x; withdrawals = []; offer = none; lodged = [] }
