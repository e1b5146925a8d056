-- Which calls are refused, and by which number (document 01, Registration, Rounds and The twelve numbers).
use Rattle.std.specs.Prelude.{ℕ, ◌/◌, ◌*◌, Bool, true, false, cond, not, ◌&&◌, ◌||◌, List, [], ◌∷◌, leb, ltb, eqb, length}
use Rattle.rules_numbers.specs.Lists.{all}
use Rattle.rules_demand.specs.Demand.{in_bounds}
use Rattle.rules_auction.specs.Ledger.{Settings, Declaration, declared_or_zero, Move, Offer, Lodge, Cancel, agent_for, Call, SetUp, Register, Open, By}
use Rattle.rules_auction.specs.Ledger.{Close, Standing, none, made, Developer, Phase, Fresh, Ready, Round, Between, Closed, Ledger}
use Rattle.rules_auction.specs.Clearing.{highest, developers_of, covered}

-- ---- the phase that accepts a call (document 01, Rounds)

-- accepts set-up
abbrev pub is_fresh : Phase → Bool
is_fresh Fresh = true
is_fresh Ready = false
is_fresh Round = false
is_fresh Between = false
is_fresh Closed = false

-- accepts registrations and lodgings; the next opening is the first
abbrev pub is_ready : Phase → Bool
is_ready Fresh = false
is_ready Ready = true
is_ready Round = false
is_ready Between = false
is_ready Closed = false

-- accepts an opening
abbrev pub may_open : Phase → Bool
may_open Fresh = false
may_open Ready = true
may_open Round = false
may_open Between = true
may_open Closed = false

-- accepts offers, cancellations and closing
abbrev pub in_round : Phase → Bool
in_round Fresh = false
in_round Ready = false
in_round Round = true
in_round Between = false
in_round Closed = false

-- accepts settling
abbrev pub is_closed : Phase → Bool
is_closed Fresh = false
is_closed Ready = false
is_closed Round = false
is_closed Between = false
is_closed Closed = true

-- accepts the question who can force the price (document 02, 11): between rounds, after at least one closed round
abbrev pub is_between : Phase → Bool
is_between Fresh = false
is_between Ready = false
is_between Round = false
is_between Between = true
is_between Closed = false

-- ---- set-up (document 01, Demand)

-- the settings within their bounds, and CE/2 < A <= 2 CE
unfoldable pub settings_ok : Settings → Bool
settings_ok s = in_bounds s.ce s.d s.m1 s.m2 && ltb (s.ce / 2) s.a && leb s.a (2 * s.ce)

-- ---- registration (document 01, Registration)

-- projects and developers have numbers 1 to 32
abbrev pub is_number : ℕ → Bool
is_number n = leb 1 n && leb n 32

-- project k and developer n have numbers 1 to 32, and the developer's is not used: the project under which it is registered is 0
unfoldable pub numbers_ok : ℕ → ℕ → ℕ → Bool
numbers_ok k n project = is_number k && is_number n && eqb project 0

-- an existing plant, or a new one
abbrev pub is_kind : ℕ → Bool
is_kind kind = eqb kind 1 || eqb kind 2

-- strictly rising from above v, at most 10^9
unfoldable pub rising : ℕ → List ℕ → Bool
rising v [] = true
rising v (x ∷ xs) = ltb v x && leb x 1000000000 && rising x xs

-- 1 to 8 levels, strictly rising, the first above 0, the last at most 10^9
unfoldable pub levels_ok : List ℕ → Bool
levels_ok ls = leb 1 (length ls) && leb (length ls) 8 && rising 0 ls

-- an existing project has one developer; a new project may have several, all of kind 2
unfoldable pub may_join : Ledger → ℕ → ℕ → Bool
may_join l k kind = all (λ m. eqb kind 2 && eqb (l.developers m).declared.kind 2) (developers_of l k)

-- kind 1 or 2, good levels, and a project that the developer may join
unfoldable pub declaration_ok : Ledger → Declaration → Bool
declaration_ok l x = is_kind x.kind && levels_ok x.levels && may_join l x.project x.kind

-- ---- opening (document 01, Rounds)

-- the floor is CE/2 (document 01, Demand)
abbrev pub floor : Ledger → ℕ
floor l = l.settings.ce / 2

-- a round's opening price is A, or the previous C
unfoldable pub opening_price : Ledger → ℕ
opening_price l = cond (is_ready l.phase) l.settings.a l.closing

-- C is at least the floor and below the opening price
unfoldable pub closing_ok : Ledger → ℕ → Bool
closing_ok l c = leb (floor l) c && ltb c (opening_price l)

-- at the first opening A is covered
unfoldable pub start_covered : Ledger → Bool
start_covered l = not (is_ready l.phase) || covered l l.settings.a

-- ---- offers (document 01, Rounds)

-- one accepted offer per developer and round: none stands yet
abbrev pub is_none : Standing → Bool
is_none none = true
is_none (made ss) = false

-- the number n, under which this kind is registered, is that of a developer of kind k: one of kind 2 alone makes offers, one of kind 1 alone
-- lodges a withdrawal list (document 02, 5)
unfoldable pub is_of_kind : ℕ → ℕ → ℕ → Bool
is_of_kind k n kind = is_number n && eqb kind k

-- prices fall strictly from below o, and are at least c
unfoldable pub falling : ℕ → ℕ → List ℕ → Bool
falling c o [] = true
falling c o (p ∷ ps) = leb c p && ltb p o && falling c p ps

-- price and level lists of equal length, at most 8 steps, prices from c to o less 1: of an offer, from C to the opening price less 1; of a
-- lodged list, from the floor to A less 1 (document 02, 5)
unfoldable pub prices_ok : ℕ → ℕ → List ℕ → List ℕ → Bool
prices_ok c o ps qs = eqb (length ps) (length qs) && leb (length ps) 8 && falling c o ps

-- each level is declared or 0, and strictly below the quantity before it (activity rule, 3.10)
unfoldable pub lowering : List ℕ → ℕ → List ℕ → Bool
lowering declared q [] = true
lowering declared q (v ∷ vs) = declared_or_zero declared v && ltb v q && lowering declared v vs

-- ---- the refusal of a call, or 0: the first check that fails gives its number (document 01, The twelve numbers)

-- the refusal n where the check fails, what follows where it passes
abbrev pub check : Bool → ℕ → ℕ → ℕ
check passes n next = cond passes next n

-- of a move of developer n, whose entry is x: no other developer's entry counts. Offer 2, 3, 8, 6, 7; lodging 2, 15, 6, 7, its levels from
-- the highest declared down (document 02, 5); cancellation 2, 3, 16 (document 02, 7)
unfoldable pub move_refusal : Ledger → ℕ → Developer → Move → ℕ
move_refusal l n x (Offer ps qs) =
    check (in_round l.phase) 2
    (check (is_of_kind 2 n x.declared.kind) 3
    (check (is_none x.offer) 8
    (check (prices_ok l.closing l.opening ps qs) 6
    (check (lowering x.declared.levels x.quantity qs) 7 0))))
move_refusal l n x (Lodge ps qs) =
    check (is_ready l.phase) 2
    (check (is_of_kind 1 n x.declared.kind) 15
    (check (prices_ok (floor l) l.settings.a ps qs) 6
    (check (lowering x.declared.levels (highest x) qs) 7 0)))
move_refusal l n x Cancel =
    check (in_round l.phase) 2 (check (is_of_kind 2 n x.declared.kind) 3 (check (not (is_none x.offer)) 16 0))

-- set-up 2, 1; registration 2, 3, 4, its agent's number tested with the others (document 02, 10); opening 2, 5, 9; closing 2
unfoldable pub refusal : Ledger → Call → ℕ
refusal l (SetUp s) = check (is_fresh l.phase) 2 (check (settings_ok s) 1 0)
refusal l (Register n w x) =
    check (is_ready l.phase) 2
    (check (numbers_ok x.project n (l.developers n).declared.project) 3
    (check (is_number (agent_for n w)) 3
    (check (declaration_ok l x) 4 0)))
refusal l (Open c) =
    check (may_open l.phase) 2
    (check (closing_ok l c) 5
    (check (start_covered l) 9 0))
refusal l (By n m) = move_refusal l n (l.developers n) m
refusal l Close = check (in_round l.phase) 2 0
