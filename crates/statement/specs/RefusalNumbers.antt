-- A refusal's number says which refusal it is, and the number by which a call is refused is that of one of them. So an answer in numbers is the answer
-- of some result.
use Rattle.std.specs.Prelude.{ℕ, ◌-◌, ◌≡◌, Bool, true, false, not, List, [], ◌∷◌, get_or}
use Rattle.std.proofs.Common.{sym, ap, ◌∙◌}
use Rattle.std.proofs.Math.Path.{refl}
use Rattle.rules_auction.specs.Ledger.{Developer, Move, Offer, Lodge, Cancel, agent_for, Call, SetUp, Register, Open, By, Close, Ledger}
use Rattle.rules_auction.specs.Clearing.{highest}
use Rattle.rules_auction.specs.Refusals.{is_fresh, is_ready, may_open, in_round, settings_ok, is_number, numbers_ok, declaration_ok, floor, closing_ok}
use Rattle.rules_auction.specs.Refusals.{start_covered, is_none, is_of_kind, prices_ok, lowering, check, move_refusal, refusal}
use Rattle.engine_refusals.specs.Numbers.{number_of}
use Rattle.engine_refusals.specs.declared.Refusal.{Refusal}
use Rattle.engine_refusals.specs.declared.Refusal.TheVariants.{BeyondBounds, NotInThisPhase, BadNumber, BadRegistration, BadRoundPrice, BadSteps, BadLevel, SecondOffer, OpeningNotCovered, AboveTheLimit}
use Rattle.engine_refusals.specs.declared.Refusal.TheVariants.{BufferTooShort, MalformedLine, FrameBufferTooShort, NotWritable, NoExistingPlant, NoStandingOffer, NoSuchGame, SealedOutOfBounds, AboveTheCeiling, NoRight}

-- ---- the number says which it is

-- 1 to 20
abbrev in_order : List Refusal
in_order =
    BeyondBounds ∷ NotInThisPhase ∷ BadNumber ∷ BadRegistration ∷ BadRoundPrice ∷ BadSteps ∷ BadLevel ∷ SecondOffer ∷ OpeningNotCovered ∷ AboveTheLimit
    ∷ BufferTooShort ∷ MalformedLine ∷ FrameBufferTooShort ∷ NotWritable ∷ NoExistingPlant ∷ NoStandingOffer ∷ NoSuchGame ∷ SealedOutOfBounds
    ∷ AboveTheCeiling ∷ NoRight ∷ []

abbrev numbered : ℕ → Refusal
numbered n = get_or in_order (n - 1) BeyondBounds

numbered_back : (e : Refusal) → numbered (number_of e) ≡ e
numbered_back BeyondBounds = refl
numbered_back NotInThisPhase = refl
numbered_back BadNumber = refl
numbered_back BadRegistration = refl
numbered_back BadRoundPrice = refl
numbered_back BadSteps = refl
numbered_back BadLevel = refl
numbered_back SecondOffer = refl
numbered_back OpeningNotCovered = refl
numbered_back AboveTheLimit = refl
numbered_back BufferTooShort = refl
numbered_back MalformedLine = refl
numbered_back FrameBufferTooShort = refl
numbered_back NotWritable = refl
numbered_back NoExistingPlant = refl
numbered_back NoStandingOffer = refl
numbered_back NoSuchGame = refl
numbered_back SealedOutOfBounds = refl
numbered_back AboveTheCeiling = refl
numbered_back NoRight = refl

pub number_determines : (e f : Refusal) → number_of e ≡ number_of f → e ≡ f
number_determines e f h = sym (numbered_back e) ∙ ap numbered h ∙ numbered_back f

-- ---- a call is refused by one of them

-- n is 0, or the number of a refusal
abbrev pub Numbered : ℕ → Type 0
Numbered n = (n ≡ 0 → ⊥) → (e : Refusal) × (number_of e ≡ n)

accepted_named : Numbered 0
accepted_named z = absurd (z refl)

check_named : (b : Bool) (e : Refusal) (next : ℕ) → Numbered next → Numbered (check b (number_of e) next)
check_named true e next w = w
check_named false e next w = λ z. (e, refl)

move_named : (l : Ledger) (n : ℕ) (x : Developer) (m : Move) → Numbered (move_refusal l n x m)
unfolding move_refusal
move_named l n x (Offer ps qs) =
    check_named (in_round l.phase) NotInThisPhase _
    (check_named (is_of_kind 2 n x.declared.kind) BadNumber _
    (check_named (is_none x.offer) SecondOffer _
    (check_named (prices_ok l.closing l.opening ps qs) BadSteps _
    (check_named (lowering x.declared.levels x.quantity qs) BadLevel 0 accepted_named))))
move_named l n x (Lodge ps qs) =
    check_named (is_ready l.phase) NotInThisPhase _
    (check_named (is_of_kind 1 n x.declared.kind) NoExistingPlant _
    (check_named (prices_ok (floor l) l.settings.a ps qs) BadSteps _
    (check_named (lowering x.declared.levels (highest x) qs) BadLevel 0 accepted_named)))
move_named l n x Cancel =
    check_named (in_round l.phase) NotInThisPhase _
    (check_named (is_of_kind 2 n x.declared.kind) BadNumber _
    (check_named (not (is_none x.offer)) NoStandingOffer 0 accepted_named))

pub refusal_named : (l : Ledger) (c : Call) → Numbered (refusal l c)
unfolding refusal
refusal_named l (SetUp s) =
    check_named (is_fresh l.phase) NotInThisPhase _ (check_named (settings_ok s) BeyondBounds 0 accepted_named)
refusal_named l (Register n w x) =
    check_named (is_ready l.phase) NotInThisPhase _
    (check_named (numbers_ok x.project n (l.developers n).declared.project) BadNumber _
    (check_named (is_number (agent_for n w)) BadNumber _
    (check_named (declaration_ok l x) BadRegistration 0 accepted_named)))
refusal_named l (Open c) =
    check_named (may_open l.phase) NotInThisPhase _
    (check_named (closing_ok l c) BadRoundPrice _
    (check_named (start_covered l) OpeningNotCovered 0 accepted_named))
refusal_named l (By n m) = move_named l n (l.developers n) m
refusal_named l Close = check_named (in_round l.phase) NotInThisPhase 0 accepted_named
