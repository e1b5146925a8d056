-- From the contract of a closing or of a settling to the reply of the rules.
use Rattle.std.specs.Prelude.{ℕ, ◌≡◌, refl, List, [], length}
use Rattle.std.proofs.Common.{sym, ap, ◌∙◌, ne_eqb}
use Rattle.rules_auction.specs.Ledger.{Call, Close, Ledger}
use Rattle.rules_auction.specs.Rounds.{ledger, Answered}
use Rattle.rules_auction.specs.Settling.{settlement, settling_refusal}
use Rattle.rules_replies.specs.Lengths.{six, records_room}
use Rattle.rules_replies.specs.Orders.{Asks, Settle}
use Rattle.rules_replies.specs.Replies.{closing_text, settling_text, answer_line, award_room, reply_to}
use Rattle.engine_auction.specs.Called.{Called}
use Rattle.engine_auction.specs.Holds.{held_auction}
use Rattle.engine_auction.specs.declared.Auction.{Auction}
use Rattle.engine_settling.specs.Kept.{refusal_again, Kept}
use Rattle.engine_settling.specs.KeptLaws.{kept, kept_number}
use Rattle.engine_settling.specs.Settles.{Settled, Settles}
use Rattle.reply_writing.specs.reply_sizes.Texts.{text_of}
use Rattle.reply_writing.specs.declared.reply_sizes.Reply.{Reply}
use Rattle.reply_values.specs.Shows.{ShowsClosing, HoldsAwards, ShowsSettling}

-- a refusal adds nothing
pub refused_line : (k n : ℕ) (added : List ℕ) → (n ≡ 0 → ⊥) → answer_line k n [] ≡ answer_line k n added
unfolding answer_line
refused_line k n added z = rw (ne_eqb n 0 z)

-- ---- a closing

pub closing_replied : {a next : Auction} {x : Answered} {r : Reply} → Called Close a next x → ShowsClosing x.number x.excess x.remainder r
    → (cs : List Call) → a ≡ held_auction (ledger cs) → text_of r ≡ reply_to (ledger cs) (Asks Close)
unfolding reply_to
closing_replied {a} {next} {x} {r} called shows cs h =
    shows.text x refl refl ∙ ap (λ (y : Answered). answer_line 5 y.number (closing_text y)) (called.answer cs h)

-- ---- a settling

-- of a kept settlement
awards_held : {l : Ledger} {s : Settled} {bytes : List ℕ} → Kept l award_room s bytes → HoldsAwards (settlement l) s bytes
awards_held {l} k = record { answer = k.answer; old = k.old; buffer = k.buffer; within_room = records_room l k.limit k.taken; six = six l }

settling_shown : (l : Ledger) (limit : ℕ) {s : Settled} {bytes : List ℕ} {r : Reply} → ShowsSettling s bytes r
    → s.number ≡ settling_refusal l limit award_room → (s.number ≡ 0 → Kept l award_room s bytes) → text_of r ≡ reply_to l (Settle limit)
unfolding reply_to
settling_shown l limit shows n k =
    shows.text (settlement l) (λ z. awards_held (k z)) ∙ ap (λ (m : ℕ). answer_line 6 m (settling_text (settlement l))) n

pub settling_replied : {a : Auction} {limit : ℕ} {old new : List ℕ} {s : Settled} {r : Reply} → Settles a limit old new s → length old ≡ award_room
    → ShowsSettling s new r → (cs : List Call) → a ≡ held_auction (ledger cs) → text_of r ≡ reply_to (ledger cs) (Settle limit)
settling_replied {a} {limit} {old} {new} {s} {r} w room shows cs h =
    let l : Ledger = ledger cs in
    settling_shown l limit shows (w.number cs h ∙ ap (settling_refusal l limit) room) (λ z. rw room at (kept w z cs h))

-- refused, its number says all
pub settling_refused : (l : Ledger) (limit n : ℕ) → n ≡ settling_refusal l limit award_room → (n ≡ 0 → ⊥) → answer_line 6 n [] ≡ reply_to l (Settle limit)
unfolding reply_to
settling_refused l limit n e z =
    refused_line 6 n (settling_text (settlement l)) z ∙ ap (λ (m : ℕ). answer_line 6 m (settling_text (settlement l))) e

-- another settling, by what an accepted one left
pub kept_replied : {l : Ledger} {s : Settled} {bytes : List ℕ} {r : Reply} → Kept l award_room s bytes → ShowsSettling s bytes r
    → (limit : ℕ) → refusal_again s limit ≡ 0 → text_of r ≡ reply_to l (Settle limit)
kept_replied {l} {s} {bytes} {r} k shows limit z =
    settling_shown l limit shows (ap (λ (x : Settled). x.number) k.answer ∙ sym (kept_number k limit ∙ z)) (λ y. k)

pub kept_refused : {l : Ledger} {s : Settled} {bytes : List ℕ} → Kept l award_room s bytes → (limit : ℕ) → (refusal_again s limit ≡ 0 → ⊥)
    → answer_line 6 (refusal_again s limit) [] ≡ reply_to l (Settle limit)
kept_refused {l} {s} k limit z = settling_refused l limit (refusal_again s limit) (sym (kept_number k limit)) z
