-- The closing price for new plants (document 02, 5), beside that for existing ones, which is the closing price of document 01.
use Rattle.std.specs.Prelude.{ℕ, Bool, cond, not, ◌&&◌, eqb}
use Rattle.rules_numbers.specs.Lists.{is_empty, any}
use Rattle.rules_auction.specs.Ledger.{Developer, Ledger, nobody, with_developers}
use Rattle.rules_auction.specs.Clearing.{developers_of, covered, closing_price}

-- an existing plant makes no offers: its withdrawals are the lodged steps that closings applied
unfoldable pub lodged_applied : Developer → Bool
lodged_applied x = eqb x.declared.kind 1 && not (is_empty x.withdrawals)

-- project k has an applied lodged step
unfoldable pub taken_out : Ledger → ℕ → Bool
taken_out l k = any (λ n. lodged_applied (l.developers n)) (developers_of l k)

-- the ledger with these projects taken out
unfoldable pub remaining : Ledger → Ledger
remaining l = with_developers l (λ n. cond (taken_out l (l.developers n).declared.project) nobody (l.developers n))

-- marked short: with these projects taken out, A is not covered
unfoldable pub short : Ledger → Bool
short l = not (covered (remaining l) l.settings.a)

-- the second price: the lowest covered price passed when these projects are taken out; A where A is then not covered
unfoldable pub second_price : Ledger → ℕ
second_price l = cond (short l) l.settings.a (closing_price (remaining l))
