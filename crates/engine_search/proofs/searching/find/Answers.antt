-- `find` goes through all choices in the order of the search: the rows with one level are passed, and the others gone into.
use Rattle.std.proofs.Common.{arith}
use Rattle.engine_search.proofs.searching.Finding.{find_order, first_number, find_ready, find_searches}
use Rattle.engine_search.proofs.searching.find.Goals as goal

pub look_behind-rows-requires : goal.look_behind-rows-requires
look_behind-rows-requires c = (c.requires.table, find_order c.requires c.args.demand c.search_order-order.ensures)

pub past_single-start-requires : goal.past_single-start-requires
past_single-start-requires c = (c.requires.table, find_order c.requires c.args.demand c.search_order-order.ensures)

pub start_of-requires : goal.start_of-requires
start_of-requires c = omega (arith, first_number c.requires c.args.demand c.search_order-order.ensures c.past_single-start.ensures)

pub explore-requires : goal.explore-requires
explore-requires c =
    rw c.start_of.ensures
    (find_ready c.requires c.args.demand c.search_order-order.ensures c.past_single-start.ensures c.look_behind-rows.ensures)

pub returns : goal.returns
returns c =
    find_searches c.requires c.args.demand c.search_order-order.ensures c.past_single-start.ensures c.look_behind-rows.ensures _
    (rw c.start_of.ensures at c.explore.ensures)
