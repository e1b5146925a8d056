-- The seat that each case of the enum is.
use Rattle.rules_seats.specs.Seats as seats
use Rattle.seats.specs.declared.Seat.{Seat}
use Rattle.seats.specs.declared.Seat.TheVariants.{Auctioneer, Auditor, Developer}

abbrev pub seat_in : Seat → seats.Seat
seat_in Auctioneer = seats.Auctioneer
seat_in Auditor = seats.Auditor
seat_in (Developer n) = seats.At n
