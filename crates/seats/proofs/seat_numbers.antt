mod SeatDigits
