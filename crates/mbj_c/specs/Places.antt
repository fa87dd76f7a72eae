-- What a contract sees of a place of a seat.
use Rattle.std.specs.Prelude.{Option}
use Rattle.mbj_c.specs.declared.seat_handle.SeatHandle.{SeatHandle}
use Rattle.mbj_c.specs.Seats.{SeatState}

abbrev pub seat_in : SeatHandle → Option SeatState
seat_in place = place.seat
