-- What is lent, as a trip.
use Rattle.theory.specs.Tables.{Trip, trip}
use Rattle.scan_round.specs.declared.Lent.{Lent}

abbrev pub trip_of : Lent → Trip
trip_of l = trip l.locations l.legs.now l.latest.now l.service.now l.depot l.end l.pairs.now
