-- What a fault of the search for choices is as a fault of look-ahead.
use Rattle.lw_lookahead.specs.declared.points.point.PointsFault.{PointsFault}
use Rattle.lw_lookahead.specs.declared.points.point.PointsFault.TheVariants as points
use Rattle.lw_lookahead.specs.declared.fault.LookFault.{LookFault}
use Rattle.lw_lookahead.specs.declared.fault.LookFault.TheVariants.{NoMemory, TooMany}

abbrev pub look_fault : PointsFault → LookFault
look_fault points.TooMany = TooMany
look_fault points.NoMemory = NoMemory
