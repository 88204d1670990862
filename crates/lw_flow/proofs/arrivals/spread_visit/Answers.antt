use Rattle.lw_flow.proofs.ArrivalLemmas.{spread_none, spreads_one, spreads_length}
use Rattle.lw_flow.proofs.TableLemmas.{no_room_taken, room_put}
use Rattle.lw_flow.specs.contracts.effect.MarkPartialEq.TheImpl.{eq-value as mark-eq}
use Rattle.lw_flow.specs.Rows.{InTable, room}
use Rattle.lw_flow.proofs.arrivals.spread_visit.Goals as goal

pub returns-in-Some-clause-length : goal.returns-in-Some-clause-length
returns-in-Some-clause-length c =
    spreads_length c.args.visit.now c.in-Some.number c.as_slice.result.now c.args.marks.now.items c.widen_row.new.table.items c.in-Some.is c.as_slice.ensures.keys
    c.widen_row.result c.widen_row.ensures

pub returns-in-Some-clause-spreads : goal.returns-in-Some-clause-spreads
returns-in-Some-clause-spreads c =
    spreads_one c.args.visit.now c.in-Some.number c.as_slice.result.now c.args.marks.now.items c.widen_row.new.table.items c.in-Some.is c.as_slice.ensures.keys
    c.widen_row.result c.widen_row.ensures

pub returns-in-None-clause-spreads : goal.returns-in-None-clause-spreads
returns-in-None-clause-spreads c = spread_none c.args.visit.now (InTable c.args.marks.now.items) c.in-None.is

pub returns-in-Some-clause-room : goal.returns-in-Some-clause-room
returns-in-Some-clause-room c =
    room_put (mark-eq).it c.in-Some.number c.as_slice.result.now c.args.marks.now.items c.widen_row.new.table.items c.widen_row.result c.widen_row.ensures

pub returns-in-None-clause-room : goal.returns-in-None-clause-room
returns-in-None-clause-room c = no_room_taken (room c.args.marks.now.items)
