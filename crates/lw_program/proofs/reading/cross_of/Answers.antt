use Rattle.lw_program.proofs.reading.cross_of.Goals as goal

pub unreachable-requires : goal.unreachable-requires
unreachable-requires c = c.in-None.ensures c.requires.has.0 c.requires.has.1

pub call_of-requires-clause-gives : goal.call_of-requires-clause-gives
call_of-requires-clause-gives c = c.requires.gives c.in-Some.name.now c.in-Some.ensures

pub returns : goal.returns
returns c kinds are = (c.in-Some.name.now, c.in-Some.ensures, c.call_of.ensures kinds are)
