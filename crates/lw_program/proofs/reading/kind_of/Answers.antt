use Rattle.lw_program.proofs.reading.kind_of.Goals as goal

pub unreachable-requires : goal.unreachable-requires
unreachable-requires c =
    let known = c.requires.known.kinds in
    let has = c.requires.has known.kinds known.are in c.in-None.ensures known.kinds known.are has.0 has.1
