use Rattle.lw_properties.proofs.Asking.{refuted, refutes, ruled_out}
use Rattle.lw_types.proofs.property_table.members.has_no_nodes.Goals as goal

pub returns-then-is_marked : goal.returns-then-is_marked
returns-then-is_marked c =
    let g = c.args.source.now.g.now in
    let name = c.args.name.now in
    let read = c.is_marked.ensures g c.requires.numbers in
    let made = c.is_marked-then-is_marked.ensures g c.requires.numbers in
    let texts = c.requires.texts name in
    let nodes = c.requires.made name in (
      λ so. record {
        texts = texts.1 (read.0 c.if-is_marked.true);
        no_nodes = λ is. refuted c.is_marked-then-is_marked.result made.0 made.1 so (nodes.0 is);
      },
      λ is. refutes c.is_marked-then-is_marked.result made.0 made.1 (λ marked. is.no_nodes (nodes.1 marked)),
    )

pub returns-else-is_marked : goal.returns-else-is_marked
returns-else-is_marked c =
    let g = c.args.source.now.g.now in
    let name = c.args.name.now in
    let read = c.is_marked.ensures g c.requires.numbers in
    let texts = c.requires.texts name in (
      λ so. absurd (ruled_out c.is_marked.result read.0 read.1 c.if-is_marked.false (read.0 so)),
      λ is. read.1 (texts.0 is.texts),
    )
