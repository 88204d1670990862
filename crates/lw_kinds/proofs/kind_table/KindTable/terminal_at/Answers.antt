use Rattle.std.proofs.Common.{get_or, length, refl, ap, ◌∙◌}
use Rattle.std.proofs.lemmas.Option.{slice_get_read}
use Rattle.lw_kinds.proofs.TerminalNumbers.{terminal_at, terminal_within}
use Rattle.lw_kinds.proofs.kind_table.KindTable.terminal_at.Goals as goal

pub returns-clause-within : goal.returns-clause-within
returns-clause-within c g are =
    let places = c.args.self.now.terminals in
    let i = c.args.i in
    let result = c.index.result.now in
    let here = ap (λ row. get_or row.terminals i result) c.self.view_is in
    terminal_within g c.args.self.now are i result (slice_get_read places (length places) i result refl c.requires (c.index.ensures ∙ here))

pub returns-clause-terminal : goal.returns-clause-terminal
returns-clause-terminal c g kinds are were =
    let places = c.args.self.now.terminals in
    let i = c.args.i in
    let result = c.index.result.now in
    let here = ap (λ row. get_or row.terminals i result) c.self.view_is in
    terminal_at g c.args.self.now are kinds were i result (slice_get_read places (length places) i result refl c.requires (c.index.ensures ∙ here))
