use Rattle.std.proofs.Common.{length, refl}
use Rattle.std.proofs.lemmas.Option.{slice_get_read}
use Rattle.lw_flow.proofs.TableLemmas.{row_from}
use Rattle.lw_flow.proofs.tables.widen_row.Goals as goal

pub returns : goal.returns
returns g c =
    let table = c.args.table.now.items in
    row_from g.T.PartialEq.eq c.args.number c.args.items.now table c.index_mut.result.now c.put_all.new.set
    (slice_get_read table (length table) c.args.number c.index_mut.result.now refl c.requires c.index_mut.ensures.value) c.put_all.result c.put_all.ensures.keys
    c.put_all.ensures.none c.put_all.ensures.more
