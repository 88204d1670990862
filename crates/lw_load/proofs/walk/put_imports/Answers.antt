use Rattle.std.proofs.Common.{◌++◌, map, sym, ap, ◌∙◌}
use Rattle.std.proofs.lemmas.Iterator.Adapters.{YieldsList-from_rev_slice}
use Rattle.std.proofs.lemmas.Iterator.Consumers.{YieldsList-at, YieldsList-end}
use Rattle.std.proofs.lemmas.Simd.{map-map}
use Rattle.indexmap.proofs.ReorderLemmas.{map-reverse}
use Rattle.lw_grammar.specs.declared.grammar.Import.{Import}
use Rattle.lw_load.specs.Paths.{import_path}
use Rattle.lw_load.proofs.walk.put_imports.Goals as goal

pub returns : goal.returns
returns c =
    let all = c.args.imports.now in
    let path = λ (i : Import). import_path c.args.importer.now i.path in
    let last_first = YieldsList-at c.into_iter-import-iterator.ensures.into_iter_gives (YieldsList-from_rev_slice all cc) in
    let end = YieldsList-end last_first c.putting.yielded _ c.putting.yielded_by _ _ c.in-None.is c.next.ensures.steps in
    c.putting.invariant
    ∙ ap (λ paths. c.args.waiting.now.items ++ paths)
    (sym (map-map path (λ i. i.now) c.putting.yielded) ∙ ap (map path) end.0 ∙ map-reverse path all)
