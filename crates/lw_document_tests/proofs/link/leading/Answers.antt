use Rattle.std.proofs.Common.{ℕ, ◌<◌, sym, subst}
use Rattle.std.specs.Prelude.{All}
use Rattle.lw_tree.specs.Parts.{Parts}
use Rattle.lw_document_tests.proofs.link.leading.Goals as goal

pub counted-requires-clause-known : goal.counted-requires-clause-known
counted-requires-clause-known c =
    let types = c.in_ok-types.ensures in
    let tree : Parts = c.args.tree.now in (
      types.0,
      types.1,
      record {
        nodes = subst (λ (n : ℕ). All (λ node. node.type_id.0 < n) tree.nodes) (sym types.2) c.requires.nodes;
        refs = subst (λ (n : ℕ). All (λ r. r.want.0 < n) tree.refs) (sym types.2) c.requires.wants;
      },
    )
