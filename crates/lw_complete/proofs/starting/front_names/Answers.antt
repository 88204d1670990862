use Rattle.std.proofs.Common.{length, ap}
use Rattle.lw_complete.proofs.FrontNamed.{inside, is_front, known, outwards, root}
use Rattle.lw_complete.proofs.starting.front_names.Goals as goal

pub bounds-refs-before : goal.bounds-refs-before
bounds-refs-before c =
    let (of, lexicon, next, typed, at) = c.requires in
    inside c.args.typing.now of next c.in_ok-trees.trees (c.in_ok-trees.ensures of next at) c.refs-before.result.now c.refs.result.now c.refs-before.ensures c.refs.ensures

pub names_in-requires-clause-outwards : goal.names_in-requires-clause-outwards
names_in-requires-clause-outwards c =
    let (of, lexicon, next, typed, at) = c.requires in
    outwards c.args.typing.now of next c.in_ok-trees.trees (c.in_ok-trees.ensures of next at)

pub names_in-requires-clause-root : goal.names_in-requires-clause-root
names_in-requires-clause-root c =
    let (of, lexicon, next, typed, at) = c.requires in
    root c.args.typing.now of next c.in_ok-trees.trees (c.in_ok-trees.ensures of next at)

pub names_in-requires-clause-known : goal.names_in-requires-clause-known
names_in-requires-clause-known c =
    let (of, lexicon, next, typed, at) = c.requires in
    known c.args.typing.now of next c.in_ok-trees.trees (c.in_ok-trees.ensures of next at) c.refs-before.result.now c.refs.result.now c.refs-before.ensures c.refs.ensures
    c.index-refs-before.result c.index-refs-before.is

pub returns-clause-names : goal.returns-clause-names
returns-clause-names c of lexicon next trees address typed at among =
    let told = c.in_ok-names.ensures trees address among in
    record {
      tree = c.in_ok-trees.trees.tree;
      r = c.index-refs-before.result;
      is_tree =
          is_front c.args.typing.now of next c.in_ok-trees.trees (c.in_ok-trees.ensures of next at) c.refs-before.result.now c.refs.result.now c.refs-before.ensures
          c.refs.ensures c.index-refs-before.result c.index-refs-before.is;
      exact = λ name. (λ has. (told name).0 ((c.of.ensures name).0 has), λ target. (c.of.ensures name).1 ((told name).1 target));
      before = ap length c.refs-before.ensures;
    }

pub returns-clause-stands : goal.returns-clause-stands
returns-clause-stands c of lexicon next typed at = (
  c.in_ok-trees.trees.tree,
  c.index-refs-before.result,
  is_front c.args.typing.now of next c.in_ok-trees.trees (c.in_ok-trees.ensures of next at) c.refs-before.result.now c.refs.result.now c.refs-before.ensures
      c.refs.ensures c.index-refs-before.result c.index-refs-before.is,
  ap length c.refs-before.ensures,
)
