use Rattle.std.specs.Map.Iter.{deref_pair}
use Rattle.std.proofs.lemmas.Map.Iter.{btree_map_turn}
use Rattle.lw_index.proofs.Orders.{name_cmp_total}
use Rattle.lw_index.proofs.OthersLemmas.{all_others, none_yet, one_left_out, one_taken}
use Rattle.lw_index.proofs.index.elsewhere.names_of_others.Goals as goal

pub loop-name-init : goal.loop-name-init
loop-name-init c =
    let gives = c.into_iter-name-iterator.ensures.into_iter_gives in
    none_yet c.args.names.now c.args.except c.args.types.now c.new-found.result.items c.into_iter-name-iterator.result c.new-found.ensures.items gives.0 gives.5

pub loop-name-preserved-in_ok-push : goal.loop-name-preserved-in_ok-push
loop-name-preserved-in_ok-push c =
    let names = c.args.names.now in
    let gives = c.into_iter-name-iterator.ensures.into_iter_gives in
    let (_, there, _) = btree_map_turn deref_pair c.loop-name.yielded c.into_iter-name-iterator.result c.loop-name.name-iterator c.next.new.self c.next.result
    (c.in-Some.name, c.in-Some.exporters) c.loop-name.yielded_by c.in-Some.is c.next.ensures.steps name_cmp_total names gives.0 gives.5 in
    one_taken names c.args.except c.args.types.now c.loop-name.found.items c.in-Some.name.now c.in-Some.exporters.now c.loop-name.name-iterator c.next.new.self c.has_other.result
    c.in-Some.ensures.steps there c.has_other.ensures c.loop-name.invariant c.push.new.self.items c.in_ok-copy.field-0
    c.in_ok-push.ensures.items c.in_ok-copy.ensures c.if-has_other.true

pub loop-name-preserved : goal.loop-name-preserved
loop-name-preserved c =
    let names = c.args.names.now in
    let gives = c.into_iter-name-iterator.ensures.into_iter_gives in
    let (_, there, _) = btree_map_turn deref_pair c.loop-name.yielded c.into_iter-name-iterator.result c.loop-name.name-iterator c.next.new.self c.next.result
    (c.in-Some.name, c.in-Some.exporters) c.loop-name.yielded_by c.in-Some.is c.next.ensures.steps name_cmp_total names gives.0 gives.5 in
    one_left_out names c.args.except c.args.types.now c.loop-name.found.items c.in-Some.name.now c.in-Some.exporters.now c.loop-name.name-iterator c.next.new.self
    c.has_other.result c.in-Some.ensures.steps there c.has_other.ensures c.loop-name.invariant c.if-has_other.false

pub returns : goal.returns
returns c =
    all_others c.args.names.now c.args.except c.args.types.now c.loop-name.found.items c.loop-name.name-iterator c.in-None.ensures.steps.0 c.loop-name.invariant
