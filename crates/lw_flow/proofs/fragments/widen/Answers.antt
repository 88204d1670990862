use Rattle.std.proofs.Common.{◌↔◌, Contains, subst}
use Rattle.lw_flow.specs.declared.effect.Effect.{Effect}
use Rattle.lw_flow.specs.Passing.{Does}
use Rattle.lw_flow.specs.contracts.effect.EffectPartialEq.TheImpl.{eq-value}
use Rattle.lw_flow.specs.Rows.{InTable, room}
use Rattle.lw_flow.proofs.FixedLemmas.{rule_at, widens_none, widened, widened_length}
use Rattle.lw_flow.proofs.TableLemmas.{no_room_taken, room_put}
use Rattle.lw_flow.proofs.fragments.widen.Goals as goal

pub returns-then-not-rule-clause-widens : goal.returns-then-not-rule-clause-widens
returns-then-not-rule-clause-widens c =
    let g = c.args.source.now.grammar.now in
    let rule = c.index-as_slice-number.result in
    widens_none g c.args.number rule (InTable c.args.table.now.items)
    (rule_at c.as_slice.result.now g.rules c.args.number rule c.as_slice.ensures c.requires.within c.index-as_slice-number.is) c.if-not-rule.true

pub returns-clause-widens : goal.returns-clause-widens
returns-clause-widens c =
    let g = c.args.source.now.grammar.now in
    let rule = c.index-as_slice-number.result in
    let exact = subst (λ table. (x : Effect) → Contains c.in_ok-found.found.keys x ↔ Does g (InTable table) rule.body x) c.as_slice-2.ensures.value c.in_ok-found.ensures in
    widened g c.args.number rule c.args.table.now.items c.widen_row.new.table.items c.as_slice-3.result.now c.in_ok-found.found.keys
    (rule_at c.as_slice.result.now g.rules c.args.number rule c.as_slice.ensures c.requires.within c.index-as_slice-number.is) c.as_slice-3.ensures.keys exact
    c.widen_row.result c.widen_row.ensures

pub returns-clause-length : goal.returns-clause-length
returns-clause-length c =
    let g = c.args.source.now.grammar.now in
    let rule = c.index-as_slice-number.result in
    let exact = subst (λ table. (x : Effect) → Contains c.in_ok-found.found.keys x ↔ Does g (InTable table) rule.body x) c.as_slice-2.ensures.value c.in_ok-found.ensures in
    widened_length g c.args.number rule c.args.table.now.items c.widen_row.new.table.items c.as_slice-3.result.now c.in_ok-found.found.keys
    (rule_at c.as_slice.result.now g.rules c.args.number rule c.as_slice.ensures c.requires.within c.index-as_slice-number.is) c.as_slice-3.ensures.keys exact
    c.widen_row.result c.widen_row.ensures

pub returns-then-not-rule-clause-room : goal.returns-then-not-rule-clause-room
returns-then-not-rule-clause-room c = no_room_taken (room c.args.table.now.items)

pub returns-clause-room : goal.returns-clause-room
returns-clause-room c =
    room_put (eq-value).it c.args.number c.as_slice-3.result.now c.args.table.now.items c.widen_row.new.table.items c.widen_row.result c.widen_row.ensures
