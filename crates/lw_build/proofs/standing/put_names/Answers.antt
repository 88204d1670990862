use Rattle.std.proofs.Common.{◌≤◌, ap, length, subst, ◌∙◌, arith}
use Rattle.std.specs.List.{list_any}
use Rattle.std.specs.Str.{bytes_eq}
use Rattle.lw_index.specs.declared.parts.Export.{Export}
use Rattle.lw_build.specs.Standing.{IsName, StayNames}
use Rattle.lw_build.proofs.Sets.{all_hold, name_stays, none_yet, one_further}
use Rattle.lw_build.proofs.standing.put_names.Goals as goal

pub loop-export-init : goal.loop-export-init
loop-export-init c = ((λ name has. has), none_yet (λ (e : Export). IsName c.args.names.now.keys e.name) c.args.exports.now)

pub loop-export-preserved : goal.loop-export-preserved
loop-export-preserved c =
    let before = c.loop-export.names.keys in
    let after = c.insert.new.self.keys in
    let stay : StayNames before after = λ name has. name_stays before after c.in_ok-copy.field-0 c.in_ok-insert.ensures.updates.0 name has in (
      (λ name has. stay name (c.loop-export.invariant.0 name has)),
      one_further (λ (e : Export). IsName after e.name) c.args.exports.now c.loop-export.export-index c.export-item.result c.loop-export-test.true c.export-item.is
          (subst (IsName after) c.in_ok-copy.ensures (c.in_ok-insert.ensures.updates.1))
          (λ k d below within. stay _ (c.loop-export.invariant.1 k d below within)),
    )

pub returns-in_err-copy-clause-stay : goal.returns-in_err-copy-clause-stay
returns-in_err-copy-clause-stay c = c.loop-export.invariant.0

pub returns-in_err-insert-clause-stay : goal.returns-in_err-insert-clause-stay
returns-in_err-insert-clause-stay c = λ name has. ap (list_any (bytes_eq name)) c.in_err-insert.ensures.err ∙ c.loop-export.invariant.0 name has

pub returns-clause-stay : goal.returns-clause-stay
returns-clause-stay c = c.loop-export.invariant.0

pub returns-clause-put : goal.returns-clause-put
returns-clause-put c =
    let past : length c.args.exports.now ≤ c.loop-export.export-index = omega arith in
    all_hold (λ (e : Export). IsName c.loop-export.names.keys e.name) c.args.exports.now c.loop-export.export-index past c.loop-export.invariant.1
