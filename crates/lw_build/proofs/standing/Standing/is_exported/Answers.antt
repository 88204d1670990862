use Rattle.std.proofs.Common.{◌≤◌, length, sym, ◌∙◌, arith}
use Rattle.std.proofs.lemmas.Bool.{false≢true}
use Rattle.lw_index.specs.declared.parts.Export.{Export}
use Rattle.lw_build.specs.Standing.{IsChangedName}
use Rattle.lw_build.proofs.Sets.{all_hold, none_yet, one_further}
use Rattle.lw_build.proofs.standing.Standing.is_exported.Goals as goal

pub loop-export-init : goal.loop-export-init
loop-export-init c = none_yet (λ (x : Export). ¬ IsChangedName c.args.self.now x.name) c.args.exports.now

pub loop-export-preserved : goal.loop-export-preserved
loop-export-preserved c =
    one_further (λ (x : Export). ¬ IsChangedName c.args.self.now x.name) c.args.exports.now c.loop-export.export-index c.export-item.result c.loop-export-test.true c.export-item.is
    (λ has. false≢true (sym c.if-contains.false ∙ c.contains.ensures ∙ has)) c.loop-export.invariant

pub returns : goal.returns
returns c never =
    let past : length c.args.exports.now ≤ c.loop-export.export-index = omega arith in
    all_hold (λ (x : Export). ¬ IsChangedName c.args.self.now x.name) c.args.exports.now c.loop-export.export-index past c.loop-export.invariant
