use Rattle.lw_builder.specs.Steps.{read_tokens}
use Rattle.lw_builder.proofs.Acting.{has_action, acts_on, acts_on_node, renamed, wrapped}
use Rattle.lw_builder.proofs.builder.Builder.act.Goals as goal

pub action-action-requires : goal.action-action-requires
action-action-requires c = let r = c.requires in has_action r.0 c.args.self.now.recipes.now c.args.act r.1 r.3.2.recipes r.2

pub rename-requires : goal.rename-requires
rename-requires c =
    let r = c.requires in
    let old = c.args.self.now in
    acts_on_node r.0 old old.text.now (read_tokens old) r.1 r.3.0 r.3.1 r.3.3 r.3.4

pub wrap-requires-clause-stands : goal.wrap-requires-clause-stands
wrap-requires-clause-stands c =
    let r = c.requires in
    let old = c.args.self.now in
    let n = acts_on r.0 old old.text.now (read_tokens old) r.1 r.3.0 r.3.1 r.3.3 r.3.4 in
    (r.0, n.type, n.from, n.held, n.below, n.stands)

pub returns-in-None-clause-acted : goal.returns-in-None-clause-acted
returns-in-None-clause-acted c = λ g a means.
    renamed c.rename.result g c.args.self.now _ c.args.act a c.action-action.result c.rename.ensures.renamed means c.action-action.ensures c.in-None.is

pub returns-in-Some-clause-acted : goal.returns-in-Some-clause-acted
returns-in-Some-clause-acted c = λ g a means.
    wrapped c.wrap.result g c.args.self.now _ c.args.act a c.action-action.result c.in-Some.prop c.wrap.ensures.wrapped means c.action-action.ensures c.in-Some.is
