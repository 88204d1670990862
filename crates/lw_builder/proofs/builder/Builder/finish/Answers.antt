use Rattle.std.proofs.Common.{ap, ◌∙◌, arith}
use Rattle.lw_reading.specs.Brackets.{span_of_tokens}
use Rattle.lw_builder.specs.Steps.{read_tokens}
use Rattle.lw_builder.proofs.Readying.{ready_within, ready_claimable, finish_all}
use Rattle.lw_builder.proofs.builder.Builder.finish.Goals as goal

pub give-requires-clause-nodes : goal.give-requires-clause-nodes
give-requires-clause-nodes c =
    ready_within c.args.self.now c.args.node c.requires.ready.0 c.requires.ready.1 _ c.requires.ready.2 c.in_ok-inside.ensures.tail

pub give-requires-clause-refs : goal.give-requires-clause-refs
give-requires-clause-refs c =
    ready_claimable c.args.self.now c.args.node c.requires.ready.0 c.requires.ready.1 _ c.requires.ready.2 c.in_ok-inside.ensures.tail

pub returns-clause-finished : goal.returns-clause-finished
returns-clause-finished c = λ bs held ready.
    finish_all c.args.self.now _ c.args.node bs held c.in_ok-inside.inside.items c.give.new.finished.items (record { 0 = c.in_ok-place_behind.field-0 })
    (read_tokens c.args.self.now) c.span_of_tokens-span.result
    ready c.in_ok-inside.ensures.tail c.in_ok-inside.ensures.items c.in_ok-give.ensures.finished (c.in_ok-place_behind.ensures ∙ c.len.ensures ∙ omega arith) c.in_ok-push.ensures.items
    c.in_ok-give.ensures.refs c.in_ok-give.ensures.kept (c.span_of_tokens-span.ensures ∙ ap span_of_tokens c.read_since.ensures)
