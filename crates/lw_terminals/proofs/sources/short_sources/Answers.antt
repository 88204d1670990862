use Rattle.std.proofs.Common.{refl, arith}
use Rattle.lw_terminals.specs.Sources.{IsSourceOf}
use Rattle.lw_terminals.proofs.Zips.{zip_more}
use Rattle.lw_terminals.proofs.SourceSteps.{has_source, has_long, has_some, up_to_long, up_to_end}
use Rattle.lw_terminals.proofs.sources.short_sources.Goals as goal

pub returns-in-Long : goal.returns-in-Long
returns-in-Long c =
    let g = c.args.g.now in
    let place = c.terminal_at-place.result in
    let inside = c.terminal_at-place.ensures.within g c.requires.kinds in
    let long = has_long g c.args.written.now c.requires.said place inside c.index-written-place.result c.index-written-place.is c.in-Long.bytes c.in-Long.is in
    up_to_long g c.args.kinds.now.terminals c.loop-i.i _ c.loop-i.invariant place c.in-Long.bytes c.terminal_at-place.ensures.place long refl

pub unreachable-requires : goal.unreachable-requires
unreachable-requires c =
    let g = c.args.g.now in
    let inside = c.terminal_at-place.ensures.within g c.requires.kinds in
    has_some g c.args.written.now c.requires.said c.terminal_at-place.result inside c.index-written-place.result c.index-written-place.is c.requires.written c.in-Unwritten.is

pub loop-i-preserved : goal.loop-i-preserved
loop-i-preserved c =
    let g = c.args.g.now in
    let place = c.terminal_at-place.result in
    let inside = c.terminal_at-place.ensures.within g c.requires.kinds in
    let tied =
    has_source g c.args.written.now c.requires.said place inside c.index-written-place.result c.index-written-place.is c.in-Short.pattern c.in-Short.is
    c.as_slice.result.now c.as_slice.ensures c.index-as_slice-place.result c.index-as_slice-place.is c.in_ok-source-in-Short.field-0 c.in_ok-source-in-Short.ensures in
    zip_more (IsSourceOf g) c.args.kinds.now.terminals c.loop-i.i place c.terminal_at-place.ensures.place c.loop-i.terminals.items c.loop-i.invariant
    c.in_ok-source-in-Short.field-0 tied c.in_ok-push-in-Short.ensures.items

pub returns : goal.returns
returns c =
    up_to_end c.args.g.now c.args.kinds.now.terminals c.loop-i.i _ c.loop-i.invariant
    (omega (arith, c.loop-i-test.false, c.loop-i.auto.i-end, c.terminal_count-i-end.ensures.count)) refl
