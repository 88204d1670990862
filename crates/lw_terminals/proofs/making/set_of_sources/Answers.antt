use Rattle.std.proofs.Common.{◌≡◌, Err, length, ap, subst, ◌∙◌, arith}
use Rattle.std.proofs.lemmas.List.{length-map}
use Rattle.std.proofs.lemmas.Option.{slice_get_within}
use Rattle.lw_terminals.specs.Sources.{EndsAt, IsNumberedAs}
use Rattle.lw_kinds.specs.Uses.{Use}
use Rattle.lw_terminals.proofs.KeywordLists.{are_keywords}
use Rattle.lw_terminals.proofs.MadeSets.{made}
use Rattle.lw_terminals.proofs.Tried.{within, tried, short, tried_long}
use Rattle.lw_terminals.proofs.making.set_of_sources.Goals as goal

pub make-requires-clause-keywords : goal.make-requires-clause-keywords
make-requires-clause-keywords g c =
    are_keywords c.args.g.now c.args.kinds.now c.requires.kinds c.requires.sound.not_blank c.args.keywords.items c.requires.keywords

pub make-requires-clause-few : goal.make-requires-clause-few
make-requires-clause-few g c =
    let texts = ap length c.requires.keywords ∙ length-map c.args.kinds.now.keywords (λ (word : Use). word.0) in
    omega (arith, texts, within c.args.g.now (g.P.Patterns.listed c.args.patterns.now) c.args.kinds.now c.args.sources c.requires.sources, c.requires.sound.few.kinds)

pub rule_of-requires-clause-within : goal.rule_of-requires-clause-within
rule_of-requires-clause-within g c =
    let ends = subst (EndsAt c.args.g.now c.args.kinds.now.terminals (length c.args.sources.terminals.items)) c.in-Some.is c.requires.sources.end in
    let inside = slice_get_within c.args.kinds.now.terminals (length c.args.sources.terminals.items) ends.0 ends.1 in
    omega (arith, inside, c.len-count.ensures)

pub rule_of-requires-in-Err-Refused-clause-within : goal.rule_of-requires-in-Err-Refused-clause-within
rule_of-requires-in-Err-Refused-clause-within g c =
    let at = c.in-Err-Refused.ensures.refused c.in-Err-Refused.i (ap Err c.in-Err-Refused.field-0-is) in
    let inside = slice_get_within c.args.sources.terminals.items c.in-Err-Refused.i at.terminal at.tried.there in
    omega (arith, inside, within c.args.g.now (g.P.Patterns.listed c.args.patterns.now) c.args.kinds.now c.args.sources c.requires.sources, c.in-Err-Refused.i-is)

pub rule_of-requires-in-Err-EmptyMatch-clause-within : goal.rule_of-requires-in-Err-EmptyMatch-clause-within
rule_of-requires-in-Err-EmptyMatch-clause-within g c =
    let at = c.in-Err-EmptyMatch.ensures.empty_match c.in-Err-EmptyMatch.i (ap Err c.in-Err-EmptyMatch.field-0-is) in
    let inside = slice_get_within c.args.sources.terminals.items c.in-Err-EmptyMatch.i at.terminal at.tried.there in
    omega (arith, inside, within c.args.g.now (g.P.Patterns.listed c.args.patterns.now) c.args.kinds.now c.args.sources c.requires.sources, c.in-Err-EmptyMatch.i-is)

pub returns-in-Some-clause-fault : goal.returns-in-Some-clause-fault
returns-in-Some-clause-fault g c =
    let row = c.args.kinds.now in
    let count = length c.args.sources.terminals.items in
    let ends = subst (EndsAt c.args.g.now row.terminals count) c.in-Some.is c.requires.sources.end in
    let same : c.len-count.result ≡ count = omega (arith, c.len-count.ensures, c.args.sources.terminals.ok.0) in
    let told = subst (λ n. IsNumberedAs c.args.g.now row.terminals n c.rule_of.result) same c.rule_of.ensures in
    let tried =
    tried_long c.args.g.now (g.P.Patterns.listed c.args.patterns.now) row c.args.sources c.requires.sources c.in-Some.bytes ends.0 ends.1 ends.2
    c.in-Ok.ensures.usable c.in-Ok.ensures.unlisted c.rule_of.result told in
    (c.requires.sound, ends.2.pattern, tried, ends.2.long, ends.2.bytes_are)

pub returns-in-None-clause-made : goal.returns-in-None-clause-made
returns-in-None-clause-made g c =
    let row = c.args.kinds.now in
    let whole = subst (EndsAt c.args.g.now row.terminals (length c.args.sources.terminals.items)) c.in-None.is c.requires.sources.end in
    made c.args.g.now (g.P.Patterns.listed c.args.patterns.now) row c.requires.kinds c.requires.sound c.args.sources c.requires.sources whole
    c.in-Ok.ensures.usable c.in-Ok.ensures.unlisted c.args.keywords.items c.requires.keywords c.in-Ok.set c.in-Ok.ensures.made

pub returns-in-Err-Refused-clause-fault : goal.returns-in-Err-Refused-clause-fault
returns-in-Err-Refused-clause-fault g c =
    let listed = g.P.Patterns.listed c.args.patterns.now in
    let at = c.in-Err-Refused.ensures.refused c.in-Err-Refused.i (ap Err c.in-Err-Refused.field-0-is) in
    let told = subst (λ n. IsNumberedAs c.args.g.now c.args.kinds.now.terminals n c.rule_of-in-Err-Refused.result) c.in-Err-Refused.i-is c.rule_of-in-Err-Refused.ensures in (
      c.requires.sound,
      at.terminal.pattern,
      tried c.args.g.now listed c.args.kinds.now c.args.sources c.requires.sources c.in-Err-Refused.i at.terminal at.tried c.rule_of-in-Err-Refused.result told,
      short c.args.g.now listed c.args.kinds.now c.args.sources c.requires.sources c.in-Err-Refused.i at.terminal at.tried c.rule_of-in-Err-Refused.result told,
      at.refused,
    )

pub returns-in-Err-EmptyMatch-clause-fault : goal.returns-in-Err-EmptyMatch-clause-fault
returns-in-Err-EmptyMatch-clause-fault g c =
    let listed = g.P.Patterns.listed c.args.patterns.now in
    let at = c.in-Err-EmptyMatch.ensures.empty_match c.in-Err-EmptyMatch.i (ap Err c.in-Err-EmptyMatch.field-0-is) in
    let told = subst (λ n. IsNumberedAs c.args.g.now c.args.kinds.now.terminals n c.rule_of-in-Err-EmptyMatch.result) c.in-Err-EmptyMatch.i-is c.rule_of-in-Err-EmptyMatch.ensures in (
      c.requires.sound,
      at.terminal.pattern,
      tried c.args.g.now listed c.args.kinds.now c.args.sources c.requires.sources c.in-Err-EmptyMatch.i at.terminal at.tried c.rule_of-in-Err-EmptyMatch.result told,
      short c.args.g.now listed c.args.kinds.now c.args.sources c.requires.sources c.in-Err-EmptyMatch.i at.terminal at.tried c.rule_of-in-Err-EmptyMatch.result told,
      at.matches_empty,
      at.not_listed,
    )
