use Rattle.std.proofs.Common.{arith, length, ap, Err}
use Rattle.lw_reading.specs.Reading as reading
use Rattle.lw_lang.proofs.ReadLemmas.{can_parse, read_fault, read_tokens, named, character_within}
use Rattle.lw_lang.proofs.language.Language.read.Goals as goal

pub returns-then-length-gt-LONGEST_DOCUMENT-clause-reads :
    goal.returns-then-length-gt-LONGEST_DOCUMENT-clause-reads
returns-then-length-gt-LONGEST_DOCUMENT-clause-reads c =
    reading.too_large (omega (arith, c.if-length-gt-LONGEST_DOCUMENT.true, ap length c.bytes-length.ensures.bytes))

pub parsed-requires-clause-short : goal.parsed-requires-clause-short
parsed-requires-clause-short c = omega (arith, c.if-length-gt-LONGEST_DOCUMENT.false, ap length c.bytes-length.ensures.bytes)

pub parsed-requires-clause-cut : goal.parsed-requires-clause-cut
parsed-requires-clause-cut c = (
  c.self.inside.grammar,
  c.self.invariant.of,
  c.self.inside.tokens.lexicon,
  can_parse c.self.inside _ c.self.view_is c.self.invariant c.args.text.now c.in-Ok.tokens.items (rw c.in_ok-new.ensures at c.in-Ok.ensures.cut) c.in-Ok.ensures.places,
)

pub returns-in-Ok-clause-reads : goal.returns-in-Ok-clause-reads
returns-in-Ok-clause-reads c =
    let can = can_parse c.self.inside _ c.self.view_is c.self.invariant c.args.text.now c.in-Ok.tokens.items (rw c.in_ok-new.ensures at c.in-Ok.ensures.cut) c.in-Ok.ensures.places in
    read_tokens c.self.inside _ c.self.view_is c.self.invariant c.args.text.now
    (omega (arith, c.if-length-gt-LONGEST_DOCUMENT.false, ap length c.bytes-length.ensures.bytes)) c.parsed.result
    (c.parsed.ensures.reads c.self.inside.grammar c.self.invariant.of c.self.inside.tokens.lexicon can)

pub returns-in-Ok-clause-named : goal.returns-in-Ok-clause-named
returns-in-Ok-clause-named c =
    let can = can_parse c.self.inside _ c.self.view_is c.self.invariant c.args.text.now c.in-Ok.tokens.items (rw c.in_ok-new.ensures at c.in-Ok.ensures.cut) c.in-Ok.ensures.places in
    named c.self.inside _ c.self.view_is c.self.invariant c.args.text.now c.parsed.result
    (c.parsed.ensures.named c.self.inside.grammar c.self.invariant.of c.self.inside.tokens.lexicon can)

pub returns-in-Ok-clause-within : goal.returns-in-Ok-clause-within
returns-in-Ok-clause-within c =
    c.parsed.ensures.within c.self.inside.grammar c.self.invariant.of c.self.inside.tokens.lexicon
    (can_parse c.self.inside _ c.self.view_is c.self.invariant c.args.text.now c.in-Ok.tokens.items (rw c.in_ok-new.ensures at c.in-Ok.ensures.cut) c.in-Ok.ensures.places)

pub returns-in-Ok-clause-stands : goal.returns-in-Ok-clause-stands
returns-in-Ok-clause-stands c =
    c.parsed.ensures.stands c.self.inside.grammar c.self.invariant.of c.self.inside.tokens.lexicon
    (can_parse c.self.inside _ c.self.view_is c.self.invariant c.args.text.now c.in-Ok.tokens.items (rw c.in_ok-new.ensures at c.in-Ok.ensures.cut) c.in-Ok.ensures.places)

pub returns-in-Err-NoToken-clause-reads : goal.returns-in-Err-NoToken-clause-reads
returns-in-Err-NoToken-clause-reads c =
    let is = ap Err c.in-Err-NoToken.field-0-is in
    rw c.in-Err-NoToken.span-is (read_fault c.self.inside _ c.self.view_is c.self.invariant c.args.text.now
    (omega (arith, c.if-length-gt-LONGEST_DOCUMENT.false, ap length c.bytes-length.ensures.bytes)) c.in-Err-NoToken.span
    (rw c.in_ok-new.ensures at (c.in-Err-NoToken.ensures.no_token c.in-Err-NoToken.span is)) (c.in-Err-NoToken.ensures.character c.in-Err-NoToken.span is))

pub returns-in-Err-NoToken-clause-within : goal.returns-in-Err-NoToken-clause-within
returns-in-Err-NoToken-clause-within c =
    let is = ap Err c.in-Err-NoToken.field-0-is in
    rw c.in-Err-NoToken.span-is (character_within c.args.text.now c.in-Err-NoToken.span (c.in-Err-NoToken.ensures.no_token c.in-Err-NoToken.span is).inside (c.in-Err-NoToken.ensures.character c.in-Err-NoToken.span is))
