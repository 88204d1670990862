use Rattle.std.proofs.Common.{sym, ◌∙◌, subst}
use Rattle.std.proofs.lemmas.Str.{length-encode}
use Rattle.lw_gramlex.specs.FileTokens.{BeginsWith, IsFileToken}
use Rattle.lw_gramlex.specs.declared.token.FileKind.TheVariants as kind
use Rattle.lw_gramlex.proofs.HiddenLemmas.{begins_from}
use Rattle.lw_gramlex.proofs.cut.token_at.Goals as goal

pub returns-in-Some : goal.returns-in-Some
returns-in-Some c = IsFileToken.word c.in-Some.ensures

pub returns-in-Some-string_length : goal.returns-in-Some-string_length
returns-in-Some-string_length c = IsFileToken.string c.in-Some-string_length.ensures

pub returns-in-Some-regex_length : goal.returns-in-Some-regex_length
returns-in-Some-regex_length c = IsFileToken.regex c.in-Some-regex_length.ensures

pub returns-in-Some-symbol_at : goal.returns-in-Some-symbol_at
returns-in-Some-symbol_at c = rw c.in-Some-symbol_at.ensures.bytes (IsFileToken.symbol c.in-Some-symbol_at.symbol c.in-Some-symbol_at.ensures.symbol)

pub returns : goal.returns
returns c =
    let begun : BeginsWith c.args.rest.now c.in-Some-next.first = begins_from c.args.rest.now c.next.new.self.rest.now c.in-Some-next.first c.utf8.rest (sym c.chars.ensures.rest ∙ c.in-Some-next.ensures.steps.0) in
    subst (IsFileToken c.args.rest.now kind.Other) (length-encode c.in-Some-next.first ∙ sym c.len_utf8.ensures.value)
    (IsFileToken.other c.in-Some-next.first begun c.requires.shown c.in_default.ensures c.in_default-string_length.ensures c.in_default-regex_length.ensures c.in_default-symbol_at.ensures.symbol)
