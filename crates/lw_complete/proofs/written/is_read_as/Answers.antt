use Rattle.std.proofs.Common.{◌≡◌, ◌≢◌, ◌↔◌, ◌∷◌, [], List, IsTrue, sym, ◌∙◌, subst}
use Rattle.std.proofs.lemmas.Result.{IfOk-weaker}
use Rattle.lw_base.specs.declared.token.Token.{Token}
use Rattle.lw_viable.specs.Gives.{PlacesGive}
use Rattle.lw_places.specs.Starting.{ReferenceNext}
use Rattle.lw_parse.specs.Parsers.{AreOfKinds}
use Rattle.lw_tokens.specs.Cut.{kinds, visible}
use Rattle.lw_viable.specs.Aims.{EndsSome}
use Rattle.lw_lexer.specs.Recut.{added, added_behind}
use Rattle.lw_complete.specs.Starts.{ComesAt, IsReadAsStart}
use Rattle.lw_complete.specs.Typing.{grammar_of}
use Rattle.lw_complete.proofs.NamedWritten.{given, is_empty_there, never, none_read, not_empty_there, reference_put, unsaid}
use Rattle.lw_complete.proofs.written.is_read_as.Goals as goal

pub added-added-requires : goal.added-added-requires
added-added-requires c = let (of, lexicon, tasks, here, is) = c.requires.known in here.written.tail

pub says-requires : goal.says-requires
says-requires c =
    let (of, lexicon, tasks, here, is) = c.requires.known in record {
      tail = here.written.tail;
      parts = here.written.parts;
      recipe = reference_put c.args.typing.now of tasks c.args.parser.now here.parsed c.args.start.now is.next is.sound.at;
    }

pub gives-requires : goal.gives-requires
gives-requires c =
    let (of, lexicon, tasks, here, is) = c.requires.known in
    record { known = (grammar_of c.args.typing.now, of, tasks, here.parsed.program, is.value, subst (AreOfKinds of) (sym c.added-added.ensures) here.written.of_kinds) }

pub returns-then-is_empty : goal.returns-then-is_empty
returns-then-is_empty c of lexicon tasks here is next at =
    never
    (none_read c.args.typing.now of tasks c.args.parser.now here.parsed c.args.start.now next at lexicon c.args.written.now here.written
    (sym c.added-added.ensures ∙ is_empty_there c.added-added.result.now c.is_empty.result c.is_empty.ensures c.if-is_empty.true))

pub returns-then-not-branch : goal.returns-then-not-branch
returns-then-not-branch c of lexicon tasks here is next at =
    never
    (unsaid c.args.typing.now of tasks c.args.parser.now here.parsed c.args.start.now next at lexicon c.args.written.now here.written c.in_ok-says.field-0 c.in_ok-says.ensures
    c.if-not-branch.true)

pub returns : goal.returns
returns c of lexicon tasks here is =
    let typing = c.args.typing.now in
    let start = c.args.start.now in
    let there = added_behind c.args.written.now.recut.now in
    let same : c.added-added.result.now ≡ added c.args.written.now.recut.now = c.added-added.ensures in
    IfOk-weaker c.gives.result
    (λ r. IsTrue r ↔ EndsSome (PlacesGive (grammar_of typing) of tasks (start.value ∷ [])) (kinds (visible c.added-added.result.now)))
    (λ r. (next : ReferenceNext) → ComesAt of typing next start → IsTrue r ↔ IsReadAsStart of tasks typing next start there c.args.written.now.name.now)
    (λ r told next at.
    given typing of tasks c.args.parser.now here.parsed start next at lexicon c.args.written.now here.written c.in_ok-says.field-0 c.in_ok-says.ensures c.if-not-branch.false
    (subst (λ (ts : List Token). ts ≢ []) same (not_empty_there c.added-added.result.now c.is_empty.result c.is_empty.ensures c.if-is_empty.false)) r
    (subst (λ (ts : List Token). IsTrue r ↔ EndsSome (PlacesGive (grammar_of typing) of tasks (start.value ∷ [])) (kinds (visible ts))) same told))
    (c.gives.ensures (grammar_of typing) of tasks here.parsed.program is.value (subst (AreOfKinds of) (sym same) here.written.of_kinds))
