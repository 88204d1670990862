use Rattle.std.proofs.Common.{List}
use Rattle.std.proofs.lemmas.Option.{MatchOption-at_none, MatchOption-at_some}
use Rattle.lw_base.specs.declared.token.Token.{Token}
use Rattle.lw_tokens.specs.Cut.{IsCut}
use Rattle.lw_complete.specs.Starts.{IsBlank}
use Rattle.lw_complete.proofs.BlankFound.{ready_for}
use Rattle.lw_complete.proofs.known.names_left_blank.Goals as goal

pub blank_names-requires : goal.blank_names-requires
blank_names-requires c =
    let typing = c.args.typing.now in
    let (of, lexicon, tasks, next, typed, blank, parsed, sound, stands) = c.requires in
    ready_for of lexicon tasks next typing c.args.parser.now c.args.start.now c.args.before c.in-Some.blank typed
    (MatchOption-at_some ((others : List Token) → ¬ IsCut lexicon typing.rest.now others) (IsBlank typing lexicon) c.in-Some.blank c.in-Some.is blank) parsed sound stands

pub returns-in-None : goal.returns-in-None
returns-in-None c of lexicon tasks next trees address typed blank parsed sound stands among after goes =
    let typing = c.args.typing.now in
    MatchOption-at_none ((others : List Token) → ¬ IsCut lexicon typing.rest.now others) (IsBlank typing lexicon) c.in-None.is blank goes.others goes.cut

pub returns-in-Some : goal.returns-in-Some
returns-in-Some c of lexicon tasks next trees address typed blank parsed sound stands among =
    let typing = c.args.typing.now in
    c.blank_names.ensures
    (ready_for of lexicon tasks next typing c.args.parser.now c.args.start.now c.args.before c.in-Some.blank typed
    (MatchOption-at_some ((others : List Token) → ¬ IsCut lexicon typing.rest.now others) (IsBlank typing lexicon) c.in-Some.blank c.in-Some.is blank) parsed sound stands)
    trees address among
