use Rattle.std.proofs.Common.{subst}
use Rattle.lw_places.specs.Starting.{ReferenceNext}
use Rattle.lw_complete.specs.Starts.{AreBlankNames}
use Rattle.lw_complete.specs.Typing.{grammar_of}
use Rattle.lw_complete.proofs.NamedOnce.{one_start}
use Rattle.lw_complete.proofs.known.known_start.Goals as goal

pub front_names-requires : goal.front_names-requires
front_names-requires c =
    let (of, lexicon, tasks, typed, parsed, is, blank) = c.requires.known in
    (of, lexicon, is.next, typed, is.sound.at)

pub names_left_blank-requires : goal.names_left_blank-requires
names_left_blank-requires c =
    let (of, lexicon, tasks, typed, parsed, is, blank) = c.requires.known in (
      of,
      lexicon,
      tasks,
      is.next,
      typed,
      blank,
      parsed,
      is.sound,
      c.in_ok-front.ensures.stands of lexicon is.next typed is.sound.at,
    )

pub returns-clause-known : goal.returns-clause-known
returns-clause-known c of lexicon trees address typed among =
    record { told = λ next at. c.in_ok-front.ensures.names of lexicon next trees address typed at among }

pub returns-clause-blank : goal.returns-clause-blank
returns-clause-blank c of lexicon tasks trees address typed parsed is blank among = record {
  told = λ next at.
      subst (λ (x : ReferenceNext). AreBlankNames of lexicon tasks c.args.typing.now trees address x c.args.start.now c.in_ok-blank.blank)
      (one_start (grammar_of c.args.typing.now) is.next next c.args.start.now is.sound.at.is_start at.is_start)
      (c.in_ok-blank.ensures of lexicon tasks is.next trees address typed blank parsed is.sound
      (c.in_ok-front.ensures.stands of lexicon is.next typed is.sound.at) among);
}
