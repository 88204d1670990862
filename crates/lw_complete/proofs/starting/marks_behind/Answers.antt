use Rattle.lw_tokens.specs.Cut.{kinds, visible}
use Rattle.lw_viable.specs.Aims.{Places}
use Rattle.lw_complete.specs.Typing.{grammar_of}
use Rattle.lw_complete.proofs.BlankFound.{are_behind, hold, of_kinds, placed}
use Rattle.lw_complete.proofs.starting.marks_behind.Goals as goal

pub read_over-requires : goal.read_over-requires
read_over-requires c =
    let (typing, before, ready) = c.requires in
    let places = c.as_slice-places.result.now in
    let ts = c.as_slice.result.now in (
      grammar_of typing,
      ready.of,
      ready.tasks,
      ready.parsed.program,
      placed ready places ts c.as_slice-places.ensures c.as_slice.ensures.value,
      of_kinds ready places ts c.as_slice-places.ensures c.as_slice.ensures.value,
    )

pub sentences-requires : goal.sentences-requires
sentences-requires c =
    let (typing, before, ready) = c.requires in
    let places = c.as_slice-places.result.now in
    let ts = c.as_slice.result.now in record {
      known = (
        grammar_of typing,
        ready.of,
        ready.tasks,
        Places places,
        kinds (visible ts),
        hold ready places ts c.as_slice-places.ensures c.as_slice.ensures.value c.in_ok-fronts.fronts c.in_ok-fronts.ensures,
      );
    }

pub returns : goal.returns
returns c typing before ready =
    are_behind ready c.as_slice-places.result.now c.as_slice.result.now c.as_slice-places.ensures c.as_slice.ensures.value c.in_ok-fronts.fronts c.in_ok-fronts.ensures
    c.sentences.result (λ found. found.items) c.sentences.ensures.all c.sentences.ensures.each
