-- The entry rule starts somewhere, and its start is the one reading.
use Rattle.std.proofs.Common.{[], sym, subst}
use Rattle.lw_grammar.specs.Reached as reached
use Rattle.lw_viable.specs.Aims.{Sentence, Fulfils}
use Rattle.lw_viable.specs.Readings.{Keeps}
use Rattle.lw_viable.proofs.Starting.{first_read, starts_keep}
use Rattle.lw_viable.proofs.fronts.Fronts.start.Goals as goal

pub unreachable-requires : goal.unreachable-requires
unreachable-requires c =
    let (g, kinds, tasks, rule, by, is) = c.requires.known in
    let (start, at, starts) = by.known.program.reached c.args.entry.0 rule (reached.entry rule is) is.there in
    c.in-None.ensures start at

pub returns : goal.returns
returns c g kinds tasks rule by is =
    let (change, enters, put) = c.in_ok-enter-in-Some.ensures.put in
    let reads = first_read c.new-lists.result c.enter.new.lists _ change c.new-kept.result.items c.enter.new.fronts.items c.new-lists.ensures.marks c.new-lists.ensures.rests c.new-kept.ensures.items put in
    record {
      by = by;
      keeps = subst (Keeps g kinds tasks (Fulfils g kinds tasks Sentence) []) (sym reads)
          (subst (λ tasks. Keeps g kinds tasks (Fulfils g kinds tasks Sentence) [] _) by.tasks_are (starts_keep g kinds by.known is c.in-Some.ensures change enters));
    }
