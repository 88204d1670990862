use Rattle.lw_command_line.proofs.WordLemmas.{are_files, each_file}
use Rattle.lw_command_line.proofs.words.are_files.Goals as goal

pub returns-then-words-le-MOST_DOCUMENTS : goal.returns-then-words-le-MOST_DOCUMENTS
returns-then-words-le-MOST_DOCUMENTS c =
    let words = c.args.words.now in
    (λ is. are_files words c.if-words-le-MOST_DOCUMENTS.true (c.are_absolute.ensures.0 is), λ are. c.are_absolute.ensures.1 (each_file words are))
