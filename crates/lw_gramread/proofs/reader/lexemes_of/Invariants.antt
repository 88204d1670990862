use Rattle.std.proofs.Common.{◌≡◌, take}
use Rattle.lw_gramread.specs.Lexemes.{lexemes_of}
use Rattle.lw_gramread.proofs.reader.lexemes_of.Given as goal

abbrev pub invariant-saying : goal.invariant-saying
invariant-saying l = l.lexemes.items ≡ lexemes_of l.text (take l.token-index l.tokens)
