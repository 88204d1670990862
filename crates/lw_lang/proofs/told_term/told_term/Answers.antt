use Rattle.lw_lang.specs.ToldTerms as told
use Rattle.lw_lang.proofs.told_term.told_term.Goals as goal

pub returns-in-TooManyKinds-clause-told : goal.returns-in-TooManyKinds-clause-told
returns-in-TooManyKinds-clause-told c = rw c.in-TooManyKinds.is told.kinds

pub returns-in-KeywordBlank-clause-told : goal.returns-in-KeywordBlank-clause-told
returns-in-KeywordBlank-clause-told c = rw c.in-KeywordBlank.is (told.keyword c.placed.ensures)

pub returns-in-PatternLong-clause-told : goal.returns-in-PatternLong-clause-told
returns-in-PatternLong-clause-told c = rw c.in-PatternLong.is (told.long c.told_terminal.ensures)

pub returns-in-PatternRefused-clause-told : goal.returns-in-PatternRefused-clause-told
returns-in-PatternRefused-clause-told c = rw c.in-PatternRefused.is (told.refused c.told_terminal-in-PatternRefused.ensures)

pub returns-in-EmptyMatch-clause-told : goal.returns-in-EmptyMatch-clause-told
returns-in-EmptyMatch-clause-told c = rw c.in-EmptyMatch.is (told.matches_empty c.told_terminal-in-EmptyMatch.ensures)
