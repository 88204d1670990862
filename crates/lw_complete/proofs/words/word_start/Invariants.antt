-- All bytes from here on to the offset are of the word, and a character begins here.
use Rattle.std.proofs.Common.{◌≡◌, ◌≤◌, true, All, slice_range, IsCharBoundary}
use Rattle.lw_gramlex.specs.FileTokens.{is_word_part}
use Rattle.lw_complete.proofs.words.word_start.Given as goal

abbrev pub invariant-word : goal.invariant-word
invariant-word l = record {
  within : l.start ≤ l.off;
  are : All (λ b. is_word_part b ≡ true) (slice_range l.text l.start l.off);
  boundary : IsCharBoundary l.text l.start;
}

abbrev pub decreases-word : goal.decreases-word
decreases-word l = l.start
