use Rattle.std.proofs.Common.{ℕ, List, IsCharBoundary, subst, sym}
use Rattle.std.proofs.lemmas.Str.{IsCharBoundary-start}
use Rattle.lw_token_tests.proofs.lengths.known_after.Goals as goal

pub note_search-requires : goal.note_search-requires
note_search-requires c =
    subst (λ (t : List ℕ). IsCharBoundary t 0) (sym c.loop.invariant) (IsCharBoundary-start c.args.text.now c.utf8.text)

pub length_at-requires : goal.length_at-requires
length_at-requires c =
    subst (λ (t : List ℕ). IsCharBoundary t 0) (sym c.loop.invariant) (IsCharBoundary-start c.args.text.now c.utf8.text)
