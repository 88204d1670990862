-- A text is not matched where the flag of its first byte is off.
use Rattle.std.proofs.Common.{◌≡◌, ℕ, ◌<◌, ◌≤◌, Bool, false, not, IsTrue, List, [], ◌∷◌, length, slice_index, slice_index_or, None, arith}
use Rattle.std.proofs.lemmas.Bool.{not-true}
use Rattle.std.proofs.lemmas.List.{get_or_default}
use Rattle.lw_tokens.specs.Matching.{match_length}
use Rattle.lw_matching.specs.FirstBytes.{AreFirstBytes}

pub ruled_out : (pattern : List ℕ) (flags : List Bool) (text : List ℕ) → AreFirstBytes pattern flags → ((k : ℕ) → slice_index text k < 256) →
    1 ≤ length text → IsTrue (not (slice_index_or flags (slice_index_or text 0 0) false)) → match_length pattern text ≡ None
ruled_out pattern flags [] first bytes some off = absurd (omega arith)
ruled_out pattern flags (byte ∷ more) first bytes some off =
    first byte (not-true _ off) more (λ k d h. rw (get_or_default (byte ∷ more) k d 0 h) (bytes k))
