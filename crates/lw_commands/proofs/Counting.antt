-- What the outcome of `check` says of the counts and of its cause, when its document was read or could not be.
use Rattle.std.proofs.Common.{◌≡◌, ◌⊎◌, inl, inr, ℕ, List, Option, Result, Ok, Err, OnErr, IsErrAnd, sym, subst}
use Rattle.lw_load.specs.Loading.{Files}
use Rattle.lw_commands.specs.Checking.{IsCaused, StopsReading}
use Rattle.lw_commands.specs.Stops.{Object, TheSource, TheSink, TheStore, ThePatterns, Counts, CountsAt, blame_of}
use Rattle.lw_commands.specs.declared.report.Verdict.{Verdict}
use Rattle.lw_commands.specs.declared.stop.Stop.{Stop}
use Rattle.lw_commands.specs.declared.stop.Stop.TheVariants as stop

-- a stop that is handed on counts as it did
pub handed_on : {T : Type 0} (object : Object) (before now : ℕ) (e : Stop) (r : Result T Stop) → CountsAt object (blame_of e) before now → IsErrAnd r (λ s. s ≡ e) → Counts object before now r
handed_on object before now e (Ok x) counts is = absurd is
handed_on object before now e (Err s) counts is = subst (λ s. CountsAt object (blame_of s) before now) (sym is) counts

-- ---- where the document could not be read

module _ (left after : Option (List ℕ)) where
  -- only the source failed
  pub unread_sink : (before now : ℕ) (e : Stop) → StopsReading left after e → now ≡ before → CountsAt TheSink (blame_of e) before now
  unread_sink before now stop.Words stops same = absurd stops
  unread_sink before now (stop.Grammar found) stops same = absurd stops
  unread_sink before now (stop.File found) stops same = absurd stops
  unread_sink before now stop.Read stops same = same
  unread_sink before now stop.Write stops same = absurd stops
  unread_sink before now stop.Memory stops same = tt
  unread_sink before now (stop.Frames found) stops same = absurd stops
  unread_sink before now stop.Limit stops same = absurd stops

  pub unread_store : (before now : ℕ) (e : Stop) → StopsReading left after e → now ≡ before → CountsAt TheStore (blame_of e) before now
  unread_store before now stop.Words stops same = absurd stops
  unread_store before now (stop.Grammar found) stops same = absurd stops
  unread_store before now (stop.File found) stops same = absurd stops
  unread_store before now stop.Read stops same = same
  unread_store before now stop.Write stops same = absurd stops
  unread_store before now stop.Memory stops same = tt
  unread_store before now (stop.Frames found) stops same = absurd stops
  unread_store before now stop.Limit stops same = absurd stops

  pub unread_patterns : (before now : ℕ) (e : Stop) → StopsReading left after e → now ≡ before → CountsAt ThePatterns (blame_of e) before now
  unread_patterns before now stop.Words stops same = absurd stops
  unread_patterns before now (stop.Grammar found) stops same = absurd stops
  unread_patterns before now (stop.File found) stops same = absurd stops
  unread_patterns before now stop.Read stops same = same
  unread_patterns before now stop.Write stops same = absurd stops
  unread_patterns before now stop.Memory stops same = tt
  unread_patterns before now (stop.Frames found) stops same = absurd stops
  unread_patterns before now stop.Limit stops same = absurd stops

  -- and no grammar is the cause
  pub unread_cause : (told : Option Files) (path : List ℕ) (k : ℕ) (refused : Option (List ℕ)) (e : Stop) (r : Result Verdict Stop) → StopsReading left after e → IsErrAnd r (λ s. s ≡ e) → IsCaused told path k refused r
  unread_cause told path k refused e (Ok verdict) stops is = absurd is
  unread_cause told path k refused e (Err s) stops is = subst (λ s. IsCaused told path k refused (Err s)) (sym is) (by e stops)
    where
      by : (e : Stop) → StopsReading left after e → IsCaused told path k refused (Err e)
      by stop.Words stops = tt
      by (stop.Grammar found) stops = absurd stops
      by (stop.File found) stops = absurd stops
      by stop.Read stops = tt
      by stop.Write stops = tt
      by stop.Memory stops = tt
      by (stop.Frames found) stops = tt
      by stop.Limit stops = tt

-- ---- where its report was printed, or could not be

abbrev pub StopsWriting : Result Verdict Stop → Type 0
StopsWriting r = OnErr r ((r ≡ Err stop.Write) ⊎ (r ≡ Err stop.Memory))

-- an outcome of printing, and what each of them has
by_outcome : (P : Result Verdict Stop → Type 0) → ((verdict : Verdict) → P (Ok verdict)) → P (Err stop.Write) → P (Err stop.Memory) → (r : Result Verdict Stop) → StopsWriting r → P r
by_outcome P ok write memory (Ok verdict) stops = ok verdict
by_outcome P ok write memory (Err e) (inl is) = subst P (sym is) write
by_outcome P ok write memory (Err e) (inr is) = subst P (sym is) memory

pub printed_words : (r : Result Verdict Stop) → StopsWriting r → ¬ (r ≡ Err stop.Words)
printed_words r stops = by_outcome (λ (r : Result Verdict Stop). ¬ (r ≡ Err stop.Words)) (λ verdict is. cc) (λ is. cc) (λ is. cc) r stops

pub printed_cause : (told : Option Files) (path : List ℕ) (k : ℕ) (refused : Option (List ℕ)) (r : Result Verdict Stop) → StopsWriting r → IsCaused told path k refused r
printed_cause told path k refused r stops = by_outcome (IsCaused told path k refused) (λ verdict. tt) tt tt r stops

pub printed_source : (before now : ℕ) (r : Result Verdict Stop) → StopsWriting r → now ≡ before → Counts TheSource before now r
printed_source before now r stops same = by_outcome (Counts TheSource before now) (λ verdict. same) same tt r stops

pub printed_store : (before now : ℕ) (r : Result Verdict Stop) → StopsWriting r → now ≡ before → Counts TheStore before now r
printed_store before now r stops same = by_outcome (Counts TheStore before now) (λ verdict. same) same tt r stops

pub printed_patterns : (before now : ℕ) (r : Result Verdict Stop) → StopsWriting r → now ≡ before → Counts ThePatterns before now r
printed_patterns before now r stops same = by_outcome (Counts ThePatterns before now) (λ verdict. same) same tt r stops
