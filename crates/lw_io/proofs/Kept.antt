-- A read and a write after calls that changed nothing.
use Rattle.std.proofs.Common.{ℕ, List, Option, Some, None, Result, Ok, Err, subst}
use Rattle.std.specs.Io.KnownBytes.{Keeps, ReadConsumes, WriteAppends}

pub ReadConsumes-kept : {E : Type 0} (a b c : Option (List ℕ)) (r : Result ℕ E) (buf : List ℕ) → Keeps a b → ReadConsumes b c r buf → ReadConsumes a c r buf
ReadConsumes-kept None b c (Ok n) buf kept read = (tt, read.1)
ReadConsumes-kept None b c (Err e) buf kept read = tt
ReadConsumes-kept (Some xs) None c r buf kept read = absurd kept
ReadConsumes-kept (Some xs) (Some ys) c r buf kept read = subst (λ zs. ReadConsumes (Some zs) c r buf) kept read

pub WriteAppends-kept : {E : Type 0} (a b c : Option (List ℕ)) (r : Result ℕ E) (buf : List ℕ) → Keeps a b → WriteAppends b c r buf → WriteAppends a c r buf
WriteAppends-kept None b c (Ok n) buf kept wrote = tt
WriteAppends-kept None b c (Err e) buf kept wrote = tt
WriteAppends-kept (Some xs) None c r buf kept wrote = absurd kept
WriteAppends-kept (Some xs) (Some ys) c r buf kept wrote = subst (λ zs. WriteAppends (Some zs) c r buf) kept wrote

pub ruleset again = (ReadConsumes-kept, WriteAppends-kept)
