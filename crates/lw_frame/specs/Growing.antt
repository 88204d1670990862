-- What stays of a stream as it goes on. Language Server Protocol 3.17, Base Protocol: a message begins where the one before it ends, so
-- nothing behind a message changes it.
use Rattle.std.specs.Prelude.{◌≡◌, List, ℕ, ◌++◌, Bool, false, Some}
use Rattle.lw_frame.specs.Frames.{bodies_of, fault_of}
use Rattle.lw_frame.specs.declared.fault.FrameFault.{FrameFault}

-- with more bytes behind it, the stream has the bodies that it had, and then others
abbrev pub KeepsBodies : List ℕ → List ℕ → Type 0
KeepsBodies bytes more = (others : List (List ℕ)) × (bodies_of (bytes ++ more) ≡ bodies_of bytes ++ others)

-- and where it had a fault that does not come from its end, it has no other body, and that fault
abbrev pub KeepsFault : List ℕ → List ℕ → Type 0
KeepsFault bytes more = (found : FrameFault) → fault_of bytes false ≡ Some found
    → (bodies_of (bytes ++ more) ≡ bodies_of bytes) × ((closed : Bool) → fault_of (bytes ++ more) closed ≡ Some found)
