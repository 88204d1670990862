-- What a store in memory holds, and how its calls went.
use Rattle.std.specs.Prelude.{ℕ, List, map}
use Rattle.lw_io.specs.declared.mem_store.MemStore.{MemStore}

-- the files, as pairs of a path and its bytes
abbrev pub store_files : MemStore → List (List ℕ × List ℕ)
store_files s = map (λ file. (file.0, file.1.items)) s.files.items

-- the numbers of the calls that fail
abbrev pub store_failing : MemStore → List ℕ
store_failing s = s.calls.failing.items

-- how many calls of `read` there were
abbrev pub store_calls : MemStore → ℕ
store_calls s = s.calls.made

-- how many of them failed
abbrev pub store_faults : MemStore → ℕ
store_faults s = s.calls.faults
