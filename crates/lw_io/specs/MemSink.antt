-- What a sink in memory has taken, and how its calls went.
use Rattle.std.specs.Prelude.{ℕ, List}
use Rattle.lw_io.specs.declared.mem_sink.MemSink.{MemSink}

-- the bytes taken
abbrev pub sink_taken : MemSink → List ℕ
sink_taken s = s.bytes.items

-- the numbers of the calls that fail
abbrev pub sink_failing : MemSink → List ℕ
sink_failing s = s.calls.failing.items

-- how many calls of `write` there were
abbrev pub sink_calls : MemSink → ℕ
sink_calls s = s.calls.made

-- how many of them failed
abbrev pub sink_faults : MemSink → ℕ
sink_faults s = s.calls.faults
