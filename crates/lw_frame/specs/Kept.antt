-- What a reader's fields are to its stream.
use Rattle.std.specs.Prelude.{◌≡◌, ◌≤◌, ◌++◌, length, drop}
use Rattle.std.specs.List.{concat}
use Rattle.lw_frame.specs.Frames.{bodies_of}
use Rattle.lw_frame.specs.Stream.{Reader}
use Rattle.lw_frame.specs.Reading.{bytes_of, ReadsTo}
use Rattle.lw_frame.specs.declared.reader.FrameReader.TheInside.{Inside}

abbrev pub seen_reader : Inside → Reader
seen_reader a = record {
  stream = record { fed = a.history.fed; closed = a.closed; given = a.history.given };
  held = concat a.finished.items ++ bytes_of a.incoming;
}

pub record IsKept (a : Inside) : Type 0 where
  pub finished : a.finished.items ≡ drop a.history.given (bodies_of a.history.fed)
  pub given : a.history.given ≤ length (bodies_of a.history.fed)
  pub rest : ReadsTo a.fault 0 a.history.fed (bodies_of a.history.fed) a.incoming
