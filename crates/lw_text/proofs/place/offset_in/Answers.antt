use Rattle.std.proofs.Common.{◌+◌, ap, subst}
use Rattle.lw_text.specs.Position.{AreCharsWithin, units_of}
use Rattle.lw_text.proofs.Offsets.{IsOffset-in_line, IsOffset-past, IsOffset-boundary, end_boundary, line_of_index}
use Rattle.lw_text.proofs.place.offset_in.Goals as goal

pub returns-in_default-clause-offset : goal.returns-in_default-clause-offset
returns-in_default-clause-offset c = IsOffset-past c.args.enc c.args.text.now c.args.starts.now c.args.at c.requires.starts c.in_default.ensures.lookup.3

pub line_end-requires : goal.line_end-requires
line_end-requires c =
    let found = c.in-Some.ensures.lookup in
    (line_of_index c.args.text.now c.args.starts.now c.args.at.line c.in-Some.start.now c.utf8.text c.requires.starts found.3.0 found.1).1.0

pub range-content-requires-clause-start_boundary : goal.range-content-requires-clause-start_boundary
range-content-requires-clause-start_boundary c some =
    let found = c.in-Some.ensures.lookup in
    (line_of_index c.args.text.now c.args.starts.now c.args.at.line c.in-Some.start.now c.utf8.text c.requires.starts found.3.0 found.1).1

pub range-content-requires-clause-end_boundary : goal.range-content-requires-clause-end_boundary
range-content-requires-clause-end_boundary c =
    let found = c.in-Some.ensures.lookup in
    let starts = (line_of_index c.args.text.now c.args.starts.now c.args.at.line c.in-Some.start.now c.utf8.text c.requires.starts found.3.0 found.1).1 in
    end_boundary c.args.text.now c.in-Some.start.now c.line_end.result starts.0 c.line_end.ensures

pub returns-clause-offset : goal.returns-clause-offset
returns-clause-offset c =
    let text = c.args.text.now in
    let start = c.in-Some.start.now in
    let found = c.in-Some.ensures.lookup in
    let line = (line_of_index text c.args.starts.now c.args.at.line start c.utf8.text c.requires.starts found.3.0 found.1).0 in
    let cs = c.place_behind.ensures.0 in
    let within = subst (λ bytes. AreCharsWithin (units_of c.args.enc) bytes c.args.at.character cs) c.range-content.ensures.value c.place_behind.ensures.1 in
    IsOffset-in_line c.args.enc text c.args.at (start + c.place_behind.result) start c.line_end.result cs line c.line_end.ensures within (ap (λ n. start + n) c.place_behind.ensures.2)

pub returns-clause-within : goal.returns-clause-within
returns-clause-within c = (IsOffset-boundary c.args.enc c.args.text.now c.args.at _ c.utf8.text (returns-clause-offset c)).0

pub returns-clause-boundary : goal.returns-clause-boundary
returns-clause-boundary c = (IsOffset-boundary c.args.enc c.args.text.now c.args.at _ c.utf8.text (returns-clause-offset c)).1
