use Rattle.std.proofs.Common.{arith}
use Rattle.lw_make.proofs.Standing.{put_refused, stands_more}
use Rattle.lw_make.proofs.making.making.put_one.Goals as goal

pub returns-in-Ok-clause-stands : goal.returns-in-Ok-clause-stands
returns-in-Ok-clause-stands c =
    stands_more c.args.workspace.now c.put.new.self c.args.count c.args.document c.in_ok-address.address c.in_ok-text.text c.in_ok-address.ensures c.in_ok-text.ensures.text
    c.in-Ok.ensures.agrees c.requires.stands

pub no_memory-requires : goal.no_memory-requires
no_memory-requires c =
    put_refused c.args.workspace.now c.args.count c.args.document c.in_ok-address.address c.in_ok-text.text c.in-Err.fault
    (omega (arith, c.requires.document, c.requires.greatest)) c.requires.stands (omega (arith, c.in_ok-text.ensures.fits)) c.in-Err.ensures.fault
