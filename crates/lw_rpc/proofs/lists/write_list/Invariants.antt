use Rattle.std.proofs.Common.{◌≡◌, ◌++◌, map, take, string_bytes, All}
use Rattle.std.specs.List.{join_with_byte}
use Rattle.lw_rpc.proofs.ListTexts.{is_later}
use Rattle.lw_rpc.specs.Readable.{ReadsBack}
use Rattle.lw_rpc.proofs.lists.write_list.Given as goal

abbrev pub invariant-parts : goal.invariant-parts
invariant-parts g l =
    (string_bytes l.out ≡ string_bytes l.fn.out ++ join_with_byte 44 (map g.T.Part.text (take l.part-index l.list)))
    × (l.later ≡ is_later (take l.part-index l.list))
    × All (λ part. ReadsBack (g.T.Part.value part)) (take l.part-index l.list)
