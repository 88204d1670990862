use Rattle.std.proofs.Common.{◌++◌, ◌∙◌, ap, codes, string_bytes, to_z-of_z}
use Rattle.std.specs.Fmt.{signed_decimal}
use Rattle.lw_rpc.proofs.PushLemmas.{pushed_2}
use Rattle.lw_rpc.proofs.published.write_member.Goals as goal

pub returns-clause-text : goal.returns-clause-text
returns-clause-text c =
    pushed_2 (string_bytes c.args.out.now) (codes ",\"version\":") (signed_decimal c.args.version) c.in_ok-push_str.ensures.bytes
    (c.in_ok-write_whole.ensures.text ∙ ap (λ z. string_bytes c.push_str.new.self ++ signed_decimal z) (to_z-of_z c.ranges.version))
