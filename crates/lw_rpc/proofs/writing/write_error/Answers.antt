use Rattle.std.proofs.Common.{◌++◌, ◌∙◌, ap, codes, string_bytes, to_z-of_z}
use Rattle.std.specs.Fmt.{signed_decimal}
use Rattle.json.specs.Print.{quoted}
use Rattle.lw_rpc.proofs.PushLemmas.{pushed_7}
use Rattle.lw_rpc.specs.Replies.{id_or_null_text}
use Rattle.lw_rpc.proofs.writing.write_error.Goals as goal

pub returns-clause-text : goal.returns-clause-text
returns-clause-text c =
    let code = c.in_ok-write_code.ensures.text ∙ ap (λ z. string_bytes c.push_str.new.self ++ signed_decimal z) (to_z-of_z c.ranges.code) in
    pushed_7 (string_bytes c.args.out.now)
    (codes "{\"error\":{\"code\":") (signed_decimal c.args.code)
    (codes ",\"message\":") (quoted c.args.message.now)
    (codes "},\"id\":") (id_or_null_text c.args.id.now)
    (codes ",\"jsonrpc\":\"2.0\"}")
    c.in_ok-push_str.ensures.bytes code c.in_ok-push_str-2.ensures.bytes c.in_ok-write_quoted.ensures c.in_ok-push_str-3.ensures.bytes c.in_ok-write_id_or_null.ensures.text c.in_ok-push_str-4.ensures.bytes
