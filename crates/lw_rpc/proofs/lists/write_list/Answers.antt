use Rattle.std.proofs.Common.{◌≡◌, ◌+◌, ◌++◌, ◌∷◌, [], map, take, string_bytes, ap, sym, ◌∙◌, append_assoc, arith}
use Rattle.std.proofs.lemmas.Grind.{common_steps}
use Rattle.std.proofs.lemmas.List.Elements.{All-push, All-same}
use Rattle.std.specs.List.{join_with_byte}
use Rattle.serde_json.specs.Written.{comma_if}
use Rattle.lw_rpc.proofs.ListTexts.{is_later, is_later-push, join_with_byte-push}
use Rattle.lw_rpc.proofs.PushLemmas.{pushed_3}
use Rattle.lw_rpc.specs.Readable.{ReadsBack}
use Rattle.lw_rpc.proofs.lists.write_list.Goals as goal

pub parts-preserved : goal.parts-preserved
parts-preserved g c =
    let list = c.args.list.now in
    let part = c.part-item.result in
    let start = string_bytes c.args.out.now in
    let before = take c.parts.part-index list in
    let text = g.T.Part.text in
    let more : take (c.parts.part-index + 1) list ≡ before ++ part ∷ [] = grind (arith, common_steps) in
    let comma = c.in_ok-write_comma.ensures ∙ ap (λ later. string_bytes c.parts.out ++ comma_if later) c.parts.invariant.1 in
    let joined = join_with_byte 44 (map text before) in
    let written = pushed_3 start joined (comma_if (is_later before)) (text part) c.parts.invariant.0 comma c.in_ok-write.ensures.text in (
      written ∙ ap (λ t. start ++ t) (append_assoc joined (comma_if (is_later before)) (text part) ∙ sym (ap (λ parts. join_with_byte 44 (map text parts)) more ∙ join_with_byte-push text before part)),
      sym (ap is_later more ∙ is_later-push before part),
      All-same (λ a. ReadsBack (g.T.Part.value a)) (take (c.parts.part-index + 1) list) (before ++ part ∷ []) more
          (All-push (λ a. ReadsBack (g.T.Part.value a)) before part c.parts.invariant.2 c.in_ok-write.ensures.reads),
    )
