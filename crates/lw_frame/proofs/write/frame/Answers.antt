use Rattle.std.proofs.Common.{◌≡◌, ◌∙◌, ◌++◌, ℕ, List, length, ap}
use Rattle.std.specs.String.{string_bytes}
use Rattle.lw_frame.specs.Frames.{bodies_of, fault_of, frame_of, header_part_of}
use Rattle.lw_frame.proofs.Written.{bodies-frame, fault-frame}
use Rattle.lw_frame.proofs.write.frame.Goals as goal

pub returns : goal.returns
returns c =
    let body : List ℕ = c.args.body.now in
    let part : string_bytes c.into_string-text.result ≡ header_part_of (length body) = c.into_string-text.ensures ∙ c.in_ok-header_part.ensures ∙ ap (λ (bs : List ℕ). header_part_of (length bs)) c.bytes.ensures.bytes in
    let is : c.from_string.result ≡ frame_of body =
    c.from_string.ensures ∙ c.in_ok-push_str.ensures.bytes ∙ ap (λ bs. bs ++ c.text.result.now) part ∙ ap (λ bs. header_part_of (length body) ++ bs) c.text.ensures.text in
    record {
      bytes = is;
      first = λ h rest. ap (λ bs. bodies_of (bs ++ rest)) is ∙ bodies-frame body rest h;
      alone = λ h closed. ap (λ bs. fault_of bs closed) is ∙ fault-frame body closed h;
    }
