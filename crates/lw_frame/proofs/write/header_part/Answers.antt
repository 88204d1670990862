use Rattle.std.proofs.Common.{◌∙◌, ◌++◌, sym, ap, codes, decimal, append_assoc}
use Rattle.lw_frame.specs.Lines.{line_end}
use Rattle.lw_frame.proofs.write.header_part.Goals as goal

pub returns : goal.returns
returns c =
    c.from_string.ensures ∙ c.in_ok-text.ensures.ok ∙ ap (λ bs. codes "Content-Length: " ++ bs) (sym (append_assoc (decimal c.args.body_length) line_end line_end))
