use Rattle.std.proofs.Common.{◌≡◌, ◌++◌, sym, ◌∙◌}
use Rattle.std.specs.Char.{encode_utf8}
use Rattle.lw_terminals.proofs.Blank.{IsBlank-first, scalar_first}
use Rattle.lw_terminals.proofs.limits.is_blank.Goals as goal

pub returns-in-Some : goal.returns-in-Some
returns-in-Some c =
    let text = c.args.text.now in
    let starts : text ≡ encode_utf8 c.in-Some.c ++ c.next.new.self.rest.now =
    sym c.text.ensures.text ∙ sym c.chars.ensures.rest ∙ c.in-Some.ensures.steps.0 in
    let blank = IsBlank-first text _ c.in-Some.c (scalar_first text _ c.in-Some.c c.text.ensures.utf8 starts) starts in
    (λ space. blank.1 (sym c.is_whitespace.ensures ∙ space), λ is. c.is_whitespace.ensures ∙ blank.0 is)
