use Rattle.std.proofs.Common.{◌++◌, List, ℕ, drop, sym, ap, ◌∙◌}
use Rattle.std.proofs.lemmas.List.{take-append-drop}
use Rattle.lw_lexer.proofs.FrontEnds.{first_bytes}
use Rattle.lw_lexer.proofs.recut.recutter.beginning.Goals as goal

pub returns : goal.returns
returns c =
    let text = c.args.text.now in
    let n = c.floor_char_boundary.result in (
      drop n text,
      sym (take-append-drop n text) ∙ ap (λ (xs : List ℕ). xs ++ drop n text) (sym (c.range.ensures.value ∙ first_bytes text n)),
    )
