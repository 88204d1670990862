use Rattle.std.proofs.Common.{sym, ap, ◌∙◌, subst}
use Rattle.lw_builder.specs.Built.{ArePartsOf}
use Rattle.lw_builder.proofs.AllMarks.{visible_parts}
use Rattle.lw_lexer.specs.Recut.{added}
use Rattle.lw_tokens.specs.Cut.{visible}
use Rattle.lw_complete.proofs.written.says.Goals as goal

pub said_by-requires : goal.said_by-requires
said_by-requires c =
    let it = c.args.written.now.recut.now in
    subst (ArePartsOf it.text) (sym (c.as_slice.ensures.value ∙ c.in_ok-tokens.ensures ∙ ap visible c.added.ensures)) (visible_parts it.text (added it) c.requires.parts)
