use Rattle.std.proofs.Common.{sym, ap, ◌∙◌, subst}
use Rattle.std.proofs.lemmas.Option.{MatchOption-at_none}
use Rattle.std.specs.Str.{IsUtf8}
use Rattle.lw_tokens.specs.Patterns.{unescaped}
use Rattle.lw_terminals.proofs.UnescapingLemmas.{IsUtf8-unescaped}
use Rattle.lw_terminals.proofs.patterns.unescaping.unescaped.Goals as goal

pub unreachable-requires : goal.unreachable-requires
unreachable-requires c =
    let same = c.in_ok-unescaped_bytes.ensures ∙ ap unescaped c.bytes.ensures.bytes in
    MatchOption-at_none _ _ c.in-None.is c.from_vec.ensures (subst IsUtf8 (sym same) (IsUtf8-unescaped _ c.bytes.ensures.utf8))
