use Rattle.std.proofs.Common.{◌++◌, ℕ, List, length, map, ap, ◌∙◌}
use Rattle.lw_base.specs.declared.token.Token.{Token}
use Rattle.lw_places.specs.Starting.{moved_by}
use Rattle.lw_complete.proofs.JoinedTokens.{is_blank}
use Rattle.lw_complete.proofs.blanks.blank.Goals as goal

pub returns : goal.returns
returns c of lexicon typed =
    let typing = c.args.typing.now in
    let cut = c.in-Ok.ensures.cut of lexicon typed.are_kinds typed.is_lexicon in
    is_blank typing typed c.text.ensures.utf8 (record { text = c.in_ok-with.field-0; tokens = c.in_ok-joined.field-0; others = c.in-Ok.others }) cut.0 cut.1
    c.in-Ok.ensures.of_kinds c.in-Ok.ensures.tile c.in-Ok.ensures.parts
    (c.in_ok-with.ensures ∙ ap (λ (bytes : List ℕ). typing.front.now ++ bytes) c.text.ensures.text)
    (c.in_ok-joined.ensures
    ∙ ap (λ (others : List Token). typing.tokens.now ++ map (moved_by (length typing.front.now)) others) c.as_slice.ensures.value)
