-- Those of the kinds of the visible tokens.
use Rattle.std.proofs.Common.{◌≡◌, IfOk, MatchOption, map, ap, ◌∙◌, subst}
use Rattle.std.proofs.lemmas.Simd.{map-map}
use Rattle.lw_base.specs.declared.numbers.KindId.{KindId}
use Rattle.lw_base.specs.declared.token.Token.{Token}
use Rattle.lw_grammar.specs.Sentences.{IsWhole}
use Rattle.lw_builder.specs.Built.{visible_of}
use Rattle.lw_parse.specs.Marked.{MeanOnlySentence}
use Rattle.lw_parse.proofs.parser.Parser.marks.Goals as goal

pub returns : goal.returns
returns c = λ g kinds k is supplied.
    let seen : map (λ (kind : KindId). kind.0) c.as_slice.result.now ≡ map (λ (t : Token). t.kind.0) (visible_of c.args.tokens.now) =
    ap (map (λ (kind : KindId). kind.0)) (c.as_slice.ensures.value ∙ c.in_ok-seen.ensures)
    ∙ map-map (λ (kind : KindId). kind.0) (λ (t : Token). t.kind) (visible_of c.args.tokens.now) in
    subst (λ ks. IfOk c.marks_of.result (λ found. MatchOption found (¬ IsWhole g kinds ks) (λ marks. MeanOnlySentence g kinds ks marks.items))) seen
    (c.marks_of.ensures g kinds k is supplied)
