use Rattle.std.proofs.Common.{◌≡◌, ◌≢◌, List, length, sym, subst, ◌∙◌}
use Rattle.std.proofs.lemmas.Bool.{true≢false}
use Rattle.std.proofs.lemmas.Bool.Decides.{Decides-eqb}
use Rattle.lw_program.specs.declared.recipes.mark.TreeMark.{TreeMark}
use Rattle.lw_complete.specs.Starts.{AreMarksBehind}
use Rattle.lw_complete.proofs.BlankFound.{goes_on_none, has_blank_tree}
use Rattle.lw_complete.proofs.starting.blank_names.Goals as goal

pub marks_behind-requires : goal.marks_behind-requires
marks_behind-requires c = (c.args.typing.now, c.args.before, c.requires)

pub names_behind-requires : goal.names_behind-requires
names_behind-requires c = (
  c.args.parser.now,
  c.requires,
  subst (λ (items : List (List TreeMark)). AreMarksBehind c.requires items) (sym c.as_slice.ensures.value)
      (c.in_ok-sentences.ensures c.args.typing.now c.args.before c.requires),
)

pub returns-then-is_empty : goal.returns-then-is_empty
returns-then-is_empty c ready trees address among =
    let sentences = c.in_ok-sentences.sentences in
    let none : length sentences.items ≡ 0 = sym sentences.ok.0 ∙ (Decides-eqb sentences.len 0).0 (sym c.is_empty.ensures ∙ c.if-is_empty.true) in
    goes_on_none ready sentences.items (c.in_ok-sentences.ensures c.args.typing.now c.args.before ready) none

pub returns : goal.returns
returns c ready trees address among =
    let sentences = c.in_ok-sentences.sentences in
    let behind = c.in_ok-sentences.ensures c.args.typing.now c.args.before ready in
    let some : length sentences.items ≢ 0 =
    λ none. true≢false (sym ((Decides-eqb sentences.len 0).1 (sentences.ok.0 ∙ none)) ∙ sym c.is_empty.ensures ∙ c.if-is_empty.false) in
    let told =
    c.in_ok-names.ensures c.args.parser.now ready trees address (subst (λ (items : List (List TreeMark)). AreMarksBehind ready items) (sym c.as_slice.ensures.value) behind) among in (
      has_blank_tree ready sentences.items behind some,
      λ name. (λ has. (told name).0 ((c.of.ensures name).0 has), λ is. (c.of.ensures name).1 ((told name).1 is)),
    )
