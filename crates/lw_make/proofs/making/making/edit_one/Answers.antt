use Rattle.std.proofs.Common.{◌≡◌, ◌+◌, ◌*◌, ◌%◌, ◌++◌, ◌∷◌, [], ℕ, ℤ, List, Ok, ap, sym, subst, ◌∙◌, arith, rules, to_z, of_z, w64}
use Rattle.std.specs.FinMap.{insert}
use Rattle.lw_build.specs.Agreeing.{Agrees}
use Rattle.lw_build.specs.View.{documents}
use Rattle.lw_machine.specs.Documents.{present_texts}
use Rattle.lw_machine.specs.Events.{edited}
use Rattle.lw_make.specs.Made.{edit_line, made_address, made_text, model_line, state_lines}
use Rattle.lw_make.specs.declared.edits.MadeEdit.{MadeEdit}
use Rattle.lw_text.specs.Changes.{Changes}
use Rattle.lw_text.specs.declared.units.Encoding.TheVariants.{Utf16}
use Rattle.lw_make.proofs.Editing.{built_so, edited_so, one_edited}
use Rattle.lw_make.proofs.Standing.{edit_refused}
use Rattle.lw_make.proofs.making.making.edit_one.Goals as goal

pub no_memory-requires : goal.no_memory-requires
no_memory-requires g c =
    let v = c.args.workspace.now in
    let count = c.args.count in
    let document = 10 * c.args.number in
    let address = c.in_ok-address.ensures ∙ ap (λ (e : MadeEdit). made_address e.document) c.in_ok-edit.ensures in
    let new : List ℕ = model_line document ++ edit_line document ++ state_lines document ((document + 1) % count) in
    edit_refused v c.in_ok-address.address (made_text document count) new (c.in_ok-edit.edit.change ∷ [])
    (ap (present_texts (documents v)) address ∙ c.requires.unedited c.args.number (omega arith) c.requires.number)
    (subst (λ (e : MadeEdit). Changes Utf16 (made_text document count) (e.change ∷ []) (Ok new)) (sym c.in_ok-edit.ensures)
    (c.edits_go_behind_the_model.ensures.text document count (omega (arith, c.requires.number)) c.requires.greatest))
    c.in-Err.fault c.in-Err.ensures.fault

pub returns-in-Ok-clause-edited : goal.returns-in-Ok-clause-edited
returns-in-Ok-clause-edited g c =
    let v = c.args.workspace.now in
    let (d, text, there, changes, agrees) = c.in-Ok.ensures.agrees (documents v) c.agrees.ensures.agrees in
    let version : to_z w64 (of_z w64 c.in_ok-edit.edit.version) ≡ c.in_ok-edit.edit.version = search rules in
    let now = subst (λ (z : ℤ). Agrees c.edit.new.self (insert (documents v) c.in_ok-address.address (edited d text z))) version agrees in
    let lists = c.in_ok-advance-in-Ok.field-0 in (
      lists,
      edited_so v.setting c.edit.new.self.setting c.args.number (documents v) (documents c.advance.new.self) c.in_ok-address.address c.in_ok-edit.edit d text lists
          c.in-Ok.ensures.setting c.in_ok-edit.ensures c.in_ok-address.ensures there changes (c.in_ok-advance-in-Ok.ensures.builds _ now),
      search rules,
    )

pub returns-in-Ok-clause-unedited : goal.returns-in-Ok-clause-unedited
returns-in-Ok-clause-unedited g c =
    let v = c.args.workspace.now in
    let (d, text, there, changes, agrees) = c.in-Ok.ensures.agrees (documents v) c.agrees.ensures.agrees in
    let version : to_z w64 (of_z w64 c.in_ok-edit.edit.version) ≡ c.in_ok-edit.edit.version = search rules in
    let now = subst (λ (z : ℤ). Agrees c.edit.new.self (insert (documents v) c.in_ok-address.address (edited d text z))) version agrees in
    let lists = c.in_ok-advance-in-Ok.field-0 in
    one_edited c.addresses_are_distinct.ensures v.setting c.args.count c.args.number (documents v) (documents c.advance.new.self) d text lists
    c.requires.greatest c.requires.unedited
    (built_so v.setting c.edit.new.self.setting c.args.number (documents v) (documents c.advance.new.self) c.in_ok-address.address c.in_ok-edit.edit d text lists
    c.in-Ok.ensures.setting c.in_ok-edit.ensures c.in_ok-address.ensures (c.in_ok-advance-in-Ok.ensures.builds _ now))
