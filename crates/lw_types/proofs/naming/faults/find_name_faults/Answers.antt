use Rattle.std.proofs.Common.{List, sym, ap, ◌∙◌, subst}
use Rattle.std.proofs.lemmas.Result.{on_ok_weaker}
use Rattle.lw_grammar.specs.declared.grammar.Grammar.{Grammar}
use Rattle.lw_grammar.specs.declared.declared_types.Interface.{Interface}
use Rattle.lw_faults.specs.Finding.{Finds, OfSome}
use Rattle.lw_types.specs.Attributes.{RepeatsAttribute}
use Rattle.lw_types.proofs.NameFaults.{IsNameFault, parts_found}
use Rattle.lw_types.proofs.naming.faults.find_name_faults.Goals as goal

pub returns : goal.returns
returns c =
    let same = c.in_ok-names.ensures.grammar in
    let P : Grammar → Type 0 = λ g. Finds (IsNameFault g) c.args.found.now c.find_extending_others.new.found in
    let Q : List Interface → Type 0 = λ interfaces. Finds (OfSome RepeatsAttribute interfaces) c.find_wrong.new.found c.find_second_attributes.new.found in
    on_ok_weaker c.find_extending_others.result
    (λ others. subst P same
    (parts_found c.in_ok-names.names.g.now c.in_ok-find_second_declarations.ensures c.in_ok-find_wrong.ensures
    (subst Q (c.as_slice.ensures ∙ ap (λ g. g.interfaces) (sym same)) c.in_ok-find_second_attributes.ensures) c.in_ok-find_interface_circles.ensures
    c.in_ok-find_union_circles.ensures others)) c.find_extending_others.ensures
