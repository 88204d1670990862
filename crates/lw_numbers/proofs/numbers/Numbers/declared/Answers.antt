use Rattle.std.proofs.Common.{◌≡◌, ◌<◌, length, get_or, ap, ◌∙◌, sym, subst, bytes_eq}
use Rattle.std.specs.Map.{lookup}
use Rattle.lw_numbers.proofs.Meanings.{interface_inside, interface_read, union_inside, union_read, neither_declared}
use Rattle.lw_numbers.proofs.numbers.Numbers.declared.Goals as goal

pub bounds-as_slice-place : goal.bounds-as_slice-place
bounds-as_slice-place c =
    let name = c.args.name.now in
    let number = c.in-Some.number in
    subst (λ xs. number < length xs) (sym c.as_slice.ensures)
    (interface_inside c.args.g.now name c.args.self.now c.requires (c.get-interface.ensures.value ∙ ap (λ tables. lookup (bytes_eq name) tables.interfaces) c.self.view_is)
    (c.get-union.ensures.value ∙ ap (λ tables. lookup (bytes_eq name) tables.unions) c.self.view_is) number c.in-Some.ensures)

pub returns-in-Some : goal.returns-in-Some
returns-in-Some c =
    let name = c.args.name.now in
    let number = c.in-Some.number in
    let interface = c.index-as_slice-place.result in
    interface_read c.args.g.now name c.args.self.now c.requires (c.get-interface.ensures.value ∙ ap (λ tables. lookup (bytes_eq name) tables.interfaces) c.self.view_is)
    (c.get-union.ensures.value ∙ ap (λ tables. lookup (bytes_eq name) tables.unions) c.self.view_is) number c.in-Some.ensures interface
    (subst (λ xs. interface ≡ get_or xs number interface) c.as_slice.ensures c.index-as_slice-place.is)

pub bounds-as_slice-place-in-Some-number_ahead : goal.bounds-as_slice-place-in-Some-number_ahead
bounds-as_slice-place-in-Some-number_ahead c =
    let name = c.args.name.now in
    let number = c.in-Some-number_ahead.number in
    subst (λ xs. number < length xs) (sym c.as_slice-in-Some-number_ahead.ensures)
    (union_inside c.args.g.now name c.args.self.now c.requires (c.get-interface.ensures.value ∙ ap (λ tables. lookup (bytes_eq name) tables.interfaces) c.self.view_is)
    (c.get-union.ensures.value ∙ ap (λ tables. lookup (bytes_eq name) tables.unions) c.self.view_is) number c.in-Some-number_ahead.ensures)

pub returns-in-Some-number_ahead : goal.returns-in-Some-number_ahead
returns-in-Some-number_ahead c =
    let name = c.args.name.now in
    let number = c.in-Some-number_ahead.number in
    let union = c.index-as_slice-place-in-Some-number_ahead.result in
    union_read c.args.g.now name c.args.self.now c.requires (c.get-interface.ensures.value ∙ ap (λ tables. lookup (bytes_eq name) tables.interfaces) c.self.view_is)
    (c.get-union.ensures.value ∙ ap (λ tables. lookup (bytes_eq name) tables.unions) c.self.view_is) number c.in-Some-number_ahead.ensures union
    (subst (λ xs. union ≡ get_or xs number union) c.as_slice-in-Some-number_ahead.ensures c.index-as_slice-place-in-Some-number_ahead.is)

pub returns-in-None-number_ahead : goal.returns-in-None-number_ahead
returns-in-None-number_ahead c =
    let name = c.args.name.now in
    neither_declared c.args.g.now name c.args.self.now c.requires (c.get-interface.ensures.value ∙ ap (λ tables. lookup (bytes_eq name) tables.interfaces) c.self.view_is)
    (c.get-union.ensures.value ∙ ap (λ tables. lookup (bytes_eq name) tables.unions) c.self.view_is) c.in-None.ensures c.in-None-number_ahead.ensures
