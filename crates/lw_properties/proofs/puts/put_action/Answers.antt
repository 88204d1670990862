use Rattle.std.proofs.Common.{map, sym, ap, ◌∙◌, subst}
use Rattle.std.proofs.lemmas.List.{map-append}
use Rattle.lw_faults.specs.Finding.{Finds}
use Rattle.lw_faults.proofs.Joining.{Finds-one, Finds-where, Finds-unless}
use Rattle.lw_properties.specs.Mixing.{putting_of, PutBy}
use Rattle.lw_properties.proofs.Asking.{ruled_out}
use Rattle.lw_properties.proofs.puts.put_action.Goals as goal

pub returns-in_ok-push-in-Some : goal.returns-in_ok-push-in-Some
returns-in_ok-push-in-Some c =
    let g = c.args.known.now.g.now in
    let place = c.args.place.now in
    let action = c.args.action.now in
    let olds = map putting_of c.args.puts.now.items in
    subst (λ put. Finds (PutBy g place.rule.now place.before.now action put) olds (map putting_of c.push.new.self.items)) (sym c.in-Some.is)
    (Finds-where _ _ (c.is_come_to_free.ensures.0 c.if-is_come_to_free.true)
    (subst (Finds _ olds) (sym (ap (map putting_of) c.in_ok-push-in-Some.ensures.items ∙ map-append putting_of c.args.puts.now.items _)) (Finds-one olds _)))

pub returns-else-is_come_to_free : goal.returns-else-is_come_to_free
returns-else-is_come_to_free c =
    let g = c.args.known.now.g.now in
    let place = c.args.place.now in
    let action = c.args.action.now in
    let olds = map putting_of c.args.puts.now.items in
    subst (λ put. Finds (PutBy g place.rule.now place.before.now action put) olds olds) (sym c.in-Some.is)
    (Finds-unless _ _ (ruled_out c.is_come_to_free.result c.is_come_to_free.ensures.0 c.is_come_to_free.ensures.1 c.if-is_come_to_free.false))
