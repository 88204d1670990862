use Rattle.std.proofs.Common.{map, subst}
use Rattle.lw_faults.specs.Finding.{Finds, OfSome}
use Rattle.lw_properties.specs.Places.{spot_of}
use Rattle.lw_properties.specs.Mixing.{RuleInfers}
use Rattle.lw_properties.proofs.Freeing.{inferred_known}
use Rattle.lw_properties.proofs.inferred.inferred_types.Goals as goal

pub returns : goal.returns
returns c =
    let are = c.requires in
    let results = c.put_results.new.names.keys in
    let begun = subst (λ rules. Finds (OfSome RuleInfers rules) c.new-names.result.keys results) c.as_slice.ensures c.in_ok-put_results.ensures in
    inferred_known c.args.g.now are.rows are.ways (map spot_of c.args.places.now) are.all results c.put_actions.new.names.keys
    (subst (λ keys. Finds (OfSome RuleInfers c.args.g.now.rules) keys results) c.new-names.ensures.empty begun) c.in_ok-put_actions.ensures
