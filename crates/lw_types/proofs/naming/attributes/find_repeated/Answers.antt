use Rattle.std.proofs.Common.{◌↔◌, ℕ, List, Contains, length, take, ap, arith}
use Rattle.lw_faults.specs.Faults.{fault}
use Rattle.lw_faults.specs.Finding.{OfSome}
use Rattle.lw_faults.proofs.Joining.{Finds-iff, Finds-at-more, Finds-at-all}
use Rattle.lw_types.specs.Attributes.{IsAttributeNamed, RepeatsName}
use Rattle.lw_types.proofs.Gathering.{Finds-next, Finds-put, has_found, OneIf-iff}
use Rattle.lw_types.proofs.Membership.{item_at}
use Rattle.lw_types.proofs.naming.attributes.find_repeated.Goals as goal

pub loop-attribute-preserved : goal.loop-attribute-preserved
loop-attribute-preserved c =
    let interface = c.args.interface.now in
    let lent = c.as_slice-attribute-items in
    let i = c.loop-attribute.attribute-index in
    let a = c.attribute-item.result in
    let met : (name : List ℕ) → Contains c.loop-attribute.names.keys name ↔ OfSome IsAttributeNamed (take i interface.attributes) name =
    has_found c.loop-attribute.invariant.met in
    record {
      met =
          Finds-next IsAttributeNamed lent.result.now interface.attributes i a lent.ensures (omega arith) c.attribute-item.is c.loop-attribute.invariant.met
          (Finds-put a.name c.in_ok-meet.ensures.named);
      told =
          Finds-at-more (RepeatsName interface) interface.attributes i a
          (item_at lent.result.now interface.attributes i a lent.ensures (omega arith) c.attribute-item.is) c.loop-attribute.invariant.told
          (Finds-iff (OneIf-iff (fault 4 interface.file a.span a.name) (met a.name)) c.in_ok-meet.ensures.told);
    }

pub returns : goal.returns
returns c =
    let interface = c.args.interface.now in
    Finds-at-all (RepeatsName interface) interface.attributes c.loop-attribute.attribute-index (omega (arith, ap length c.as_slice-attribute-items.ensures))
    c.loop-attribute.invariant.told
