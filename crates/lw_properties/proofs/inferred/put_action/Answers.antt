use Rattle.std.proofs.Common.{sym, subst}
use Rattle.lw_faults.specs.Finding.{Finds}
use Rattle.lw_faults.proofs.Joining.{Finds-where}
use Rattle.lw_numbers.specs.Parts.{leaf_of}
use Rattle.lw_properties.specs.Mixing.{LeafInfers}
use Rattle.lw_properties.proofs.inferred.put_action.Goals as goal

pub returns-in_ok-put_name-in-Act : goal.returns-in_ok-put_name-in-Act
returns-in_ok-put_name-in-Act c =
    subst (λ l. Finds (LeafInfers (leaf_of l)) c.args.names.now.keys c.put_name.new.names.keys) (sym c.in-Act.is)
    (Finds-where _ _ c.if-action.true c.in_ok-put_name-in-Act.ensures)
