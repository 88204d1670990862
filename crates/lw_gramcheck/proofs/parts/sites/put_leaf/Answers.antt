use Rattle.std.proofs.Common.{map, sym, subst}
use Rattle.lw_numbers.specs.declared.leaves.body.BodyLeaf.{BodyLeaf}
use Rattle.lw_numbers.specs.Parts.{leaf_of}
use Rattle.lw_faults.specs.Finding.{Finds}
use Rattle.lw_gramcheck.specs.Sites.{site_of, LeafSites}
use Rattle.lw_gramcheck.proofs.parts.sites.put_leaf.Goals as goal

pub returns-in_ok-put_value-in-Assign : goal.returns-in_ok-put_value-in-Assign
returns-in_ok-put_value-in-Assign c = λ g known.
    let P : BodyLeaf → Type 0 = λ leaf. Finds (LeafSites g (leaf_of leaf)) (map site_of c.args.sites.now.items) (map site_of c.put_value.new.sites.items) in
    subst P (sym c.in-Assign.is) (c.in_ok-put_value-in-Assign.ensures g known)
