use Rattle.std.proofs.Common.{◌≡◌, nat_eq, Bool, ◌&&◌, rules, ap, Decides}
use Rattle.std.proofs.lemmas.Bool.Decides.{Decides-and, Decides-like}
use Rattle.std.proofs.lemmas.Slice.Eq.{slice_eq-Decides}
use Rattle.lw_base.specs.declared.numbers.NodeId.{NodeId}
use Rattle.lw_base.specs.declared.numbers.PropId.{PropId}
use Rattle.lw_tree.specs.declared.node.Value.{Value}
use Rattle.lw_tree.proofs.values.are_same_entries.Goals as goal

-- that all three parts are the same decides that they are
by_parts : (x y z : Bool) (a b : NodeId × PropId × Value) → Decides x (a.0 ≡ b.0) → Decides y (a.1 ≡ b.1) → Decides z (a.2 ≡ b.2) →
    Decides ((x && y) && z) (a ≡ b)
by_parts x y z a b node prop value =
    Decides-like ((x && y) && z) (λ same. same_parts a b same.0.0 same.0.1 same.1) (λ same. ((ap (λ e. e.0) same, ap (λ e. e.1) same), ap (λ e. e.2) same))
    (Decides-and (x && y) z (Decides-and x y node prop) value)
  where
    same_parts : (a b : NodeId × PropId × Value) → a.0 ≡ b.0 → a.1 ≡ b.1 → a.2 ≡ b.2 → a ≡ b
    same_parts (n, p, v) (m, q, w) node prop value = cc

pub returns : goal.returns
returns c = slice_eq-Decides (λ a b. by_parts (nat_eq a.0.0 b.0.0) (nat_eq a.1.0 b.1.0) _ a b (search rules) (search rules) (search rules)) _ _ _ c.eq.ensures
