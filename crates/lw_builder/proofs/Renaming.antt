-- Actions done to the node that is open.
use Rattle.std.proofs.Common.{ℕ, ◌≡◌, ◌+◌, ◌-◌, None, List, [], ◌∷◌, ◌++◌, refl, sym, subst, ap, ◌∙◌, arith}
use Rattle.lw_base.specs.declared.numbers.NodeId.{NodeId}
use Rattle.lw_base.specs.declared.numbers.PropId.{PropId}
use Rattle.lw_base.specs.declared.token.Token.{Token}
use Rattle.lw_grammar.specs.declared.grammar.Grammar.{Grammar}
use Rattle.lw_tree.specs.declared.node.Value.TheVariants.{Child}
use Rattle.lw_reading.specs.Grown.{Grown, Held, Nothing, Takes, size}
use Rattle.lw_reading.specs.Brackets.{Bracket, InNode, grown}
use Rattle.lw_builder.specs.Finishing.{finished}
use Rattle.lw_builder.specs.Tables.{stored, pointed}
use Rattle.lw_builder.specs.declared.builder.Builder.{Builder}
use Rattle.lw_builder.specs.declared.open.Open.TheVariants as variant
use Rattle.lw_builder.specs.declared.open.OpenNode.{OpenNode}
use Rattle.lw_builder.specs.Standing.{nodes_in, points_in, all_finished, all_stored, all_loose, all_pointed, AreOpen, more, node, StandsOpen}
use Rattle.lw_builder.specs.Steps.{IsReadyToFinish, IsFinished}
use Rattle.lw_builder.proofs.Taking.{Took, below_taken, ready}

-- what is open below the node that was taken off, and the node, whose type and start are known
pub record NodeTaken (g : Grammar) (bs : List Bracket) (t f : ℕ) (held : Held) (mid : Builder) (open_node : OpenNode) : Type 0 where
  pub below : AreOpen g bs mid.brackets.items
  pub type_is : open_node.type_id.0 ≡ t
  pub first_is : open_node.first ≡ f
  pub ready : IsReadyToFinish mid open_node bs held

same_type : {t u f h : ℕ} {x y : Held} → InNode t f x ≡ InNode u h y → t ≡ u
same_type e = cc

same_first : {t u f h : ℕ} {x y : Held} → InNode t f x ≡ InNode u h y → f ≡ h
same_first e = cc

same_held : {t u f h : ℕ} {x y : Held} → InNode t f x ≡ InNode u h y → x ≡ y
same_held e = cc

pub node_taken : (g : Grammar) (old mid : Builder) (open_node : OpenNode) (t f : ℕ) (held : Held) (bs : List Bracket) → Took old mid (variant.InNode open_node) →
    StandsOpen g old (InNode t f held ∷ bs) → NodeTaken g bs t f held mid open_node
node_taken g old mid open_node t f held bs took h =
    let r = ready g old mid open_node (InNode t f held) bs took h in
    record {
      below = (below_taken g _ _ _ (InNode t f held) bs took.brackets h.brackets).0;
      type_is = sym (same_type r.0.is);
      first_is = sym (same_first r.0.is);
      ready = subst (λ x. IsReadyToFinish mid open_node bs x) (sym (same_held r.0.is)) r.1;
    }

pub put_back : (g : Grammar) (mid new : Builder) (open_node next : OpenNode) (t f : ℕ) (held : Held) (bs : List Bracket) → NodeTaken g bs t f held mid open_node →
    new.finished.items ≡ mid.finished.items → new.kept.items ≡ mid.kept.items → new.loose.items ≡ mid.loose.items → new.refs.items ≡ mid.refs.items →
    new.brackets.items ≡ mid.brackets.items ++ variant.InNode next ∷ [] → next.first ≡ open_node.first → next.start ≡ open_node.start →
    next.values ≡ open_node.values → StandsOpen g new (InNode next.type_id.0 f held ∷ bs)
put_back g mid new open_node next t f held bs h finished kept loose refs push first start values = record {
  finished = finished ∙ h.ready.finished;
  stored = kept ∙ h.ready.stored;
  loose = loose ∙ h.ready.loose;
  refs = refs ∙ h.ready.refs;
  brackets = subst (λ l. AreOpen g (InNode next.type_id.0 f held ∷ bs) l) (sym push)
      (more h.below (node refl (first ∙ h.first_is) (start ∙ h.ready.start) (values ∙ h.ready.values)));
}

pub wrapped : (g : Grammar) (mid done new : Builder) (open_node next : OpenNode) (own : NodeId) (prop : PropId) (ts : List Token) (t f : ℕ) (held : Held)
    (bs : List Bracket) → NodeTaken g bs t f held mid open_node → IsFinished done own.0 bs (grown ts open_node.type_id.0 open_node.first held) →
    done.brackets.items ≡ mid.brackets.items → new.finished.items ≡ done.finished.items → new.kept.items ≡ done.kept.items →
    new.loose.items ≡ done.loose.items ++ (prop, Child own) ∷ [] → new.refs.items ≡ done.refs.items →
    new.brackets.items ≡ done.brackets.items ++ variant.InNode next ∷ [] → next.first ≡ open_node.first → next.start ≡ open_node.start →
    next.values ≡ open_node.values → StandsOpen g new (InNode next.type_id.0 f (Takes Nothing prop.0 (grown ts t f held)) ∷ bs)
wrapped g mid done new open_node next own prop ts t f held bs h is same finished_ kept loose refs push first start values =
    let x : Grown = grown ts t f held in
    let e : grown ts open_node.type_id.0 open_node.first held ≡ x = ap (λ n. grown ts n open_node.first held) h.type_is ∙ ap (λ n. grown ts t n held) h.first_is in
    let d : IsFinished done own.0 bs x = subst (λ y. IsFinished done own.0 bs y) e is in
    let own' : own ≡ record { 0 = nodes_in bs + 0 + size x - 1 } = ap (λ (n : ℕ). let y : NodeId = record { 0 = n } in y) (omega (arith, d.place)) in
    let b : ℕ = nodes_in bs in
    let z : b ≡ b + 0 = omega arith in
    let zr : points_in bs ≡ points_in bs + 0 = omega arith in
    record {
      finished = finished_ ∙ d.finished ∙ ap (λ n. all_finished bs ++ finished None None n x) z;
      stored = kept ∙ d.stored ∙ ap (λ n. all_stored bs ++ stored n (points_in bs) x) z ∙ ap (λ n. all_stored bs ++ stored (b + 0) n x) zr;
      loose = loose ∙ ap (λ l. l ++ (prop, Child own) ∷ []) d.loose ∙ ap (λ (o : NodeId). all_loose bs ++ (prop, Child o) ∷ []) own';
      refs = refs ∙ d.refs ∙ ap (λ n. all_pointed bs ++ pointed n x) z;
      brackets = subst (λ l. AreOpen g (InNode next.type_id.0 f (Takes Nothing prop.0 x) ∷ bs) l) (sym (push ∙ ap (λ l. l ++ variant.InNode next ∷ []) same))
          (more h.below (node refl (first ∙ h.first_is) (start ∙ h.ready.start) (values ∙ h.ready.values)));
    }
