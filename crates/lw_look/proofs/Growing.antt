-- What true heads give is true: a head that a body can have before the end, and one that can follow a call.
use Rattle.std.proofs.Common.{◌≡◌, ℕ, List, [], Some, take, slice_get, sym, ap, ◌∙◌, append-nil}
use Rattle.lw_grammar.specs.declared.grammar.Grammar.{Grammar}
use Rattle.lw_grammar.specs.declared.rule.Rule.{Rule}
use Rattle.lw_grammar.specs.Named.{IsEntry}
use Rattle.lw_grammar.specs.Kinds.{Kinds}
use Rattle.lw_grammar.specs.Marks.{Mark, kinds_of}
use Rattle.lw_grammar.specs.Yields.{RuleGives}
use Rattle.lw_look.specs.Sites.{PartSite, body, Body, CallsAt}
use Rattle.lw_look.specs.Looks.{After}
use Rattle.lw_look.specs.Looks as look
use Rattle.lw_look.specs.Heads.{Can, CanFollow, AreTrueHeads, AreTrueAfters}
use Rattle.lw_look.specs.Supplied.{NodesAreTold}
use Rattle.lw_look.proofs.HeadsCover.{take_none}
use Rattle.lw_look.proofs.HeadsTrue.{element_yields, part_true, follow_true}
use Rattle.lw_look.proofs.Sentences.{body_gives}

module _ (g : Grammar) (kinds : Kinds) (k : ℕ) where
  -- behind the entry rule stands the end
  pub true_entry : {r : ℕ} {rule : Rule} → IsEntry g r rule → (ks : List ℕ) × After g kinds (body r) ks × ([] ≡ take k ks)
  true_entry entry = ([], look.entry entry, sym (take_none k))

  module _ (Holds : ℕ → List ℕ → Type 0) where
    -- what a body can have before the end is the head of what a call of its rule gives
    pub grown_head : {r : ℕ} {rule : Rule} {h : List ℕ} → AreTrueHeads g kinds k Holds → NodesAreTold g → slice_get g.rules r ≡ Some rule →
        Can g kinds k Holds (Body rule.body) [] h → (m : List Mark) × RuleGives g kinds r rule m × (h ≡ take k (kinds_of m))
    grown_head {r} {rule} true_heads decided there can =
        let b = part_true g kinds k Holds true_heads can [] (sym (take_none k)) in
        let c = body_gives g kinds decided r rule there (element_yields g kinds k b.yields) in
        (c.marks, c.gives, b.are ∙ ap (take k) (append-nil (kinds_of b.marks) ∙ sym c.are))

    -- what can follow a call is the head of what follows the rule that is called
    pub grown_after : {s : PartSite} {r : ℕ} {h : List ℕ} (Afters : ℕ → List ℕ → Type 0) → AreTrueHeads g kinds k Holds → AreTrueAfters g kinds k Holds Afters →
        CallsAt g s r → CanFollow g kinds k Holds Afters s h → (ks : List ℕ) × After g kinds (body r) ks × (h ≡ take k ks)
    grown_after Afters true_heads true_afters at can =
        let (ks, after, same) = follow_true g kinds k Holds true_heads Afters true_afters can in (ks, look.called at after, same)
