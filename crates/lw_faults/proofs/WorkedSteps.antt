-- What the elements of the written grammars do and come to.
use Rattle.std.proofs.Common.{◌≡◌, ℕ, List, [], ◌∷◌, ◌++◌, refl, sym, subst}
use Rattle.lw_base.specs.declared.token.Span.{Span}
use Rattle.lw_grammar.specs.declared.grammar.Grammar.{Grammar}
use Rattle.lw_grammar.specs.declared.rule.Rule.{Rule}
use Rattle.lw_grammar.specs.declared.rule.Action.{Action}
use Rattle.lw_grammar.specs.declared.rule.Op.{Op}
use Rattle.lw_grammar.specs.declared.rule.Value0.{Value0}
use Rattle.lw_grammar.specs.declared.rule.Element.{Element}
use Rattle.lw_grammar.specs.declared.rule.Element.TheVariants.{Keyword, Call, Assign, Act, Group, Maybe, outs-Keyword, outs-Call, outs-Assign, outs-Act, outs-Group, outs-Maybe}
use Rattle.lw_grammar.specs.declared.rule.Element.TheOpen as layer
use Rattle.lw_grammar.specs.Leaves as leaf
use Rattle.lw_grammar.specs.Leaves.{Leaf}
use Rattle.lw_faults.specs.Steps.{Step, step, PutsInFragment, GoesThrough, GoesLayer, GetsTo, ComesLayer, ComesAlong}
use Rattle.lw_faults.specs.Steps as steps
use Rattle.lw_faults.proofs.StepLemmas.{HasWay, HoldsIn, what_goes, can_go, what_comes, can_come}

module _ (g : Grammar) {rule : Rule} where
  -- ---- these have one way
  module _ {text : List ℕ} {s : Span} where
    word_layer : (done : List Step) → GoesLayer g rule (layer.Keyword text s) done → done ≡ []
    word_layer _ steps.keyword = refl

    pub word_way : HasWay g rule (Keyword text s) []
    word_way done does = word_layer done (what_goes g (outs-Keyword text s) does)

    pub word_goes : GoesThrough g rule (Keyword text s) []
    word_goes = can_go g (outs-Keyword text s) steps.keyword

    word_comes : (P : List Step → Leaf → Type 0) (before : List Step) (l : Leaf) → ComesLayer g rule (layer.Keyword text s) before l → P before l
    word_comes P before l does = elim does [ ]

    pub word_holds : (P : List Step → Leaf → Type 0) → HoldsIn g P rule (Keyword text s)
    word_holds P before l does = word_comes P before l (what_comes g (outs-Keyword text s) does)

  module _ {p : List ℕ} {op : Op} {v : Value0} {s : Span} where
    assign_layer : (done : List Step) → GoesLayer g rule (layer.Assign p op v s) done → done ≡ step rule (leaf.Assign p op v s) ∷ []
    assign_layer _ GoesLayer.assigned = refl

    pub assign_way : HasWay g rule (Assign p op v s) (step rule (leaf.Assign p op v s) ∷ [])
    assign_way done does = assign_layer done (what_goes g (outs-Assign p op v s) does)

    pub assign_goes : GoesThrough g rule (Assign p op v s) (step rule (leaf.Assign p op v s) ∷ [])
    assign_goes = can_go g (outs-Assign p op v s) GoesLayer.assigned

    assign_comes : (P : List Step → Leaf → Type 0) → P [] (leaf.Assign p op v s) → (before : List Step) (l : Leaf) →
        ComesLayer g rule (layer.Assign p op v s) before l → P before l
    assign_comes P holds _ _ ComesLayer.assigned = holds

    pub assign_holds : (P : List Step → Leaf → Type 0) → P [] (leaf.Assign p op v s) → HoldsIn g P rule (Assign p op v s)
    assign_holds P holds before l does = assign_comes P holds before l (what_comes g (outs-Assign p op v s) does)

    pub to_assign : GetsTo g rule (Assign p op v s) [] (leaf.Assign p op v s)
    to_assign = can_come g (outs-Assign p op v s) ComesLayer.assigned

  module _ {a : Action} where
    act_layer : (done : List Step) → GoesLayer g rule (layer.Act a) done → done ≡ step rule (leaf.Act a) ∷ []
    act_layer _ GoesLayer.acted = refl

    pub act_way : HasWay g rule (Act a) (step rule (leaf.Act a) ∷ [])
    act_way done does = act_layer done (what_goes g (outs-Act a) does)

    pub act_goes : GoesThrough g rule (Act a) (step rule (leaf.Act a) ∷ [])
    act_goes = can_go g (outs-Act a) GoesLayer.acted

    act_comes : (P : List Step → Leaf → Type 0) → P [] (leaf.Act a) → (before : List Step) (l : Leaf) → ComesLayer g rule (layer.Act a) before l → P before l
    act_comes P holds _ _ ComesLayer.acted = holds

    pub act_holds : (P : List Step → Leaf → Type 0) → P [] (leaf.Act a) → HoldsIn g P rule (Act a)
    act_holds P holds before l does = act_comes P holds before l (what_comes g (outs-Act a) does)

    pub to_act : GetsTo g rule (Act a) [] (leaf.Act a)
    to_act = can_come g (outs-Act a) ComesLayer.acted

  module _ {name : List ℕ} {s : Span} where
    call_layer : ¬ PutsInFragment g (leaf.Call name s) → (done : List Step) → GoesLayer g rule (layer.Call name s) done → done ≡ step rule (leaf.Call name s) ∷ []
    call_layer none _ (GoesLayer.called _) = refl
    call_layer none done (GoesLayer.put_in f fragment is _) = absurd (none (f, fragment, is))

    pub call_way : ¬ PutsInFragment g (leaf.Call name s) → HasWay g rule (Call name s) (step rule (leaf.Call name s) ∷ [])
    call_way none done does = call_layer none done (what_goes g (outs-Call name s) does)

    pub call_goes : ¬ PutsInFragment g (leaf.Call name s) → GoesThrough g rule (Call name s) (step rule (leaf.Call name s) ∷ [])
    call_goes none = can_go g (outs-Call name s) (GoesLayer.called none)

    call_comes : (P : List Step → Leaf → Type 0) → P [] (leaf.Call name s) → (before : List Step) (l : Leaf) →
        ComesLayer g rule (layer.Call name s) before l → P before l
    call_comes P holds _ _ ComesLayer.called = holds

    pub call_holds : (P : List Step → Leaf → Type 0) → P [] (leaf.Call name s) → HoldsIn g P rule (Call name s)
    call_holds P holds before l does = call_comes P holds before l (what_comes g (outs-Call name s) does)

    pub to_call : GetsTo g rule (Call name s) [] (leaf.Call name s)
    to_call = can_come g (outs-Call name s) ComesLayer.called

  -- ---- two in a row
  pub to_first : {one : Element} (other : Element) {s : Span} {before : List Step} {l : Leaf} → GetsTo g rule one before l →
      GetsTo g rule (Group (one ∷ other ∷ []) s) before l
  to_first {one} other {s} there = can_come g (outs-Group (one ∷ other ∷ []) s) (ComesLayer.grouped (steps.here there))

  module _ {one other : Element} where
    module _ {s : Span} where
      pub pair_goes : {first second : List Step} → GoesThrough g rule one first → GoesThrough g rule other second →
          GoesThrough g rule (Group (one ∷ other ∷ []) s) (first ++ (second ++ []))
      pair_goes a b = can_go g (outs-Group (one ∷ other ∷ []) s) (GoesLayer.grouped (steps.more a (steps.more b steps.none)))

      pub to_second : {first before : List Step} {l : Leaf} → GoesThrough g rule one first → GetsTo g rule other before l →
          GetsTo g rule (Group (one ∷ other ∷ []) s) (first ++ before) l
      to_second does there = can_come g (outs-Group (one ∷ other ∷ []) s) (ComesLayer.grouped (steps.later does (steps.here there)))

    module _ (P : List Step → Leaf → Type 0) {way : List Step} (has_way : HasWay g rule one way) (in_first : HoldsIn g P rule one)
        (in_second : HoldsIn g (λ before l. P (way ++ before) l) rule other) where
      along_second : (first before : List Step) (l : Leaf) → GoesThrough g rule one first → ComesAlong g rule (other ∷ []) before l → P (first ++ before) l
      along_second first before l does (steps.here there) = subst (λ xs. P (xs ++ before) l) (sym (has_way first does)) (in_second before l there)
      along_second first _ l does (steps.later _ along) = elim along [ ]

      along_pair : (before : List Step) (l : Leaf) → ComesAlong g rule (one ∷ other ∷ []) before l → P before l
      along_pair before l (steps.here there) = in_first before l there
      along_pair _ l (steps.later {first} {before} does along) = along_second first before l does along

      pair_layer : (s : Span) (before : List Step) (l : Leaf) → ComesLayer g rule (layer.Group (one ∷ other ∷ []) s) before l → P before l
      pair_layer s before l (ComesLayer.grouped along) = along_pair before l along

      pub pair_holds : {s : Span} → HoldsIn g P rule (Group (one ∷ other ∷ []) s)
      pair_holds {s} before l does = pair_layer s before l (what_comes g (outs-Group (one ∷ other ∷ []) s) does)

  -- ---- once or not
  module _ {e : Element} {s : Span} (P : List Step → Leaf → Type 0) (inside : HoldsIn g P rule e) where
    maybe_layer : (before : List Step) (l : Leaf) → ComesLayer g rule (layer.Maybe e s) before l → P before l
    maybe_layer before l (ComesLayer.taken does) = inside before l does

    pub maybe_holds : HoldsIn g P rule (Maybe e s)
    maybe_holds before l does = maybe_layer before l (what_comes g (outs-Maybe e s) does)
