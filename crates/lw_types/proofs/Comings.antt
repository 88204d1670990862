-- What is come to along a row and in a choice, and the ways of grammars that have keywords and assignments alone.
use Rattle.std.proofs.Common.{◌≡◌, ℕ, List, [], ◌∷◌, ◌++◌, All, Contains, refl, sym, subst}
use Rattle.lw_base.specs.declared.token.Span.{Span}
use Rattle.lw_grammar.specs.declared.grammar.Grammar.{Grammar}
use Rattle.lw_grammar.specs.declared.rule.Rule.{Rule}
use Rattle.lw_grammar.specs.declared.rule.Element.{Element}
use Rattle.lw_grammar.specs.declared.rule.Element.TheVariants.{Group, Choice, outs-Group, outs-Choice}
use Rattle.lw_grammar.specs.declared.rule.Element.TheOpen as layer
use Rattle.lw_grammar.specs.Leaves as leaf
use Rattle.lw_grammar.specs.Leaves.{Leaf, leaves, IsFragmentCall}
use Rattle.lw_grammar.specs.Subtypes.{HasType}
use Rattle.lw_faults.specs.Steps.{Step, GoesThrough, GetsTo, ComesLayer, ComesAlong, BodyBegins, IsBehind, IsAct, IsNodeCall, NoneActs, IsCurrentType}
use Rattle.lw_faults.specs.Steps as steps
use Rattle.lw_faults.proofs.StepLemmas.{HasWay, HoldsIn, what_comes, can_come, written, inside_rule, own_current}
use Rattle.lw_grammar.proofs.Every.{Every, every_of}
use Rattle.lw_flow.proofs.WrittenLemmas.{IsWritten, AllWritten, behind_written}

module _ (g : Grammar) (rule : Rule) where
  -- wherever a row comes to, this holds of the steps before and of what is there
  abbrev pub HoldsAlong : (List Step → Leaf → Type 0) → List Element → Type 0
  HoldsAlong P es = (before : List Step) (l : Leaf) → ComesAlong g rule es before l → P before l

  pub along_none : (P : List Step → Leaf → Type 0) → HoldsAlong P []
  along_none P before l does = elim does [ ]

  module _ (P : List Step → Leaf → Type 0) {e : Element} {es : List Element} {way : List Step} (has_way : HasWay g rule e way) (in_first : HoldsIn g P rule e)
      (in_others : HoldsAlong (λ before l. P (way ++ before) l) es) where
    along_others : (first before : List Step) (l : Leaf) → GoesThrough g rule e first → ComesAlong g rule es before l → P (first ++ before) l
    along_others first before l does along = subst (λ xs. P (xs ++ before) l) (sym (has_way first does)) (in_others before l along)

    pub along_more : HoldsAlong P (e ∷ es)
    along_more before l (steps.here there) = in_first before l there
    along_more _ l (steps.later {first} {before} does along) = along_others first before l does along

  module _ (P : List Step → Leaf → Type 0) (es : List Element) {s : Span} where
    group_layer : HoldsAlong P es → (before : List Step) (l : Leaf) → ComesLayer g rule (layer.Group es s) before l → P before l
    group_layer holds before l (ComesLayer.grouped along) = holds before l along

    pub group_holds : HoldsAlong P es → HoldsIn g P rule (Group es s)
    group_holds holds before l does = group_layer holds before l (what_comes g (outs-Group es s) does)

    choice_layer : Every (HoldsIn g P rule) es → (before : List Step) (l : Leaf) → ComesLayer g rule (layer.Choice es s) before l → P before l
    choice_layer all before l (ComesLayer.chosen {e} has does) = every_of (HoldsIn g P rule) es e all has before l does

    pub choice_holds : Every (HoldsIn g P rule) es → HoldsIn g P rule (Choice es s)
    choice_holds all before l does = choice_layer all before l (what_comes g (outs-Choice es s) does)

  -- and so it is come to
  module _ (es : List Element) {s : Span} {before : List Step} {l : Leaf} where
    pub to_row : ComesAlong g rule es before l → GetsTo g rule (Group es s) before l
    to_row along = can_come g (outs-Group es s) (ComesLayer.grouped along)

    pub to_chosen : (e : Element) → Contains es e → GetsTo g rule e before l → GetsTo g rule (Choice es s) before l
    to_chosen e has there = can_come g (outs-Choice es s) (ComesLayer.chosen has there)

-- ---- keywords and assignments alone

abbrev pub IsPlain : Leaf → Type 0
IsPlain (leaf.Keyword text s) = Unit {0}
IsPlain (leaf.Assign p op v s) = Unit {0}
IsPlain _ = ⊥

no_act : {l : Leaf} → IsPlain l → ¬ IsAct l
no_act plain steps.act = plain

module _ (g : Grammar) where
  no_call : {l : Leaf} → IsPlain l → ¬ IsNodeCall g l
  no_call plain (called, steps.node r _ _ _ _) = plain

  no_fragment : (l : Leaf) (f : ℕ) (fragment : Rule) → IsPlain l → ¬ IsFragmentCall g l f fragment
  no_fragment (leaf.Keyword text s) f fragment plain is = is
  no_fragment (leaf.Call name s) f fragment plain is = plain
  no_fragment (leaf.Assign p op v s) f fragment plain is = is
  no_fragment (leaf.Act a) f fragment plain is = is

  module _ (all : Every (λ (rule : Rule). Every IsPlain (leaves rule.body)) g.rules) where
    plain_leaf : (rule : Rule) (l : Leaf) → Contains g.rules rule → Contains (leaves rule.body) l → IsPlain l
    plain_leaf rule l has there = every_of IsPlain (leaves rule.body) l (every_of (λ (x : Rule). Every IsPlain (leaves x.body)) g.rules rule all has) there

    plain_step : (at : Step) → IsWritten g at → IsPlain at.leaf
    plain_step at is = plain_leaf at.written at.leaf is.0 is.1

    none_acts : {xs : List Step} → AllWritten g xs → NoneActs xs
    none_acts these = λ k d inside. no_act (plain_step _ (these.all k d inside))

    none_calls : {xs : List Step} → AllWritten g xs → All (λ x. ¬ IsNodeCall g x.leaf) xs
    none_calls these = λ k d inside. no_call (plain_step _ (these.all k d inside))

    module _ {rule : Rule} {before : List Step} {at : Step} (is : IsBehind g rule before at) where
      -- the type of the rule is current all over it
      pub own_is_current : {type_name : List ℕ} → HasType g rule type_name → IsCurrentType g rule before type_name
      own_is_current typed = steps.own (none_acts (behind_written g is)) (none_calls (behind_written g is)) typed

      pub current_is_own : {type_name : List ℕ} → IsCurrentType g rule before type_name → HasType g rule type_name
      current_is_own now = own_current g (none_acts (behind_written g is)) (none_calls (behind_written g is)) now

    -- and no rule is put in
    pub begins_itself : {rule inside : Rule} {before : List Step} → BodyBegins g rule before inside → inside ≡ rule
    begins_itself (steps.itself _ _) = refl
    begins_itself (BodyBegins.put_in {inside} l f fragment sooner gets is) = absurd (no_fragment l f fragment (plain_leaf inside l (inside_rule g sooner) (written g gets)) is)
