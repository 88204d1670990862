-- The ways through a rule: what its body may do one after the other, fragments put in, and which type is current where.
use Rattle.std.specs.Prelude.{ℕ, ◌≡◌, List, [], ◌∷◌, ◌++◌, false, Contains, All}
use Rattle.lw_base.specs.declared.token.Span.{Span}
use Rattle.lw_grammar.specs.declared.grammar.Grammar.{Grammar}
use Rattle.lw_grammar.specs.declared.rule.Element.{Element, out-Element}
use Rattle.lw_grammar.specs.declared.rule.Element.TheOpen.{Element-F, Keyword, Call, Assign, Act, Group, Choice, Maybe, Many, Some1}
use Rattle.lw_grammar.specs.declared.rule.Value0.{Value0}
use Rattle.lw_grammar.specs.declared.rule.Op.{Op}
use Rattle.lw_grammar.specs.declared.rule.Rule.{Rule}
use Rattle.lw_grammar.specs.declared.rule.Action.{Action}
use Rattle.lw_grammar.specs.Leaves as leaf
use Rattle.lw_grammar.specs.Leaves.{Leaf, IsFragmentCall}
use Rattle.lw_grammar.specs.Named.{IsRule}
use Rattle.lw_grammar.specs.Nodes.{MakesNodes}
use Rattle.lw_grammar.specs.Subtypes.{HasType}

-- an assignment, an action, or a call that is not assigned, and the rule in whose body it is written
pub record Step : Type 0 where
  pub written : Rule
  pub leaf : Leaf

abbrev pub step : Rule → Leaf → Step
step rule l = record { written = rule; leaf = l }

module _ (g : Grammar) where
  -- a call of a fragment, whose body stands here
  abbrev pub PutsInFragment : Leaf → Type 0
  PutsInFragment l = (f : ℕ) × (fragment : Rule) × IsFragmentCall g l f fragment

  -- `GoesThrough rule e steps`: the element e, written in this rule, may do these steps, one after the other, fragments put in
  mutual
    pub data GoesThrough : Rule → Element → List Step → Type 0 where
      goes : {rule : Rule} {e : Element} {steps : List Step} → GoesLayer rule (out-Element e) steps → GoesThrough rule e steps

    pub data GoesLayer : Rule → Element-F Element → List Step → Type 0 where
      keyword : {rule : Rule} {text : List ℕ} {s : Span} → GoesLayer rule (Keyword text s) []
      called : {rule : Rule} {name : List ℕ} {s : Span} → ¬ PutsInFragment (leaf.Call name s) → GoesLayer rule (Call name s) (step rule (leaf.Call name s) ∷ [])
      put_in : {rule : Rule} {name : List ℕ} {s : Span} {steps : List Step} (f : ℕ) (fragment : Rule) → IsFragmentCall g (leaf.Call name s) f fragment →
          GoesThrough fragment fragment.body steps → GoesLayer rule (Call name s) steps
      assigned : {rule : Rule} {p : List ℕ} {op : Op} {v : Value0} {s : Span} → GoesLayer rule (Assign p op v s) (step rule (leaf.Assign p op v s) ∷ [])
      acted : {rule : Rule} {a : Action} → GoesLayer rule (Act a) (step rule (leaf.Act a) ∷ [])
      grouped : {rule : Rule} {es : List Element} {s : Span} {steps : List Step} → GoesAll rule es steps → GoesLayer rule (Group es s) steps
      chosen : {rule : Rule} {es : List Element} {s : Span} {e : Element} {steps : List Step} → Contains es e → GoesThrough rule e steps →
          GoesLayer rule (Choice es s) steps
      skipped : {rule : Rule} {e : Element} {s : Span} → GoesLayer rule (Maybe e s) []
      taken : {rule : Rule} {e : Element} {s : Span} {steps : List Step} → GoesThrough rule e steps → GoesLayer rule (Maybe e s) steps
      repeated : {rule : Rule} {e : Element} {s : Span} {steps : List Step} → GoesAgain rule e steps → GoesLayer rule (Many e s) steps
      repeated_once : {rule : Rule} {e : Element} {s : Span} {first more : List Step} → GoesThrough rule e first → GoesAgain rule e more →
          GoesLayer rule (Some1 e s) (first ++ more)

    -- each of a row, in order
    pub data GoesAll : Rule → List Element → List Step → Type 0 where
      none : {rule : Rule} → GoesAll rule [] []
      more : {rule : Rule} {e : Element} {es : List Element} {first others : List Step} → GoesThrough rule e first → GoesAll rule es others →
          GoesAll rule (e ∷ es) (first ++ others)

    -- the same element any number of times
    pub data GoesAgain : Rule → Element → List Step → Type 0 where
      stop : {rule : Rule} {e : Element} → GoesAgain rule e []
      again : {rule : Rule} {e : Element} {first others : List Step} → GoesThrough rule e first → GoesAgain rule e others → GoesAgain rule e (first ++ others)

  -- `GetsTo rule e before l`: the element e, written in this rule, may do the steps `before`, and then it is at the leaf l, which is written in
  -- it too: an assignment, an action or a call, also one of a fragment. What is in the middle of a repetition may have gone through it before.
  mutual
    pub data GetsTo : Rule → Element → List Step → Leaf → Type 0 where
      comes : {rule : Rule} {e : Element} {before : List Step} {l : Leaf} → ComesLayer rule (out-Element e) before l → GetsTo rule e before l

    pub data ComesLayer : Rule → Element-F Element → List Step → Leaf → Type 0 where
      called : {rule : Rule} {name : List ℕ} {s : Span} → ComesLayer rule (Call name s) [] (leaf.Call name s)
      assigned : {rule : Rule} {p : List ℕ} {op : Op} {v : Value0} {s : Span} → ComesLayer rule (Assign p op v s) [] (leaf.Assign p op v s)
      acted : {rule : Rule} {a : Action} → ComesLayer rule (Act a) [] (leaf.Act a)
      grouped : {rule : Rule} {es : List Element} {s : Span} {before : List Step} {l : Leaf} → ComesAlong rule es before l → ComesLayer rule (Group es s) before l
      chosen : {rule : Rule} {es : List Element} {s : Span} {e : Element} {before : List Step} {l : Leaf} → Contains es e → GetsTo rule e before l →
          ComesLayer rule (Choice es s) before l
      taken : {rule : Rule} {e : Element} {s : Span} {before : List Step} {l : Leaf} → GetsTo rule e before l → ComesLayer rule (Maybe e s) before l
      repeated : {rule : Rule} {e : Element} {s : Span} {turns before : List Step} {l : Leaf} → GoesAgain rule e turns → GetsTo rule e before l →
          ComesLayer rule (Many e s) (turns ++ before) l
      repeated_once : {rule : Rule} {e : Element} {s : Span} {turns before : List Step} {l : Leaf} → GoesAgain rule e turns → GetsTo rule e before l →
          ComesLayer rule (Some1 e s) (turns ++ before) l

    -- along a row, whose parts before it were gone through
    pub data ComesAlong : Rule → List Element → List Step → Leaf → Type 0 where
      here : {rule : Rule} {e : Element} {es : List Element} {before : List Step} {l : Leaf} → GetsTo rule e before l → ComesAlong rule (e ∷ es) before l
      later : {rule : Rule} {e : Element} {es : List Element} {first before : List Step} {l : Leaf} → GoesThrough rule e first → ComesAlong rule es before l →
          ComesAlong rule (e ∷ es) (first ++ before) l

  -- `BodyBegins rule before inside`: on some way through the rule, which is no fragment, these steps come before the body of `inside` begins, which is
  -- the rule itself or a fragment that is put in.
  pub data BodyBegins : Rule → List Step → Rule → Type 0 where
    itself : {rule : Rule} → Contains g.rules rule → rule.is_fragment ≡ false → BodyBegins rule [] rule
    put_in : {rule inside : Rule} {before more : List Step} (l : Leaf) (f : ℕ) (fragment : Rule) → BodyBegins rule before inside →
        GetsTo inside inside.body more l → IsFragmentCall g l f fragment → BodyBegins rule (before ++ more) fragment

  -- On some way through the rule, which is no fragment, this step comes, and these before it.
  pub record IsBehind (rule : Rule) (before : List Step) (at : Step) : Type 0 where
    pub outside : List Step
    pub inside : List Step
    pub begins : BodyBegins rule outside at.written
    pub comes : GetsTo at.written at.written.body inside at.leaf
    pub single : ¬ PutsInFragment at.leaf
    pub all : before ≡ outside ++ inside

  -- the step calls, without assigning it, a rule that makes nodes
  pub data CallsNode : Leaf → Rule → Type 0 where
    node : {name : List ℕ} {s : Span} (r : ℕ) (called : Rule) → IsRule g name r called → called.is_fragment ≡ false → MakesNodes g called →
        CallsNode (leaf.Call name s) called

  abbrev pub IsNodeCall : Leaf → Type 0
  IsNodeCall l = (called : Rule) × CallsNode l called

-- the step is an action
pub data IsAct : Leaf → Type 0 where
  act : {a : Action} → IsAct (leaf.Act a)

abbrev pub NoneActs : List Step → Type 0
NoneActs steps = All (λ x. ¬ IsAct x.leaf) steps

module _ (g : Grammar) (rule : Rule) where
  -- The type that is current in the rule behind these steps: that of the last action, else of the rule of the last call of one that makes
  -- nodes, else of the rule itself.
  pub data IsCurrentType : List Step → List ℕ → Type 0 where
    acted : (before after : List Step) (written : Rule) (a : Action) → NoneActs after → IsCurrentType (before ++ step written (leaf.Act a) ∷ after) a.type_name
    called : {type_name : List ℕ} (before after : List Step) (at : Step) (called : Rule) → NoneActs (before ++ at ∷ after) → CallsNode g at.leaf called →
        All (λ x. ¬ IsNodeCall g x.leaf) after → HasType g called type_name → IsCurrentType (before ++ at ∷ after) type_name
    own : {steps : List Step} {type_name : List ℕ} → NoneActs steps → All (λ x. ¬ IsNodeCall g x.leaf) steps → HasType g rule type_name →
        IsCurrentType steps type_name
