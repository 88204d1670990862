-- What an element may do, and what may be done before a leaf of it, where it is given what the fragments may do.
use Rattle.std.specs.Prelude.{ℕ, ◌≡◌, ◌↔◌, suc, List, Some, length, slice_get, Contains}
use Rattle.lw_base.specs.declared.token.Span.{Span}
use Rattle.lw_grammar.specs.declared.grammar.Grammar.{Grammar}
use Rattle.lw_grammar.specs.declared.rule.Element.{Element, out-Element}
use Rattle.lw_grammar.specs.declared.rule.Element.TheOpen.{Element-F, Keyword, Call, Assign, Act, Group, Choice, Maybe, Many, Some1}
use Rattle.lw_grammar.specs.declared.rule.Value0.{Value0}
use Rattle.lw_grammar.specs.declared.rule.Op.{Op}
use Rattle.lw_grammar.specs.declared.rule.Rule.{Rule}
use Rattle.lw_grammar.specs.declared.rule.Action.{Action}
use Rattle.lw_grammar.specs.Leaves as leaf
use Rattle.lw_grammar.specs.Leaves.{Leaf, IsFragmentCall}
use Rattle.lw_faults.specs.Steps.{PutsInFragment}
use Rattle.lw_flow.specs.declared.effect.Effect.{Effect}
use Rattle.lw_flow.specs.declared.effect.Effect.TheVariants.{Nothing, Fills, Acts}
use Rattle.lw_flow.specs.declared.callee.Callee.{Callee}
use Rattle.lw_flow.specs.declared.callee.Callee.TheVariants.{Fragment, Step}
use Rattle.lw_flow.specs.Callees.{IsCallee}
use Rattle.lw_flow.specs.Effects.{joined_effect, type_number, StepDoes}

module _ (g : Grammar) (table : ℕ → Effect → Type 0) where
  mutual
    -- the element may do this
    pub data Does : Element → Effect → Type 0 where
      does : {e : Element} {x : Effect} → DoesLayer (out-Element e) x → Does e x

    pub data DoesLayer : Element-F Element → Effect → Type 0 where
      keyword : {text : List ℕ} {s : Span} → DoesLayer (Keyword text s) Nothing
      called : {name : List ℕ} {s : Span} {x : Effect} → ¬ PutsInFragment g (leaf.Call name s) → StepDoes g (leaf.Call name s) x → DoesLayer (Call name s) x
      put_in : {name : List ℕ} {s : Span} {x : Effect} (f : ℕ) (fragment : Rule) → IsFragmentCall g (leaf.Call name s) f fragment → table f x →
          DoesLayer (Call name s) x
      assigned : {p : List ℕ} {op : Op} {v : Value0} {s : Span} → DoesLayer (Assign p op v s) Fills
      acted : {a : Action} → DoesLayer (Act a) (Acts (type_number g a.type_name))
      grouped : {es : List Element} {s : Span} {x : Effect} → DoesFirst es (length es) x → DoesLayer (Group es s) x
      chosen : {es : List Element} {s : Span} {e : Element} {x : Effect} → Contains es e → Does e x → DoesLayer (Choice es s) x
      skipped : {e : Element} {s : Span} → DoesLayer (Maybe e s) Nothing
      taken : {e : Element} {s : Span} {x : Effect} → Does e x → DoesLayer (Maybe e s) x
      stopped : {e : Element} {s : Span} → DoesLayer (Many e s) Nothing
      repeated : {e : Element} {s : Span} {x : Effect} → Does e x → DoesLayer (Many e s) x
      repeated_once : {e : Element} {s : Span} {x : Effect} → Does e x → DoesLayer (Some1 e s) x

    -- the first parts of a row may do this
    pub data DoesFirst : List Element → ℕ → Effect → Type 0 where
      nothing : {es : List Element} → DoesFirst es 0 Nothing
      one_more : {es : List Element} {k : ℕ} {e : Element} {x y : Effect} → DoesFirst es k x → slice_get es k ≡ Some e → Does e y →
          DoesFirst es (suc k) (joined_effect x y)

  -- such a call may do this
  abbrev pub CalleeDoes : Callee → Effect → Type 0
  CalleeDoes (Fragment f) x = table f x
  CalleeDoes (Step y) x = x ≡ y

  -- a call of this name may do exactly these
  pub record CallDoes (name : List ℕ) (effects : List Effect) : Type 0 where
    pub callee : Callee
    pub is : IsCallee g name callee
    pub exact : (x : Effect) → Contains effects x ↔ CalleeDoes callee x

  -- turns of a loop over the element may do this
  pub data DoesTurns (e : Element) : Effect → Type 0 where
    no_turn : DoesTurns e Nothing
    turn : {x : Effect} → Does e x → DoesTurns e x

  mutual
    -- before this leaf of the element this may be done
    pub data MayPrecede : Element → Effect → Leaf → Type 0 where
      comes : {e : Element} {x : Effect} {l : Leaf} → MayPrecedeLayer (out-Element e) x l → MayPrecede e x l

    pub data MayPrecedeLayer : Element-F Element → Effect → Leaf → Type 0 where
      called : {name : List ℕ} {s : Span} → MayPrecedeLayer (Call name s) Nothing (leaf.Call name s)
      assigned : {p : List ℕ} {op : Op} {v : Value0} {s : Span} → MayPrecedeLayer (Assign p op v s) Nothing (leaf.Assign p op v s)
      acted : {a : Action} → MayPrecedeLayer (Act a) Nothing (leaf.Act a)
      grouped : {es : List Element} {s : Span} {e : Element} {x y : Effect} {l : Leaf} (k : ℕ) → slice_get es k ≡ Some e → DoesFirst es k x → MayPrecede e y l →
          MayPrecedeLayer (Group es s) (joined_effect x y) l
      chosen : {es : List Element} {s : Span} {e : Element} {x : Effect} {l : Leaf} → Contains es e → MayPrecede e x l → MayPrecedeLayer (Choice es s) x l
      taken : {e : Element} {s : Span} {x : Effect} {l : Leaf} → MayPrecede e x l → MayPrecedeLayer (Maybe e s) x l
      repeated : {e : Element} {s : Span} {x y : Effect} {l : Leaf} → DoesTurns e x → MayPrecede e y l → MayPrecedeLayer (Many e s) (joined_effect x y) l
      repeated_once : {e : Element} {s : Span} {x y : Effect} {l : Leaf} → DoesTurns e x → MayPrecede e y l → MayPrecedeLayer (Some1 e s) (joined_effect x y) l
