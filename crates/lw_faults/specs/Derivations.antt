-- Faults of what rules can read: 7 left recursion, 8 reads nothing, 9 repeats nothing, 10 never ends. They are looked for over the rules that can
-- be reached from the entry.
use Rattle.std.specs.Prelude.{ℕ, ◌≡◌, ◌⊎◌, List, Some, false, slice_get, Contains}
use Rattle.lw_base.specs.declared.token.Span.{Span}
use Rattle.lw_grammar.specs.declared.grammar.Grammar.{Grammar}
use Rattle.lw_grammar.specs.declared.rule.Rule.{Rule}
use Rattle.lw_grammar.specs.declared.rule.Element.{Element, out-Element}
use Rattle.lw_grammar.specs.declared.rule.Element.TheOpen.{Element-F, Group, Choice, Maybe, Many, Some1}
use Rattle.lw_grammar.specs.Named.{IsEntry}
use Rattle.lw_grammar.specs.Reached.{IsReached}
use Rattle.lw_faults.specs.Reads.{MayRead, ComesFirstTo}

-- the parts of an element, itself too, at every depth
pub data HoldsDirectly : Element-F Element → Element → Type 0 where
  in_group : {es : List Element} {s : Span} {e : Element} → Contains es e → HoldsDirectly (Group es s) e
  in_choice : {es : List Element} {s : Span} {e : Element} → Contains es e → HoldsDirectly (Choice es s) e
  in_maybe : {e : Element} {s : Span} → HoldsDirectly (Maybe e s) e
  in_many : {e : Element} {s : Span} → HoldsDirectly (Many e s) e
  in_some : {e : Element} {s : Span} → HoldsDirectly (Some1 e s) e

pub data HasPart : Element → Element → Type 0 where
  itself : {e : Element} → HasPart e e
  inside : {e part deeper : Element} → HoldsDirectly (out-Element e) part → HasPart part deeper → HasPart e deeper

module _ (g : Grammar) where
  -- the rule of this number, which can be reached
  abbrev pub IsReachedRule : ℕ → Rule → Type 0
  IsReachedRule r rule = IsReached g r × (slice_get g.rules r ≡ Some rule)

  abbrev pub IsEntryRule : ℕ → Type 0
  IsEntryRule r = (rule : Rule) × IsEntry g r rule

  -- a rule can come to itself before it reads any token
  pub data LeftRecursion : ℕ → Span → List ℕ → Type 0 where
    left_recursion : (r : ℕ) (rule : Rule) → IsReachedRule r rule → ComesFirstTo g r r → LeftRecursion rule.file rule.span rule.name

  -- a rule other than the entry and fragments can read no token
  pub data ReadsNothing : ℕ → Span → List ℕ → Type 0 where
    reads_nothing : (r : ℕ) (rule : Rule) → IsReachedRule r rule → rule.is_fragment ≡ false → ¬ IsEntryRule r → MayRead g rule.body 0 →
        ReadsNothing rule.file rule.span rule.name

  -- what `*` or `+` repeats can read no token
  pub data RepeatsNothing : ℕ → Span → List ℕ → Type 0 where
    repeats_nothing : {s : Span} (r : ℕ) (rule : Rule) (e body : Element) → IsReachedRule r rule → HasPart rule.body e →
        (out-Element e ≡ Many body s) ⊎ (out-Element e ≡ Some1 body s) → MayRead g body 0 → RepeatsNothing rule.file s rule.name

  -- a rule has no finite sentence
  pub data NeverEnds : ℕ → Span → List ℕ → Type 0 where
    never_ends : (r : ℕ) (rule : Rule) → IsReachedRule r rule → ((n : ℕ) → ¬ MayRead g rule.body n) → NeverEnds rule.file rule.span rule.name
