-- What the text of a part is read by, where it is read by one token or one call.
use Rattle.std.specs.Prelude.{ℕ, ◌≡◌, List, Some, None}
use Rattle.lw_base.specs.declared.token.Span.{Span}
use Rattle.lw_grammar.specs.declared.grammar.Grammar.{Grammar}
use Rattle.lw_grammar.specs.declared.rule.Element.{Element, out-Element}
use Rattle.lw_grammar.specs.declared.rule.Element.TheOpen as layer
use Rattle.lw_grammar.specs.declared.rule.Value0.{Value0, out-Value0}
use Rattle.lw_grammar.specs.declared.rule.Value0.TheOpen as value
use Rattle.lw_grammar.specs.NameRules.{IsNameRule}
use Rattle.lw_look.specs.Sites.{Part, Body, Value}

-- the text of the part is this keyword
pub data PartKeyword : Part → List ℕ → Type 0 where
  element : {e : Element} {text : List ℕ} {s : Span} → out-Element e ≡ layer.Keyword text s → PartKeyword (Body e) text
  value_ : {v : Value0} {text : List ℕ} {s : Span} → out-Value0 v ≡ value.Keyword text s → PartKeyword (Value v) text

-- the text of the part is read by the rule or terminal of this name
pub data PartReadsBy (g : Grammar) : Part → List ℕ → Type 0 where
  element : {e : Element} {name : List ℕ} {s : Span} → out-Element e ≡ layer.Call name s → PartReadsBy g (Body e) name
  value_ : {v : Value0} {name : List ℕ} {s : Span} → out-Value0 v ≡ value.Call name s → PartReadsBy g (Value v) name
  crosses : {v : Value0} {wanted name : List ℕ} {s : Span} → out-Value0 v ≡ value.Cross wanted (Some name) s → PartReadsBy g (Value v) name
  crosses_by_name : {v : Value0} {wanted name : List ℕ} {s : Span} → out-Value0 v ≡ value.Cross wanted None s → IsNameRule g wanted name →
      PartReadsBy g (Value v) name
