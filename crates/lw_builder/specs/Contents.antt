-- What the tokens of a value become.
use Rattle.std.specs.Prelude.{ℕ, ◌≡◌, Option, Some, None, List, [], ◌∷◌, ◌++◌, length}
use Rattle.lw_base.specs.declared.numbers.NodeId.{NodeId}
use Rattle.lw_base.specs.declared.numbers.PropId.{PropId}
use Rattle.lw_base.specs.declared.token.Token.{Token}
use Rattle.lw_gramlex.specs.Values.{word_name}
use Rattle.lw_tree.specs.declared.node.Reference.{Reference}
use Rattle.lw_tree.specs.declared.node.Value.{Value}
use Rattle.lw_tree.specs.declared.node.Value.TheVariants as value
use Rattle.lw_reading.specs.Grown.{Plain, as_value}
use Rattle.lw_reading.specs.Values.{unquoted, NumberMeans}
use Rattle.lw_reading.specs.Brackets.{span_of_tokens, joined_texts}
use Rattle.lw_program.specs.declared.recipes.recipe.Content.{Content}
use Rattle.lw_program.specs.declared.recipes.recipe.Content.TheVariants as content
use Rattle.lw_program.specs.declared.recipes.recipe.TextForm.{TextForm}
use Rattle.lw_program.specs.declared.recipes.recipe.TextForm.TheVariants as form

-- what a text says in this form
abbrev pub said_in : TextForm → List ℕ → List ℕ
said_in form.Plain text = text
said_in form.Identifier text = word_name text
said_in form.Quoted text = unquoted text

-- the node of a reference that is not finished has no number yet, and 0 stands for it
abbrev pub nobody : NodeId
nobody = record { 0 = 0 }

module _ (text : List ℕ) (ts : List Token) (p : PropId) where
  -- `IsMade content old new v`: the tokens ts, which are put into p, are the value v. A reference stands behind those that were read before.
  abbrev pub IsMadeValue : Content → List Reference → List Reference → Value → Type 0
  IsMadeValue content.Truth old new v = (new ≡ old) × (v ≡ value.Truth (span_of_tokens ts))
  IsMadeValue (content.Keyword word) old new v = (new ≡ old) × (v ≡ value.Text word (span_of_tokens ts))
  IsMadeValue (content.Text form) old new v = (new ≡ old) × (v ≡ value.Text (said_in form (joined_texts text ts)) (span_of_tokens ts))
  IsMadeValue content.Number old new v = (new ≡ old) × (x : Plain) × NumberMeans (joined_texts text ts) (span_of_tokens ts) x × (v ≡ as_value x)
  IsMadeValue (content.Reference want form) old new v =
      (new ≡ old ++ record { owner = nobody; prop = p; want = want; name = said_in form (joined_texts text ts); span = span_of_tokens ts } ∷ [])
      × (v ≡ value.Refers (record { 0 = length old }))

  -- the value of the node that was finished among them, or what they are themselves
  abbrev pub IsWorth : Content → List Reference → List Reference → Option NodeId → Value → Type 0
  IsWorth made old new None v = IsMadeValue made old new v
  IsWorth made old new (Some place) v = (new ≡ old) × (v ≡ value.Child place)
