-- What the tokens of a value become, against the grammar.
use Rattle.std.proofs.Common.{ℕ, ◌≡◌, Bool, true, false, List, bytes_eq, codes, if◌then◌else◌, refl, ap, ◌∙◌}
use Rattle.lw_base.specs.declared.token.Span.{Span}
use Rattle.lw_base.specs.declared.token.Token.{Token}
use Rattle.lw_base.specs.declared.numbers.PropId.{PropId}
use Rattle.lw_grammar.specs.declared.grammar.Grammar.{Grammar}
use Rattle.lw_grammar.specs.declared.rule.Op.{Op}
use Rattle.lw_grammar.specs.declared.rule.Value0.{Value0}
use Rattle.lw_gramlex.specs.Values.{word_name}
use Rattle.lw_tree.specs.declared.node.Reference.{Reference}
use Rattle.lw_tree.specs.declared.node.Value.{Value}
use Rattle.lw_tree.specs.declared.node.Value.TheVariants as value
use Rattle.lw_reading.specs.Grown.{Plain, as_value}
use Rattle.lw_reading.specs.Values as means
use Rattle.lw_reading.specs.Values.{NumberMeans, fits, too_large, no_number, TokenMeans, TokenNames, text_said, unquoted}
use Rattle.lw_reading.specs.Brackets.{span_of_tokens, joined_texts}
use Rattle.lw_reading.specs.Follows as follows
use Rattle.lw_reading.specs.Follows.{IsPlain, LooksUp, RefersBy}
use Rattle.lw_program.specs.declared.recipes.recipe.Content.{Content}
use Rattle.lw_program.specs.declared.recipes.recipe.Content.TheVariants as content
use Rattle.lw_program.specs.declared.recipes.recipe.TextForm.{TextForm}
use Rattle.lw_program.specs.declared.recipes.recipe.TextForm.TheVariants as form
use Rattle.lw_program.specs.Making as recipe
use Rattle.lw_program.specs.Making.{IsReference, IsMadeBy, IsNameForm, text_form}
use Rattle.lw_builder.specs.Contents.{said_in, IsMadeValue}

said_so : (name text : List ℕ) → said_in (text_form name) text ≡ text_said name text
said_so name text = by (bytes_eq name (codes "ID")) (bytes_eq name (codes "STRING"))
  where
    by : (a b : Bool) → said_in (if a then form.Identifier else if b then form.Quoted else form.Plain) text
        ≡ (if a then word_name text else if b then unquoted text else text)
    by true b = refl
    by false true = refl
    by false false = refl

-- a number's text means one value
pub means_one : (text : List ℕ) (s : Span) (v w : Plain) → NumberMeans text s v → NumberMeans text s w → v ≡ w
means_one text s v w (fits n f) (fits m h) = refl
means_one text s v w (fits n f) (too_large m h) = absurd (h f)
means_one text s v w (fits n f) (no_number m) = absurd (m n)
means_one text s v w (too_large n f) (fits m h) = absurd (f h)
means_one text s v w (too_large n f) (too_large m h) = refl
means_one text s v w (too_large n f) (no_number m) = absurd (m n)
means_one text s v w (no_number n) (fits m h) = absurd (n m)
means_one text s v w (no_number n) (too_large m h) = absurd (n m)
means_one text s v w (no_number n) (no_number m) = refl

module _ (g : Grammar) (text : List ℕ) (ts : List Token) where
  -- what is made by this content is that value, and no reference
  pub record MakesPlain (op : Op) (c : Value0) (v : Plain) : Type 0 where
    pub made : Content
    pub by : IsMadeBy g op c made
    pub so : (p : PropId) (old new : List Reference) (w : Value) → IsMadeValue text ts p made old new w → (new ≡ old) × (w ≡ as_value v)
    pub no_reference : ¬ IsReference made

  pub plain_made : (op : Op) (c : Value0) (v : Plain) → IsPlain g text op c ts v → MakesPlain op c v
  plain_made op c v follows.truth =
      record { made = content.Truth; by = recipe.truth refl; so = λ p old new w is. is; no_reference = λ no. no }
  plain_made op c v (follows.keyword {word = word} not is) =
      record { made = content.Keyword word; by = recipe.keyword not is; so = λ p old new w is. is; no_reference = λ no. no }
  plain_made op c v (follows.terminal n terminal not is at (means.number gives number)) =
      record {
        made = content.Number;
        by = recipe.number n terminal not is at gives;
        so = λ p old new w made. (made.0, made.3 ∙ ap as_value (means_one (joined_texts text ts) (span_of_tokens ts) made.1 v made.2 number));
        no_reference = λ no. no;
      }
  plain_made op c v (follows.terminal n terminal not is at (means.words gives)) =
      record {
        made = content.Text (text_form terminal.name);
        by = recipe.words n terminal not is at gives;
        so = λ p old new w made. (made.0, made.1 ∙ ap (λ l. value.Text l (span_of_tokens ts)) (said_so terminal.name (joined_texts text ts)));
        no_reference = λ no. no;
      }
  plain_made op c v (follows.data_type r rule not is at) =
      record { made = content.Text form.Plain; by = recipe.called r rule not is at; so = λ p old new w made. made; no_reference = λ no. no }

  -- the name that is looked up is said in a form that the recipes know
  pub looked_up : (name looked : List ℕ) → LooksUp g text name ts looked → (f : TextForm) × IsNameForm g name f × (said_in f (joined_texts text ts) ≡ looked)
  looked_up name looked (follows.terminal n terminal at (means.number gives)) = (form.Plain, recipe.number n terminal at gives, refl)
  looked_up name looked (follows.terminal n terminal at (means.words gives)) =
      (text_form terminal.name, recipe.words n terminal at gives, said_so terminal.name (joined_texts text ts))
  looked_up name looked (follows.data_type r rule at) = (form.Plain, recipe.data_type r rule at, refl)
