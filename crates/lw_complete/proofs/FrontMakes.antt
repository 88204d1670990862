-- Where a put has the recipe of a reference, what is read is a cross-reference and becomes one.
use Rattle.std.proofs.Common.{◌≡◌, ◌≢◌, ℕ, List, Some, None, slice_get, refl, sym, ap, subst, ◌∙◌}
use Rattle.std.proofs.lemmas.Option.{same_Some}
use Rattle.lw_base.specs.declared.token.Span.{Span}
use Rattle.lw_grammar.specs.declared.grammar.Grammar.{Grammar}
use Rattle.lw_grammar.specs.declared.rule.Op.{Op}
use Rattle.lw_grammar.specs.declared.rule.Op.TheVariants.{Flag}
use Rattle.lw_grammar.specs.declared.rule.Value0.{Value0, out-Value0}
use Rattle.lw_grammar.specs.declared.rule.Value0.TheOpen as value
use Rattle.lw_grammar.specs.declared.rule.Value0.TheOpen.{Value0-F}
use Rattle.lw_grammar.specs.declared.terminal.Primitive.{Primitive}
use Rattle.lw_grammar.specs.declared.terminal.Primitive.TheVariants as primitive
use Rattle.lw_grammar.specs.declared.terminal.Terminal.{Terminal}
use Rattle.lw_grammar.specs.Kinds.{Kinds}
use Rattle.lw_grammar.specs.Named.{IsTerminal}
use Rattle.lw_look.specs.Sites.{PartSite, Value, IsPartAt, ValueAt, ValueCallsAt}
use Rattle.lw_look.specs.Sites as site
use Rattle.lw_look.proofs.Standing.{one_stands, same_value}
use Rattle.lw_reading.specs.Follows.{MakesReference}
use Rattle.lw_program.specs.Numbered.{put_sites}
use Rattle.lw_program.specs.ProgramOf.{ProgramParts, IsProgramOf}
use Rattle.lw_program.specs.Says.{CallsBy, Reads, SaysTask, Task}
use Rattle.lw_program.specs.Says as say
use Rattle.lw_program.specs.declared.instr.Instr.{Instr}
use Rattle.lw_program.specs.declared.recipes.mark.TreeMark.TheVariants as numbered
use Rattle.lw_program.specs.declared.recipes.recipe.Content.{Content}
use Rattle.lw_program.specs.declared.recipes.recipe.Content.TheVariants as content
use Rattle.lw_program.specs.declared.recipes.recipe.TextForm.TheVariants as form
use Rattle.lw_program.specs.declared.recipes.recipe.ValueRecipe.{ValueRecipe}
use Rattle.lw_program.specs.Making.{AreRecipesOf, IsMadeBy, IsReference, RecipeLists, text_form}
use Rattle.lw_program.specs.Making as made
use Rattle.lw_program.specs.Meant.{AssignedAt, MeansMark}
use Rattle.lw_program.specs.Meant as meant
use Rattle.lw_grammar.specs.Marks.{Put}
use Rattle.lw_viable.specs.Visiting.{IsReferencePut}
use Rattle.lw_viable.proofs.Moves.Saying.{instr_at}

text_differs : primitive.Text ≢ primitive.Number
text_differs e = cc

boolean_differs : primitive.Boolean ≢ primitive.Number
boolean_differs e = cc

big_differs : primitive.BigInt ≢ primitive.Number
big_differs e = cc

date_differs : primitive.Date ≢ primitive.Number
date_differs e = cc

module _ (g : Grammar) (of : Kinds) where
  value_form : {s : PartSite} {v c : Value0} {f : Value0-F Value0} → ValueAt g s v f → IsPartAt g s (Value c) → out-Value0 c ≡ f
  value_form (site.value_at at) stands = ap out-Value0 (same_value (one_stands g stands at))

  module _ (op : Op) (c : Value0) (not : (x : Content) → IsMadeBy g op c x → IsReference x) where
    no_flag : op ≢ Flag
    no_flag same = not content.Truth (made.truth same)

    no_words : {name : List ℕ} {s : Span} (n : ℕ) (t : Terminal) → out-Value0 c ≡ value.Call name s → IsTerminal g name n t → t.gives ≢ primitive.Number → ⊥
    no_words n t is named gives = not (content.Text (text_form t.name)) (made.words n t no_flag is named gives)

    no_terminal : {name : List ℕ} {s : Span} (n : ℕ) (t : Terminal) → out-Value0 c ≡ value.Call name s → IsTerminal g name n t → (p : Primitive) → t.gives ≡ p → ⊥
    no_terminal n t is named primitive.Number gives = not content.Number (made.number n t no_flag is named gives)
    no_terminal n t is named primitive.Text gives = no_words n t is named (λ same. text_differs (sym gives ∙ same))
    no_terminal n t is named primitive.Boolean gives = no_words n t is named (λ same. boolean_differs (sym gives ∙ same))
    no_terminal n t is named primitive.BigInt gives = no_words n t is named (λ same. big_differs (sym gives ∙ same))
    no_terminal n t is named primitive.Date gives = no_words n t is named (λ same. date_differs (sym gives ∙ same))

    no_call : {name : List ℕ} {s : Span} {i : Instr} → out-Value0 c ≡ value.Call name s → CallsBy g of name i → ⊥
    no_call is (say.terminal named) = no_terminal named.place named.terminal is named.meant named.terminal.gives refl
    no_call is (say.rule_ {r} {rule} named) = not (content.Text form.Plain) (made.called r rule no_flag is named)

    by_calls : {s : PartSite} {v : Value0} {name : List ℕ} {i : Instr} → ValueCallsAt g s v name → CallsBy g of name i → IsPartAt g s (Value c) → MakesReference op c
    by_calls (site.calls at) by stands = absurd (no_call (value_form at stands) by)
    by_calls (site.crosses {wanted} {name} {s} at) by stands = (no_flag, (wanted, Some name, s, value_form at stands))
    by_calls (site.crosses_by_name {wanted} {s} name at names) by stands = (no_flag, (wanted, None, s, value_form at stands))

    by_instr : {tasks : List Task} {s : PartSite} {i : Instr} → SaysTask g of tasks (Reads s) i → IsPartAt g s (Value c) → MakesReference op c
    by_instr (say.reads_keyword {text} at is) stands = absurd (not (content.Keyword text) (made.keyword no_flag (value_form at stands)))
    by_instr (say.reads_call called by) stands = by_calls called by stands

  module _ (program : ProgramParts) (is : IsProgramOf g of program) (recipes : RecipeLists) (are : AreRecipesOf g recipes) where
    pub makes_reference : {n : ℕ} (first : ℕ) {s : PartSite} {p : List ℕ} {op : Op} {c : Value0} → slice_get (put_sites g) n ≡ Some s →
        slice_get is.tasks first ≡ Some (Reads s) → MeansMark g (numbered.Put n) (Put p op c) → IsReferencePut recipes n → MakesReference op c
    makes_reference {n} first {s} {p} {op} {c} numbers reads (meant.puts {s = t} at assigned stands) refers =
        let same : t ≡ s = same_Some t s (sym at ∙ numbers) in
        let here : IsPartAt g s (Value c) = subst (λ (u : PartSite). IsPartAt g u (Value c)) same stands in
        let (recipe, there, number, told) = are.values n s p op c numbers (subst (λ (u : PartSite). AssignedAt g u p op) same assigned) here in
        let one : recipe ≡ refers.recipe = same_Some recipe refers.recipe (sym there ∙ refers.made) in
        let reference : IsReference recipe.content = subst (λ (r : ValueRecipe). IsReference r.content) (sym one) refers.refers in
        let (i, stood, says) = instr_at g of program is first reads in
        by_instr op c (λ x by. subst IsReference (told x by) reference) says here
