-- What the recipe of a reference says is what the reference looks up.
use Rattle.std.proofs.Common.{◌≡◌, ◌↔◌, ℕ, List, Some, None, slice_get, refl, sym, ap, ◌∙◌, subst}
use Rattle.lw_substitution.proofs.OneReference.{no_plain_reference}
use Rattle.lw_base.specs.declared.numbers.TypeId.{TypeId}
use Rattle.lw_base.specs.declared.token.Token.{Token}
use Rattle.lw_builder.specs.Contents.{said_in}
use Rattle.lw_builder.proofs.Making.{looked_up}
use Rattle.lw_grammar.specs.declared.grammar.Grammar.{Grammar}
use Rattle.lw_grammar.specs.declared.rule.Op.{Op}
use Rattle.lw_grammar.specs.declared.rule.Value0.{Value0}
use Rattle.lw_reading.specs.Brackets.{joined_texts}
use Rattle.lw_reading.specs.Follows.{LooksUp, MakesReference, PutsValueIn, RefersBy}
use Rattle.lw_reading.specs.Follows as f
use Rattle.lw_reading.specs.Grown.{Held, Nothing}
use Rattle.lw_reading.specs.Numbers.{IsNumberOfType}
use Rattle.lw_program.specs.declared.recipes.mark.TreeMark.TheVariants as numbered
use Rattle.lw_program.specs.declared.recipes.recipe.Content.{Content}
use Rattle.lw_program.specs.declared.recipes.recipe.Content.TheVariants as contents
use Rattle.lw_program.specs.declared.recipes.recipe.Content.TheVariants.{Reference}
use Rattle.lw_program.specs.declared.recipes.recipe.TextForm.{TextForm}
use Rattle.lw_program.specs.declared.recipes.recipe.ValueRecipe.{ValueRecipe}
use Rattle.lw_program.specs.Making.{AreRecipesOf, IsMadeBy, IsReference, RecipeLists}
use Rattle.lw_program.specs.Making as making
use Rattle.lw_program.specs.Meant.{MeansMark}
use Rattle.lw_program.specs.Meant as meant
use Rattle.lw_reading.proofs.Meant.{IsReadAs, puts}
use Rattle.lw_grammar.specs.Marks.{Put}

-- what a reference is made by
pub record IsReferenceBy (content : Content) : Type 0 where
  pub want : TypeId
  pub form : TextForm
  pub is : content ≡ Reference want form

pub reference_by : (content : Content) → IsReference content → IsReferenceBy content
reference_by (contents.Reference want form) is = record { want = want; form = form; is = refl }
reference_by contents.Truth is = absurd is
reference_by (contents.Keyword word) is = absurd is
reference_by (contents.Text form) is = absurd is
reference_by contents.Number is = absurd is

-- a put has a recipe, by what is read
pub record HasRecipe (g : Grammar) (recipes : RecipeLists) (n : ℕ) (op : Op) (c : Value0) : Type 0 where
  pub recipe : ValueRecipe
  pub made : slice_get recipes.made n ≡ Some recipe
  pub content : (content : Content) → IsMadeBy g op c content → recipe.content ≡ content
  pub reference : IsReference recipe.content

pub recipe_of : (g : Grammar) {recipes : RecipeLists} {n : ℕ} {p : List ℕ} {op : Op} {c : Value0} → AreRecipesOf g recipes →
    MeansMark g (numbered.Put n) (Put p op c) → MakesReference op c → HasRecipe g recipes n op c
recipe_of g {n} {p} {op} {c} are (meant.puts {s} at assigned stands) makes =
    let (recipe, made, number, content) = are.values n s p op c at assigned stands in
    record { recipe = recipe; made = made; content = content; reference = are.references n s p op c at assigned stands makes recipe made }

same_form : {a b : TypeId} {one other : TextForm} → ◌≡◌ {A = Content} (Reference a one) (Reference b other) → one ≡ other
same_form is = cc

same_want : {g : Grammar} {c : Value0} {a b one other : List ℕ} → RefersBy g c a one → RefersBy g c b other → a ≡ b
same_want (f.written is) (f.written was) = let e = sym is ∙ was in cc
same_want (f.written is) (f.by_type was names) = let e = sym is ∙ was in cc
same_want (f.by_type is names) (f.written was) = let e = sym is ∙ was in cc
same_want (f.by_type is names) (f.by_type was also) = let e = sym is ∙ was in cc

module _ (g : Grammar) (text : List ℕ) {op : Op} {c : Value0} (makes : MakesReference op c) (read : IsReadAs g text c) where
  -- some name is looked up by these tokens
  record Looks (ts : List Token) : Type 0 where
    wanted : List ℕ
    rule : List ℕ
    looked : List ℕ
    want : ℕ
    refers : RefersBy g c wanted rule
    number : IsNumberOfType g wanted want
    means : LooksUp g text rule ts looked

  looks : (ts : List Token) → Looks ts
  looks ts = by (puts g text read op ts None Nothing 0)
    where
      by : (after : Held) × PutsValueIn g text op c ts None Nothing 0 after → Looks ts
      by (after, f.a_reference {want} {wanted} {name} {looked} not refers number means) =
          record { wanted = wanted; rule = name; looked = looked; want = want; refers = refers; number = number; means = means }
      by (after, f.plain is) = absurd (no_plain_reference g text makes is)

  module _ {recipes : RecipeLists} {n : ℕ} (has : HasRecipe g recipes n op c) (want : TypeId) (form : TextForm) (is : has.recipe.content ≡ Reference want form)
      (ts : List Token) where
    -- the form of the recipe is that of what is looked up
    formed : {wanted rule name : List ℕ} → RefersBy g c wanted rule → LooksUp g text rule ts name → said_in form (joined_texts text ts) ≡ name
    formed {wanted} {rule} {name} refers means =
        let l = looks ts in
        let number : IsNumberOfType g wanted l.want = subst (λ (w : List ℕ). IsNumberOfType g w l.want) (same_want l.refers refers) l.number in
        let (other, named, says) = looked_up g text ts rule name means in
        let made : has.recipe.content ≡ Reference (record { 0 = l.want }) other =
        has.content (Reference (record { 0 = l.want }) other) (making.reference makes.0 refers number named) in
        let same : form ≡ other = same_form (sym is ∙ made) in
        ap (λ (form : TextForm). said_in form (joined_texts text ts)) same ∙ says

    pub says_name : (name : List ℕ) →
        (said_in form (joined_texts text ts) ≡ name) ↔ ((wanted : List ℕ) × (rule : List ℕ) × RefersBy g c wanted rule × LooksUp g text rule ts name)
    says_name name = (
      λ says.
          let l = looks ts in
          (l.wanted, l.rule, l.refers, subst (LooksUp g text l.rule ts) (sym (formed l.refers l.means) ∙ says) l.means),
      λ (wanted, rule, refers, means). formed refers means,
    )
