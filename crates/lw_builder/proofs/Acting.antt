-- Actions of the grammar, by their recipes.
use Rattle.std.proofs.Common.{ℕ, ◌≡◌, ◌<◌, Option, Some, None, Bool, List, ◌∷◌, length, slice_get, sym, subst, ◌∙◌}
use Rattle.std.specs.Prelude.{Result, Ok, Err, OnOk}
use Rattle.std.proofs.lemmas.Option.{none-some, same_Some, slice_get_within}
use Rattle.lw_base.specs.declared.numbers.PropId.{PropId}
use Rattle.lw_base.specs.declared.token.Token.{Token}
use Rattle.lw_grammar.specs.declared.grammar.Grammar.{Grammar}
use Rattle.lw_grammar.specs.declared.rule.Action.{Action}
use Rattle.lw_grammar.specs.Marks as mark
use Rattle.lw_reading.specs.Grown.{Held, Nothing, Takes}
use Rattle.lw_reading.specs.Numbers.{IsNumberOfType, IsNumberOfProperty}
use Rattle.lw_reading.specs.Brackets.{Bracket, InNode, grown}
use Rattle.lw_reading.specs.Follows.{ChangesOpen, renames, wraps}
use Rattle.lw_program.specs.declared.recipes.mark.TreeMark.TheVariants as numbered
use Rattle.lw_program.specs.declared.recipes.recipe.ActionRecipe.{ActionRecipe}
use Rattle.lw_program.specs.Meant.{MeansMark, acts}
use Rattle.lw_program.specs.Making.{AreRecipesOf, RecipeLists, IsPutNumber}
use Rattle.lw_builder.specs.declared.builder.Builder.{Builder}
use Rattle.lw_builder.specs.Standing.{StandsOpen}
use Rattle.lw_builder.specs.Steps.{DoesMark, EndsInNode, read_tokens}
use Rattle.lw_builder.proofs.OneNumber.{one_type, one_property}
use Rattle.lw_builder.proofs.Taking.{has_node}

-- what the recipe of the action says
record IsActionFor (g : Grammar) (a : Action) (r : ActionRecipe) : Type 0 where
  type_is : IsNumberOfType g a.type_name r.type_id.0
  put_is : IsPutNumber g a.put r.put

action_for : (g : Grammar) (recipes : RecipeLists) (n : ℕ) (a : Action) (r : ActionRecipe) → AreRecipesOf g recipes → MeansMark g (numbered.Act n) (mark.Act a) →
    slice_get recipes.done n ≡ Some r → IsActionFor g a r
action_for g recipes n a r are (acts {s = s} at stands) is =
    let h = are.actions n s a at stands in
    let same : h.0 ≡ r = same_Some h.0 r (sym h.1 ∙ is) in
    record {
      type_is = subst (λ (k : ActionRecipe). IsNumberOfType g a.type_name k.type_id.0) same h.2;
      put_is = subst (λ (k : ActionRecipe). IsPutNumber g a.put k.put) same h.3;
    }

pub has_action : (g : Grammar) (recipes : RecipeLists) (n : ℕ) (a : Action) → AreRecipesOf g recipes → MeansMark g (numbered.Act n) (mark.Act a) →
    n < length recipes.done
has_action g recipes n a are (acts {s = s} at stands) =
    let h = are.actions n s a at stands in
    slice_get_within recipes.done n h.0 h.1

-- an action is done to a node
pub record HasOpenNode (g : Grammar) (old : Builder) : Type 0 where
  pub type : ℕ
  pub from : ℕ
  pub held : Held
  pub below : List Bracket
  pub stands : StandsOpen g old (InNode type from held ∷ below)

pub acts_on : (g : Grammar) (old : Builder) (text : List ℕ) (ts : List Token) (a : Action) (bs after : List Bracket) → StandsOpen g old bs →
    ChangesOpen g text ts (mark.Act a) bs after → HasOpenNode g old
acts_on g old text ts a bs after h (renames {type = t} {from = f} {held = held} {bs = below} put number) =
    record { type = t; from = f; held = held; below = below; stands = h }
acts_on g old text ts a bs after h (wraps {type = t} {from = f} {held = held} {bs = below} put number prop) =
    record { type = t; from = f; held = held; below = below; stands = h }

pub acts_on_node : (g : Grammar) (old : Builder) (text : List ℕ) (ts : List Token) (a : Action) (bs after : List Bracket) → StandsOpen g old bs →
    ChangesOpen g text ts (mark.Act a) bs after → EndsInNode old
acts_on_node g old text ts a bs after h change =
    let n = acts_on g old text ts a bs after h change in
    has_node g old n.type n.from n.held n.below n.stands

no_put : (g : Grammar) (put : List ℕ × Bool) (was : Option (List ℕ × Bool)) → was ≡ Some put → IsPutNumber g was None → ⊥
no_put g put None e h = none-some put e
no_put g put (Some x) e h = h

a_put : (g : Grammar) (p : PropId) (was : Option (List ℕ × Bool)) → was ≡ None → IsPutNumber g was (Some p) → ⊥
a_put g p None e h = h
a_put g p (Some x) e h = none-some x (sym e)

put_number : (g : Grammar) (p : PropId) (name : List ℕ) (is_list : Bool) (was : Option (List ℕ × Bool)) → was ≡ Some (name, is_list) → IsPutNumber g was (Some p) →
    IsNumberOfProperty g name p.0
put_number g p name is_list None e h = absurd h
put_number g p name is_list (Some x) e h =
    let same : x ≡ (name, is_list) = same_Some x (name, is_list) e in
    subst (λ (k : List ℕ × Bool). IsNumberOfProperty g k.0 p.0) same h

renamed_so : (g : Grammar) (old new : Builder) (text : List ℕ) (ts : List Token) (a : Action) (r : ActionRecipe) (bs after : List Bracket) →
    ((type from : ℕ) (held : Held) (below : List Bracket) → StandsOpen g old (InNode type from held ∷ below) → StandsOpen g new (InNode r.type_id.0 from held ∷ below)) →
    IsActionFor g a r → r.put ≡ None → StandsOpen g old bs → ChangesOpen g text ts (mark.Act a) bs after → StandsOpen g new after
renamed_so g old new text ts a r bs after done is none h (renames {type = t} {from = f} {new = k} {held = held} {bs = below} put number) =
    subst (λ n. StandsOpen g new (InNode n f held ∷ below)) (one_type g a.type_name r.type_id.0 k is.type_is number) (done t f held below h)
renamed_so g old new text ts a r bs after done is none h (wraps {name = name} {is_list = is_list} put number prop) =
    absurd (no_put g (name, is_list) a.put put (subst (λ k. IsPutNumber g a.put k) none is.put_is))

pub renamed : {E : Type 0} (answer : Result (Unit {0}) E) (g : Grammar) (old new : Builder) (n : ℕ) (a : Action) (r : ActionRecipe) →
    ((g : Grammar) (type from : ℕ) (held : Held) (bs : List Bracket) → StandsOpen g old (InNode type from held ∷ bs) →
    OnOk answer (StandsOpen g new (InNode r.type_id.0 from held ∷ bs))) →
    MeansMark g (numbered.Act n) (mark.Act a) → slice_get old.recipes.now.done n ≡ Some r → r.put ≡ None → OnOk answer (DoesMark g (mark.Act a) old new)
renamed (Ok x) g old new n a r done means at none = λ bs after over h change.
    renamed_so g old new old.text.now (read_tokens old) a r bs after (done g) (action_for g old.recipes.now n a r over.recipes means at) none h change
renamed (Err e) g old new n a r done means at none = tt

wrapped_so : (g : Grammar) (old new : Builder) (text : List ℕ) (ts : List Token) (a : Action) (r : ActionRecipe) (p : PropId) (bs after : List Bracket) →
    ((type from : ℕ) (held : Held) (below : List Bracket) → StandsOpen g old (InNode type from held ∷ below) →
    StandsOpen g new (InNode r.type_id.0 from (Takes Nothing p.0 (grown ts type from held)) ∷ below)) →
    IsActionFor g a r → r.put ≡ Some p → StandsOpen g old bs → ChangesOpen g text ts (mark.Act a) bs after → StandsOpen g new after
wrapped_so g old new text ts a r p bs after done is some h (renames put number) = absurd (a_put g p a.put put (subst (λ k. IsPutNumber g a.put k) some is.put_is))
wrapped_so g old new text ts a r p bs after done is some h (wraps {type = t} {from = f} {new = k} {p = q} {held = held} {name = name} {is_list = is_list} {bs = below} put number prop) =
    let own : IsNumberOfProperty g name p.0 = put_number g p name is_list a.put put (subst (λ k. IsPutNumber g a.put k) some is.put_is) in
    subst (λ n. StandsOpen g new (InNode k f (Takes Nothing n (grown ts t f held)) ∷ below)) (one_property g name p.0 q own prop)
    (subst (λ n. StandsOpen g new (InNode n f (Takes Nothing p.0 (grown ts t f held)) ∷ below)) (one_type g a.type_name r.type_id.0 k is.type_is number) (done t f held below h))

pub wrapped : {E : Type 0} (answer : Result (Unit {0}) E) (g : Grammar) (old new : Builder) (n : ℕ) (a : Action) (r : ActionRecipe) (p : PropId) →
    ((g : Grammar) (type from : ℕ) (held : Held) (bs : List Bracket) → StandsOpen g old (InNode type from held ∷ bs) →
    OnOk answer (StandsOpen g new (InNode r.type_id.0 from (Takes Nothing p.0 (grown (read_tokens old) type from held)) ∷ bs))) →
    MeansMark g (numbered.Act n) (mark.Act a) → slice_get old.recipes.now.done n ≡ Some r → r.put ≡ Some p → OnOk answer (DoesMark g (mark.Act a) old new)
wrapped (Ok x) g old new n a r p done means at some = λ bs after over h change.
    wrapped_so g old new old.text.now (read_tokens old) a r p bs after (done g) (action_for g old.recipes.now n a r over.recipes means at) some h change
wrapped (Err e) g old new n a r p done means at some = tt
