-- What each kind of mark changes.
use Rattle.std.proofs.Common.{ℕ, ◌≡◌, Option, Some, None, List, ◌∷◌, length, drop, slice_get, refl}
use Rattle.lw_base.specs.declared.token.Token.{Token}
use Rattle.lw_grammar.specs.declared.grammar.Grammar.{Grammar}
use Rattle.lw_grammar.specs.declared.rule.Op.{Op}
use Rattle.lw_grammar.specs.declared.rule.Value0.{Value0}
use Rattle.lw_grammar.specs.Marks as mark
use Rattle.lw_reading.specs.Grown.{Grown, Held, Nothing}
use Rattle.lw_reading.specs.Numbers.{IsNumberOfProperty}
use Rattle.lw_reading.specs.Brackets.{Bracket, InNode, InValue, Shuts}
use Rattle.lw_reading.specs.Follows.{ChangesOpen, opens, puts, shuts, ends, PutsValueIn}
use Rattle.lw_program.specs.Making.{AreRecipesOf, RecipeLists}

module _ (g : Grammar) (text : List ℕ) (ts : List Token) where
  pub shuts_so : (bs after : List Bracket) → ChangesOpen g text ts mark.Shut bs after → Shuts ts bs after
  shuts_so bs after (shuts s) = s

  -- the node that begins has the type that the recipes tell of its rule
  pub opens_so : (recipes : RecipeLists) (r : ℕ) (bs after : List Bracket) → AreRecipesOf g recipes → ChangesOpen g text ts (mark.Open r) bs after →
      (type : ℕ) × (slice_get recipes.opened r ≡ Some (Some (record { 0 = type }))) × (after ≡ InNode type (length ts) Nothing ∷ bs)
  opens_so recipes r bs after are (opens {type = type} {rule = rule} {name = name} at has number) = (type, are.types r type rule name at has number, refl)

  pub puts_so : (name : List ℕ) (op : Op) (c : Value0) (bs after : List Bracket) → ChangesOpen g text ts (mark.Put name op c) bs after →
      (p : ℕ) × IsNumberOfProperty g name p × (after ≡ InValue p op c (length ts) None ∷ bs)
  puts_so name op c bs after (puts {p = p} number) = (p, number, refl)

  pub record EndsSo (bs after : List Bracket) : Type 0 where
    pub p : ℕ
    pub op : Op
    pub c : Value0
    pub at : ℕ
    pub node : Option Grown
    pub type : ℕ
    pub from : ℕ
    pub held : Held
    pub holds : Held
    pub below : List Bracket
    pub was : bs ≡ InValue p op c at node ∷ InNode type from held ∷ below
    pub is : after ≡ InNode type from holds ∷ below
    pub put : PutsValueIn g text op c (drop at ts) node held p holds

  pub ends_so : (bs after : List Bracket) → ChangesOpen g text ts mark.End bs after → EndsSo bs after
  ends_so bs after (ends {type = type} {from = from} {at = at} {p = p} {held = held} {after = holds} {op = op} {c = c} {node = node} {bs = below} put) =
      record { p = p; op = op; c = c; at = at; node = node; type = type; from = from; held = held; holds = holds; below = below; was = refl; is = refl; put = put }
