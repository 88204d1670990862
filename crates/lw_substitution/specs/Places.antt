-- Texts that are the same but for the tokens of one reference, and which of all references that is.
use Rattle.std.specs.Prelude.{ℕ, ◌≡◌, List, ◌++◌}
use Rattle.lw_base.specs.declared.token.Span.{Span}
use Rattle.lw_base.specs.declared.token.Token.{Token}
use Rattle.lw_grammar.specs.declared.grammar.Grammar.{Grammar}
use Rattle.lw_reading.specs.Brackets.{Bracket, span_of_tokens}
use Rattle.lw_reading.specs.Follows.{FollowsMarks, LooksUp, MakesReference, RefersBy}
use Rattle.lw_reading.specs.Numbers.{IsNumberOfProperty, IsNumberOfType}
use Rattle.lw_reading.specs.Growing.{GrowsRoot, ReadMarks}
use Rattle.lw_grammar.specs.Marks.{Mark}
use Rattle.lw_tokens.specs.Cut.{kinds}
use Rattle.lw_tree.specs.declared.node.Reference.{Reference}
use Rattle.lw_places.specs.Starting.{ReferenceNext, marks_with}
use Rattle.lw_substitution.specs.Growth.{points_open}
use Rattle.lw_substitution.specs.Tokens.{AreSameTokens}

module _ (g : Grammar) where
  -- so many references stand before the one that comes next behind these tokens
  pub record IsReferencePlace (text : List ℕ) (next : ReferenceNext) (front : List Token) (place : ℕ) : Type 0 where
    pub brackets : List Bracket
    pub follows : FollowsMarks g text next.before front brackets
    pub counted : points_open brackets ≡ place

  -- Two texts that say the same before a reference and behind it: `front` and `rest` are tokens of the one, `fore` and `others` of the other. What is read as
  -- the reference is left open.
  pub record DifferInReference (text other : List ℕ) (next : ReferenceNext) (place : ℕ) (front fore rest others : List Token) : Type 0 where
    pub makes : MakesReference next.op next.value
    pub place_of : IsReferencePlace text next front place
    pub same_front : AreSameTokens text other front fore
    pub same_rest : AreSameTokens text other rest others

  -- behind these marks and tokens others can follow that leave a root
  abbrev pub LeadsToRoot : List ℕ → List Mark → List Token → Type 0
  LeadsToRoot text m ts = (more : List Mark) × (others : List Token) × GrowsRoot g text (m ++ more) (ts ++ others)

  -- The reference that these tokens are read as: its property, the type that it wants, the name that they look up, and where they stand. Which node it
  -- stands in is not said.
  pub record IsReferenceFrom (text : List ℕ) (next : ReferenceNext) (ts : List Token) (r : Reference) : Type 0 where
    pub prop : IsNumberOfProperty g next.prop r.prop.0
    pub wanted : List ℕ
    pub rule : List ℕ
    pub refers : RefersBy g next.value wanted rule
    pub want : IsNumberOfType g wanted r.want.0
    pub means : LooksUp g text rule ts r.name
    pub span : r.span ≡ span_of_tokens ts

  -- these marks put a reference there, behind so many others, and its tokens stand in this span
  pub record IsPutAt (text : List ℕ) (m : List Mark) (ts : List Token) (place : ℕ) (span : Span) : Type 0 where
    pub next : ReferenceNext
    pub after : List Mark
    pub front : List Token
    pub mid : List Token
    pub rest : List Token
    pub makes : MakesReference next.op next.value
    pub marks_are : m ≡ marks_with next (kinds mid) ++ after
    pub tokens_are : ts ≡ front ++ mid ++ rest
    pub reads_front : ReadMarks front next.before
    pub place_of : IsReferencePlace text next front place
    pub spans : span ≡ span_of_tokens mid
