-- How faults of a grammar are told: by the path of the file and the position there.
-- Positions are those of LSP 3.17, "Position".
use Rattle.std.specs.Prelude.{ℕ, ◌≡◌, List, [], ◌∷◌, Some, slice_get}
use Rattle.lw_grammar.specs.declared.grammar.Grammar.{Grammar}
use Rattle.lw_grammar.specs.declared.fault.GrammarFault.{GrammarFault}
use Rattle.lw_text.specs.Position.{IsPosition}
use Rattle.lw_lang.specs.declared.told.told.ToldFault.{ToldFault}

module _ (g : Grammar) (texts : List (List ℕ)) where
  -- the fault is told by the path of its file and where its place begins there
  pub record IsToldAs (f : GrammarFault) (told : ToldFault) : Type 0 where
    pub number : told.number ≡ f.number
    pub name : told.name ≡ f.name
    pub path : slice_get g.files f.file ≡ Some told.path
    pub text : List ℕ
    pub file : slice_get texts f.file ≡ Some text
    pub begins : IsPosition text f.span.start told.at

  -- one after the other
  pub data AreToldAs : List GrammarFault → List ToldFault → Type 0 where
    none : AreToldAs [] []
    more : {f : GrammarFault} {told : ToldFault} {fs : List GrammarFault} {tolds : List ToldFault} → IsToldAs f told → AreToldAs fs tolds →
        AreToldAs (f ∷ fs) (told ∷ tolds)
