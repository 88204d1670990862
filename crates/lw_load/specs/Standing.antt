-- Where the things of a grammar stand: each in the text of its file.
use Rattle.std.specs.Prelude.{ℕ, ◌≡◌, ◌≤◌, List, [], ◌∷◌, Some, length, slice_get, All}
use Rattle.lw_base.specs.declared.limits.TheConstants.{LONGEST_TEXT}
use Rattle.lw_base.specs.declared.token.Span.{Span}
use Rattle.lw_grammar.specs.declared.grammar.Grammar.{Grammar}
use Rattle.lw_gramread.specs.PlacesWithin.{rule_spans, terminal_spans, interface_spans, union_spans, IsWithin}

module _ (texts : List (List ℕ)) where
  -- the places are in the text of the file of this number
  pub record AreIn (file : ℕ) (spans : List Span) : Type 0 where
    pub text : List ℕ
    pub there : slice_get texts file ≡ Some text
    pub within : All (IsWithin text) spans

  -- at every depth
  pub record Stands (g : Grammar) : Type 0 where
    pub files : length texts ≡ length g.files
    pub short : All (λ text. length text ≤ LONGEST_TEXT) texts
    pub rules : All (λ r. AreIn r.file (rule_spans r)) g.rules
    pub terminals : All (λ t. AreIn t.file (terminal_spans t)) g.terminals
    pub interfaces : All (λ i. AreIn i.file (interface_spans i)) g.interfaces
    pub unions : All (λ u. AreIn u.file (union_spans u)) g.unions
    pub imports : All (λ i. AreIn i.file (i.span ∷ [])) g.imports
