-- The keywords of a grammar, none of which is blank, can be told apart.
use Rattle.std.proofs.Common.{◌≡◌, ◌≢◌, ℕ, ◌<◌, List, [], ◌∷◌, map, length, All, AllPairs, inl, refl, sym, ◌∙◌, subst, arith}
use Rattle.std.specs.List.{flat_map}
use Rattle.std.proofs.lemmas.List.Elements.{All-map, All-weaker}
use Rattle.lw_grammar.specs.declared.grammar.Grammar.{Grammar}
use Rattle.lw_grammar.specs.declared.rule.Rule.{Rule}
use Rattle.lw_grammar.specs.Leaves.{keywords_in}
use Rattle.lw_kinds.specs.Rows.{KindRow, AreKindRowOf}
use Rattle.lw_kinds.specs.Uses.{Use}
use Rattle.lw_tokens.specs.Keywords.{AreKeywords}
use Rattle.lw_terminals.specs.Limits.{IsBlank, AreNotBlank}
use Rattle.lw_terminals.proofs.DistinctTexts.{first_uses-differ}

not_empty : (text : List ℕ) → ¬ IsBlank text → 0 < length text
not_empty [] written = absurd (written (inl refl))
not_empty (c ∷ cs) written = omega arith

pub are_keywords : (g : Grammar) (row : KindRow) → AreKindRowOf g row → AreNotBlank row.keywords → (texts : List (List ℕ)) → texts ≡ map (λ word. word.0) row.keywords →
    AreKeywords texts
are_keywords g row are written texts is = record {
  not_empty =
      subst (All (λ text. 0 < length text)) (sym is)
      (All-map (λ text. 0 < length text) (λ (word : Use). word.0) row.keywords
      (All-weaker (λ (word : Use). ¬ IsBlank word.0) (λ word. 0 < length word.0) (λ word. not_empty word.0) row.keywords written));
  distinct =
      subst (AllPairs (λ text other. text ≢ other)) (sym (is ∙ are.texts ∙ are.are.keywords))
      (first_uses-differ [] (flat_map (λ (rule : Rule). keywords_in rule.body) are.are.rules));
}
