-- A grammar has one list of kinds, and so a kind one text.
use Rattle.std.proofs.Common.{◌≡◌, ℕ, List, [], slice_get, ap, ap₂, sym, ◌∙◌}
use Rattle.std.specs.List.{flat_map}
use Rattle.std.proofs.lemmas.Option.{same_Some}
use Rattle.lw_grammar.specs.declared.grammar.Grammar.{Grammar}
use Rattle.lw_grammar.specs.declared.rule.Rule.{Rule}
use Rattle.lw_grammar.specs.Leaves.{keywords_in}
use Rattle.lw_grammar.specs.Reached.{IsReached}
use Rattle.lw_grammar.specs.Kinds.{Kinds, AreKinds, IsKindTerminal, first_uses}
use Rattle.lw_grammar.specs.KindTexts.{AreKindTexts, IsKindText, texts_of}
use Rattle.lw_grammar.proofs.KeptLemmas.{kept_once}

module _ (g : Grammar) where
  pub one_kinds : (a b : Kinds) → AreKinds g a → AreKinds g b → a ≡ b
  one_kinds a b is was =
      ap₂ (λ words terminals. record { keywords = words; terminals = terminals })
      (is.keywords ∙ ap (λ rules. first_uses [] (flat_map (λ (rule : Rule). keywords_in rule.body) rules)) (kept_once (IsReached g) is.reached was.reached) ∙ sym was.keywords)
      (kept_once (IsKindTerminal g) is.terminals was.terminals)

  one_list_of_texts : (texts others : List (List ℕ)) → AreKindTexts g texts → AreKindTexts g others → texts ≡ others
  one_list_of_texts texts others (of, are, is) (kinds, were, was) = is ∙ ap texts_of (one_kinds of kinds are were) ∙ sym was

  pub one_kind_text : (k : ℕ) (text other : List ℕ) → IsKindText g k text → IsKindText g k other → text ≡ other
  one_kind_text k text other (texts, are, is) (others, were, was) =
      same_Some text other (sym is ∙ ap (λ ts. slice_get ts k) (one_list_of_texts texts others are were) ∙ was)
