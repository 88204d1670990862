-- A text is read in one way by a grammar that is compiled.
use Rattle.std.proofs.Common.{◌≡◌, inl, ℕ, List, [], Option, Some, None, map, option_map, slice_get, refl, sym, ap, ◌∙◌, subst}
use Rattle.std.proofs.lemmas.List.Elements.{All-contains}
use Rattle.std.proofs.lemmas.Option.{slice_get-map, slice_get_within, get_or_from_slice_get, none-some, same_Some}
use Rattle.lw_grammar.specs.declared.grammar.Grammar.{Grammar}
use Rattle.lw_lang.specs.Compiled.{IsClear}
use Rattle.lw_grammar.specs.Kinds.{Kinds}
use Rattle.lw_grammar.proofs.KindLemmas.{one_kinds}
use Rattle.lw_kinds.specs.Uses.{Use}
use Rattle.lw_terminals.specs.Limits.{IsBlank, AreNotBlank}
use Rattle.lw_look.specs.Looks.{IsLL}
use Rattle.lw_reading.specs.Laws.{HasNoEmptyKeyword, IsReadOneWay}
use Rattle.lw_look.proofs.Parsed.{same_sentence}

-- keywords that are not blank are not empty
not_empty : (words : List Use) (k : ℕ) → AreNotBlank words → slice_get (map (λ word. word.0) words) k ≡ Some [] → ⊥
not_empty words k filled at = by (slice_get words k) refl (sym (slice_get-map (λ (word : Use). word.0) words k) ∙ at)
  where
    by : (found : Option Use) → slice_get words k ≡ found → option_map (λ (word : Use). word.0) found ≡ Some [] → ⊥
    by None _ is = none-some [] is
    by (Some word) there is =
        All-contains (λ (other : Use). ¬ IsBlank other.0) words word filled (k, slice_get_within words k word there, get_or_from_slice_get words k word word there)
        (inl (same_Some word.0 [] is))

filled : (g : Grammar) (k : ℕ) → IsClear g k → HasNoEmptyKeyword g
filled g k clear of n are at =
    let row = clear.sound.tokens.row in
    let its = clear.sound.tokens.are_kinds in
    not_empty row.keywords n clear.sound.tokens.sound.not_blank
    (ap (λ texts. slice_get texts n) its.texts ∙ ap (λ (kinds : Kinds). slice_get kinds.keywords n) (one_kinds g its.kinds of its.are are) ∙ at)

-- so a text is read by it in one way
pub one_way : (g : Grammar) (k : ℕ) → IsClear g k → IsReadOneWay g
one_way g k clear = record {
  keywords = filled g k clear;
  sentences = λ of m n are is was same.
      let tells = subst (λ kinds. IsLL g kinds k) (one_kinds g clear.tables.kinds of clear.tables.are are) clear.tables.tells in
      same_sentence g of k are tells m n is was same;
}
