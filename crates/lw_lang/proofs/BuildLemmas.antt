-- A grammar that has a set of tokens, and what is made of it.
use Rattle.std.proofs.Common.{◌≡◌, ◌+◌, ◌≤◌, ℕ, List, [], ◌∷◌, Option, Result, Ok, Err, IfOk, IfErr, length, sum_by, refl, sym, ap, ◌∙◌, subst, arith}
use Rattle.std.proofs.lemmas.List.Elements.{All-weaker}
use Rattle.std.proofs.lemmas.List.Sums.{sum_by-cons}
use Rattle.lw_grammar.specs.declared.grammar.Grammar.{Grammar}
use Rattle.lw_grammar.specs.declared.rule.Rule.{Rule}
use Rattle.lw_grammar.specs.declared.terminal.Terminal.{Terminal}
use Rattle.lw_grammar.specs.Size.{size, element_size, term_size}
use Rattle.lw_load.specs.declared.limits.TheConstants.{LARGEST_GRAMMAR}
use Rattle.lw_gramcheck.specs.Judging.{IsFaultless}
use Rattle.lw_kinds.specs.Rows.{KindRow, AreKindRowOf}
use Rattle.lw_matchers.specs.TokenKinds.{TokenKinds}
use Rattle.lw_terminals.specs.TokenSets.{IsTokenSetOf, HasTokens}
use Rattle.lw_terminals.proofs.Unlisted.{taken_unlisted}
use Rattle.lw_terminals.specs.Taken.{HasTaken}
use Rattle.lw_lang.specs.Compiled.{HasSoundTokens, HasTables, IsClear, GrammarCauses, CountsPatterns}
use Rattle.lw_lang.specs.Language.{LanguageView}
use Rattle.lw_lang.specs.declared.fault.CompileFault.{CompileFault}
use Rattle.lw_lang.specs.declared.fault.CompileFault.TheVariants.{NoMemory}
use Rattle.lw_lang.specs.Prepared.{IsPrepared}
use Rattle.lw_parse.specs.Parsers.{ParserParts, ParsesFaultless}
use Rattle.lw_types.specs.Inferred.{AreTypesOf}
use Rattle.lw_types.specs.declared.types.Types.{Types}

-- ---- a grammar with a set of tokens has tokens

module _ (g : Grammar) (row : KindRow) (are : AreKindRowOf g row) where
  pub has_tokens : (listed : List (List ℕ)) (tokens : TokenKinds) → IsTokenSetOf g listed row tokens → HasTokens g listed
  has_tokens listed tokens is = record { row = row; are_kinds = are; sound = is.sound; taken = is.taken }

  -- whichever patterns the maker listed
  pub set_unlisted : (listed : List (List ℕ)) (tokens : TokenKinds) → IsTokenSetOf g listed row tokens → IsTokenSetOf g [] row tokens
  set_unlisted listed tokens is = record {
    sound = is.sound;
    taken = All-weaker (HasTaken g listed) (HasTaken g []) (taken_unlisted g listed) row.terminals is.taken;
    of = is.of;
    are = is.are;
    lexicon = is.lexicon;
    texts = is.texts;
  }

  -- ---- what a language keeps of it

  module _ (faultless : IsFaultless g) (tokens : TokenKinds) (is : IsTokenSetOf g [] row tokens) where
    pub sound_tokens : HasSoundTokens g
    sound_tokens = record { faultless = faultless; tokens = has_tokens [] tokens is }

    pub is_prepared : (types : Types) → AreTypesOf g types → (k : ℕ) (parser : ParserParts) → ParsesFaultless g is.of k parser → IsPrepared g types tokens parser
    is_prepared types typed k parser parses = record {
      typed = typed;
      of = is.of;
      kinds = is.are;
      lexicon = is.lexicon;
      texts = is.texts;
      parses = subst (λ depth. ParsesFaultless g is.of depth parser) (sym parses.parser.depth) parses;
    }

    pub is_clear : (k : ℕ) → HasTables g k → IsClear g k
    is_clear k tables = record { sound = sound_tokens; tables = tables }

-- the language of a grammar with tokens has them
pub built_tokens : (g : Grammar) (listed : List (List ℕ)) → HasTokens g listed → {E : Type 0} (r : Result LanguageView E) → IfOk r (λ language. language.grammar ≡ g) →
    IfOk r (λ language. HasTokens language.grammar listed)
built_tokens g listed has (Ok language) is = subst (λ g. HasTokens g listed) (sym is) has
built_tokens g listed has (Err e) is = tt

-- ---- the rules and terminals of a grammar that is not too large can be numbered

module _ {X : Type 0} (part : X → ℕ) where
  each_counts : (xs : List X) → length xs ≤ sum_by (λ x. 1 + part x) xs
  each_counts [] = omega arith
  each_counts (x ∷ xs) = omega (arith, each_counts xs, sum_by-cons (λ x. 1 + part x) x xs)

pub few : (g : Grammar) → size g ≤ LARGEST_GRAMMAR → length g.rules + length g.terminals ≤ 65535
few g fits =
    let rules = each_counts (λ (rule : Rule). element_size rule.body) g.rules in
    let terminals = each_counts (λ (terminal : Terminal). term_size terminal.body) g.terminals in
    omega (arith, rules, terminals, fits)

-- ---- want of memory

refused_so : (r : Result LanguageView CompileFault) (fault : CompileFault) → r ≡ Err fault → fault ≡ NoMemory → r ≡ Err NoMemory
refused_so r fault is want = is ∙ ap (λ (f : CompileFault). Err f) want

pub want_causes : (g : Grammar) (texts : List (List ℕ)) (k : ℕ) (refused : Option (List ℕ)) (r : Result LanguageView CompileFault) (fault : CompileFault) → r ≡ Err fault →
    fault ≡ NoMemory → IfErr r (GrammarCauses g texts k refused)
want_causes g texts k refused r fault is want =
    subst (λ (r : Result LanguageView CompileFault). IfErr r (GrammarCauses g texts k refused)) (sym (refused_so r fault is want)) tt

pub want_counts : (count : ℕ) (r : Result LanguageView CompileFault) (fault : CompileFault) → r ≡ Err fault → fault ≡ NoMemory → CountsPatterns count count r
want_counts count r fault is want = subst (λ (r : Result LanguageView CompileFault). CountsPatterns count count r) (sym (refused_so r fault is want)) refl
