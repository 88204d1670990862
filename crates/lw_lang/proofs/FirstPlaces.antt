-- The first use of a keyword stands in the text of its file, and so each fault of keywords and terminals can be told.
use Rattle.std.proofs.Common.{ℕ, List, [], ◌∷◌, ◌++◌, Option, Contains, refl, subst}
use Rattle.std.proofs.lemmas.List.Elements.{All-contains, All-nil, All-cons, Contains-append_right}
use Rattle.lw_base.specs.declared.token.Span.{Span}
use Rattle.lw_base.specs.declared.numbers.RuleId.{RuleId}
use Rattle.lw_grammar.specs.declared.grammar.Grammar.{Grammar}
use Rattle.lw_grammar.specs.declared.rule.Rule.{Rule}
use Rattle.lw_grammar.specs.Leaves.{Leaf, Keyword, Call, Assign, Act, leaves, ValueLeaf, Literal, Calls, Cross, value_leaves}
use Rattle.lw_grammar.specs.Reached.{IsReached}
use Rattle.lw_grammar.proofs.KeptLemmas.{kept_from}
use Rattle.lw_kinds.specs.Rows.{KindRow, AreKindRowOf}
use Rattle.lw_kinds.specs.Uses.{Use, IsFirstUse, part_keyword_uses, leaf_keyword_uses, rule_keyword_uses}
use Rattle.lw_gramread.specs.PlacesWithin.{IsWithin, rule_spans, result_spans, element_spans, value_spans}
use Rattle.lw_load.specs.Standing.{Stands, AreIn}
use Rattle.lw_lang.proofs.Spans.{at_front, behind_front, leaf_stands, value_stands}
use Rattle.lw_terminals.specs.declared.fault.TermFault.{TermFault}
use Rattle.lw_terminals.specs.declared.fault.TermFault.TheVariants.{TooManyKinds, KeywordBlank, PatternLong, PatternRefused, EmptyMatch, NoMemory}
use Rattle.lw_terminals.specs.Taken.{IsTried}
use Rattle.lw_terminals.specs.TokenSets.{CausesNoTokens}
use Rattle.lw_lang.specs.ToldTerms.{IsTerminalNumber, CanBeTold}
use Rattle.lw_lang.proofs.Lists.{in_nothing, in_one, in_flat_map, at_place}

module _ (g : Grammar) (texts : List (List ℕ)) (stands : Stands texts g) where
  -- it stands in the text of its file
  abbrev IsPlaced : Use → Type 0
  IsPlaced word = AreIn texts word.1.file (word.1.span ∷ [])

  pub in_body : (rule : Rule) (text : List ℕ) (s : Span) → Contains g.rules rule → Contains (element_spans rule.body) s → IsPlaced (text, record { file = rule.file; span = s })
  in_body rule text s has there =
      let are : AreIn texts rule.file (rule_spans rule) = All-contains (λ r. AreIn texts r.file (rule_spans r)) g.rules rule stands.rules has in
      let among : Contains (rule_spans rule) s =
      behind_front rule.span (result_spans rule.result ++ element_spans rule.body) (Contains-append_right (result_spans rule.result) (element_spans rule.body) s there) in
      record {
        text = are.text;
        there = are.there;
        within = All-cons (IsWithin are.text) s [] (All-contains (IsWithin are.text) (rule_spans rule) s are.within among) (All-nil (IsWithin are.text));
      }

  part_placed : (rule : Rule) (p : List ℕ) (op : _) (v : _) (s : Span) → Contains g.rules rule → Contains (leaves rule.body) (Assign p op v s) → (part : ValueLeaf) →
      Contains (value_leaves v) part → (word : Use) → Contains (part_keyword_uses rule.file part) word → IsPlaced word
  part_placed rule p op v s has there (Literal text t) among word use_ =
      subst IsPlaced (in_one (text, record { file = rule.file; span = t }) use_)
      (in_body rule text t has (leaf_stands rule.body (Assign p op v s) t there (behind_front s (value_spans v) (value_stands v (Literal text t) t among refl))))
  part_placed rule p op v s has there (Calls name t) among word use_ = absurd (in_nothing use_)
  part_placed rule p op v s has there (Cross wanted by t) among word use_ = absurd (in_nothing use_)

  leaf_placed : (rule : Rule) (leaf : Leaf) (word : Use) → Contains g.rules rule → Contains (leaves rule.body) leaf → Contains (leaf_keyword_uses rule.file leaf) word → IsPlaced word
  leaf_placed rule (Keyword text s) word has there use_ =
      subst IsPlaced (in_one (text, record { file = rule.file; span = s }) use_) (in_body rule text s has (leaf_stands rule.body (Keyword text s) s there (at_front s [])))
  leaf_placed rule (Assign p op v s) word has there use_ =
      let found = in_flat_map (part_keyword_uses rule.file) (value_leaves v) word use_ in
      part_placed rule p op v s has there found.0 found.1 word found.2
  leaf_placed rule (Call name s) word has there use_ = absurd (in_nothing use_)
  leaf_placed rule (Act a) word has there use_ = absurd (in_nothing use_)

  first_placed : (word : Use) → IsFirstUse g word → IsPlaced word
  first_placed word is =
      let in_rules = in_flat_map rule_keyword_uses is.rules word (at_place _ is.place is.first.there) in
      let in_leaves = in_flat_map (leaf_keyword_uses in_rules.0.file) (leaves in_rules.0.body) word in_rules.2 in
      leaf_placed in_rules.0 in_leaves.0 word (kept_from (IsReached g) in_rules.0 is.reached in_rules.1) in_leaves.1 in_leaves.2

  numbered : (listed : List (List ℕ)) (row : KindRow) (rule : RuleId) (pattern : List ℕ) → IsTried g listed row rule pattern → IsTerminalNumber g texts rule
  numbered listed row rule pattern tried = (tried.place, tried.terminal, tried.told, tried.there)

  pub can_be_told : (listed : List (List ℕ)) (row : KindRow) → AreKindRowOf g row → (refused : Option (List ℕ)) (fault : TermFault) → CausesNoTokens g listed row refused fault →
      CanBeTold g texts fault
  can_be_told listed row are refused (TooManyKinds n) cause = tt
  can_be_told listed row are refused (KeywordBlank file span) (few, blank) =
      let word : Use = (blank.1, record { file = file; span = span }) in first_placed word (are.first word (at_place row.keywords blank.0 blank.2.there))
  can_be_told listed row are refused (PatternLong rule bytes) cause = numbered listed row rule cause.1 cause.2
  can_be_told listed row are refused (PatternRefused rule) cause = numbered listed row rule cause.1 cause.2
  can_be_told listed row are refused (EmptyMatch rule) cause = numbered listed row rule cause.1 cause.2
  can_be_told listed row are refused NoMemory cause = tt
