-- A grammar without faults has an entry rule, and what is made for its texts parses them.
use Rattle.std.proofs.Common.{◌≡◌, ℕ, Result, Ok, Err, IfOk, subst}
use Rattle.lw_faults.specs.Entries as entries
use Rattle.lw_faults.specs.Faults as faults
use Rattle.lw_faults.specs.Faults.{fault}
use Rattle.lw_grammar.specs.declared.grammar.Grammar.{Grammar}
use Rattle.lw_grammar.specs.declared.rule.Rule.{Rule}
use Rattle.lw_grammar.specs.Kinds.{Kinds, AreKinds}
use Rattle.lw_grammar.specs.Named.{IsEntry}
use Rattle.lw_gramcheck.specs.Judging.{IsFaultless}
use Rattle.lw_look.specs.Supplied.{IsSupplied}
use Rattle.lw_lookahead.specs.Tables.{AreTables}
use Rattle.lw_lookahead.specs.declared.kept.Tables.{Tables}
use Rattle.lw_parse.specs.Parsers.{ParserParts, IsParserOf, ParsesFaultless}

pub has_entry : (g : Grammar) → IsFaultless g → ((r : ℕ) (rule : Rule) → ¬ IsEntry g r rule) → ⊥
has_entry g faultless none = faultless.checks (fault 1 0 (record { start = 0; end = 0 }) g.name) (faults.no_entry (entries.no_entry none))

-- what is known of the grammar of a lexicon, is known of the grammar
pub parses : (g h : Grammar) → h ≡ g → (kinds : Kinds) → AreKinds g kinds → IsFaultless g → IsSupplied g kinds → (k : ℕ) (tables : Tables) → AreTables g kinds k tables →
    (n : ℕ) → (rule : Rule) × IsEntry g n rule → {E : Type 0} (r : Result ParserParts E) →
    ((kinds : Kinds) (rule : Rule) → AreKinds h kinds → AreTables h kinds k tables → IsEntry h n rule → IfOk r (IsParserOf h kinds k)) → IfOk r (ParsesFaultless g kinds k)
parses g h is kinds are faultless supplied k tables tabled n entry (Err e) of = tt
parses g h is kinds are faultless supplied k tables tabled n entry (Ok parser) of =
    let known : (kinds : Kinds) (rule : Rule) → AreKinds g kinds → AreTables g kinds k tables → IsEntry g n rule → IsParserOf g kinds k parser =
    subst (λ h. (kinds : Kinds) (rule : Rule) → AreKinds h kinds → AreTables h kinds k tables → IsEntry h n rule → IsParserOf h kinds k parser) is of in
    record { parser = known kinds entry.0 are tabled entry.1; types = faultless.types; checks = faultless.checks; supplied = supplied }
