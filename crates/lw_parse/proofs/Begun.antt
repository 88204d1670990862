-- What is read of a sentence grows a tree, and so does the opening of the entry rule.
use Rattle.std.proofs.Common.{◌≡◌, ◌≢◌, ℕ, true, false, Bool, List, [], ◌∷◌, Option, Some, None, length, slice_get, refl, sym, ap, ◌∙◌, arith}
use Rattle.std.proofs.lemmas.List.{length-append}
use Rattle.lw_base.specs.declared.token.Token.{Token}
use Rattle.lw_viable.specs.Gives.{OpensNode}
use Rattle.lw_grammar.specs.declared.grammar.Grammar.{Grammar}
use Rattle.lw_grammar.specs.declared.rule.Rule.{Rule}
use Rattle.lw_grammar.specs.Kinds.{Kinds}
use Rattle.lw_grammar.specs.Nodes.{MakesNodes}
use Rattle.lw_base.proofs.Lists.{among}
use Rattle.lw_reading.specs.Brackets.{InNode, at_root, grown}
use Rattle.lw_reading.specs.Follows as f
use Rattle.lw_reading.specs.Grown.{Nothing}
use Rattle.lw_parse.specs.Parsers.{ParserParts, ParsesFaultless}
use Rattle.lw_reading.proofs.Listed.{no_end_is_empty}
use Rattle.lw_reading.proofs.Numbered.{rule_type, type_number}
use Rattle.lw_reading.proofs.Rootable.{IsRootable, is_rootable}
use Rattle.lw_reading.proofs.Sentence.{begun_tree}
use Rattle.lw_reading.specs.Growing.{GrowsOpen}
use Rattle.lw_grammar.specs.Marks.{Mark, Token as AToken, Open, End}
use Rattle.lw_tokens.specs.Cut.{kinds}
use Rattle.lw_viable.specs.ReadSoFar.{EndsRead}
use Rattle.lw_viable.specs.ReadSoFar as so_far
use Rattle.lw_parse.specs.Readings.{IsReading}
use Rattle.lw_parse.specs.Readings as r

pub not_empty : {m : List Mark} → EndsRead m → m ≢ []
not_empty (so_far.token before k) e = no_end_is_empty before (AToken k) e
not_empty (so_far.value before k) e = omega (arith, ap length e, length-append before (AToken k ∷ End ∷ []))

no_flag : None ≡ Some true → ⊥
no_flag e = cc

false_flag : Some false ≡ Some true → ⊥
false_flag e = cc

module _ (g : Grammar) (of : Kinds) (k : ℕ) (parser : ParserParts) (faultless : ParsesFaultless g of k parser) (text : List ℕ) where
  rootable : IsRootable g
  rootable = is_rootable g faultless.types faultless.checks

  abbrev entry_rule : Rule
  entry_rule = faultless.parser.rule

  not_fragment : entry_rule.is_fragment ≡ false
  not_fragment = (rootable.entry parser.entry entry_rule faultless.parser.entry).0

  makes : MakesNodes g entry_rule
  makes = by (slice_get parser.begins.nodes parser.entry) (told.0) (told.1)
    where
      told : (OpensNode g entry_rule → slice_get parser.begins.nodes parser.entry ≡ Some true)
          × (slice_get parser.begins.nodes parser.entry ≡ Some true → OpensNode g entry_rule)
      told = faultless.parser.known.begins.nodes parser.entry entry_rule faultless.parser.entry.there

      none : ¬ MakesNodes g entry_rule → ⊥
      none not = (rootable.entry parser.entry entry_rule faultless.parser.entry).1 (not_fragment, not)

      by : (flag : Option Bool) → (OpensNode g entry_rule → flag ≡ Some true) → (flag ≡ Some true → OpensNode g entry_rule) → MakesNodes g entry_rule
      by None into from = absurd (none (λ makes. no_flag (into (not_fragment, makes))))
      by (Some false) into from = absurd (none (λ makes. false_flag (into (not_fragment, makes))))
      by (Some true) into from = (from refl).1

  begun_grows : GrowsOpen g text (Open parser.entry ∷ []) []
  begun_grows =
      let has = among g.rules parser.entry entry_rule faultless.parser.entry.there in
      let (name, type) = rootable.type_of entry_rule has not_fragment makes in
      let (n, number) = type_number g name (rule_type g entry_rule name has type) in
      (InNode n 0 Nothing ∷ [], grown [] n 0 Nothing, f.next f.nothing (f.opens faultless.parser.entry.there type number), f.shut at_root f.root)

  grows : (ts : List Token) {ks : List ℕ} {m : List Mark} → ks ≡ kinds ts → IsReading g of parser.entry ks m → GrowsOpen g text m ts
  grows [] same r.begun = begun_grows
  grows (t ∷ ts) same r.begun = absurd (omega (arith, ap length same))
  grows ts {ks} {m} same (r.read is) = begun_tree g of text rootable m is.others ts is.whole (not_empty is.ends) (sym (is.kinds_are ∙ same))

  pub reading_grows : (ts : List Token) (m : List Mark) → IsReading g of parser.entry (kinds ts) m → GrowsOpen g text m ts
  reading_grows ts m is = grows ts refl is
