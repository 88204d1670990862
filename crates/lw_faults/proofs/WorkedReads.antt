-- What elements of the written grammars read, where ID is no rule, and which rules are reached.
use Rattle.std.proofs.Common.{◌≡◌, ℕ, List, refl}
use Rattle.lw_grammar.specs.declared.grammar.Grammar.{Grammar}
use Rattle.lw_grammar.specs.declared.rule.Op.TheVariants.{One}
use Rattle.lw_grammar.specs.declared.rule.Element.TheVariants.{outs-Keyword, outs-Assign}
use Rattle.lw_grammar.specs.declared.rule.Value0.TheVariants as value
use Rattle.lw_faults.specs.Reads.{IsTokenCall, MayRead, CallReads, ValueLeads, Leads}
use Rattle.lw_faults.specs.Reads as read
use Rattle.lw_faults.specs.Worked.{no_place, keyword_of, puts}
use Rattle.lw_faults.proofs.ReadLemmas.{what_reads, can_read, what_value_reads, token_reads, what_leads, can_lead, what_value_leads, value_can_lead}

module _ (g : Grammar) where
  -- an assignment reads what its call reads, and leads to it
  pub puts_reads : {p name : List ℕ} {n : ℕ} → MayRead g (puts p name) n → CallReads g name n
  puts_reads {p} {name} does = what_value_reads g (value.outs-Call name no_place) (what_reads g (outs-Assign p One (value.Call name no_place) no_place) does)

  pub puts_leads : {p name called : List ℕ} → Leads g (puts p name) called → called ≡ name
  puts_leads {p} {name} does = what_value_leads g (value.outs-Call name no_place) (what_leads g (outs-Assign p One (value.Call name no_place) no_place) does)

  pub puts_can_lead : (p name : List ℕ) → Leads g (puts p name) name
  puts_can_lead p name =
      can_lead g (outs-Assign p One (value.Call name no_place) no_place) (read.assigned (value_can_lead g (value.outs-Call name no_place) read.call_value))

  -- a token is one token
  pub puts_token : {p name : List ℕ} {n : ℕ} → IsTokenCall g name → MayRead g (puts p name) n → n ≡ 1
  puts_token none does = token_reads g none (puts_reads does)

  pub word_reads : {text : List ℕ} {n : ℕ} → MayRead g (keyword_of text) n → n ≡ 1
  word_reads {text} does = what_reads g (outs-Keyword text no_place) does

  pub word_can_read : (text : List ℕ) → MayRead g (keyword_of text) 1
  word_can_read text = can_read g (outs-Keyword text no_place) refl
