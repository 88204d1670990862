-- The value of a reference that comes next is read by what it calls.
use Rattle.std.proofs.Common.{ℕ, List, [], ◌++◌, Option, None, sym, subst}
use Rattle.std.proofs.lemmas.List.{append-nil}
use Rattle.lw_base.specs.declared.numbers.PropId.{PropId}
use Rattle.lw_base.specs.declared.token.Token.{Token}
use Rattle.lw_faults.specs.Faults.{IsCheckFault, IsTypeFault}
use Rattle.lw_grammar.specs.declared.fault.GrammarFault.{GrammarFault}
use Rattle.lw_grammar.specs.declared.grammar.Grammar.{Grammar}
use Rattle.lw_grammar.specs.declared.rule.Op.{Op}
use Rattle.lw_grammar.specs.declared.rule.Value0.{Value0}
use Rattle.lw_grammar.specs.Kinds.{Kinds}
use Rattle.lw_reading.specs.Brackets.{Bracket}
use Rattle.lw_reading.specs.Follows.{FollowsMarks, LooksUp, MakesReference, PutsValueIn}
use Rattle.lw_reading.specs.Follows as f
use Rattle.lw_reading.specs.Grown.{Held}
use Rattle.lw_reading.specs.Numbers.{IsNamingProperty}
use Rattle.lw_places.specs.Starting.{ComesNext, ReferenceNext, marks_with}
use Rattle.lw_reading.proofs.Meant.{IsRead, IsReadAs}
use Rattle.lw_reading.proofs.Meant as read
use Rattle.lw_grammar.specs.Marks.{Mark}
use Rattle.lw_tokens.specs.Cut.{visible}
use Rattle.lw_substitution.proofs.OneReference.{ReadsReference, no_plain_reference, reads, reads_reference}
use Rattle.lw_complete.proofs.FrontTrees.{both_grow}

module _ (g : Grammar) (text : List ℕ) where
  is_read : {name : List ℕ} {ts : List Token} {looked : List ℕ} → LooksUp g text name ts looked → IsRead g text name
  is_read (f.terminal n terminal is names) = read.by_terminal n terminal is
  is_read (f.data_type r rule is) = read.by_rule r rule is

  put_read : {op : Op} {c : Value0} {ts : List Token} {held after : Held} {p : ℕ} → MakesReference op c → PutsValueIn g text op c ts None held p after → IsReadAs g text c
  put_read makes (f.a_reference {want} not refers number looks) = read.refers want refers number (is_read looks)
  put_read makes (f.plain v) = absurd (no_plain_reference g text makes v)

  reference_read : {before : List Mark} {p : List ℕ} {op : Op} {c : Value0} {front mid : List Token} {stack : List Bracket} → MakesReference op c →
      ReadsReference g text before p op c front mid stack → IsReadAs g text c
  reference_read makes (reads follows number does) = put_read makes does

-- whatever the text is
pub next_read : (g : Grammar) (of : Kinds) → ((f : GrammarFault) → ¬ IsTypeFault g f) → ((f : GrammarFault) → ¬ IsCheckFault g f) → (next : ReferenceNext)
    (tokens : List Token) → ComesNext g of tokens next → (name : Option PropId) → IsNamingProperty g name → (text : List ℕ) → IsReadAs g text next.value
next_read g of types checks next tokens comes name named text =
    let (stack, x, follows, closes) = (both_grow g of types checks next tokens comes text name named).1 in
    let all : FollowsMarks g text (marks_with next []) (visible tokens ++ []) stack =
    subst (λ (ts : List Token). FollowsMarks g text (marks_with next []) ts stack) (sym (append-nil (visible tokens))) follows in
    reference_read g text comes.makes (reads_reference g text next.before next.prop next.op next.value (visible tokens) [] stack (sym comes.kinds_are) all)
