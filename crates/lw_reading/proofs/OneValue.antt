-- What is put into a node is one, by what was read and by which value.
use Rattle.std.proofs.Common.{◌≡◌, ◌≢◌, ℕ, List, [], Option, refl, sym, ap, subst, ◌∙◌}
use Rattle.std.proofs.lemmas.Option.{none-some, same_Some}
use Rattle.lw_base.specs.declared.token.Span.{Span}
use Rattle.lw_base.specs.declared.token.Token.{Token}
use Rattle.lw_grammar.specs.declared.grammar.Grammar.{Grammar}
use Rattle.lw_grammar.specs.declared.rule.Op.{Op}
use Rattle.lw_grammar.specs.declared.rule.Op.TheVariants.{Flag}
use Rattle.lw_grammar.specs.declared.rule.Rule.{Rule}
use Rattle.lw_grammar.specs.declared.rule.RuleResult.{RuleResult}
use Rattle.lw_grammar.specs.declared.rule.RuleResult.TheVariants as result
use Rattle.lw_grammar.specs.declared.rule.Value0.{Value0}
use Rattle.lw_grammar.specs.declared.rule.Value0.TheOpen.{Value0-F, Keyword, Call, Cross}
use Rattle.lw_grammar.specs.declared.terminal.Terminal.{Terminal}
use Rattle.lw_grammar.specs.Named.{IsRule, IsTerminal, declared_rule, declared_terminal}
use Rattle.lw_grammar.specs.NameRules.{IsNameRule}
use Rattle.lw_grammar.specs.Subtypes.{HasType, ResultNames}
use Rattle.lw_grammar.proofs.FirstLemmas.{first_item}
use Rattle.lw_grammar.proofs.Meaning.{one_of_two}
use Rattle.lw_grammar.proofs.Naming.{one_name_rule}
use Rattle.lw_reading.specs.Grown.{Plain, Text, Grown, Held, Puts, Points}
use Rattle.lw_reading.specs.Numbers.{IsNumberOfType, IsNumberOfProperty}
use Rattle.lw_reading.specs.Values.{NumberMeans, TokenMeans, TokenNames}
use Rattle.lw_reading.specs.Values as means
use Rattle.lw_reading.specs.Brackets.{span_of_tokens, joined_texts}
use Rattle.lw_reading.specs.Follows.{MakesReference, RefersBy, LooksUp, IsPlain, PutsValueIn, ChangesOpen, FollowsMarks, Closes}
use Rattle.lw_reading.specs.Follows as f
use Rattle.lw_reading.proofs.Once.{one_place}

one_number : {text : List ℕ} {s : Span} {a b : Plain} → NumberMeans text s a → NumberMeans text s b → a ≡ b
one_number (means.fits n fits) (means.fits m too) = refl
one_number (means.fits n fits) (means.too_large m not) = absurd (not fits)
one_number (means.fits n fits) (means.no_number not) = absurd (not n)
one_number (means.too_large n not) (means.fits m fits) = absurd (not fits)
one_number (means.too_large n not) (means.too_large m too) = refl
one_number (means.too_large n not) (means.no_number bad) = absurd (bad n)
one_number (means.no_number bad) (means.fits m fits) = absurd (bad m)
one_number (means.no_number bad) (means.too_large m not) = absurd (bad m)
one_number (means.no_number bad) (means.no_number too) = refl

one_meaning : {terminal : Terminal} {text : List ℕ} {s : Span} {a b : Plain} → TokenMeans terminal text s a → TokenMeans terminal text s b → a ≡ b
one_meaning (means.number is one) (means.number was other) = one_number one other
one_meaning (means.number is one) (means.words not) = absurd (not is)
one_meaning (means.words not) (means.number is one) = absurd (not is)
one_meaning (means.words not) (means.words too) = refl

one_named : {terminal : Terminal} {text : List ℕ} {a b : List ℕ} → TokenNames terminal text a → TokenNames terminal text b → a ≡ b
one_named (means.number is) (means.number was) = refl
one_named (means.number is) (means.words not) = absurd (not is)
one_named (means.words not) (means.number is) = absurd (not is)
one_named (means.words not) (means.words too) = refl

-- forms of values are apart
same_call : {name other : List ℕ} {s t : Span} → ◌≡◌ {A = Value0-F Value0} (Call name s) (Call other t) → name ≡ other
same_call h = cc

no_word_calls : {word name : List ℕ} {s t : Span} → ◌≡◌ {A = Value0-F Value0} (Keyword word s) (Call name t) → ⊥
no_word_calls h = cc

same_word : {word other : List ℕ} {s t : Span} → ◌≡◌ {A = Value0-F Value0} (Keyword word s) (Keyword other t) → word ≡ other
same_word h = cc

pub no_word_crosses : {word wanted : List ℕ} {rule : Option (List ℕ)} {s t : Span} → ◌≡◌ {A = Value0-F Value0} (Keyword word s) (Cross wanted rule t) → ⊥
no_word_crosses h = cc

pub no_call_crosses : {name wanted : List ℕ} {rule : Option (List ℕ)} {s t : Span} → ◌≡◌ {A = Value0-F Value0} (Call name s) (Cross wanted rule t) → ⊥
no_call_crosses h = cc

same_wanted : {wanted other : List ℕ} {rule by : Option (List ℕ)} {s t : Span} → ◌≡◌ {A = Value0-F Value0} (Cross wanted rule s) (Cross other by t) → wanted ≡ other
same_wanted h = cc

same_written : {wanted other : List ℕ} {rule by : Option (List ℕ)} {s t : Span} → ◌≡◌ {A = Value0-F Value0} (Cross wanted rule s) (Cross other by t) → rule ≡ by
same_written h = cc

module _ (g : Grammar) where
  one_reader : {c : Value0} {a b name other : List ℕ} → RefersBy g c a name → RefersBy g c b other → (a ≡ b) × (name ≡ other)
  one_reader (f.written is) (f.written was) = (same_wanted (sym is ∙ was), same_Some _ _ (same_written (sym is ∙ was)))
  one_reader (f.written is) (f.by_type was names) = absurd (none-some _ (sym (same_written (sym is ∙ was))))
  one_reader (f.by_type is names) (f.written was) = absurd (none-some _ (same_written (sym is ∙ was)))
  one_reader {b} {name} {other} (f.by_type {wanted} is names) (f.by_type was named) =
      let same = same_wanted (sym is ∙ was) in
      (same, one_name_rule g wanted name other names (subst (λ w. IsNameRule g w other) (sym same) named))

  pub one_type : (rule : Rule) {a b : List ℕ} → HasType g rule a → HasType g rule b → a ≡ b
  one_type rule has had = by rule.result has.1 had.1
    where
      by : (r : RuleResult) {a b : List ℕ} → ResultNames g r rule.name a → ResultNames g r rule.name b → a ≡ b
      by result.Own is was = is ∙ sym was
      by (result.Returns name s) is was = is ∙ sym was
      by (result.Gives p) is was = absurd is
      by (result.Infers name s) is was = is ∙ sym was

  pub one_number_of_type : (name : List ℕ) (n k : ℕ) → IsNumberOfType g name n → IsNumberOfType g name k → n ≡ k
  one_number_of_type name n k is was = one_place [] _ n k name is was

  pub one_number_of_property : (name : List ℕ) (n k : ℕ) → IsNumberOfProperty g name n → IsNumberOfProperty g name k → n ≡ k
  one_number_of_property name n k is was = one_place [] _ n k name is was

  one_terminal : {name : List ℕ} {n k : ℕ} {one other : Terminal} → IsTerminal g name n one → IsTerminal g name k other → one ≡ other
  one_terminal is was = first_item is.first was.first

  no_both : {name : List ℕ} {n r : ℕ} {terminal : Terminal} {rule : Rule} → IsTerminal g name n terminal → IsRule g name r rule → ⊥
  no_both {name} {n} {r} {terminal} {rule} is was = one_of_two declared_terminal declared_rule name g.terminals g.rules n r terminal rule is was

  module _ (text : List ℕ) where
    one_look : {name : List ℕ} {ts : List Token} {a b : List ℕ} → LooksUp g text name ts a → LooksUp g text name ts b → a ≡ b
    one_look {ts} {a} (f.terminal n terminal is names) (f.terminal k other was named) =
        one_named (subst (λ t. TokenNames t (joined_texts text ts) a) (one_terminal is was) names) named
    one_look (f.terminal n terminal is names) (f.data_type r rule was) = absurd (no_both is was)
    one_look (f.data_type r rule is) (f.terminal n terminal was named) = absurd (no_both was is)
    one_look (f.data_type r rule is) (f.data_type q other was) = refl

    one_plain : {op : Op} {c : Value0} {ts : List Token} {a b : Plain} → IsPlain g text op c ts a → IsPlain g text op c ts b → a ≡ b
    one_plain f.truth f.truth = refl
    one_plain f.truth (f.keyword not was) = absurd (not refl)
    one_plain f.truth (f.terminal k other not was named means) = absurd (not refl)
    one_plain f.truth (f.data_type q other not was named) = absurd (not refl)
    one_plain (f.keyword not is) f.truth = absurd (not refl)
    one_plain {ts} (f.keyword not is) (f.keyword too was) = ap (λ w. Text w (span_of_tokens ts)) (same_word (sym is ∙ was))
    one_plain (f.keyword not is) (f.terminal k other too was named means) = absurd (no_word_calls (sym is ∙ was))
    one_plain (f.keyword not is) (f.data_type q other too was named) = absurd (no_word_calls (sym is ∙ was))
    one_plain (f.terminal n one not is names one_means) f.truth = absurd (not refl)
    one_plain (f.terminal n one not is names one_means) (f.keyword too was) = absurd (no_word_calls (sym was ∙ is))
    one_plain {ts} {a} (f.terminal {name} n one not is names one_means) (f.terminal k other too was named means) =
        one_meaning (subst (λ t. TokenMeans t (joined_texts text ts) (span_of_tokens ts) a) (one_terminal names (subst (λ x. IsTerminal g x k other) (same_call (sym was ∙ is)) named)) one_means) means
    one_plain (f.terminal n one not is names one_means) (f.data_type q other too was named) =
        absurd (no_both names (subst (λ x. IsRule g x q other) (same_call (sym was ∙ is)) named))
    one_plain (f.data_type r rule not is names) f.truth = absurd (not refl)
    one_plain (f.data_type r rule not is names) (f.keyword too was) = absurd (no_word_calls (sym was ∙ is))
    one_plain (f.data_type r rule not is names) (f.terminal k other too was named means) =
        absurd (no_both (subst (λ x. IsTerminal g x k other) (same_call (sym was ∙ is)) named) names)
    one_plain (f.data_type r rule not is names) (f.data_type q other too was named) = refl

    -- what is plain refers to nothing
    no_plain_reference : {op : Op} {c : Value0} {ts : List Token} {v : Plain} {wanted name : List ℕ} → op ≢ Flag → RefersBy g c wanted name →
        IsPlain g text op c ts v → ⊥
    no_plain_reference flag refers f.truth = flag refl
    no_plain_reference flag (f.written is) (f.keyword not was) = no_word_crosses (sym was ∙ is)
    no_plain_reference flag (f.by_type is names) (f.keyword not was) = no_word_crosses (sym was ∙ is)
    no_plain_reference flag (f.written is) (f.terminal k other not was named means) = no_call_crosses (sym was ∙ is)
    no_plain_reference flag (f.by_type is names) (f.terminal k other not was named means) = no_call_crosses (sym was ∙ is)
    no_plain_reference flag (f.written is) (f.data_type q other not was named) = no_call_crosses (sym was ∙ is)
    no_plain_reference flag (f.by_type is names) (f.data_type q other not was named) = no_call_crosses (sym was ∙ is)

    pub one_put : {op : Op} {c : Value0} {ts : List Token} {node : Option Grown} {held a b : Held} {p : ℕ} → PutsValueIn g text op c ts node held p a →
        PutsValueIn g text op c ts node held p b → a ≡ b
    one_put f.a_node f.a_node = refl
    one_put {ts} {held} {p} (f.a_reference {want = n} {looked = a} flag refers is looks) (f.a_reference {want = k} {looked = b} other_flag other was looked) =
        let same = one_reader refers other in
        ap (λ want. Points held p want a (span_of_tokens ts)) (one_number_of_type _ n k (subst (λ w. IsNumberOfType g w n) same.0 is) was)
        ∙ ap (λ l. Points held p k l (span_of_tokens ts)) (one_look (subst (λ x. LooksUp g text x ts a) same.1 looks) looked)
    one_put (f.a_reference flag refers is looks) (f.plain v) = absurd (no_plain_reference flag refers v)
    one_put (f.plain v) (f.a_reference flag refers is looks) = absurd (no_plain_reference flag refers v)
    one_put {held} {p} (f.plain v) (f.plain w) = ap (Puts held p) (one_plain v w)
