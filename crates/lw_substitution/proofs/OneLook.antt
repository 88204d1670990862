-- Tokens that are read as a reference look up one name.
use Rattle.std.proofs.Common.{◌≡◌, ◌≢◌, ℕ, List, Option, sym, subst, ◌∙◌}
use Rattle.std.proofs.lemmas.Option.{none-some, same_Some}
use Rattle.lw_base.specs.declared.token.Span.{Span}
use Rattle.lw_base.specs.declared.token.Token.{Token}
use Rattle.lw_grammar.specs.declared.grammar.Grammar.{Grammar}
use Rattle.lw_grammar.specs.declared.rule.Op.{Op}
use Rattle.lw_grammar.specs.declared.rule.Op.TheVariants.{Flag}
use Rattle.lw_grammar.specs.declared.rule.Value0.{Value0}
use Rattle.lw_grammar.specs.declared.rule.Value0.TheOpen.{Value0-F, Cross}
use Rattle.lw_grammar.specs.NameRules.{IsNameRule}
use Rattle.lw_grammar.proofs.Naming.{one_name_rule}
use Rattle.lw_reading.specs.Follows.{LooksUp, RefersBy}
use Rattle.lw_reading.specs.Follows as f
use Rattle.lw_reading.specs.Grown.{Held, Nothing, Points}
use Rattle.lw_reading.specs.Numbers.{IsNumberOfType}
use Rattle.lw_reading.proofs.OneValue.{one_put}

same_wanted : {wanted other : List ℕ} {rule by : Option (List ℕ)} {s t : Span} → ◌≡◌ {A = Value0-F Value0} (Cross wanted rule s) (Cross other by t) → (wanted ≡ other) × (rule ≡ by)
same_wanted e = (cc, cc)

module _ (g : Grammar) where
  pub one_rule : {c : Value0} {wanted other rule by : List ℕ} → RefersBy g c wanted rule → RefersBy g c other by → rule ≡ by
  one_rule (f.written is) (f.written was) = same_Some _ _ (same_wanted (sym is ∙ was)).1
  one_rule (f.written is) (f.by_type was names) = absurd (none-some _ (sym (same_wanted (sym is ∙ was)).1))
  one_rule (f.by_type is names) (f.written was) = absurd (none-some _ (same_wanted (sym is ∙ was)).1)
  one_rule {rule} {by} (f.by_type {wanted} is names) (f.by_type was named) =
      one_name_rule g wanted rule by names (subst (λ (w : List ℕ). IsNameRule g w by) (sym (same_wanted (sym is ∙ was)).0) named)

  same_name : {held : Held} {p want : ℕ} {name other : List ℕ} {s : Span} → Points held p want name s ≡ Points held p want other s → name ≡ other
  same_name e = cc

  pub one_name : (text : List ℕ) (want : ℕ) {op : Op} {c : Value0} {wanted rule by name other : List ℕ} {ts : List Token} → op ≢ Flag → RefersBy g c wanted rule →
      IsNumberOfType g wanted want → rule ≡ by → LooksUp g text rule ts name → LooksUp g text by ts other → name ≡ other
  one_name text want {op} {c} {rule} {other} {ts} flag refers number same looks looked =
      let too : LooksUp g text rule ts other = subst (λ (x : List ℕ). LooksUp g text x ts other) (sym same) looked in
      same_name
      (one_put g text {op = op} {c = c} {held = Nothing} {p = 0} (f.a_reference flag refers number looks) (f.a_reference flag refers number too))
