-- What a cross-reference without a rule calls.
use Rattle.std.proofs.Common.{◌≡◌, ◌↔◌, ℕ, List, Some, None, sym, ap, ◌∙◌}
use Rattle.std.proofs.lemmas.Option.{same_Some, none-some}
use Rattle.lw_base.specs.declared.token.Span.{Span}
use Rattle.lw_grammar.specs.declared.grammar.Grammar.{Grammar}
use Rattle.lw_grammar.specs.NameRules.{IsNameRule}
use Rattle.lw_gramcheck.specs.Sites.{Site, site, ByName, CrossCalls}
use Rattle.lw_gramcheck.proofs.NamingLemmas.{one_name_rule}

module _ (g : Grammar) (wanted : List ℕ) (s : Span) where
  pub by_one_name : (name : List ℕ) → IsNameRule g wanted name → (call : Site) → CrossCalls g wanted None s call ↔ (Some (site name s ByName) ≡ Some call)
  by_one_name name is call = (to, λ same. (name, is, sym (same_Some (site name s ByName) call same)))
    where
      to : CrossCalls g wanted None s call → Some (site name s ByName) ≡ Some call
      to (other, other_is, same) = ap Some (sym (same ∙ ap (λ n. site n s ByName) (one_name_rule g wanted other name other_is is)))

  pub by_no_name : ((name : List ℕ) → ¬ IsNameRule g wanted name) → (call : Site) → CrossCalls g wanted None s call ↔ (None ≡ Some call)
  by_no_name none call = (to, λ same. absurd (none-some call same))
    where
      to : CrossCalls g wanted None s call → None ≡ Some call
      to (name, is, same) = absurd (none name is)
