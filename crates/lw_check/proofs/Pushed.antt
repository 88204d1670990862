-- What is told of one node: that it has a double, or a rival, or nothing.
use Rattle.std.proofs.Common.{◌≡◌, ℕ, List, [], ◌∷◌, ◌++◌, Some, slice_get, refl, sym, ap, subst, ◌∙◌}
use Rattle.std.specs.FinMap.{empty}
use Rattle.std.proofs.lemmas.Option.{same_Some}
use Rattle.lw_base.specs.declared.token.Span.{Span}
use Rattle.lw_faults.specs.Finding.{Finds, OfSome}
use Rattle.lw_faults.proofs.Joining.{Finds-nothing}
use Rattle.lw_grammar.specs.declared.grammar.Grammar.{Grammar}
use Rattle.lw_index.specs.Indexed.{Indexed}
use Rattle.lw_index.specs.Rivals.{HasNoRival, IsLeastRival, IsRival}
use Rattle.lw_reading.specs.Numbers.{IsNumberOfType}
use Rattle.lw_numbers.specs.Numbering.{type_names}
use Rattle.lw_scoping.specs.Doubles.{HasDouble}
use Rattle.lw_scoping.specs.Symbols.{IsNamedNode}
use Rattle.lw_link_rules.specs.TreeDiagnostics.{Diagnostic, duplicate_at, also_exported_at}
use Rattle.lw_tree.specs.declared.node.Node.{Node}
use Rattle.lw_tree.specs.Parts.{Parts, name_of}
use Rattle.lw_check.specs.declared.sorting.KeyedDiagnostic.{KeyedDiagnostic}
use Rattle.lw_check.specs.Sorting.{diagnostic_of, diagnostics_of}
use Rattle.lw_check.specs.Telling.{TellsDouble, TellsRival}
use Rattle.lw_check.proofs.Once.{told_once}
use Rattle.lw_check.proofs.Others.{no_least, one_rival}

module _ (g : Grammar) (tree : Parts) (n : ℕ) (name : List ℕ) (span : Span) (named : name_of tree n ≡ Some (name, span)) (node : Node)
    (at : slice_get tree.nodes n ≡ Some node) where
  pub named_here : IsNamedNode tree n name node.type_id.0
  named_here = record { span = span; named = named; node = node; there = at; typed = refl }

  module _ {m : List ℕ} {t : ℕ} (is : IsNamedNode tree n m t) where
    one_name : ◌≡◌ {A = List ℕ × Span} (m, is.span) (name, span)
    one_name = same_Some {A = List ℕ × Span} (m, is.span) (name, span) (sym is.named ∙ named)

    same_name : m ≡ name
    same_name = ap (λ (x : List ℕ × Span). x.0) one_name

    same_span : is.span ≡ span
    same_span = ap (λ (x : List ℕ × Span). x.1) one_name

    same_number : t ≡ node.type_id.0
    same_number = sym is.typed ∙ ap (λ (x : Node). x.type_id.0) (same_Some is.node node (sym is.there ∙ at))

  one_type : (t : ℕ) (one other : List ℕ) → t ≡ node.type_id.0 → IsNumberOfType g one t → IsNumberOfType g other node.type_id.0 → one ≡ other
  one_type t one other same is was = same_Some one other (sym is ∙ ap (λ (k : ℕ). slice_get (type_names g) k) same ∙ was)

  -- ---- doubles

  pub no_double : ¬ HasDouble tree n name node.type_id.0 → (a : List Diagnostic) → Finds (TellsDouble g tree n) a a
  no_double none a =
      Finds-nothing
      (λ e tells.
      let by_name = subst (λ m. HasDouble tree n m tells.number) (same_name tells.named) tells.double in
      none (subst (HasDouble tree n name) (same_number tells.named) by_name))

  module _ (type : List ℕ) (numbered : IsNumberOfType g type node.type_id.0) (xs ys : List KeyedDiagnostic) (x : KeyedDiagnostic) (pushed : ys ≡ xs ++ x ∷ []) where
    pub one_double : HasDouble tree n name node.type_id.0 → diagnostic_of x ≡ duplicate_at span type name →
        Finds (TellsDouble g tree n) (diagnostics_of xs) (diagnostics_of ys)
    unfolding named_here
    one_double double is =
        told_once xs ys x (duplicate_at span type name) pushed is
        (record { number = node.type_id.0; name = name; named = named_here; double = double; type = type; numbered = numbered; is = refl }) only
      where
        only : (e : Diagnostic) → TellsDouble g tree n e → e ≡ duplicate_at span type name
        only e tells =
            let type_is = one_type tells.number tells.type type (same_number tells.named) tells.numbered numbered in
            tells.is ∙ (λ i. duplicate_at (same_span tells.named i) (type_is i) (same_name tells.named i))

    -- ---- rivals

    pub one_rival_told : (index : Indexed) (doc : ℕ) (uri : List ℕ) → IsLeastRival index doc name node.type_id.0 uri →
        diagnostic_of x ≡ also_exported_at span type name uri → Finds (TellsRival g tree index doc n) (diagnostics_of xs) (diagnostics_of ys)
    unfolding named_here
    one_rival_told index doc uri rival is =
        told_once xs ys x (also_exported_at span type name uri) pushed is
        (record { number = node.type_id.0; name = name; named = named_here; other = uri; rival = rival; type = type; numbered = numbered; is = refl }) only
      where
        only : (e : Diagnostic) → TellsRival g tree index doc n e → e ≡ also_exported_at span type name uri
        only e tells =
            let type_is = one_type tells.number tells.type type (same_number tells.named) tells.numbered numbered in
            let by_name = subst (λ m. IsLeastRival index doc m tells.number tells.other) (same_name tells.named) tells.rival in
            let least = subst (λ t. IsLeastRival index doc name t tells.other) (same_number tells.named) by_name in
            let other = one_rival index doc name node.type_id.0 tells.other uri least rival in
            tells.is ∙ (λ i. also_exported_at (same_span tells.named i) (type_is i) (same_name tells.named i) (other i))

  pub no_rival : (index : Indexed) (doc : ℕ) → HasNoRival index doc name node.type_id.0 → (a : List Diagnostic) → Finds (TellsRival g tree index doc n) a a
  no_rival index doc none a =
      Finds-nothing
      (λ e tells.
      let by_name = subst (λ m. IsRival index doc m tells.number tells.other) (same_name tells.named) tells.rival.rival in
      none tells.other (subst (λ t. IsRival index doc name t tells.other) (same_number tells.named) by_name))

-- where nothing is held
pub no_rivals : (g : Grammar) (tree : Parts) (index : Indexed) (doc : ℕ) (nodes : List ℕ) → index ≡ empty → (a : List Diagnostic) →
    Finds (OfSome (TellsRival g tree index doc) nodes) a a
no_rivals g tree index doc nodes nothing_held a =
    Finds-nothing (λ e (n, has, tells). no_least index doc tells.name tells.number tells.other nothing_held tells.rival)
