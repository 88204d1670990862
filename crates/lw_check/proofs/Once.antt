-- One diagnostic more, which is the only one of its kind, and what is told of all doubles.
use Rattle.std.proofs.Common.{◌≡◌, ◌<◌, ℕ, List, [], ◌∷◌, ◌++◌, Contains, length, sym, subst, ◌∙◌}
use Rattle.lw_base.specs.declared.numbers.NodeId.{NodeId}
use Rattle.lw_faults.specs.Finding.{Finds, OfSome}
use Rattle.lw_faults.proofs.Joining.{Finds-iff, Finds-pushed}
use Rattle.lw_grammar.specs.declared.grammar.Grammar.{Grammar}
use Rattle.lw_link_rules.specs.TreeDiagnostics.{Diagnostic}
use Rattle.lw_scoping.specs.Doubles.{HasDouble}
use Rattle.lw_scoping.specs.Symbols.{IsNamedNode}
use Rattle.lw_tree.specs.Parts.{Parts}
use Rattle.lw_check.specs.declared.sorting.KeyedDiagnostic.{KeyedDiagnostic}
use Rattle.lw_check.specs.Sorting.{diagnostic_of, diagnostics_of}
use Rattle.lw_check.specs.Telling.{TellsDouble, TellsDoubleBelow}

pub told_once : {P : Diagnostic → Type 0} (xs ys : List KeyedDiagnostic) (x : KeyedDiagnostic) (one : Diagnostic) → ys ≡ xs ++ x ∷ [] → diagnostic_of x ≡ one → P one →
    ((e : Diagnostic) → P e → e ≡ one) → Finds P (diagnostics_of xs) (diagnostics_of ys)
told_once {P} xs ys x one pushed is so only =
    Finds-iff (λ e. (λ same. subst P (sym (same ∙ is)) so, λ told. only e told ∙ sym is)) (Finds-pushed diagnostic_of xs ys x pushed)

-- nodes among which all doubles are
pub all_doubles : (g : Grammar) (tree : Parts) (nodes : List NodeId) → ((n : NodeId) → Contains nodes n → n.0 < length tree.nodes) →
    ((n : NodeId) (name : List ℕ) (type : ℕ) → IsNamedNode tree n.0 name type → HasDouble tree n.0 name type → Contains nodes n) → {a b : List Diagnostic} →
    Finds (OfSome (λ (n : NodeId). TellsDouble g tree n.0) nodes) a b → Finds (TellsDoubleBelow g tree (length tree.nodes)) a b
all_doubles g tree nodes inside all = Finds-iff (λ e. (forth e, back e))
  where
    forth : (e : Diagnostic) → OfSome (λ (n : NodeId). TellsDouble g tree n.0) nodes e → TellsDoubleBelow g tree (length tree.nodes) e
    forth e (n, has, tells) = (n.0, inside n has, tells)

    back : (e : Diagnostic) → TellsDoubleBelow g tree (length tree.nodes) e → OfSome (λ (n : NodeId). TellsDouble g tree n.0) nodes e
    back e (n, below, tells) = (record { 0 = n }, all (record { 0 = n }) tells.name tells.number tells.named tells.double, tells)
