use Rattle.std.proofs.Common.{ℕ, ◌≡◌, ◌<◌, List, get_or, length, sym, subst, arith}
use Rattle.std.specs.Prelude.{All}
use Rattle.std.proofs.lemmas.List.Elements.{All-get_or, All-same}
use Rattle.lw_grammar.specs.declared.grammar.Grammar.{Grammar}
use Rattle.lw_numbers.specs.Numbering.{type_names}
use Rattle.lw_tree.specs.declared.node.Reference.{Reference}
use Rattle.lw_types.specs.Inferred.{AreTypesOf}
use Rattle.lw_types.specs.declared.types.Types.{Types}
use Rattle.lw_document_tests.proofs.link.names_and_leads.Goals as goal

-- what one of the references wants is one of four types
known : (types : Types) → (g : Grammar) × AreTypesOf g types × (length (type_names g) ≡ 4) → (all refs : List Reference) (i : ℕ) (r : Reference) → refs ≡ all →
    i < length refs → r ≡ get_or refs i r → All (λ r. r.want.0 < 4) all → (g : Grammar) × AreTypesOf g types × (r.want.0 < length (type_names g))
known types (g, are, four) all refs i r same inside is low =
    let wants : r.want.0 < 4 =
    subst (λ (x : Reference). x.want.0 < 4) (sym is)
    (All-get_or (λ (x : Reference). x.want.0 < 4) refs i r inside (All-same (λ (x : Reference). x.want.0 < 4) refs all same low)) in
    (g, are, omega (arith, wants, four))

pub visible-requires-clause-known : goal.visible-requires-clause-known
visible-requires-clause-known c =
    known c.in_ok-types.types c.in_ok-types.ensures c.args.tree.now.refs c.refs-reference-items.result.now c.loop-reference.reference-index c.reference-item.result
    c.refs-reference-items.ensures c.loop-reference-test.true c.reference-item.is c.requires.wants

pub finds-leads-requires-clause-known : goal.finds-leads-requires-clause-known
finds-leads-requires-clause-known c =
    known c.in_ok-types.types c.in_ok-types.ensures c.args.tree.now.refs c.refs-reference-items.result.now c.loop-reference.reference-index c.reference-item.result
    c.refs-reference-items.ensures c.loop-reference-test.true c.reference-item.is c.requires.wants
