-- The tables of a whole tree, and what they are once they are named by number.
use Rattle.std.proofs.Common.{ℕ, ◌≡◌, Option, None, List, length, map, All, sym, subst, ap, ◌∙◌, arith}
use Rattle.std.proofs.lemmas.List.Elements.{All-same}
use Rattle.lw_base.specs.declared.numbers.PropId.{PropId}
use Rattle.lw_base.specs.declared.token.Token.{Token}
use Rattle.lw_tree.specs.declared.node.Node.{Node}
use Rattle.lw_tree.specs.declared.node.Reference.{Reference}
use Rattle.lw_tree.specs.Parts.{Parts, SameTables, values_at}
use Rattle.lw_reading.specs.Grown.{Grown, size, nodes}
use Rattle.lw_reading.specs.Trees.{parts_of_tree}
use Rattle.lw_builder.specs.declared.preorder.finished.Finished.{Finished}
use Rattle.lw_builder.specs.Finishing.{finished, AreNumbered, numbers}
use Rattle.lw_builder.specs.Tables.{AreTablesOf, stored, pointed}
use Rattle.lw_builder.specs.Renaming.{entry_by_number, reference_by_number, HasPlaces}
use Rattle.lw_builder.proofs.Each.{Each}
use Rattle.lw_builder.proofs.TreeNumbers.{Reads, numbered}
use Rattle.lw_builder.proofs.PreorderLengths.{length-finished, length-nodes}
use Rattle.lw_builder.proofs.Joining.{Entry}
use Rattle.lw_builder.proofs.NamedReferences.{refs_named}
use Rattle.lw_builder.proofs.NamedValues.{values_named}
use Rattle.lw_builder.proofs.PlacesWithin.{OwnerWithin, stored_within, pointed_within}

pub length-table : (x : Grown) (all : List Finished) (kept : List Entry) (points : List Reference) → AreTablesOf x all kept points → length all ≡ size x
length-table x all kept points tables = ap length tables.nodes ∙ length-finished None None 0 x

pub length-made : (x : Grown) (all : List Finished) (kept : List Entry) (points : List Reference) (made : List Node) → AreTablesOf x all kept points →
    made ≡ nodes None None 0 x → length made ≡ length all
length-made x all kept points made tables is = ap length is ∙ length-nodes None None 0 x ∙ sym (length-table x all kept points tables)

pub values_within : (x : Grown) (all : List Finished) (kept : List Entry) (points : List Reference) (m : ℕ) → AreTablesOf x all kept points → m ≡ length all →
    All (HasPlaces m) kept
values_within x all kept points m tables long =
    All-same (HasPlaces m) kept (stored 0 0 x) tables.values (stored_within m 0 0 x (omega (arith, long, length-table x all kept points tables)))

pub refs_within : (x : Grown) (all : List Finished) (kept : List Entry) (points : List Reference) (m : ℕ) → AreTablesOf x all kept points → m ≡ length all →
    All (OwnerWithin m) points
refs_within x all kept points m tables long =
    All-same (OwnerWithin m) points (pointed 0 x) tables.refs (pointed_within m 0 x (omega (arith, long, length-table x all kept points tables)))

pub same_tree : (x : Grown) (all : List Finished) (kept : List Entry) (points : List Reference) (seen : List Finished) (ns : List ℕ) (made : List Node) (put : List Entry)
    (pointing : List Reference) (tokens : List Token) (name : Option PropId) (tree : Parts) →
    AreTablesOf x all kept points → AreNumbered seen ns → seen ≡ all → made ≡ nodes None None 0 x → put ≡ map (entry_by_number ns) kept →
    pointing ≡ map (reference_by_number ns) points →
    SameTables tree (record { nodes = made; values = put; refs = pointing; tokens = tokens; name = name }) → SameTables tree (parts_of_tree x tokens name)
same_tree x all kept points seen ns made put pointing tokens name tree tables law is placed named pointed same =
    let law' : AreNumbered (finished None None 0 x) ns = (let P : List Finished → Type 0 = λ l. AreNumbered l ns in subst P (is ∙ tables.nodes) law) in
    let reads : Each (Reads ns) 0 (numbers 0 x) = numbered x ns law' in
    record {
      nodes = same.nodes ∙ placed;
      values = λ n p. same.values n p ∙ ap (values_at n p) (named ∙ ap (map (entry_by_number ns)) tables.values) ∙ values_named n p ns x reads;
      refs = same.refs ∙ pointed ∙ ap (map (reference_by_number ns)) tables.refs ∙ refs_named ns x reads;
      tokens = same.tokens;
      name = same.name;
    }
