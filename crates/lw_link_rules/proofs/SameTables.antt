-- What is told of a document depends on the tables of all trees alone, and not on how these are kept.
use Rattle.std.proofs.Common.{◌≡◌, ℕ, List, Option, Some, None, Contains, slice_get, refl, sym, ap, ◌∙◌, subst}
use Rattle.std.proofs.lemmas.Option.{same_Some}
use Rattle.lw_grammar.specs.declared.grammar.Grammar.{Grammar}
use Rattle.lw_tree.specs.declared.node.Node.{Node}
use Rattle.lw_tree.specs.declared.node.Reference.{Reference}
use Rattle.lw_tree.specs.declared.node.Value.{Value}
use Rattle.lw_tree.specs.declared.node.Value.TheVariants.{Huge}
use Rattle.lw_tree.specs.Parts.{Parts, SameTables}
use Rattle.lw_scoping.specs.Alike.{AreAlike, both, neither, HaveSameTables}
use Rattle.lw_scoping.specs.Doubles.{HasDouble, DoesExport, IsLeastOther}
use Rattle.lw_scoping.specs.Links.{Trees, Link, IsOwn, FitsThere, LinksTo, own, out, nowhere}
use Rattle.lw_scoping.specs.Symbols.{IsNamedNode}
use Rattle.lw_scoping.proofs.Tables.{same_locals, same_names, same_exports, same_own}
use Rattle.lw_link_rules.specs.Links.{IsNumberBelow}
use Rattle.lw_link_rules.specs.TreeDiagnostics.{Diagnostic, IsDiagnosticOf, unresolved, duplicate, also_exported, number}

-- a link goes over where its symbol does, and what fits elsewhere fits there over both
pub link_over : (below : ℕ → ℕ → Type 0) (trees others : Trees) (address : List ℕ) (tree other : Parts) (r : Reference) →
    ((n : Option ℕ) → IsOwn below tree r n → IsOwn below other r n) → ((place : List ℕ × ℕ) → FitsThere below trees r place → FitsThere below others r place) →
    ((place : List ℕ × ℕ) → FitsThere below others r place → FitsThere below trees r place) → (link : Link) → LinksTo below trees address tree r link →
    LinksTo below others address other r link
link_over below trees others address tree other r symbol forth back link (own {n = n} is) = own (symbol (Some n) is)
link_over below trees others address tree other r symbol forth back link (out {place = place} is fits least) =
    out (symbol None is) (forth place fits) (λ elsewhere was. least elsewhere (back elsewhere was))
link_over below trees others address tree other r symbol forth back link (nowhere is misses) =
    nowhere (symbol None is) (λ elsewhere was. misses elsewhere (back elsewhere was))

-- a node with a name has it at the same place
named_too : {tree other : Parts} (same : SameTables tree other) {n : ℕ} {name : List ℕ} {type : ℕ} → IsNamedNode tree n name type → IsNamedNode other n name type
named_too same {n} is = record {
  span = is.span;
  named = sym (same_names same n) ∙ is.named;
  node = is.node;
  there = ap (λ (nodes : List Node). slice_get nodes n) (sym same.nodes) ∙ is.there;
  typed = is.typed;
}

alike_there : {a b : Option Parts} {tree : Parts} → AreAlike a b → a ≡ Some tree → (other : Parts) × (b ≡ Some other) × SameTables tree other
alike_there {tree} (both {one = one} {other = other} same) is = (other, refl, subst (λ (x : Parts). SameTables x other) (same_Some one tree is) same)
alike_there neither is = absurd (differ is)
  where
    differ : {tree : Parts} → None ≡ Some tree → ⊥
    differ e = cc

pub alike_trees : {a b : Option Parts} {tree other : Parts} → AreAlike a b → a ≡ Some tree → b ≡ Some other → SameTables tree other
alike_trees {tree = tree} {other = other} alike is was =
    let (found, there, same) = alike_there alike is in subst (λ (x : Parts). SameTables tree x) (same_Some found other (sym there ∙ was)) same

module _ {trees others : Trees} (all : HaveSameTables trees others) where
  fits_too : (below : ℕ → ℕ → Type 0) (r : Reference) (place : List ℕ × ℕ) → FitsThere below trees r place → FitsThere below others r place
  fits_too below r place (tree, is, has, (type, named, under)) =
      let (other, there, same) = alike_there (all place.0) is in
      (other, there, subst (λ (xs : List ℕ). Contains xs place.1) (same_exports same) has, (type, named_too same named, under))

  exports_too : (name : List ℕ) (type : ℕ) (address : List ℕ) → DoesExport trees name type address → DoesExport others name type address
  exports_too name type address is =
      let (other, there, same) = alike_there (all address) is.is_tree in
      record {
        tree = other;
        is_tree = there;
        node = is.node;
        exported = subst (λ (xs : List ℕ). Contains xs is.node) (same_exports same) is.exported;
        same = named_too same is.same;
      }

double_too : {tree other : Parts} (same : SameTables tree other) (n : ℕ) (name : List ℕ) (type : ℕ) → HasDouble tree n name type → HasDouble other n name type
double_too same n name type is = record {
  container = is.container;
  inside = subst (λ (xs : List ℕ). Contains xs n) (same_locals same is.container) is.inside;
  earlier = is.earlier;
  beside = subst (λ (xs : List ℕ). Contains xs is.earlier) (same_locals same is.container) is.beside;
  before = is.before;
  same = named_too same is.same;
}

least_too : {trees others : Trees} → HaveSameTables trees others → HaveSameTables others trees → (name : List ℕ) (type : ℕ) (address other : List ℕ) →
    IsLeastOther trees name type address other → IsLeastOther others name type address other
least_too all back name type address other is = record {
  another = is.another;
  exports_it = exports_too all name type other is.exports_it;
  least = λ a apart has. is.least a apart (exports_too back name type a has);
}

module _ (g : Grammar) {trees others : Trees} (all : HaveSameTables trees others) (back : HaveSameTables others trees) (address : List ℕ)
    {tree other : Parts} (same : SameTables tree other) where
  pub told_too : (e : Diagnostic) → IsDiagnosticOf g trees address tree e → IsDiagnosticOf g others address other e
  unfolding named_too
  told_too e (unresolved r has leads typed) =
      unresolved r (subst (λ (rs : List Reference). Contains rs r) same.refs has)
      (link_over (IsNumberBelow g) trees others address tree other r (λ n. same_own same (IsNumberBelow g) r) (fits_too all (IsNumberBelow g) r)
      (fits_too back (IsNumberBelow g) r) None leads) typed
  told_too e (duplicate n t {name = name} named double typed) = duplicate n t (named_too same named) (double_too same n name t double) typed
  told_too e (also_exported n t {name = name} {other = elsewhere} has named least typed) =
      also_exported n t (subst (λ (xs : List ℕ). Contains xs n) (same_exports same) has) (named_too same named)
      (least_too all back name t address elsewhere least) typed
  told_too e (number {s = s} node prop has) = number node prop (subst (λ (vs : List Value). Contains vs (Huge s)) (same.values node prop) has)
