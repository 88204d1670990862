-- What is offered in a text does not depend on which text is held under its address.
use Rattle.std.proofs.Common.{◌≡◌, ◌≢◌, ◌↔◌, ℕ, List, Bool, true, false, Option, Some, None, Contains, if◌then◌else◌, refl, sym, subst, ◌∙◌, true≢false}
use Rattle.std.specs.Str.{bytes_eq}
use Rattle.std.proofs.lemmas.Slice.Eq.{bytes_eq-Decides}
use Rattle.lw_grammar.specs.declared.grammar.Grammar.{Grammar}
use Rattle.lw_grammar.specs.Kinds.{Kinds}
use Rattle.lw_link_rules.specs.Links.{AreTreesOfTexts, IsTreeOfText, Texts}
use Rattle.lw_scoping.specs.Alike.{AreAlike, HaveSameTables, both, neither}
use Rattle.lw_scoping.specs.Links.{Trees}
use Rattle.lw_tokens.specs.Lexicon.{Lexicon}
use Rattle.lw_tree.specs.Parts.{Parts}
use Rattle.lw_places.specs.Offers.{AreOffers, IsOffer, Offer}
use Rattle.lw_places.specs.Targets.{having_tree}
use Rattle.lw_places.proofs.OneList.{HaveSameOthers, offered_too}

alike_itself : (tree : Option Parts) → AreAlike tree tree
alike_itself None = neither
alike_itself (Some tree) = both record { nodes = refl; values = λ n p. refl; refs = refl; tokens = refl; name = refl }

-- the trees with this one, or none, at the address
abbrev with_held : List ℕ → Option Parts → Trees → Trees
with_held address held trees a = if bytes_eq a address then held else trees a

-- whatever stands there, a tree that takes its place leaves the same
same_with : (address : List ℕ) (held : Option Parts) (trees : Trees) → HaveSameOthers address trees (with_held address held trees)
same_with address held trees tree a = by (bytes_eq a address)
  where
    by : (b : Bool) → AreAlike (if b then Some tree else trees a) (if b then Some tree else (if b then held else trees a))
    by true = alike_itself (Some tree)
    by false = alike_itself (trees a)

same_without : (address : List ℕ) (held : Option Parts) (trees : Trees) → HaveSameOthers address (with_held address held trees) trees
same_without address held trees tree a = by (bytes_eq a address)
  where
    by : (b : Bool) → AreAlike (if b then Some tree else (if b then held else trees a)) (if b then Some tree else trees a)
    by true = alike_itself (Some tree)
    by false = alike_itself (trees a)

module _ (g : Grammar) (texts others : Texts) (address : List ℕ) (same : (a : List ℕ) → a ≢ address → texts a ≡ others a) (held : Option Parts)
    (reads : IsTreeOfText g (others address) held) where
  trees_of_others : (trees : Trees) → AreTreesOfTexts g texts trees → AreTreesOfTexts g others (with_held address held trees)
  trees_of_others trees are a = by (bytes_eq a address) refl
    where
      by : (b : Bool) → bytes_eq a address ≡ b → IsTreeOfText g (others a) (if bytes_eq a address then held else trees a)
      by true is =
          subst (λ (c : Bool). IsTreeOfText g (others a) (if c then held else trees a)) (sym is)
          (subst (λ (x : List ℕ). IsTreeOfText g (others x) held) (sym ((bytes_eq-Decides a address).0 is)) reads)
      by false is =
          subst (λ (c : Bool). IsTreeOfText g (others a) (if c then held else trees a)) (sym is)
          (subst (λ (text : Option (List ℕ)). IsTreeOfText g text (trees a))
          (same a (λ there. true≢false (sym ((bytes_eq-Decides a address).1 there) ∙ is))) (are a))

  module _ (of : Kinds) (lexicon : Lexicon) (text : List ℕ) (offset : ℕ) where
    offer_over : {before after : Trees} → HaveSameOthers address before after → (x : Offer) → IsOffer g of lexicon before address text offset x →
        IsOffer g of lexicon after address text offset x
    offer_over all x is = record {
      short = is.short;
      front = is.front;
      word = is.word;
      rest = is.rest;
      typed = is.typed;
      tokens = is.tokens;
      cut = is.cut;
      offered = offered_too g of lexicon address is.front is.rest is.tokens all is.word x is.offered;
    }

  pub held_not_looked_at : (text : List ℕ) (offset : ℕ) (offers : List Offer) → AreOffers g texts address text offset offers →
      AreOffers g others address text offset offers
  held_not_looked_at text offset offers are = record {
    of = are.of;
    are_kinds = are.are_kinds;
    lexicon = are.lexicon;
    is_lexicon = are.is_lexicon;
    trees = with_held address held are.trees;
    are_trees = trees_of_others are.trees are.are_trees;
    exact = λ x. (
      λ has. offer_over are.of are.lexicon text offset (same_with address held are.trees) x ((are.exact x).0 has),
      λ is. (are.exact x).1 (offer_over are.of are.lexicon text offset (same_without address held are.trees) x is),
    );
    ordered = are.ordered;
  }
