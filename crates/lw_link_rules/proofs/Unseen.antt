-- What a document exports changes no links where no reference has the name of any of it.
use Rattle.std.proofs.Common.{◌≡◌, ◌≢◌, ℕ, suc, ◌⊎◌, inl, inr, Bool, true, false, List, [], ◌∷◌, Option, Some, Contains, refl, sym, ap, ◌∙◌, subst, true≢false, arith}
use Rattle.std.specs.Prelude.{if◌then◌else◌}
use Rattle.std.specs.List.{AllZip}
use Rattle.std.specs.Str.{bytes_eq}
use Rattle.std.proofs.lemmas.Slice.Eq.{bytes_eq-Decides}
use Rattle.lw_grammar.specs.declared.grammar.Grammar.{Grammar}
use Rattle.lw_scoping.specs.Links.{Trees, Link, FitsThere, LinksTo, AreLinksOver, treeless, whole}
use Rattle.lw_link_rules.specs.Laws.{DifferAtMostAt, NamesNoExportOf}
use Rattle.lw_link_rules.specs.Links.{Texts, IsTreeOfText, AreTreesOfTexts, IsNumberBelow, AreLinks}
use Rattle.lw_link_rules.proofs.SameTables.{link_over}
use Rattle.lw_tree.specs.declared.node.Reference.{Reference}
use Rattle.lw_tree.specs.Parts.{Parts}

one_or_two : (a b : List ℕ) → (a ≡ b) ⊎ (a ≢ b)
one_or_two a b = by (bytes_eq a b) refl
  where
    by : (same : Bool) → bytes_eq a b ≡ same → (a ≡ b) ⊎ (a ≢ b)
    by true is = inl ((bytes_eq-Decides a b).0 is)
    by false is = inr (λ same. true≢false (sym ((bytes_eq-Decides a b).1 same) ∙ is))

-- ---- trees that differ at one address
module _ (below : ℕ → ℕ → Type 0) (changed : List ℕ) where
  -- nothing that is exported there fits the reference
  abbrev FitsNotThere : Trees → Reference → Type 0
  FitsNotThere trees r = (n : ℕ) → ¬ FitsThere below trees r (changed, n)

  fits_over : (trees others : Trees) → ((a : List ℕ) → a ≢ changed → trees a ≡ others a) → (r : Reference) → FitsNotThere trees r → (place : List ℕ × ℕ) →
      FitsThere below trees r place → FitsThere below others r place
  fits_over trees others same r unfit place fits = elim (one_or_two place.0 changed) [
    | inl here ↦ absurd (unfit place.1 (subst (λ (a : List ℕ). FitsThere below trees r (a, place.1)) here fits))
    | inr apart ↦ (fits.0, sym (same place.0 apart) ∙ fits.1, fits.2, fits.3)
  ]

  module _ (trees others : Trees) (same : (a : List ℕ) → a ≢ changed → trees a ≡ others a) (address : List ℕ) (tree : Parts) where
    row_over : (refs : List Reference) (links : List Link) →
        ((r : Reference) → Contains refs r → FitsNotThere trees r × FitsNotThere others r) → AllZip (LinksTo below trees address tree) refs links →
        AllZip (LinksTo below others address tree) refs links
    row_over [] [] unfit row = tt
    row_over [] (l ∷ ls) unfit row = absurd row
    row_over (r ∷ rs) [] unfit row = absurd row
    row_over (r ∷ rs) (l ∷ ls) unfit row =
        let none = unfit r (0, omega arith, refl) in (
          link_over below trees others address tree tree r (λ n is. is) (fits_over trees others same r none.0)
              (fits_over others trees (λ a apart. sym (same a apart)) r none.1) l row.0,
          row_over rs ls (λ q has. unfit q (suc has.0, omega (arith, has.1), has.2)) row.1,
        )

    links_over : address ≢ changed → trees address ≡ Some tree → ((r : Reference) → Contains tree.refs r → FitsNotThere trees r × FitsNotThere others r) →
        (links : List Link) → AllZip (LinksTo below trees address tree) tree.refs links → AreLinksOver below others address links
    links_over apart is unfit links row = whole (sym (same address apart) ∙ is) (row_over tree.refs links unfit row)

-- ---- texts that differ at one address
-- another tree, or none, at one address
abbrev with_tree : Trees → List ℕ → Option Parts → Trees
with_tree trees changed tree address = if bytes_eq address changed then tree else trees address

module _ (trees : Trees) (changed : List ℕ) (tree : Option Parts) where
  there : (address : List ℕ) → address ≡ changed → with_tree trees changed tree address ≡ tree
  there address same = ap (λ (b : Bool). if b then tree else trees address) ((bytes_eq-Decides address changed).1 same)

  elsewhere : (address : List ℕ) → address ≢ changed → trees address ≡ with_tree trees changed tree address
  elsewhere address apart = by (bytes_eq address changed) refl
    where
      by : (same : Bool) → bytes_eq address changed ≡ same → trees address ≡ with_tree trees changed tree address
      by true is = absurd (apart ((bytes_eq-Decides address changed).0 is))
      by false is = ap (λ (b : Bool). if b then tree else trees address) (sym is)

module _ (g : Grammar) (texts others : Texts) (changed address : List ℕ) (apart : address ≢ changed) (same : DifferAtMostAt changed texts others)
    (tree : Option Parts) (reads : IsTreeOfText g (others changed) tree) (unseen : NamesNoExportOf g (texts address) (texts changed))
    (unseen_after : NamesNoExportOf g (texts address) (others changed)) where
  trees_after : (trees : Trees) → AreTreesOfTexts g texts trees → AreTreesOfTexts g others (with_tree trees changed tree)
  trees_after trees are a = elim (one_or_two a changed) [
    | inl here ↦
        subst (λ (p : Option Parts). IsTreeOfText g (others a) p) (sym (there trees changed tree a here))
        (subst (λ (b : List ℕ). IsTreeOfText g (others b) tree) (sym here) reads)
    | inr off ↦
        subst (λ (p : Option Parts). IsTreeOfText g (others a) p) (elsewhere trees changed tree a off)
        (subst (λ (o : Option (List ℕ)). IsTreeOfText g o (trees a)) (same a off) (are a))
  ]

  unfit : (text : Option (List ℕ)) → NamesNoExportOf g (texts address) text → (user : Parts) → IsTreeOfText g (texts address) (Some user) → (r : Reference) →
      Contains user.refs r → (trees : Trees) → IsTreeOfText g text (trees changed) → FitsNotThere (IsNumberBelow g) changed trees r
  unfit text none user uses r has trees is n (exporting, at, exported, (type, named, under)) =
      none user exporting uses (subst (λ (p : Option Parts). IsTreeOfText g text p) at is) r n type has exported named

  over : (links : List Link) (trees : Trees) → AreTreesOfTexts g texts trees → AreLinksOver (IsNumberBelow g) trees address links →
      AreLinksOver (IsNumberBelow g) (with_tree trees changed tree) address links
  over links trees are (treeless absent) = treeless (sym (elsewhere trees changed tree address apart) ∙ absent)
  over links trees are (whole {tree = user} is row) =
      let uses = subst (λ (p : Option Parts). IsTreeOfText g (texts address) p) is (are address) in
      let after = with_tree trees changed tree in
      links_over (IsNumberBelow g) changed trees after (elsewhere trees changed tree) address user apart is
      (λ r has. (
        unfit (texts changed) unseen user uses r has trees (are changed),
        unfit (others changed) unseen_after user uses r has after (trees_after trees are changed),
      ))
      links row

  pub unseen_changes_nothing : (links : List Link) → AreLinks g texts address links → AreLinks g others address links
  unseen_changes_nothing links is = record {
    trees = with_tree is.trees changed tree;
    are_trees = trees_after is.trees is.are_trees;
    are_links = over links is.trees is.are_trees is.are_links;
  }
