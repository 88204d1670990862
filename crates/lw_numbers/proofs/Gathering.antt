-- Names that are put behind others, each at its first use: one part after another, and from nothing on.
use Rattle.std.proofs.Common.{◌≡◌, ℕ, List, [], ◌∷◌, ◌++◌, Bool, true, false, ◌||◌, map, refl, sym, ap, ◌∙◌, if◌then◌else◌}
use Rattle.std.specs.List.{flat_map}
use Rattle.std.specs.Str.{bytes_eq}
use Rattle.std.proofs.lemmas.List.{append-nil, append_assoc}
use Rattle.std.proofs.lemmas.List.Folds.{list_any-append}
use Rattle.std.proofs.lemmas.List.Concat.{flat_map-append}
use Rattle.std.proofs.lemmas.List.Sums.{fold-append}
use Rattle.indexmap.specs.IndexSet.{insert_key, insert_all}
use Rattle.lw_grammar.specs.declared.grammar.Grammar.{Grammar}
use Rattle.lw_grammar.specs.declared.declared_types.Interface.{Interface}
use Rattle.lw_grammar.specs.declared.declared_types.UnionDef.{UnionDef}
use Rattle.lw_grammar.specs.declared.rule.Element.{Element}
use Rattle.lw_grammar.specs.declared.rule.Element.TheVariants as element
use Rattle.lw_grammar.specs.declared.rule.Rule.{Rule}
use Rattle.lw_grammar.specs.Kinds.{first_uses}
use Rattle.lw_grammar.specs.Leaves.{leaves}
use Rattle.lw_grammar.proofs.FirstUses.{stands_in}
use Rattle.lw_grammar.proofs.LeafLemmas.{leaves-Group, leaves-Choice}
use Rattle.lw_base.specs.declared.token.Span.{Span}
use Rattle.lw_numbers.specs.declared.first_uses.FirstUses.{FirstUses}
use Rattle.lw_numbers.specs.FirstUses.{Puts, types_in, properties_in, attribute_names, rule_properties}
use Rattle.lw_numbers.specs.Numbering.{leaf_types, leaf_properties, rule_types, type_names, property_names}

-- ---- the names that the parts of an element use

module _ {X Y A : Type 0} (f : Y → List A) (g : X → List Y) where
  -- what is found in all that parts give is what is found in each in turn
  pub flat_map-flat_map : (xs : List X) → flat_map f (flat_map (λ ys. ys) (map g xs)) ≡ flat_map (λ x. flat_map f (g x)) xs
  flat_map-flat_map [] = refl
  flat_map-flat_map (x ∷ xs) = flat_map-append f (g x) (flat_map (λ ys. ys) (map g xs)) ∙ ap (λ found. flat_map f (g x) ++ found) (flat_map-flat_map xs)

pub types-Group : (parts : List Element) (s : Span) → flat_map leaf_types (leaves (element.Group parts s)) ≡ flat_map types_in parts
types-Group parts s = ap (flat_map leaf_types) (leaves-Group parts s) ∙ flat_map-flat_map leaf_types leaves parts

pub types-Choice : (parts : List Element) (s : Span) → flat_map leaf_types (leaves (element.Choice parts s)) ≡ flat_map types_in parts
types-Choice parts s = ap (flat_map leaf_types) (leaves-Choice parts s) ∙ flat_map-flat_map leaf_types leaves parts

pub properties-Group : (parts : List Element) (s : Span) → flat_map leaf_properties (leaves (element.Group parts s)) ≡ flat_map properties_in parts
properties-Group parts s = ap (flat_map leaf_properties) (leaves-Group parts s) ∙ flat_map-flat_map leaf_properties leaves parts

pub properties-Choice : (parts : List Element) (s : Span) → flat_map leaf_properties (leaves (element.Choice parts s)) ≡ flat_map properties_in parts
properties-Choice parts s = ap (flat_map leaf_properties) (leaves-Choice parts s) ∙ flat_map-flat_map leaf_properties leaves parts

pub ruleset element_names = (types-Group, types-Choice, properties-Group, properties-Choice)

-- ---- one part after another

module _ {types properties : List (List ℕ)} {a b : FirstUses} where
  pub Puts-trans : {more others : List (List ℕ)} {c : FirstUses} → Puts types properties a b → Puts more others b c → Puts (types ++ more) (properties ++ others) a c
  Puts-trans {more} {others} one two = record {
    types_put =
        two.types_put ∙ ap (λ names. insert_all bytes_eq names more) one.types_put ∙ sym (fold-append (insert_key bytes_eq) a.types.keys types more);
    properties_put =
        two.properties_put ∙ ap (λ names. insert_all bytes_eq names others) one.properties_put
        ∙ sym (fold-append (insert_key bytes_eq) a.properties.keys properties others);
  }

-- ---- from nothing on

either_way : (a b : Bool) → (a || (b || false)) ≡ (b || a)
either_way true true = refl
either_way true false = refl
either_way false true = refl
either_way false false = refl

stands_behind : (x y : List ℕ) (names : List (List ℕ)) → stands_in x (names ++ y ∷ []) ≡ (bytes_eq x y || stands_in x names)
stands_behind x y names = list_any-append (bytes_eq x) names (y ∷ []) ∙ either_way (stands_in x names) (bytes_eq x y)

-- names are put in after those that are seen, where the same names stand in both lists
inserted : (names seen xs : List (List ℕ)) → ((x : List ℕ) → stands_in x names ≡ stands_in x seen) → insert_all bytes_eq names xs ≡ names ++ first_uses seen xs
inserted names seen [] same = sym (append-nil names)
inserted names seen (y ∷ ys) same = by (stands_in y seen) (same y) (inserted names seen ys same) (inserted (names ++ y ∷ []) (y ∷ seen) ys also)
  where
    also : (x : List ℕ) → stands_in x (names ++ y ∷ []) ≡ (bytes_eq x y || stands_in x seen)
    also x = stands_behind x y names ∙ ap (λ b. bytes_eq x y || b) (same x)

    by : (b : Bool) → stands_in y names ≡ b → insert_all bytes_eq names ys ≡ names ++ first_uses seen ys →
        insert_all bytes_eq (names ++ y ∷ []) ys ≡ (names ++ y ∷ []) ++ first_uses (y ∷ seen) ys →
        insert_all bytes_eq (insert_key bytes_eq names y) ys ≡ names ++ (if b then first_uses seen ys else y ∷ first_uses (y ∷ seen) ys)
    by true is old new = ap (λ b. insert_all bytes_eq (if b then names else names ++ y ∷ []) ys) is ∙ old
    by false is old new =
        ap (λ b. insert_all bytes_eq (if b then names else names ++ y ∷ []) ys) is ∙ new ∙ append_assoc names (y ∷ []) (first_uses (y ∷ seen) ys)

pub inserted_first : (xs : List (List ℕ)) → insert_all bytes_eq [] xs ≡ first_uses [] xs
inserted_first xs = inserted [] [] xs (λ x. refl)

-- the names of a whole grammar are put in after none
module _ (g : Grammar) (uses with_interfaces with_unions with_all : FirstUses) (no_types : uses.types.keys ≡ []) (no_properties : uses.properties.keys ≡ []) where
  pub grammar_puts : {interfaces : List Interface} {unions : List UnionDef} {rules : List Rule} → interfaces ≡ g.interfaces → unions ≡ g.unions → rules ≡ g.rules →
      Puts (map (λ i. i.name) interfaces) (flat_map attribute_names interfaces) uses with_interfaces → Puts (map (λ u. u.name) unions) [] with_interfaces with_unions →
      Puts (flat_map rule_types rules) (flat_map rule_properties rules) with_unions with_all →
      (with_all.types.keys ≡ type_names g) × (with_all.properties.keys ≡ property_names g)
  grammar_puts {interfaces} {unions} {rules} are were is one two three =
      let puts = Puts-trans (Puts-trans one two) three in
      let name_of = λ (i : Interface). i.name in
      let called = λ (u : UnionDef). u.name in (
        puts.types_put ∙ ap (λ before. insert_all bytes_eq before (map name_of interfaces ++ map called unions ++ flat_map rule_types rules)) no_types
            ∙ inserted_first (map name_of interfaces ++ map called unions ++ flat_map rule_types rules)
            ∙ ap (λ xs. first_uses [] (map name_of xs ++ map called unions ++ flat_map rule_types rules)) are
            ∙ ap (λ xs. first_uses [] (map name_of g.interfaces ++ map called xs ++ flat_map rule_types rules)) were
            ∙ ap (λ xs. first_uses [] (map name_of g.interfaces ++ map called g.unions ++ flat_map rule_types xs)) is,
        puts.properties_put
            ∙ ap (λ before. insert_all bytes_eq before ((flat_map attribute_names interfaces ++ []) ++ flat_map rule_properties rules)) no_properties
            ∙ ap (λ found. insert_all bytes_eq [] (found ++ flat_map rule_properties rules)) (append-nil (flat_map attribute_names interfaces))
            ∙ inserted_first (flat_map attribute_names interfaces ++ flat_map rule_properties rules)
            ∙ ap (λ xs. first_uses [] (flat_map attribute_names xs ++ flat_map rule_properties rules)) are
            ∙ ap (λ xs. first_uses [] (flat_map attribute_names g.interfaces ++ flat_map rule_properties xs)) is,
      )
