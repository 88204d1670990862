-- The properties by what is declared, with one attribute more, and along another list that has the same first ones.
use Rattle.std.proofs.Common.{◌≡◌, ℕ, List, [], ◌∷◌, ◌++◌, Bool, true, false, cond, ◌||◌, nat_eq, Option, Some, None, refl, sym, ap, ◌∙◌, subst}
use Rattle.std.specs.List.{find}
use Rattle.std.specs.Option.{option_map_or}
use Rattle.std.proofs.lemmas.Bool.{true≢false, eqb-true, ne_eqb, eq-eqb}
use Rattle.lw_grammar.specs.declared.grammar.Grammar.{Grammar}
use Rattle.lw_grammar.specs.declared.declared_types.Attribute.{Attribute}
use Rattle.lw_grammar.specs.declared.declared_types.ValueKind.{ValueKind}
use Rattle.lw_properties.specs.Search.{SameFirsts}
use Rattle.lw_types.specs.Sightings.{prop_number}
use Rattle.lw_types.specs.Values.{MembersGive}
use Rattle.lw_types.specs.Having.{is_new, is_new_attribute, AreDeclaredIn}
use Rattle.lw_types.specs.Having as have
use Rattle.lw_types.specs.Gathered.{PutsIntoProperty, JoinsValues, has_prop}
use Rattle.lw_types.specs.Gathered as into
use Rattle.lw_types.specs.declared.property_table.info.PropertyInfo.{PropertyInfo}
use Rattle.lw_types.proofs.Firsts.{all_new}
use Rattle.lw_types.proofs.Putting.{had_now, had_still, new_still, found_still, none_found, one_found, none_passes}

module _ (g : Grammar) where
  by_number : (had : List ℕ) (a : Attribute) (p : ℕ) → prop_number g a.name ≡ Some p → is_new_attribute g had a ≡ is_new had p
  by_number had a p is = ap (λ o. option_map_or (is_new had) o false) is

  no_longer : (had : List ℕ) (p : ℕ) (a : Attribute) → is_new_attribute g had a ≡ false → is_new_attribute g (p ∷ had) a ≡ false
  no_longer had p a was = by (prop_number g a.name) was
    where
      by : (o : Option ℕ) → option_map_or (is_new had) o false ≡ false → option_map_or (is_new (p ∷ had)) o false ≡ false
      by None e = refl
      by (Some n) e = had_still had n p e

  none_later : (had : List ℕ) (p : ℕ) (attributes : List Attribute) → find (is_new_attribute g had) attributes ≡ None →
      find (is_new_attribute g (p ∷ had)) attributes ≡ None
  none_later had p [] none = refl
  none_later had p (a ∷ attributes) none =
      let passed = none_passes (is_new_attribute g had) a attributes none in
      ap (λ b. cond b (Some a) (find (is_new_attribute g (p ∷ had)) attributes)) (no_longer had p a passed.0) ∙ none_later had p attributes passed.1

  module _ (attributes : List Attribute) (a : Attribute) where
    -- an attribute of a name that was had, or of none that has a number
    pub declared_before : {had : List ℕ} {infos : List PropertyInfo} → AreDeclaredIn g attributes had infos → is_new_attribute g had a ≡ false →
        AreDeclaredIn g (attributes ++ a ∷ []) had infos
    declared_before {had} (have.none none) was = have.none (none_found (is_new_attribute g had) attributes a none was)
    declared_before {had} (have.more {info} first given is prop list members values rest) was =
        have.more first given (found_still (is_new_attribute g had) attributes first (a ∷ []) is) prop list members values
        (declared_before rest (no_longer had info.prop.0 a was))

    module _ (p : ℕ) (is_p : prop_number g a.name ≡ Some p) where
      -- one whose property is there
      pub declared_again : {had : List ℕ} {infos : List PropertyInfo} → AreDeclaredIn g attributes had infos → has_prop infos p ≡ true →
          AreDeclaredIn g (attributes ++ a ∷ []) had infos
      declared_again (have.none none) has = absurd (true≢false (sym has))
      declared_again {had} (have.more {info} {infos} first given is prop list members values rest) has = by (nat_eq p info.prop.0) refl (declared_again rest)
        where
          with_rest : AreDeclaredIn g (attributes ++ a ∷ []) (info.prop.0 ∷ had) infos → AreDeclaredIn g (attributes ++ a ∷ []) had (info ∷ infos)
          with_rest all = have.more first given (found_still (is_new_attribute g had) attributes first (a ∷ []) is) prop list members values all

          by : (b : Bool) → nat_eq p info.prop.0 ≡ b → (has_prop infos p ≡ true → AreDeclaredIn g (attributes ++ a ∷ []) (info.prop.0 ∷ had) infos) →
              AreDeclaredIn g (attributes ++ a ∷ []) had (info ∷ infos)
          by true e behind = with_rest (declared_before rest (by_number (info.prop.0 ∷ had) a p is_p ∙ had_now had p info.prop.0 (eqb-true p info.prop.0 e)))
          by false e behind = with_rest (behind (sym (ap (λ b. b || has_prop infos p) e) ∙ has))

      -- one whose property is put in
      pub declared_new : {had : List ℕ} {infos now : List PropertyInfo} {given : List ValueKind} → AreDeclaredIn g attributes had infos → is_new had p ≡ true →
          MembersGive g [] a.members given → PutsIntoProperty p a.list given infos now → has_prop infos p ≡ false → AreDeclaredIn g (attributes ++ a ∷ []) had now
      declared_new {had} {given} (have.none none) new members (into.new {info} prop list joins) free =
          have.more a given (one_found (is_new_attribute g had) attributes a none (by_number had a p is_p ∙ new)) (is_p ∙ ap Some (sym prop)) list members (all_new joins)
          (have.none (none_found (is_new_attribute g (info.prop.0 ∷ had)) attributes a (none_later had info.prop.0 attributes none)
          (by_number (info.prop.0 ∷ had) a p is_p ∙ had_now had p info.prop.0 (sym prop))))
      declared_new (have.more _ _ _ _ _ _ _ _) new members (into.here {old} {infos} same _ _ _) free =
          absurd (true≢false (sym (ap (λ b. b || has_prop infos p) (subst (λ k. nat_eq p k ≡ true) (sym same) (eq-eqb p p refl))) ∙ free))
      declared_new {had} (have.more {info} {infos} first given is prop list given_by values rest) new members (into.later apart more) free =
          have.more first given (found_still (is_new_attribute g had) attributes first (a ∷ []) is) prop list given_by values
          (declared_new rest (new_still had p info.prop.0 (λ e. apart (sym e)) new) members more
          (sym (ap (λ b. b || has_prop infos p) (ne_eqb p info.prop.0 (λ e. apart (sym e)))) ∙ free))

  -- along another list whose first ones are the same
  pub declared_as : {xs ys : List Attribute} → SameFirsts xs ys → {had : List ℕ} {infos : List PropertyInfo} → AreDeclaredIn g xs had infos → AreDeclaredIn g ys had infos
  declared_as same {had} (have.none none) = have.none (sym (same (is_new_attribute g had)) ∙ none)
  declared_as same {had} (have.more first given is prop list members values rest) =
      have.more first given (sym (same (is_new_attribute g had)) ∙ is) prop list members values (declared_as same rest)
