-- Whether other documents are among exporters, by what was found.
use Rattle.std.proofs.Common.{◌≡◌, ℕ, List, [], ◌∷◌, ◌++◌, Bool, true, false, Contains, Option, Some, None, sym, ap, ◌∙◌, subst}
use Rattle.std.specs.Prelude.{◌↔◌, IsTrue}
use Rattle.std.specs.Borrow.{Bor}
use Rattle.std.specs.FinSet as set
use Rattle.std.specs.List.Sorted.{IsStrictlySortedBy}
use Rattle.std.specs.Map.{keys_of}
use Rattle.std.specs.Option.{is_some}
use Rattle.std.specs.Ordering.{nat_cmp}
use Rattle.std.specs.BTreeMap as tree
use Rattle.std.proofs.lemmas.Bool.{false≢true}
use Rattle.std.proofs.lemmas.Map.Views.{Contains-keys_from_lookup}
use Rattle.std.proofs.lemmas.Option.{none-some, same_Some}
use Rattle.lw_base.specs.declared.numbers.DocId.{DocId}
use Rattle.lw_index.specs.declared.parts.Target.{Target}
use Rattle.lw_index.specs.Least.{IsLeastFound, seen}
use Rattle.lw_index.specs.Others.{AreOthers, HasOther, IsOthers}
use Rattle.lw_index.specs.Slots.{Exporters, Names, name_cmp}
use Rattle.lw_index.proofs.Gathered.{AreGathered, all_gathered, in_order, none_gathered, one_gathered, one_passed}
use Rattle.lw_index.proofs.Orders.{same_name}

pub found_or_not : (holds : List ℕ → Target → Type 0) (r : Option (Bor (List ℕ) × Target)) (b : Bool) → b ≡ is_some r → IsLeastFound holds (seen r) →
    IsTrue b ↔ ((uri : List ℕ) × (x : Target) × holds uri x)
found_or_not holds None b is none = (λ yes. absurd (false≢true (sym is ∙ yes)), λ (uri, x, h). absurd (none uri x h))
found_or_not holds (Some f) b is least = (λ yes. (f.0.now, f.1, least.here), λ some. is)

module _ (names : Names) (except : DocId) (types : set.FinSet nat_cmp) (name : List ℕ) where
  -- by the exporters of a name
  pub by_exporters : (es : Exporters) → tree.get name_cmp names name ≡ Some es → IsOthers names except types name → HasOther es except types
  by_exporters es there is = subst (λ (e : Exporters). HasOther e except types) (same_Some is.exporters es (sym is.there ∙ there)) is.other

  pub others_by : (es : Exporters) (b : Bool) → tree.get name_cmp names name ≡ Some es → IsTrue b ↔ HasOther es except types → IsTrue b ↔ IsOthers names except types name
  others_by es b there is = (λ yes. record { exporters = es; there = there; other = is.0 yes }, λ has. is.1 (by_exporters es there has))

  pub none_named : tree.get name_cmp names name ≡ None → ¬ IsOthers names except types name
  none_named none is = none-some is.exporters (sym none ∙ is.there)

-- ---- all names in turn

module _ (names : Names) (except : DocId) (types : set.FinSet nat_cmp) where
  abbrev pub Have : List ℕ → Type 0
  Have = IsOthers names except types

  pub none_yet : (found : List (List ℕ)) (left : List (List ℕ × Exporters)) → found ≡ [] → left ≡ names.entries → tree.IsOrdered name_cmp names → AreGathered Have found (keys_of left)
  none_yet found left none all ordered =
      none_gathered Have found (keys_of left) none (subst (λ (es : List (List ℕ × Exporters)). IsStrictlySortedBy name_cmp (keys_of es)) (sym all) ordered)
      (λ n has. subst (λ (es : List (List ℕ × Exporters)). Contains (keys_of es) n) (sym all) (Contains-keys_from_lookup same_name n names.entries (ap is_some has.there)))

  module _ (found : List (List ℕ)) (name : List ℕ) (es : Exporters) (before left : List (List ℕ × Exporters)) (b : Bool) (next : before ≡ (name, es) ∷ left)
      (there : tree.get name_cmp names name ≡ Some es) (is : IsTrue b ↔ HasOther es except types) (are : AreGathered Have found (keys_of before)) where
    first_left : AreGathered Have found (name ∷ keys_of left)
    first_left = subst (λ (es : List (List ℕ × Exporters)). AreGathered Have found (keys_of es)) next are

    pub one_taken : (after : List (List ℕ)) (copied : List ℕ) → after ≡ found ++ copied ∷ [] → copied ≡ name → b ≡ true → AreGathered Have after (keys_of left)
    one_taken after copied pushed same does =
        subst (λ (ns : List (List ℕ)). AreGathered Have ns (keys_of left)) (sym (pushed ∙ ap (λ (n : List ℕ). found ++ n ∷ []) same))
        (one_gathered Have found (keys_of left) name (record { exporters = es; there = there; other = is.0 does }) first_left)

    pub one_left_out : b ≡ false → AreGathered Have found (keys_of left)
    one_left_out misses =
        one_passed Have found (keys_of left) name (λ has. false≢true (sym misses ∙ is.1 (by_exporters names except types name es there has))) first_left

  pub all_others : (found : List (List ℕ)) (left : List (List ℕ × Exporters)) → left ≡ [] → AreGathered Have found (keys_of left) → AreOthers names except types found
  all_others found left none are = record {
    exact = λ n. (are.sound n, all_gathered Have found (keys_of left) n (ap keys_of none) are);
    ordered = in_order Have found (keys_of left) (ap keys_of none) are;
  }
