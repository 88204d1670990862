-- The things that the values of a list are by a rule are the ones that a shape gives, where rule and shape say the same of each value.
use Rattle.std.proofs.Common.{◌≡◌, List, [], ◌∷◌, ◌++◌, Option, Some, None, refl, subst}
use Rattle.serde_json.specs.Data.{Data, Items, no_items, item}
use Rattle.lw_rpc.specs.Listed.{AreEach, followed, items_by, none, next}

module _ {A : Type 0} (shape : Data → Option A) (Is : Data → A → Type 0) where
  module _ (gives : (d : Data) (one : A) → Is d one → shape d ≡ Some one) where
    pub items_by-AreEach : (values : Items) (list : List A) → AreEach Is values list → items_by shape values ≡ Some list
    items_by-AreEach no_items [] none = refl
    items_by-AreEach no_items (one ∷ more) are = elim are [ ]
    items_by-AreEach (item d others) [] are = elim are [ ]
    items_by-AreEach (item d others) (one ∷ more) (next is are) = rw (gives d one is, items_by-AreEach others more are) refl

  module _ (told : (d : Data) (one : A) → shape d ≡ Some one → Is d one) where
    AreEach-followed : (d : Data) (others : Items) (one : Option A) (rest : Option (List A)) (list : List A) → shape d ≡ one → items_by shape others ≡ rest
        → ((more : List A) → items_by shape others ≡ Some more → AreEach Is others more) → followed one rest ≡ Some list → AreEach Is (item d others) list
    AreEach-followed d others (Some one) (Some more) list is are rest same =
        let e : (one ∷ more) ≡ list = cc in subst (AreEach Is (item d others)) e (next (told d one is) (rest more are))
    AreEach-followed d others (Some one) None list is are rest same = absurd (cc)
    AreEach-followed d others None more list is are rest same = absurd (cc)

    pub AreEach-items_by : (values : Items) (list : List A) → items_by shape values ≡ Some list → AreEach Is values list
    AreEach-items_by no_items list same = let e : [] ≡ list = cc in subst (AreEach Is no_items) e none
    AreEach-items_by (item d others) list same = AreEach-followed d others _ _ list refl refl (AreEach-items_by others) same

-- some things, and those that come behind them, if there are such
abbrev pub behind : {A : Type 0} → List A → Option (List A) → Option (List A)
behind first (Some others) = Some (first ++ others)
behind first None = None
