-- From level to level outwards.
use Rattle.std.proofs.Common.{ℕ, zero, suc, ◌≡◌, ◌<◌, true, false, true≢false, List, [], ◌∷◌, ◌++◌, Option, Some, None, Contains, length, slice_get, refl, sym, subst, ◌∙◌, arith}
use Rattle.std.specs.FinSet.{FinSet, contains}
use Rattle.std.specs.List.{flat_map}
use Rattle.std.specs.Option.{is_some, option_map}
use Rattle.std.specs.Ordering.{nat_cmp}
use Rattle.std.proofs.lemmas.List.{append-nil}
use Rattle.std.proofs.lemmas.Option.{same_Some, slice_get_within}
use Rattle.lw_base.proofs.Lists.{there}
use Rattle.lw_grammar.specs.Named.{IsFirst}
use Rattle.lw_base.specs.declared.numbers.NodeId.{NodeId}
use Rattle.lw_tree.specs.declared.node.Node.{Node}
use Rattle.lw_tree.specs.declared.node.Reference.{Reference}
use Rattle.lw_tree.specs.Parts.{Parts}
use Rattle.lw_scoping.specs.Firsts.{IsFirstIn, found, none}
use Rattle.lw_scoping.specs.Links.{Fits, IsOwn}
use Rattle.lw_scoping.specs.Outward.{ContainersComeFirst, LeadsOut, outermost, inner}
use Rattle.lw_scoping.specs.Symbols.{locals}
use Rattle.lw_scoping.proofs.Paths.{leads_out}

-- ---- the first of two lists that are joined

front : {X : Type 0} (xs ys : List X) (j : ℕ) → j < length xs → slice_get (xs ++ ys) j ≡ slice_get xs j
front [] ys j lt = absurd (omega (arith, lt))
front (x ∷ xs) ys zero lt = refl
front (x ∷ xs) ys (suc j) lt = front xs ys j (omega (arith, lt))

in_front : {X : Type 0} {passes : X → Type 0} (xs ys : List X) {i : ℕ} {x : X} → IsFirst passes xs i x → IsFirst passes (xs ++ ys) i x
in_front xs ys {i} {x} first =
    let inside : i < length xs = slice_get_within xs i x first.there in
    record {
      there = front xs ys i inside ∙ first.there;
      does = first.does;
      none_before = λ j y lt is. first.none_before j y lt (sym (front xs ys j (omega (arith, lt, inside))) ∙ is);
    }

later : {X : Type 0} {passes : X → Type 0} (x : X) {xs : List X} {result : Option X} → ¬ passes x → IsFirstIn passes xs result → IsFirstIn passes (x ∷ xs) result
later {passes = passes} x {xs} misses (found {i = i} first) = found (record { there = first.there; does = first.does; none_before = before })
  where
    before : (j : ℕ) (y : _) → j < suc i → slice_get (x ∷ xs) j ≡ Some y → ¬ passes y
    before zero y lt is does = misses (subst passes (sym (same_Some x y is)) does)
    before (suc j) y lt is does = first.none_before j y (omega (arith, lt)) is does
later {passes = passes} x {xs} misses (none fails) = none fail
  where
    fail : (y : _) → Contains (x ∷ xs) y → ¬ passes y
    fail y (zero, inside, is) does = misses (subst passes (sym is) does)
    fail y (suc k, inside, is) does = fails y (k, omega (arith, inside), is) does

behind : {X : Type 0} {passes : X → Type 0} (xs : List X) {ys : List X} {result : Option X} → ((x : X) → Contains xs x → ¬ passes x) →
    IsFirstIn passes ys result → IsFirstIn passes (xs ++ ys) result
behind [] misses first = first
behind (x ∷ xs) misses first = later x (misses x (0, omega arith, refl)) (behind xs (λ y has. misses y (there x xs y has)) first)

none_in : {X : Type 0} {passes : X → Type 0} {xs : List X} → IsFirstIn passes xs None → (x : X) → Contains xs x → ¬ passes x
none_in (none misses) = misses

-- ---- levels

begins_there : {tree : Parts} {n : ℕ} {path : List ℕ} → LeadsOut tree n path → (rest : List ℕ) × (path ≡ n ∷ rest)
begins_there (outermost at is) = ([], refl)
begins_there (inner {path = path} c at is more) = (path, refl)

module _ (tree : Parts) (r : Reference) (fits : FinSet nat_cmp) where
  abbrev pub InSet : ℕ → ℕ → Type 0
  InSet type want = contains fits type ≡ true

  abbrev IsFirstOn : List ℕ → Option ℕ → Type 0
  IsFirstOn path result = IsFirstIn (Fits InSet tree r) (flat_map (locals tree) path) result

  -- what is found first from this node outwards is what the reference leads to
  abbrev pub GoesOnFrom : ℕ → Type 0
  GoesOnFrom level = (path : List ℕ) → LeadsOut tree level path → (result : Option ℕ) → IsFirstOn path result → IsOwn InSet tree r result

  pub found_here : (level n : ℕ) → ContainersComeFirst tree → level < length tree.nodes → GoesOnFrom level →
      IsFirstIn (Fits InSet tree r) (locals tree level) (Some n) → IsOwn InSet tree r (Some n)
  found_here level n outwards inside goes (found first) =
      let (path, leads) = leads_out tree outwards level inside in
      let (rest, is) = begins_there leads in
      goes path leads (Some n)
      (subst (λ (p : List ℕ). IsFirstOn p (Some n)) (sym is) (found (in_front (locals tree level) (flat_map (locals tree) rest) first)))

  pub over : (level : ℕ) (node : Node) → GoesOnFrom level → slice_get tree.nodes level ≡ Some node → node.container ≡ None →
      IsFirstIn (Fits InSet tree r) (locals tree level) None → IsOwn InSet tree r None
  over level node goes at is first =
      goes (level ∷ []) (outermost at is) None (subst (λ (xs : List ℕ). IsFirstIn (Fits InSet tree r) xs None) (sym (append-nil (locals tree level))) first)

  pub outwards_from : (level c : ℕ) (node : Node) → GoesOnFrom level → slice_get tree.nodes level ≡ Some node → node.container ≡ Some (record { 0 = c }) →
      IsFirstIn (Fits InSet tree r) (locals tree level) None → GoesOnFrom c
  outwards_from level c node goes at is first path leads result rest =
      goes (level ∷ path) (inner c at is leads) result (behind (locals tree level) (none_in first) rest)

  pub inside_next : (level c : ℕ) (node : Node) → ContainersComeFirst tree → slice_get tree.nodes level ≡ Some node → node.container ≡ Some (record { 0 = c }) →
      level < length tree.nodes → c < length tree.nodes
  inside_next level c node outwards at is inside = omega (arith, outwards level c node at is, inside)

  -- ---- by what a look gave

  pub found_any : (level : ℕ) (result : Option NodeId) → is_some result ≡ true → ContainersComeFirst tree → level < length tree.nodes → GoesOnFrom level →
      IsFirstIn (Fits InSet tree r) (locals tree level) (option_map (λ (k : NodeId). k.0) result) → IsOwn InSet tree r (option_map (λ (k : NodeId). k.0) result)
  found_any level (Some k) is outwards inside goes first = found_here level k.0 outwards inside goes first
  found_any level None is outwards inside goes first = absurd (true≢false (sym is))

  pub none_found : (level : ℕ) (result : Option NodeId) → is_some result ≡ false →
      IsFirstIn (Fits InSet tree r) (locals tree level) (option_map (λ (k : NodeId). k.0) result) → IsFirstIn (Fits InSet tree r) (locals tree level) None
  none_found level (Some k) is first = absurd (true≢false is)
  none_found level None is first = first
