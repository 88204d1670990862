-- The symbols among the first nodes of a tree.
use Rattle.std.proofs.Common.{ℕ, ◌≡◌, ◌+◌, ◌<◌, inl, inr, List, [], ◌∷◌, ◌++◌, Contains, slice_get, length, sym, ap, subst, ◌∙◌, arith}
use Rattle.std.specs.List.Sorted.{IsPermutation}
use Rattle.std.proofs.lemmas.Bool.{cases_lt}
use Rattle.std.proofs.lemmas.List.Elements.{Contains-append_left, Contains-push, Contains-push_cases}
use Rattle.std.proofs.lemmas.List.Sorted.{Contains-permutation, IsPermutation-sym}
use Rattle.std.proofs.lemmas.Option.{same_Some, slice_get_within}
use Rattle.lw_base.specs.declared.token.Span.{Span}
use Rattle.lw_base.specs.declared.numbers.NodeId.{NodeId}
use Rattle.lw_tree.specs.declared.node.Node.{Node}
use Rattle.lw_tree.specs.Parts.{Parts, name_of}
use Rattle.lw_symbols.specs.declared.symbol.Symbol.{Symbol}
use Rattle.lw_symbols.specs.Hashes.{name_hash}
use Rattle.lw_symbols.specs.Symbols.{AreAmongFirst, AreSymbolsOf, AreSymbolsSorted, IsSymbolOf}

module _ (tree : Parts) where
  -- a node is one symbol
  one_symbol : (s t : Symbol) → s.node.0 ≡ t.node.0 → IsSymbolOf tree s → IsSymbolOf tree t → s ≡ t
  one_symbol s t same is was =
      let node : is.node ≡ was.node = same_Some is.node was.node (sym is.there ∙ ap (λ (k : ℕ). slice_get tree.nodes k) same ∙ was.there) in
      let container : s.container ≡ t.container =
      same_Some s.container t.container (sym is.within ∙ ap (λ (x : Node). x.container) node ∙ was.within) in
      let type_ : s.type_id ≡ t.type_id = sym is.typed ∙ ap (λ (x : Node). x.type_id) node ∙ was.typed in
      let name : is.name ≡ was.name =
      ap (λ (x : List ℕ × Span). x.0)
      (same_Some {A = List ℕ × Span} (is.name, is.span) (was.name, was.span) (sym is.named ∙ ap (name_of tree) same ∙ was.named)) in
      let hash : s.hash ≡ t.hash = is.hashed ∙ ap name_hash name ∙ sym was.hashed in
      λ i. record { container = container i; hash = hash i; type_id = type_ i; node = record { 0 = same i } }

  pub one_more : (k : ℕ) (symbols : List Symbol) (s : Symbol) → AreAmongFirst tree k symbols → s.node ≡ record { 0 = k } → IsSymbolOf tree s →
      AreAmongFirst tree (k + 1) (symbols ++ s ∷ [])
  one_more k symbols s are at is t = (forth, back)
    where
      forth : Contains (symbols ++ s ∷ []) t → (t.node.0 < k + 1) × IsSymbolOf tree t
      forth has = elim (Contains-push_cases symbols s t has) [
        | inl before ↦ let h = (are t).0 before in (omega (arith, h.0), h.1)
        | inr same ↦ (
          omega (arith, ap (λ (x : Symbol). x.node.0) same, ap (λ (x : NodeId). x.0) at),
          subst (IsSymbolOf tree) same is,
        )
      ]

      back : (t.node.0 < k + 1) × IsSymbolOf tree t → Contains (symbols ++ s ∷ []) t
      back (lt, was) = elim (cases_lt t.node.0 k) [
        | inl less ↦ Contains-append_left symbols (s ∷ []) t ((are t).1 (less, was))
        | inr ge ↦
            let number : s.node.0 ≡ t.node.0 = omega (arith, lt, ge, ap (λ (x : NodeId). x.0) at) in
            subst (λ (x : Symbol). Contains (symbols ++ s ∷ []) x) (one_symbol s t number is was) (Contains-push symbols s)
      ]

  pub none_more : (k : ℕ) (symbols : List Symbol) → AreAmongFirst tree k symbols → ((s : Symbol) → s.node ≡ record { 0 = k } → ¬ IsSymbolOf tree s) →
      AreAmongFirst tree (k + 1) symbols
  none_more k symbols are misses t = (
    λ has. let h = (are t).0 has in (omega (arith, h.0), h.1),
    λ both. elim (cases_lt t.node.0 k) [
      | inl less ↦ (are t).1 (less, both.1)
      | inr ge ↦ let number : t.node.0 ≡ k = omega (arith, both.0, ge) in absurd (misses t (λ i. record { 0 = number i }) both.1)
    ],
  )

  pub all_listed : (list symbols : List Symbol) → AreAmongFirst tree (length tree.nodes) list → AreSymbolsSorted symbols → IsPermutation list symbols → AreSymbolsOf tree symbols
  all_listed list symbols are ordered moved = record {
    ordered = ordered;
    exact = λ s. (
      λ has. ((are s).0 (Contains-permutation symbols list s (IsPermutation-sym list symbols moved) has)).1,
      λ is. Contains-permutation list symbols s moved ((are s).1 (slice_get_within tree.nodes s.node.0 is.node is.there, is)),
    );
  }
