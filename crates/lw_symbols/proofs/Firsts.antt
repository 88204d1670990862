-- The first symbol of a node is the least of those that are looked up.
use Rattle.std.proofs.Common.{ℕ, ◌≡◌, ◌+◌, ◌≤◌, true, List, [], Option, Some, None, Contains, length, slice_get, refl, sym, ap, subst, ◌∙◌, arith}
use Rattle.std.specs.Option.{is_some, option_map}
use Rattle.std.proofs.lemmas.Option.{same_Some}
use Rattle.lw_base.specs.declared.numbers.NodeId.{NodeId}
use Rattle.lw_tree.specs.declared.node.Node.{Node}
use Rattle.lw_tree.specs.Parts.{Parts, children_of}
use Rattle.lw_scoping.specs.Firsts.{IsFirstIn, found, none}
use Rattle.lw_scoping.specs.Symbols.{is_named_node, child_numbers, locals, IsNamedOf}
use Rattle.lw_symbols.specs.declared.symbol.Symbol.{Symbol}
use Rattle.lw_symbols.specs.Hashes.{name_hash}
use Rattle.lw_symbols.specs.Least.{IsCalled, IsInGroup, IsLeastSymbol, IsWantedSymbol, least, absent}
use Rattle.lw_symbols.specs.Symbols.{AreSymbolsOf, IsSymbolOf}
use Rattle.lw_symbols.proofs.Children.{child_in, in_children}
use Rattle.lw_symbols.proofs.Filtered.{kept, kept_from, numbered, of_number}
use Rattle.lw_symbols.proofs.Rising.{first_least, named_rise}

module _ (tree : Parts) (n : ℕ) (name : List ℕ) (wanted : ℕ → Type 0) where
  abbrev pub Fits : ℕ → Type 0
  Fits = IsNamedOf tree name wanted

  abbrev Passes : Symbol → Type 0
  Passes s = IsInGroup n (name_hash name) s × IsWantedSymbol tree name wanted s

  -- the symbol that a node is
  abbrev pub symbol_for : ℕ → ℕ → Symbol
  symbol_for type k = record { container = record { 0 = n }; hash = name_hash name; type_id = record { 0 = type }; node = record { 0 = k } }

  pub is_symbol : (k : ℕ) → Contains (locals tree n) k → (is : Fits k) → IsSymbolOf tree (symbol_for is.0 k)
  is_symbol k has (type, is, want) =
      let child = child_in n 0 tree.nodes (record { 0 = k }) (of_number (children_of n tree.nodes) k (kept_from (is_named_node tree) (child_numbers tree n) k has).0) in
      let number : child.place ≡ k = omega (arith, child.number) in
      let same : child.node ≡ is.node =
      same_Some child.node is.node (sym child.at ∙ ap (λ (j : ℕ). slice_get tree.nodes j) number ∙ is.there) in
      record {
        node = is.node;
        there = is.there;
        within = ap (λ (x : Node). x.container) (sym same) ∙ child.within;
        typed = λ i. record { 0 = is.typed i };
        name = name;
        span = is.span;
        named = is.named;
        hashed = refl;
      }

  named_here : (s : Symbol) → IsCalled tree name s → is_named_node tree s.node.0 ≡ true
  named_here s (span, is) = ap is_some is

  is_local : (s : Symbol) → IsSymbolOf tree s → s.container.0 ≡ n → IsCalled tree name s → Contains (locals tree n) s.node.0
  is_local s is within called =
      let inside : is.node.container ≡ Some (record { 0 = n }) = is.within ∙ (λ i. Some (record { 0 = within i })) in
      let number : 0 + s.node.0 ≡ s.node.0 = omega arith in
      let child : Contains (children_of n tree.nodes) s.node =
      subst (λ (k : ℕ). Contains (children_of n tree.nodes) (record { 0 = k })) number (in_children n 0 tree.nodes s.node.0 is.node is.there inside) in
      kept (is_named_node tree) (child_numbers tree n) s.node.0 (numbered (children_of n tree.nodes) s.node child)
      (named_here s called)

  fits_here : (s : Symbol) → IsSymbolOf tree s → IsWantedSymbol tree name wanted s → Fits s.node.0
  fits_here s is (called, want) = (
    s.type_id.0,
    record { span = called.0; named = called.1; node = is.node; there = is.there; typed = λ i. (is.typed i).0 },
    want,
  )

  pub first_of_least : (symbols : List Symbol) → AreSymbolsOf tree symbols → (result : Option NodeId) → IsLeastSymbol Passes symbols result →
      IsFirstIn Fits (locals tree n) (option_map (λ (k : NodeId). k.0) result)
  first_of_least symbols are result (least {n = k} s same has (group, want) up) =
      let is = (are.exact s).0 has in
      let P : ℕ → Type 0 = λ j. IsFirstIn Fits (locals tree n) (Some j) in
      subst P (ap (λ (j : NodeId). j.0) same)
      (found
      (first_least (locals tree n) s.node.0 (named_rise (is_named_node tree) n tree.nodes) (is_local s is group.0 want.0) (fits_here s is want)
      (λ j there fit.
      let other = is_symbol j there fit in
      let le : k.0 ≤ j = up (symbol_for fit.0 j) ((are.exact (symbol_for fit.0 j)).1 other) ((refl, refl), ((fit.1.span, fit.1.named), fit.2)) in
      omega (arith, le, ap (λ (x : NodeId). x.0) same))).1)
  first_of_least symbols are result (absent misses) =
      none
      (λ j there fit.
      let other = is_symbol j there fit in
      misses (symbol_for fit.0 j) ((are.exact (symbol_for fit.0 j)).1 other) ((refl, refl), ((fit.1.span, fit.1.named), fit.2)))

-- nothing is the first of nothing
pub none_there : {passes : ℕ → Type 0} (xs : List ℕ) → xs ≡ [] → IsFirstIn passes xs None
none_there xs is = none (λ x has. absurd (omega (arith, has.1, ap length is)))
