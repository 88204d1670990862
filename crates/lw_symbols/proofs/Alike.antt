-- Symbols that stand behind alike ones, and that doubles are among them.
use Rattle.std.proofs.Common.{ℕ, ◌≡◌, ◌+◌, ◌-◌, ◌≤◌, ◌<◌, ◌↔◌, inl, inr, List, [], ◌∷◌, ◌++◌, Some, Contains, length, slice_get, slice_index_or, refl, sym, ap, subst, ◌∙◌, arith}
use Rattle.std.proofs.lemmas.Bool.{cases_lt}
use Rattle.std.proofs.lemmas.List.Elements.{Contains-append_left, Contains-push, Contains-push_cases}
use Rattle.std.proofs.lemmas.Option.{same_Some, slice_get-get_or, slice_get_within}
use Rattle.lw_base.specs.declared.numbers.NodeId.{NodeId}
use Rattle.lw_tree.specs.Parts.{Parts}
use Rattle.lw_scoping.specs.Doubles.{HasDouble}
use Rattle.lw_scoping.specs.Symbols.{IsNamedNode}
use Rattle.lw_symbols.specs.declared.symbol.Symbol.{Symbol}
use Rattle.lw_symbols.specs.Hashes.{name_hash}
use Rattle.lw_symbols.specs.Least.{IsInRun}
use Rattle.lw_symbols.specs.Runs.{StandsBehindAlike}
use Rattle.lw_symbols.specs.Symbols.{AreSymbolsOf}
use Rattle.lw_symbols.proofs.Firsts.{is_symbol, symbol_for}
use Rattle.lw_symbols.proofs.RunLemmas.{in_order_at, stands_for}

-- ---- one symbol more

module _ (symbols : List Symbol) where
  pub none_behind : (nodes : List NodeId) → nodes ≡ [] → (n : NodeId) → Contains nodes n ↔ StandsBehindAlike 1 symbols n
  none_behind nodes none n = (
    λ has. absurd (omega (arith, has.1, ap length none)),
    λ stands. absurd (omega (arith, stands.below)),
  )

  module _ (place : ℕ) (some : 1 ≤ place) (one other : Symbol) (at : slice_get symbols (place - 1) ≡ Some one) (next : slice_get symbols place ≡ Some other) where
    later : (n : NodeId) → StandsBehindAlike place symbols n → StandsBehindAlike (place + 1) symbols n
    later n is = record { place = is.place; one = is.one; other = is.other; below = omega (arith, is.below); at = is.at; next = is.next; alike = is.alike; node = is.node }

    sooner : (n : NodeId) → (is : StandsBehindAlike (place + 1) symbols n) → is.place + 1 < place → StandsBehindAlike place symbols n
    sooner n is lt = record { place = is.place; one = is.one; other = is.other; below = lt; at = is.at; next = is.next; alike = is.alike; node = is.node }

    -- where it is the last place
    same_one : (n : NodeId) → (is : StandsBehindAlike (place + 1) symbols n) → place ≤ is.place + 1 → is.one ≡ one
    same_one n is ge =
        let here : is.place ≡ place - 1 = omega (arith, is.below, ge, some) in
        same_Some is.one one (sym is.at ∙ ap (λ (k : ℕ). slice_get symbols k) here ∙ at)

    same_other : (n : NodeId) → (is : StandsBehindAlike (place + 1) symbols n) → place ≤ is.place + 1 → is.other ≡ other
    same_other n is ge =
        let here : is.place + 1 ≡ place = omega (arith, is.below, ge, some) in
        same_Some is.other other (sym is.next ∙ ap (λ (k : ℕ). slice_get symbols k) here ∙ next)

    pub one_behind : (nodes : List NodeId) → IsInRun one other → ((n : NodeId) → Contains nodes n ↔ StandsBehindAlike place symbols n) → (n : NodeId) →
        Contains (nodes ++ other.node ∷ []) n ↔ StandsBehindAlike (place + 1) symbols n
    one_behind nodes alike before n = (forth, back)
      where
        forth : Contains (nodes ++ other.node ∷ []) n → StandsBehindAlike (place + 1) symbols n
        forth has = elim (Contains-push_cases nodes other.node n has) [
          | inl old ↦ later n ((before n).0 old)
          | inr same ↦
              let here : (place - 1) + 1 ≡ place = omega (arith, some) in
              record {
                place = place - 1;
                one = one;
                other = other;
                below = omega (arith, some);
                at = at;
                next = ap (λ (k : ℕ). slice_get symbols k) here ∙ next;
                alike = alike;
                node = same;
              }
        ]

        back : StandsBehindAlike (place + 1) symbols n → Contains (nodes ++ other.node ∷ []) n
        back is = elim (cases_lt (is.place + 1) place) [
          | inl lt ↦ Contains-append_left nodes (other.node ∷ []) n ((before n).1 (sooner n is lt))
          | inr ge ↦
              let same : other.node ≡ n = ap (λ (s : Symbol). s.node) (sym (same_other n is ge)) ∙ is.node in
              subst (λ (m : NodeId). Contains (nodes ++ other.node ∷ []) m) same (Contains-push nodes other.node)
        ]

    pub none_more_behind : (nodes : List NodeId) → ¬ IsInRun one other → ((n : NodeId) → Contains nodes n ↔ StandsBehindAlike place symbols n) → (n : NodeId) →
        Contains nodes n ↔ StandsBehindAlike (place + 1) symbols n
    none_more_behind nodes apart before n = (λ has. later n ((before n).0 has), back)
      where
        back : StandsBehindAlike (place + 1) symbols n → Contains nodes n
        back is = elim (cases_lt (is.place + 1) place) [
          | inl lt ↦ (before n).1 (sooner n is lt)
          | inr ge ↦ absurd (apart (subst (λ (x : Symbol). IsInRun x other) (same_one n is ge) (subst (λ (y : Symbol). IsInRun is.one y) (same_other n is ge) is.alike)))
        ]

  pub all_behind : (nodes : List NodeId) (count : ℕ) → length symbols ≤ count → ((n : NodeId) → Contains nodes n ↔ StandsBehindAlike count symbols n) →
      (n : NodeId) → Contains nodes n ↔ StandsBehindAlike (length symbols) symbols n
  all_behind nodes count over are n = (
    λ has. let is = (are n).0 has in
        record {
          place = is.place;
          one = is.one;
          other = is.other;
          below = slice_get_within symbols (is.place + 1) is.other is.next;
          at = is.at;
          next = is.next;
          alike = is.alike;
          node = is.node;
        },
    λ is. (are n).1
        (record {
          place = is.place;
          one = is.one;
          other = is.other;
          below = omega (arith, is.below, over);
          at = is.at;
          next = is.next;
          alike = is.alike;
          node = is.node;
        }),
  )

-- ---- doubles

module _ (tree : Parts) (symbols : List Symbol) (are : AreSymbolsOf tree symbols) where
  pub node_inside : (n : NodeId) → StandsBehindAlike (length symbols) symbols n → n.0 < length tree.nodes
  node_inside n is = omega (arith, stands_for tree symbols (is.place + 1) is.other are is.next, ap (λ (m : NodeId). m.0) is.node)

  pub double_behind : (n : NodeId) (name : List ℕ) (type : ℕ) → IsNamedNode tree n.0 name type → HasDouble tree n.0 name type →
      StandsBehindAlike (length symbols) symbols n
  double_behind n name type named double =
      let own : Symbol = symbol_for tree double.container name (λ t. t ≡ type) type n.0 in
      let first : Symbol = symbol_for tree double.container name (λ t. t ≡ type) type double.earlier in
      let has = (are.exact own).1 (is_symbol tree double.container name (λ t. t ≡ type) n.0 double.inside (type, named, refl)) in
      let had = (are.exact first).1 (is_symbol tree double.container name (λ t. t ≡ type) double.earlier double.beside (type, double.same, refl)) in
      let at : slice_get symbols has.0 ≡ Some own = slice_get-get_or symbols has.0 own has.1 ∙ ap Some has.2 in
      let there : slice_get symbols had.0 ≡ Some first = slice_get-get_or symbols had.0 first had.1 ∙ ap Some had.2 in
      let sooner : had.0 < has.0 = elim (cases_lt had.0 has.0) [
        | inl lt ↦ lt
        | inr ge ↦
            let up = in_order_at symbols has.0 had.0 own first are.ordered ge at there in
            absurd (omega (arith, up.node refl refl refl, double.before))
      ] in
      let here : (has.0 - 1) + 1 ≡ has.0 = omega (arith, sooner) in
      let before : has.0 - 1 < length symbols = omega (arith, has.1) in
      let at' = slice_get-get_or symbols (has.0 - 1) own before in
      let up = in_order_at symbols had.0 (has.0 - 1) first _ are.ordered (omega (arith, sooner)) there at' in
      let on = in_order_at symbols (has.0 - 1) has.0 _ own are.ordered (omega arith) at' at in
      let b : Symbol = slice_index_or symbols (has.0 - 1) own in
      let hash : name_hash name ≡ b.hash = omega (arith, up.hash, on.hash) in
      let within : double.container ≡ b.container.0 = omega (arith, up.container hash, on.container (sym hash)) in
      let typed : type ≡ b.type_id.0 = omega (arith, up.type_ within hash, on.type_ (sym within) (sym hash)) in
      record {
        place = has.0 - 1;
        one = b;
        other = own;
        below = omega (arith, here, has.1);
        at = at';
        next = ap (λ (k : ℕ). slice_get symbols k) here ∙ at;
        alike = ((within, hash), typed);
        node = refl;
      }
