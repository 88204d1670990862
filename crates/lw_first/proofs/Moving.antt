-- What a part may begin with depends on the heads of those rules alone that it calls.
use Rattle.std.proofs.Common.{◌≡◌, ℕ, suc, List, [], ◌∷◌, Some, Contains, slice_get, refl, sym, subst, arith}
use Rattle.lw_grammar.specs.declared.grammar.Grammar.{Grammar}
use Rattle.lw_grammar.specs.declared.rule.Element.{Element, out-Element}
use Rattle.lw_grammar.specs.declared.rule.Element.TheOpen.{Element-F}
use Rattle.lw_grammar.specs.declared.rule.Value0.{Value0, out-Value0}
use Rattle.lw_grammar.specs.declared.rule.Value0.TheOpen.{Value0-F}
use Rattle.lw_grammar.specs.Kinds.{Kinds}
use Rattle.lw_look.specs.Heads.{Can, RowCan, ManyCan}
use Rattle.lw_look.specs.Heads as can
use Rattle.lw_look.specs.Sites.{Part, Body, Value, element_parts, value_parts}
use Rattle.lw_base.proofs.Lists.{map_at}
use Rattle.lw_first.specs.Calling.{HasCall, here, inside}

module _ (g : Grammar) (kinds : Kinds) (k : ℕ) (Old New : ℕ → List ℕ → Type 0) where
  -- the heads that rules called in the part had, they have
  abbrev pub Keeps : Part → Type 0
  Keeps x = (q : ℕ) (f : List ℕ) → HasCall g x q → Old q f → New q f

  in_element : {e : Element} {f : Element-F Element} (y : Part) (i : ℕ) → out-Element e ≡ f → slice_get (element_parts f) i ≡ Some y → Keeps (Body e) → Keeps y
  in_element y i is at keeps q f has = keeps q f (inside y i (subst (λ f. slice_get (element_parts f) i ≡ Some y) (sym is) at) has)

  in_value : {v : Value0} {f : Value0-F Value0} (y : Part) (i : ℕ) → out-Value0 v ≡ f → slice_get (value_parts f) i ≡ Some y → Keeps (Value v) → Keeps y
  in_value y i is at keeps q f has = keeps q f (inside y i (subst (λ f. slice_get (value_parts f) i ≡ Some y) (sym is) at) has)

  mutual
    pub moved : {x : Part} {a h : List ℕ} → Keeps x → Can g kinds k Old x a h → Can g kinds k New x a h
    moved keeps (can.keyword n is at) = can.keyword n is at
    moved keeps (can.terminal n is at) = can.terminal n is at
    moved keeps (can.called {name} {r} {rule} {h = front} is means holds) = can.called is means (keeps r front (here name rule is means) holds)
    moved keeps (can.assigned {v} is does) = can.assigned is (moved (in_element (Value v) 0 is refl keeps) does)
    moved keeps (can.acted is) = can.acted is
    moved keeps (can.row {es} is does) =
        can.row is (row_moved es (λ part among. in_element (Body part) among.0 is (map_at Body es among.0 part among.1 (sym among.2)) keeps) does)
    moved keeps (can.chosen {f = part} {es} is among does) =
        can.chosen is among (moved (in_element (Body part) among.0 is (map_at Body es among.0 part among.1 (sym among.2)) keeps) does)
    moved keeps (can.chosen_value {w} {vs} is among does) =
        can.chosen_value is among (moved (in_value (Value w) among.0 is (map_at Value vs among.0 w among.1 (sym among.2)) keeps) does)
    moved keeps (can.passes is) = can.passes is
    moved keeps (can.enters {f = part} is does) = can.enters is (moved (in_element (Body part) 0 is refl keeps) does)
    moved keeps (can.any {f = part} is does) = can.any is (many_moved (in_element (Body part) 0 is refl keeps) does)
    moved keeps (can.some {f = part} is many does) =
        can.some is (many_moved (in_element (Body part) 0 is refl keeps) many) (moved (in_element (Body part) 0 is refl keeps) does)

    row_moved : (es : List Element) {a h : List ℕ} → ((e : Element) → Contains es e → Keeps (Body e)) → RowCan g kinds k Old es a h → RowCan g kinds k New es a h
    row_moved [] keeps can.none = can.none
    row_moved (e ∷ es) keeps (can.more rest does) =
        can.more (row_moved es (λ part (i, within, is). keeps part (suc i, omega arith, is)) rest) (moved (keeps e (0, omega arith, refl)) does)

    many_moved : {e : Element} {a h : List ℕ} → Keeps (Body e) → ManyCan g kinds k Old e a h → ManyCan g kinds k New e a h
    many_moved keeps can.stop = can.stop
    many_moved keeps (can.again many does) = can.again (many_moved keeps many) (moved keeps does)
