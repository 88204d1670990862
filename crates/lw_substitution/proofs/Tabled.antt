-- The trees of nodes that are alike are alike.
use Rattle.std.proofs.Common.{◌≡◌, ◌+◌, ◌-◌, ◌==◌, ◌&&◌, Bool, true, false, ℕ, zero, suc, Option, Some, None, List, [], ◌∷◌, length, slice_get, refl, sym, ap, subst, ◌∙◌, arith, if◌then◌else◌}
use Rattle.std.specs.List.{AllZip}
use Rattle.std.proofs.lemmas.List.Elements.{length_all_zip}
use Rattle.lw_base.specs.declared.token.Token.{Token}
use Rattle.lw_base.specs.declared.numbers.NodeId.{NodeId}
use Rattle.lw_base.specs.declared.numbers.PropId.{PropId}
use Rattle.lw_tree.specs.declared.node.Node.{Node}
use Rattle.lw_tree.specs.declared.node.Reference.{Reference}
use Rattle.lw_tree.specs.declared.node.Value.{Value}
use Rattle.lw_tree.specs.declared.node.Value.TheVariants.{Child, Refers}
use Rattle.lw_tree.specs.Parts.{Parts, SameTables, last_text, name_by, text_in, text_of, values_at}
use Rattle.lw_scoping.proofs.Tables.{same_names}
use Rattle.lw_reading.specs.Grown.{Plain, as_value, Grown, Held, size_of, nodes, nodes_of}
use Rattle.lw_reading.specs.Trees.{parts_of_tree, points_of, own, refs, refs_of, values, values_of}
use Rattle.lw_substitution.specs.Growth.{AreAlikePlain, AreAlikeGrown, AreAlikeHeld}
use Rattle.lw_substitution.specs.Growth as alike
use Rattle.lw_substitution.specs.OneName.{AreAlikeTrees, IsAlikeNode, IsAlikeReference, IsAlikeValue, name_said, name_looked_up}
use Rattle.lw_substitution.specs.OneName as one_name
use Rattle.lw_substitution.proofs.Counting.{same_points_of, same_size_of, count_refs_of}
use Rattle.lw_substitution.proofs.Zipped.{zip_append, RefsAlike, refs_append, refs_zip, refs_named}

abbrev Entry : Type 0
Entry = NodeId × PropId × Value

record AreAlikeEntries (e d : Entry) : Type 0 where
  number : e.0 ≡ d.0
  prop : e.1 ≡ d.1
  says : IsAlikeValue e.2 d.2

plain_says : {v w : Plain} → AreAlikePlain v w → IsAlikeValue (as_value v) (as_value w)
plain_says alike.text = one_name.text
plain_says alike.number = one_name.number
plain_says alike.huge = one_name.huge
plain_says alike.raw = one_name.raw
plain_says alike.truth = one_name.truth

child_says : (n k : ℕ) → n ≡ k → IsAlikeValue (Child (record { 0 = n })) (Child (record { 0 = k }))
child_says n k same = subst (λ (m : ℕ). IsAlikeValue (Child (record { 0 = n })) (Child (record { 0 = m }))) same one_name.child

refers_says : (n k : ℕ) → n ≡ k → IsAlikeValue (Refers (record { 0 = n })) (Refers (record { 0 = k }))
refers_says n k same = subst (λ (m : ℕ). IsAlikeValue (Refers (record { 0 = n })) (Refers (record { 0 = m }))) same one_name.refers

module _ (place : ℕ) where
  moved : (n k m : ℕ) → n ≡ k → m + n ≡ m + k
  moved n k m same = omega (arith, same)

  mutual
    nodes_alike : {from : ℕ} {x y : Grown} (above : Option NodeId) (p : Option PropId) (n : ℕ) → AreAlikeGrown place from x y →
        AllZip IsAlikeNode (nodes above p n x) (nodes above p n y)
    nodes_alike above p n (alike.grow is) = (record { type_id = refl; container = refl; prop = refl }, nodes_inside n (n + 1) is)

    nodes_inside : {from : ℕ} {held kept : Held} (number n : ℕ) → AreAlikeHeld place from held kept →
        AllZip IsAlikeNode (nodes_of number n held) (nodes_of number n kept)
    nodes_inside number n alike.nothing = tt
    nodes_inside number n (alike.puts is like) = nodes_inside number n is
    nodes_inside number n (alike.points_to is named) = nodes_inside number n is
    nodes_inside number n (alike.takes {p} {x} {y} {held} {kept} is like) =
        zip_append IsAlikeNode (nodes_of number n held) (nodes (Some (record { 0 = number })) (Some (record { 0 = p })) (n + size_of held) x)
        (nodes_of number n kept) (nodes (Some (record { 0 = number })) (Some (record { 0 = p })) (n + size_of kept) y) (nodes_inside number n is)
        (subst (λ (k : ℕ). AllZip IsAlikeNode (nodes (Some (record { 0 = number })) (Some (record { 0 = p })) (n + size_of held) x)
        (nodes (Some (record { 0 = number })) (Some (record { 0 = p })) k y))
        (moved _ _ n (same_size_of place is))
        (nodes_alike (Some (record { 0 = number })) (Some (record { 0 = p })) (n + size_of held) like))

  mutual
    refs_alike : {from : ℕ} {x y : Grown} (n : ℕ) → AreAlikeGrown place from x y → RefsAlike place from (refs n x) (refs n y)
    refs_alike n (alike.grow is) = refs_inside n (n + 1) is

    refs_inside : {from : ℕ} {held kept : Held} (number n : ℕ) → AreAlikeHeld place from held kept →
        RefsAlike place from (refs_of number n held) (refs_of number n kept)
    refs_inside number n alike.nothing = tt
    refs_inside number n (alike.puts is like) = refs_inside number n is
    refs_inside {from} number n (alike.points_to {p} {want} {name} {other} {s} {t} {held} {kept} is named) =
        refs_append place from (from + points_of held) (refs_of number n held)
        (record { owner = record { 0 = number }; prop = record { 0 = p }; want = record { 0 = want }; name = name; span = s } ∷ [])
        (refs_of number n kept)
        (record { owner = record { 0 = number }; prop = record { 0 = p }; want = record { 0 = want }; name = other; span = t } ∷ [])
        (moved _ _ from (count_refs_of number n held)) (refs_inside number n is)
        (record { owner = refl; prop = refl; want = refl }, named, tt)
    refs_inside {from} number n (alike.takes {p} {x} {y} {held} {kept} is like) =
        refs_append place from (from + points_of held) (refs_of number n held) (refs (n + size_of held) x) (refs_of number n kept) (refs (n + size_of kept) y)
        (moved _ _ from (count_refs_of number n held)) (refs_inside number n is)
        (subst (λ (k : ℕ). RefsAlike place (from + points_of held) (refs (n + size_of held) x) (refs k y)) (moved _ _ n (same_size_of place is))
        (refs_alike (n + size_of held) like))

  own_alike : {from : ℕ} {held kept : Held} (number n r : ℕ) → AreAlikeHeld place from held kept →
      AllZip AreAlikeEntries (own number n r held) (own number n r kept)
  own_alike number n r alike.nothing = tt
  own_alike number n r (alike.puts {p} {v} {w} {held} {kept} is like) =
      zip_append AreAlikeEntries (own number n r held) ((record { 0 = number }, record { 0 = p }, as_value v) ∷ []) (own number n r kept)
      ((record { 0 = number }, record { 0 = p }, as_value w) ∷ []) (own_alike number n r is)
      (record { number = refl; prop = refl; says = plain_says like }, tt)
  own_alike number n r (alike.points_to {p} {held} {kept} is named) =
      zip_append AreAlikeEntries (own number n r held) ((record { 0 = number }, record { 0 = p }, Refers (record { 0 = r + points_of held })) ∷ [])
      (own number n r kept) ((record { 0 = number }, record { 0 = p }, Refers (record { 0 = r + points_of kept })) ∷ []) (own_alike number n r is)
      (record { number = refl; prop = refl; says = refers_says _ _ (moved _ _ r (same_points_of place is)) }, tt)
  own_alike number n r (alike.takes {p} {held} {kept} is like) =
      zip_append AreAlikeEntries (own number n r held) ((record { 0 = number }, record { 0 = p }, Child (record { 0 = n + size_of held })) ∷ [])
      (own number n r kept) ((record { 0 = number }, record { 0 = p }, Child (record { 0 = n + size_of kept })) ∷ []) (own_alike number n r is)
      (record { number = refl; prop = refl; says = child_says _ _ (moved _ _ n (same_size_of place is)) }, tt)

  mutual
    values_alike : {from : ℕ} {x y : Grown} (n r : ℕ) → AreAlikeGrown place from x y → AllZip AreAlikeEntries (values n r x) (values n r y)
    values_alike n r (alike.grow {held} {kept} is) =
        zip_append AreAlikeEntries (own n (n + 1) r held) (values_of (n + 1) r held) (own n (n + 1) r kept) (values_of (n + 1) r kept)
        (own_alike n (n + 1) r is) (values_inside (n + 1) r is)

    values_inside : {from : ℕ} {held kept : Held} (n r : ℕ) → AreAlikeHeld place from held kept → AllZip AreAlikeEntries (values_of n r held) (values_of n r kept)
    values_inside n r alike.nothing = tt
    values_inside n r (alike.puts is like) = values_inside n r is
    values_inside n r (alike.points_to is named) = values_inside n r is
    values_inside n r (alike.takes {x} {y} {held} {kept} is like) =
        zip_append AreAlikeEntries (values_of n r held) (values (n + size_of held) (r + points_of held) x) (values_of n r kept)
        (values (n + size_of kept) (r + points_of kept) y) (values_inside n r is)
        (subst (λ (k : ℕ). AllZip AreAlikeEntries (values (n + size_of held) (r + points_of held) x) (values k (r + points_of kept) y))
        (moved _ _ n (same_size_of place is))
        (subst (λ (s : ℕ). AllZip AreAlikeEntries (values (n + size_of held) (r + points_of held) x) (values (n + size_of held) s y))
        (moved _ _ r (same_points_of place is)) (values_alike (n + size_of held) (r + points_of held) like)))

-- ---- names

said_alike : {v w : Value} → IsAlikeValue v w → name_said (text_of v) ≡ name_said (text_of w)
said_alike one_name.text = refl
said_alike one_name.number = refl
said_alike one_name.huge = refl
said_alike one_name.raw = refl
said_alike one_name.truth = refl
said_alike one_name.child = refl
said_alike one_name.refers = refl

taken_alike : (b c : Bool) (v w : Value) (vs ws : List Value) → b ≡ c → IsAlikeValue v w → AllZip IsAlikeValue vs ws →
    AllZip IsAlikeValue (if b then v ∷ vs else vs) (if c then w ∷ ws else ws)
taken_alike true true v w vs ws same says each = (says, each)
taken_alike false false v w vs ws same says each = each
taken_alike true false v w vs ws same says each = absurd (cc)
taken_alike false true v w vs ws same says each = absurd (cc)

at_alike : (n p : ℕ) (es ds : List Entry) → AllZip AreAlikeEntries es ds → AllZip IsAlikeValue (values_at n p es) (values_at n p ds)
at_alike n p [] [] each = tt
at_alike n p [] (d ∷ ds) each = absurd each
at_alike n p (e ∷ es) [] each = absurd each
at_alike n p (e ∷ es) (d ∷ ds) each =
    taken_alike ((e.0.0 == n) && (e.1.0 == p)) ((d.0.0 == n) && (d.1.0 == p)) e.2 d.2 (values_at n p es) (values_at n p ds)
    (ap (λ (k : NodeId). (k.0 == n) && (e.1.0 == p)) each.0.number ∙ ap (λ (q : PropId). (d.0.0 == n) && (q.0 == p)) each.0.prop) each.0.says
    (at_alike n p es ds each.1)

got_alike : (i : ℕ) (vs ws : List Value) → AllZip IsAlikeValue vs ws → name_said (text_in (slice_get vs i)) ≡ name_said (text_in (slice_get ws i))
got_alike i [] [] each = refl
got_alike i [] (w ∷ ws) each = absurd each
got_alike i (v ∷ vs) [] each = absurd each
got_alike zero (v ∷ vs) (w ∷ ws) each = said_alike each.0
got_alike (suc i) (v ∷ vs) (w ∷ ws) each = got_alike i vs ws each.1

last_alike : (vs ws : List Value) → AllZip IsAlikeValue vs ws → name_said (last_text vs) ≡ name_said (last_text ws)
last_alike vs ws each =
    got_alike (length vs - 1) vs ws each
    ∙ ap (λ (n : ℕ). name_said (text_in (slice_get ws (n - 1)))) (length_all_zip IsAlikeValue vs ws each)

named_alike : (name : Option PropId) (n : ℕ) (es ds : List Entry) → AllZip AreAlikeEntries es ds → name_said (name_by name n es) ≡ name_said (name_by name n ds)
named_alike None n es ds each = refl
named_alike (Some p) n es ds each = last_alike (values_at n p.0 es) (values_at n p.0 ds) (at_alike n p.0 es ds each)

-- ---- trees

module _ (place : ℕ) (x y : Grown) (is : AreAlikeGrown place 0 x y) (tokens others : List Token) (tree other : Parts) where
  pub trees_alike : tree.name ≡ other.name → SameTables tree (parts_of_tree x tokens tree.name) → SameTables other (parts_of_tree y others other.name) →
      AreAlikeTrees place tree other
  trees_alike names same too = record {
    nodes = subst (λ (ns : List Node). AllZip IsAlikeNode ns other.nodes) (sym same.nodes)
        (subst (λ (ns : List Node). AllZip IsAlikeNode (nodes None None 0 x) ns) (sym too.nodes) (nodes_alike place None None 0 is));
    named = λ n. ap name_said (same_names same n) ∙ named_alike tree.name n (values 0 0 x) (values 0 0 y) (values_alike place 0 0 is)
        ∙ ap (λ (name : Option PropId). name_said (name_by name n (values 0 0 y))) names ∙ sym (ap name_said (same_names too n));
    values = λ n p. subst (λ (vs : List Value). AllZip IsAlikeValue vs (values_at n p other.values)) (sym (same.values n p))
        (subst (λ (vs : List Value). AllZip IsAlikeValue (values_at n p (values 0 0 x)) vs) (sym (too.values n p))
        (at_alike n p (values 0 0 x) (values 0 0 y) (values_alike place 0 0 is)));
    refs = subst (λ (rs : List Reference). AllZip IsAlikeReference rs other.refs) (sym same.refs)
        (subst (λ (rs : List Reference). AllZip IsAlikeReference (refs 0 x) rs) (sym too.refs)
        (refs_zip place 0 (refs 0 x) (refs 0 y) (refs_alike place 0 is)));
    names = λ i apart. ap (λ (rs : List Reference). name_looked_up (slice_get rs i)) same.refs
        ∙ refs_named place 0 (refs 0 x) (refs 0 y) (refs_alike place 0 is) i (λ at. apart (omega (arith, at)))
        ∙ sym (ap (λ (rs : List Reference). name_looked_up (slice_get rs i)) too.refs);
  }
