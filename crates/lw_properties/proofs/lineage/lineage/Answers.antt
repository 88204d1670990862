use Rattle.std.proofs.Common.{◌≡◌, ◌+◌, [], ◌∷◌, ◌++◌, length, vec_len, map, reverse, Contains, refl, sym, ap, ◌∙◌, subst, arith}
use Rattle.std.proofs.lemmas.List.{map-append, length-append, length-map, length-reverse, nil_from_length}
use Rattle.std.proofs.lemmas.Option.{MatchOption-at_none}
use Rattle.std.proofs.lemmas.Bool.{false≢true}
use Rattle.lw_grammar.proofs.FirstLemmas.{first_place}
use Rattle.lw_properties.proofs.Searching.{search_as, search_begins, search_ends, search_skips, search_enters}
use Rattle.lw_properties.proofs.Stacks.{on_top}
use Rattle.lw_properties.proofs.Unseen.{newly, not_newly, key_seen, in_stands}
use Rattle.lw_properties.proofs.lineage.lineage.Goals as goal

pub loop-name-init : goal.loop-name-init
loop-name-init c =
    let g = c.args.g.now in
    let t = c.args.type_name.now in
    search_as g t
    (sym (ap (λ ns. reverse (map (λ n. n.now) ns)) (c.in_ok-push.ensures.items ∙ ap (λ ns. ns ++ c.args.type_name ∷ []) c.new-waiting.ensures.items)))
    (sym c.new-seen.ensures.empty) (sym (ap (map (λ n. n.now)) c.new-order.ensures.items)) (search_begins g t)

pub loop-name-smaller-in-Continue-branch-4 : goal.loop-name-smaller-in-Continue-branch-4
loop-name-smaller-in-Continue-branch-4 c =
    let i = c.in-Some-interface_of in
    let told = newly c.loop-name.seen.keys c.insert.new.self.keys i.number c.in_ok-insert.field-0 c.in_ok-insert.ensures.added c.in_ok-insert.ensures.keys c.if-branch.true in
    let fewer = key_seen (λ x. length x.above) c.args.g.now.interfaces c.loop-name.seen.keys c.insert.new.self.keys i.number i.own.now i.ensures.first.there told.0 told.1 in
    let put = ap length c.in_ok-put_above.ensures in
    let popped = ap length c.in-Some.ensures.items in
    omega (arith, fewer, simp (length-reverse, length-map, length-append) at put, simp (length-append) at popped)

pub loop-name-preserved-in-Continue-branch-4 : goal.loop-name-preserved-in-Continue-branch-4
loop-name-preserved-in-Continue-branch-4 c =
    let i = c.in-Some-interface_of in
    let old = c.loop-name in
    let told = newly old.seen.keys c.insert.new.self.keys i.number c.in_ok-insert.field-0 c.in_ok-insert.ensures.added c.in_ok-insert.ensures.keys c.if-branch.true in
    let here = on_top (λ n. n.now) old.waiting.items c.pop.new.self.items c.in-Some.name c.in-Some.ensures.items in
    let g = c.args.g.now in
    let t = c.args.type_name.now in
    let ways = map (λ n. n.now) old.order.items in
    let entered = search_enters g t c.in-Some.name.now (reverse (map (λ n. n.now) c.pop.new.self.items)) old.seen.keys ways (search_as g t here refl refl old.invariant) i.number i.own.now i.ensures (λ has. false≢true (sym told.0 ∙ in_stands old.seen.keys i.number has)) in
    search_as g t (sym c.in_ok-put_above.ensures) (sym told.1)
    (sym (ap (map (λ n. n.now)) c.in_ok-push-2.ensures.items ∙ map-append (λ n. n.now) old.order.items (i.own ∷ []))) entered

pub loop-name-preserved-else-branch : goal.loop-name-preserved-else-branch
loop-name-preserved-else-branch c =
    let i = c.in-Some-interface_of in
    let old = c.loop-name in
    let told = not_newly old.seen.keys c.insert.new.self.keys i.number c.in_ok-insert.field-0 c.in_ok-insert.ensures.added c.in_ok-insert.ensures.keys c.if-branch.false in
    let here = on_top (λ n. n.now) old.waiting.items c.pop.new.self.items c.in-Some.name c.in-Some.ensures.items in
    let g = c.args.g.now in
    let t = c.args.type_name.now in
    let skipped = search_skips g t c.in-Some.name.now (reverse (map (λ n. n.now) c.pop.new.self.items)) old.seen.keys (map (λ n. n.now) old.order.items) (search_as g t here refl refl old.invariant)
    (λ j own meant. subst (Contains old.seen.keys) (first_place i.ensures.first meant.first) told.0) in
    search_as g t refl (sym told.1) refl skipped

pub loop-name-preserved : goal.loop-name-preserved
loop-name-preserved c =
    let old = c.loop-name in
    let here = on_top (λ n. n.now) old.waiting.items c.pop.new.self.items c.in-Some.name c.in-Some.ensures.items in
    let g = c.args.g.now in
    let t = c.args.type_name.now in
    search_skips g t c.in-Some.name.now (reverse (map (λ n. n.now) c.pop.new.self.items)) old.seen.keys (map (λ n. n.now) old.order.items) (search_as g t here refl refl old.invariant)
    (λ j own meant. absurd (c.in_default-interface_of.ensures j own meant))

pub returns : goal.returns
returns c =
    let old = c.loop-name in
    let empty = nil_from_length old.waiting.items (omega (arith, old.waiting.ok.0, MatchOption-at_none {o = c.pop.result} (vec_len old.waiting ≡ 0 × vec_len c.pop.new.self ≡ 0) (λ _. vec_len c.pop.new.self + 1 ≡ vec_len old.waiting) c.in_default.is c.pop.ensures.cases)) in
    let g = c.args.g.now in
    let t = c.args.type_name.now in
    search_ends g t old.seen.keys (map (λ n. n.now) old.order.items) (search_as g t (ap (λ ns. reverse (map (λ n. n.now) ns)) empty) refl refl old.invariant)
