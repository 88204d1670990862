use Rattle.std.proofs.Common.{◌≡◌, ◌+◌, ◌++◌, length, vec_len, map, reverse, refl, sym, ap, ◌∙◌, arith}
use Rattle.std.proofs.lemmas.Bool.{false≢true}
use Rattle.std.proofs.lemmas.List.{length-append, length-map, length-reverse, nil_from_length}
use Rattle.std.proofs.lemmas.Option.{MatchOption-at_none}
use Rattle.lw_properties.proofs.Looking.{union_there}
use Rattle.lw_properties.proofs.Stacks.{on_top}
use Rattle.lw_properties.proofs.Unseen.{newly, not_newly, key_seen, in_stands}
use Rattle.lw_types.specs.Seeing.{list_of}
use Rattle.lw_types.proofs.Giving.{giving_as, giving_value, giving_enters, giving_passes, giving_ends}
use Rattle.lw_types.proofs.property_table.members.member_values.Goals as goal

pub loop-member-smaller-in-Continue-branch-4 : goal.loop-member-smaller-in-Continue-branch-4
loop-member-smaller-in-Continue-branch-4 c =
    let u = c.in-Some-union_named in
    let g = c.args.source.now.g.now in
    let into = c.in_ok-insert-in-Some-union_named in
    let told = newly c.loop-member.looked.keys c.insert.new.self.keys u.number into.field-0 into.ensures.added into.ensures.keys c.if-branch.true in
    let fewer = key_seen (λ x. length x.members) g.unions c.loop-member.looked.keys c.insert.new.self.keys u.number u.union.now (union_there g c.in-Some.member.now u.number u.union.now u.ensures) told.0 told.1 in
    let put = ap length c.in_ok-put_members-in-Some-union_named.ensures in
    let popped = ap length c.in-Some.ensures.items in
    let members = ap length c.as_slice.ensures in
    omega (arith, fewer, members, simp (length-reverse, length-map, length-append) at put, simp (length-append) at popped)

pub loop-member-preserved-in-Continue-branch-4 : goal.loop-member-preserved-in-Continue-branch-4
loop-member-preserved-in-Continue-branch-4 c =
    let g = c.args.source.now.g.now in
    let members = c.args.members.now in
    let old = c.loop-member in
    let u = c.in-Some-union_named in
    let m = c.in-Some.member in
    let left = reverse (map (λ m. m.now) c.pop.new.self.items) in
    let into = c.in_ok-insert-in-Some-union_named in
    let told = newly old.looked.keys c.insert.new.self.keys u.number into.field-0 into.ensures.added into.ensures.keys c.if-branch.true in
    let here = on_top (λ m. m.now) old.waiting.items c.pop.new.self.items m c.in-Some.ensures.items in
    let text = list_of c.text_value.result in
    let entered = giving_enters g members left old.looked.keys old.values.items text m.now u.number u.union.now (giving_as g members here refl refl old.invariant) c.text_value.ensures u.ensures
    (λ has. false≢true (sym told.0 ∙ in_stands old.looked.keys u.number has)) in
    giving_as g members (ap (λ ms. ms ++ left) (sym c.as_slice.ensures) ∙ sym c.in_ok-put_members-in-Some-union_named.ensures) (sym told.1) (sym c.in_ok-put_value.ensures) entered

pub loop-member-preserved-else-branch : goal.loop-member-preserved-else-branch
loop-member-preserved-else-branch c =
    let g = c.args.source.now.g.now in
    let members = c.args.members.now in
    let old = c.loop-member in
    let u = c.in-Some-union_named in
    let m = c.in-Some.member in
    let left = reverse (map (λ m. m.now) c.pop.new.self.items) in
    let into = c.in_ok-insert-in-Some-union_named in
    let told = not_newly old.looked.keys c.insert.new.self.keys u.number into.field-0 into.ensures.added into.ensures.keys c.if-branch.false in
    let here = on_top (λ m. m.now) old.waiting.items c.pop.new.self.items m c.in-Some.ensures.items in
    giving_as g members refl (sym told.1) (sym c.in_ok-put_value.ensures)
    (giving_passes g members left old.looked.keys old.values.items (list_of c.text_value.result) m.now u.number u.union.now (giving_as g members here refl refl old.invariant) c.text_value.ensures u.ensures told.0)

pub loop-member-preserved : goal.loop-member-preserved
loop-member-preserved c =
    let g = c.args.source.now.g.now in
    let members = c.args.members.now in
    let old = c.loop-member in
    let m = c.in-Some.member in
    let left = reverse (map (λ m. m.now) c.pop.new.self.items) in
    let here = on_top (λ m. m.now) old.waiting.items c.pop.new.self.items m c.in-Some.ensures.items in
    let text = list_of c.text_value.result in
    let more = list_of c.member_value.result in
    giving_as g members refl refl (ap (λ xs. xs ++ more) (sym c.in_ok-put_value.ensures) ∙ sym c.in_ok-put_value-in-None.ensures)
    (giving_value g members left old.looked.keys old.values.items text more m.now (giving_as g members here refl refl old.invariant) c.text_value.ensures c.member_value.ensures)

pub returns : goal.returns
returns c =
    let old = c.loop-member in
    let empty = nil_from_length old.waiting.items (omega (arith, old.waiting.ok.0, MatchOption-at_none {o = c.pop.result} (vec_len old.waiting ≡ 0 × vec_len c.pop.new.self ≡ 0) (λ _. vec_len c.pop.new.self + 1 ≡ vec_len old.waiting) c.in_default.is c.pop.ensures.cases)) in
    let g = c.args.source.now.g.now in
    let members = c.args.members.now in
    giving_ends g members old.looked.keys old.values.items (giving_as g members (ap (λ ms. reverse (map (λ m. m.now) ms)) empty) refl refl old.invariant)
