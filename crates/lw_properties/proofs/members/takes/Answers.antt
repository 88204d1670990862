use Rattle.std.proofs.Common.{[], ◌∷◌, ◌++◌, ◌+◌, ◌≡◌, map, length, vec_len, Contains, refl, sym, ap, ◌∙◌, subst, arith}
use Rattle.std.proofs.lemmas.Bool.{false≢true}
use Rattle.std.proofs.lemmas.List.{map-append, length-append, length-map, nil_from_length}
use Rattle.std.proofs.lemmas.Option.{MatchOption-at_none}
use Rattle.lw_properties.specs.Kinds.{kind_of_value}
use Rattle.lw_properties.proofs.Looking.{looking_as, looking_begins, looking_finds, looking_passes, looking_enters, looking_ends, one_union, union_there}
use Rattle.lw_properties.proofs.Unseen.{newly, not_newly, key_seen}
use Rattle.lw_properties.proofs.members.takes.Goals as goal

pub loop-member-init : goal.loop-member-init
loop-member-init c =
    let g = c.args.known.now.g.now in let kind = kind_of_value c.args.value in let members = c.args.members.now in
    looking_as g members kind (sym (c.in_ok-put_members.ensures ∙ ap (λ ms. map (λ m. m.now) ms ++ members) c.new-waiting.ensures.items)) (sym c.new-seen.ensures.empty) (looking_begins g members kind)

pub returns-then-takes_directly : goal.returns-then-takes_directly
returns-then-takes_directly c =
    let g = c.args.known.now.g.now in let kind = kind_of_value c.args.value in let members = c.args.members.now in
    let left = map (λ m. m.now) c.pop.new.self.items in let m = c.in-Some.member in
    let here = ap (map (λ m. m.now)) c.in-Some.ensures.items ∙ map-append (λ m. m.now) c.pop.new.self.items (m ∷ []) in (
      λ _. looking_finds g members kind left c.loop-member.seen.keys m.now (looking_as g members kind here refl c.loop-member.invariant)
          (c.takes_directly.ensures.0 c.if-takes_directly.true),
      λ _. refl,
    )

pub loop-member-smaller-in-Continue-branch-3 : goal.loop-member-smaller-in-Continue-branch-3
loop-member-smaller-in-Continue-branch-3 c =
    let u = c.in-Some-union_named in
    let told = newly c.loop-member.seen.keys c.insert.new.self.keys u.number c.in_ok-insert.field-0 c.in_ok-insert.ensures.added c.in_ok-insert.ensures.keys c.if-branch.true in
    let fewer = key_seen (λ x. length x.members) c.args.known.now.g.now.unions c.loop-member.seen.keys c.insert.new.self.keys u.number u.union.now
    (union_there c.args.known.now.g.now c.in-Some.member.now u.number u.union.now u.ensures) told.0 told.1 in
    let put = ap length c.in_ok-put_members-2.ensures in
    let popped = ap length c.in-Some.ensures.items in
    let members = ap length c.as_slice.ensures in
    omega (arith, fewer, members, simp (length-map, length-append) at put, simp (length-append) at popped)

pub loop-member-preserved-in-Continue-branch-3 : goal.loop-member-preserved-in-Continue-branch-3
loop-member-preserved-in-Continue-branch-3 c =
    let g = c.args.known.now.g.now in let kind = kind_of_value c.args.value in let members = c.args.members.now in
    let left = map (λ m. m.now) c.pop.new.self.items in let m = c.in-Some.member in let u = c.in-Some-union_named in
    let here = ap (map (λ m. m.now)) c.in-Some.ensures.items ∙ map-append (λ m. m.now) c.pop.new.self.items (m ∷ []) in
    let told = newly c.loop-member.seen.keys c.insert.new.self.keys u.number c.in_ok-insert.field-0 c.in_ok-insert.ensures.added c.in_ok-insert.ensures.keys c.if-branch.true in
    looking_as g members kind (ap (λ ms. left ++ ms) (sym c.as_slice.ensures) ∙ sym c.in_ok-put_members-2.ensures) (sym told.1)
    (looking_enters g members kind left c.loop-member.seen.keys m.now u.number u.union.now (looking_as g members kind here refl c.loop-member.invariant)
    (λ does. false≢true (sym c.if-takes_directly.false ∙ c.takes_directly.ensures.1 does)) u.ensures)

pub loop-member-preserved-else-branch : goal.loop-member-preserved-else-branch
loop-member-preserved-else-branch c =
    let g = c.args.known.now.g.now in let kind = kind_of_value c.args.value in let members = c.args.members.now in
    let left = map (λ m. m.now) c.pop.new.self.items in let m = c.in-Some.member in let u = c.in-Some-union_named in
    let here = ap (map (λ m. m.now)) c.in-Some.ensures.items ∙ map-append (λ m. m.now) c.pop.new.self.items (m ∷ []) in
    let told = not_newly c.loop-member.seen.keys c.insert.new.self.keys u.number c.in_ok-insert.field-0 c.in_ok-insert.ensures.added c.in_ok-insert.ensures.keys c.if-branch.false in
    looking_as g members kind refl (sym told.1)
    (looking_passes g members kind left c.loop-member.seen.keys m.now (looking_as g members kind here refl c.loop-member.invariant)
    (record {
      not_direct = λ does. false≢true (sym c.if-takes_directly.false ∙ c.takes_directly.ensures.1 does);
      known = λ v other was. subst (Contains c.loop-member.seen.keys) (one_union g m.now u.number v u.union.now other u.ensures was) told.0;
    }))

pub loop-member-preserved : goal.loop-member-preserved
loop-member-preserved c =
    let g = c.args.known.now.g.now in let kind = kind_of_value c.args.value in let members = c.args.members.now in
    let left = map (λ m. m.now) c.pop.new.self.items in let m = c.in-Some.member in
    let here = ap (map (λ m. m.now)) c.in-Some.ensures.items ∙ map-append (λ m. m.now) c.pop.new.self.items (m ∷ []) in
    looking_passes g members kind left c.loop-member.seen.keys m.now (looking_as g members kind here refl c.loop-member.invariant)
    (record {
      not_direct = λ does. false≢true (sym c.if-takes_directly.false ∙ c.takes_directly.ensures.1 does);
      known = λ v other was. absurd (c.in_default-union_named.ensures v other was);
    })

pub returns : goal.returns
returns c =
    let g = c.args.known.now.g.now in let kind = kind_of_value c.args.value in let members = c.args.members.now in let old = c.loop-member in
    let empty = nil_from_length old.waiting.items
    (omega (arith, old.waiting.ok.0, MatchOption-at_none {o = c.pop.result} (vec_len old.waiting ≡ 0 × vec_len c.pop.new.self ≡ 0) (λ _. vec_len c.pop.new.self + 1 ≡ vec_len old.waiting) c.in_default.is c.pop.ensures.cases)) in (
      λ h. absurd (false≢true h),
      λ some. absurd (looking_ends g members kind old.seen.keys (looking_as g members kind (ap (map (λ m. m.now)) empty) refl old.invariant) some),
    )
