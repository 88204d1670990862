use Rattle.std.proofs.Common.{sym, subst}
use Rattle.lw_grammar.specs.declared.declared_types.Member.{Member}
use Rattle.lw_numbers.specs.Lists.{SomeAt}
use Rattle.lw_numbers.specs.Spoken.{ExtendsBy, NamesMember}
use Rattle.lw_numbers.proofs.Speaking.{extends_same, extends_none, extends_more, extends_all, no_member}
use Rattle.lw_numbers.proofs.subtypes.names.put_members.Goals as goal
use Rattle.lw_numbers.proofs.subtypes.names.put_members.Goals.{in-Named+in_ok-put, in_default}
use Rattle.lw_base.proofs.Lists.{item_at}

pub loop-member-preserved : goal.loop-member-preserved
loop-member-preserved c =
    let items = c.as_slice-member-items.result.now in
    let n = c.loop-member.member-index in
    let x = c.member-item.result in
    let put : ExtendsBy (NamesMember x) c.loop-member.names.keys c.match-member.names.keys = elim c.match-member.branch [
      | in-Named+in_ok-put w ↦ subst (λ v. ExtendsBy (NamesMember x) c.loop-member.names.keys v.keys) (sym w.names-is)
          (extends_same (λ name put. subst (λ (m : Member). NamesMember m name) w.in-Named.is put) w.in_ok-put.ensures)
      | in_default w ↦ subst (λ v. ExtendsBy (NamesMember x) c.loop-member.names.keys v.keys) (sym w.names-is) (extends_none (no_member x w.in_default.not-Named))
    ] in
    extends_more items (λ k member. NamesMember member) n x (item_at items n x c.loop-member-test.true c.member-item.is) c.loop-member.invariant put

pub returns : goal.returns
returns c =
    let items = c.as_slice-member-items.result.now in
    subst (λ xs. ExtendsBy (λ name. SomeAt xs (λ k member. NamesMember member name)) c.args.names.now.keys c.loop-member.names.keys) c.as_slice-member-items.ensures
    (extends_all items (λ k member. NamesMember member) c.loop-member.member-index c.loop-member-test.false c.loop-member.invariant)
