use Rattle.std.proofs.Common.{◌≡◌, ◌∷◌, [], ◌++◌, List, None, refl, sym, ap, subst, ◌∙◌, rules}
use Rattle.std.specs.Option.{option_copied}
use Rattle.std.specs.declared.ops.Bound.TheVariants.{Included, Unbounded}
use Rattle.std.specs.BTreeSet.{keys_between}
use Rattle.lw_index.specs.declared.parts.Answer.{Answer}
use Rattle.lw_index.specs.declared.refs.slot.SlotId.{SlotId}
use Rattle.lw_index.specs.Pairs.{Pair, pair_cmp, held_at}
use Rattle.lw_index.proofs.Gathering.{AreGathered, none_gathered, gathered_none, gathered_some, none_beyond, all_gathered}
use Rattle.lw_index.proofs.refs.users.gather.Goals as goal

pub loop-pair-init : goal.loop-pair-init
loop-pair-init c =
    let start : Pair = (c.args.target.doc.0, 0) in
    let between : c.range-pair-items.result ≡ keys_between pair_cmp (Included start) Unbounded c.args.pairs.now = c.range-pair-items.ensures.between (search rules) in
    let ahead : AreGathered c.args.documents.now c.args.target c.new-slots.result.items c.range-pair-items.result = none_gathered c.args.documents.now c.args.target c.args.pairs.now c.requires c.range-pair-items.ensures.ordered c.range-pair-items.result between
    c.new-slots.result.items c.new-slots.ensures.items in
    (tt, tt, subst (AreGathered c.args.documents.now c.args.target c.new-slots.result.items) (sym c.into_iter-pair-iterator.ensures.into_iter_gives) ahead)

pub loop-pair-preserved : goal.loop-pair-preserved
loop-pair-preserved c =
    let slots = c.loop-pair.slots.items in
    let are : AreGathered c.args.documents.now c.args.target slots (c.in-Some.pair.now ∷ c.next.new.self) = subst (AreGathered c.args.documents.now c.args.target slots) c.in-Some.ensures.steps c.loop-pair.invariant.2 in
    let none : held_at c.args.documents.now c.in-Some.pair.now.1 ≡ None = sym c.get.ensures.value ∙ ap (option_copied {T = List Answer}) c.in_default.is in
    (tt, tt, gathered_none c.args.documents.now c.args.target slots c.in-Some.pair.now c.next.new.self are c.if-pair-target.false none)

pub loop-pair-preserved-in-Continue-1 : goal.loop-pair-preserved-in-Continue-1
loop-pair-preserved-in-Continue-1 c =
    let slots = c.loop-pair.slots.items in
    let are : AreGathered c.args.documents.now c.args.target slots (c.in-Some.pair.now ∷ c.next.new.self) = subst (AreGathered c.args.documents.now c.args.target slots) c.in-Some.ensures.steps c.loop-pair.invariant.2 in
    let more : AreGathered c.args.documents.now c.args.target (slots ++ c.in_ok-add_users.ensures.0) c.next.new.self =
    gathered_some c.args.documents.now c.args.target slots c.in-Some.pair.now c.next.new.self are c.if-pair-target.false c.in-Some-get.leads.now (sym c.in-Some-get.ensures.value)
    (record { 0 = c.in-Some.pair.now.1 }) refl c.in_ok-add_users.ensures.0 c.in_ok-add_users.ensures.2 in
    (tt, tt, subst (λ (s : List SlotId). AreGathered c.args.documents.now c.args.target s c.next.new.self) (sym c.in_ok-add_users.ensures.1) more)

pub returns-then-pair-target-clause-exact : goal.returns-then-pair-target-clause-exact
returns-then-pair-target-clause-exact c =
    let slots = c.loop-pair.slots.items in
    let are : AreGathered c.args.documents.now c.args.target slots (c.in-Some.pair.now ∷ c.next.new.self) = subst (AreGathered c.args.documents.now c.args.target slots) c.in-Some.ensures.steps c.loop-pair.invariant.2 in
    none_beyond c.args.documents.now c.args.target slots c.in-Some.pair.now c.next.new.self are c.if-pair-target.true

pub returns-clause-exact : goal.returns-clause-exact
returns-clause-exact c =
    let slots = c.loop-pair.slots.items in
    let are : AreGathered c.args.documents.now c.args.target slots [] = subst (AreGathered c.args.documents.now c.args.target slots) c.in-None.ensures.steps.0 c.loop-pair.invariant.2 in
    all_gathered c.args.documents.now c.args.target slots are
