use Rattle.std.proofs.Common.{refl, subst}
use Rattle.lw_program.specs.declared.recipes.mark.TreeMark.TheVariants as numbered
use Rattle.lw_program.specs.Meant.{MeansMark}
use Rattle.lw_builder.proofs.Following.{means_token, means_open, means_shut, means_end, means_put, means_act, token_followed, can_do, followed, open_apart, shut_apart, put_apart, end_apart, act_apart}
use Rattle.lw_builder.proofs.builder.Builder.mark.Goals as goal

pub begin-requires : goal.begin-requires
begin-requires c =
    let r = c.requires.goes_on in
    let means = subst (λ k. MeansMark r.0 k r.2) c.in-Open.is r.6 in
    (r.0, can_do r.0 r.1 r.2 _ r.3 r.4 c.args.self.now r.5 (means_open r.0 c.in-Open.rule r.2 means) (open_apart _) r.7)

pub shut-requires : goal.shut-requires
shut-requires c =
    let r = c.requires.goes_on in
    let means = subst (λ k. MeansMark r.0 k r.2) c.in-Shut.is r.6 in
    (r.0, can_do r.0 r.1 r.2 _ r.3 r.4 c.args.self.now r.5 (means_shut r.0 r.2 means) shut_apart r.7)

pub end-requires : goal.end-requires
end-requires c =
    let r = c.requires.goes_on in
    let means = subst (λ k. MeansMark r.0 k r.2) c.in-End.is r.6 in
    (r.0, can_do r.0 r.1 r.2 _ r.3 r.4 c.args.self.now r.5 (means_end r.0 r.2 means) end_apart r.7)

pub act-requires : goal.act-requires
act-requires c =
    let r = c.requires.goes_on in
    let means = subst (λ k. MeansMark r.0 k r.2) c.in-Act.is r.6 in
    let a = means_act r.0 c.in-Act.act r.2 means in
    (r.0, a.0, subst (λ y. MeansMark r.0 (numbered.Act c.in-Act.act) y) a.1 means, can_do r.0 r.1 r.2 _ r.3 r.4 c.args.self.now r.5 a.1 (act_apart a.0) r.7)

pub returns-in-Token-clause-followed : goal.returns-in-Token-clause-followed
returns-in-Token-clause-followed c = λ g m x bs after h means goes.
    token_followed g m x _ bs after c.args.self.now _ (means_token g _ x (subst (λ k. MeansMark g k x) c.in-Token.is means)) h goes
    refl refl refl refl refl refl refl refl refl

pub returns-in-Open-clause-followed : goal.returns-in-Open-clause-followed
returns-in-Open-clause-followed c = λ g m x bs after h means goes.
    followed c.begin.result g m x _ bs after c.args.self.now c.begin.new.self h (means_open g c.in-Open.rule x (subst (λ k. MeansMark g k x) c.in-Open.is means))
    (open_apart _) goes (c.begin.ensures.begun g) c.begin.ensures.reading

pub returns-in-Shut-clause-followed : goal.returns-in-Shut-clause-followed
returns-in-Shut-clause-followed c = λ g m x bs after h means goes.
    followed c.shut.result g m x _ bs after c.args.self.now c.shut.new.self h (means_shut g x (subst (λ k. MeansMark g k x) c.in-Shut.is means))
    shut_apart goes (c.shut.ensures.shut g) c.shut.ensures.reading

pub returns-in-Put-clause-followed : goal.returns-in-Put-clause-followed
returns-in-Put-clause-followed c = λ g m x bs after h means goes.
    let here = subst (λ k. MeansMark g k x) c.in-Put.is means in
    let p = means_put g c.in-Put.put x here in
    followed c.put.result g m x _ bs after c.args.self.now c.put.new.self h p.3 (put_apart p.0 p.1 p.2) goes
    (c.put.ensures.begun g p.0 p.1 p.2 (subst (λ y. MeansMark g (numbered.Put c.in-Put.put) y) p.3 here)) c.put.ensures.reading

pub returns-in-End-clause-followed : goal.returns-in-End-clause-followed
returns-in-End-clause-followed c = λ g m x bs after h means goes.
    followed c.end.result g m x _ bs after c.args.self.now c.end.new.self h (means_end g x (subst (λ k. MeansMark g k x) c.in-End.is means))
    end_apart goes (c.end.ensures.ended g) c.end.ensures.reading

pub returns-in-Act-clause-followed : goal.returns-in-Act-clause-followed
returns-in-Act-clause-followed c = λ g m x bs after h means goes.
    let here = subst (λ k. MeansMark g k x) c.in-Act.is means in
    let a = means_act g c.in-Act.act x here in
    followed c.act.result g m x _ bs after c.args.self.now c.act.new.self h a.1 (act_apart a.0) goes
    (c.act.ensures.acted g a.0 (subst (λ y. MeansMark g (numbered.Act c.in-Act.act) y) a.1 here)) c.act.ensures.reading
