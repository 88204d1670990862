use Rattle.std.proofs.Common.{IfSome, subst}
use Rattle.lw_complete.specs.Judged.{IsJudgement}
use Rattle.lw_complete.proofs.judging.judge_apart.Goals as goal

pub by_blank-requires : goal.by_blank-requires
by_blank-requires c = record { known = c.requires.known }

pub returns-in-Some : goal.returns-in-Some
returns-in-Some c of lexicon tasks trees address goes by =
    subst (λ told. IfSome told (IsJudgement c.args.typing.now trees address c.args.written.now.name.now)) c.in-Some.is
    (c.in_ok-judged.ensures of lexicon tasks trees address goes by.tried by.one_way)

pub returns-in-None : goal.returns-in-None
returns-in-None c of lexicon tasks trees address goes by = c.leads_in_whole.ensures trees address by.one_way by.among
