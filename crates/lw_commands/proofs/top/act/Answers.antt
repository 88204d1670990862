use Rattle.std.proofs.Common.{◌≤◌, MatchOption, arith, length, map, subst, sym}
use Rattle.std.proofs.lemmas.List.{length-map}
use Rattle.std.proofs.KnownBytes.{Keeps-refl}
use Rattle.lw_conversation.specs.Opening.{most_documents}
use Rattle.lw_command_line.specs.Words.{IsCheck, IsCommand, IsMake, IsNoCommand, IsServe}
use Rattle.lw_commands.proofs.Commands.{checks, does_nothing, makes, serves}
use Rattle.lw_commands.proofs.Ends.{count_all, unasked}
use Rattle.lw_commands.proofs.top.act.Goals as goal

pub make-requires-clause-some : goal.make-requires-clause-some
make-requires-clause-some g c =
    let words = c.requires.0 in
    let is : IsMake words c.in-Make.root.path.now c.in-Make.count c.in-Make.root.k =
    subst (IsCommand words) c.in-Make.is (subst (λ found. MatchOption found (IsNoCommand words) (IsCommand words)) c.in-Some.is c.requires.1) in
    is.counts.least

pub make-requires-clause-most : goal.make-requires-clause-most
make-requires-clause-most g c =
    let words = c.requires.0 in
    let is : IsMake words c.in-Make.root.path.now c.in-Make.count c.in-Make.root.k =
    subst (IsCommand words) c.in-Make.is (subst (λ found. MatchOption found (IsNoCommand words) (IsCommand words)) c.in-Some.is c.requires.1) in
    is.counts.most

pub returns-in-Check : goal.returns-in-Check
returns-in-Check g c =
    let root = c.in-Check.root in
    λ words says.
    let is : IsCheck words root.path.now root.k = subst (IsCommand words) c.in-Check.is (subst (λ found. MatchOption found (IsNoCommand words) (IsCommand words)) c.in-Some.is says) in
    checks words _ root.path.now root.k c.check.result c.check.ensures.not_words c.check.ensures.cause
    (count_all _ c.check.result c.check.ensures.source c.check.ensures.sink (unasked _ c.check.result c.check.ensures.store) c.check.ensures.patterns) is c.check.ensures.store
    c.check.ensures.works

pub returns-in-Serve : goal.returns-in-Serve
returns-in-Serve g c =
    let root = c.in-Serve.root in
    λ words says.
    let is : IsServe words root.path.now (map (λ file. file.now) c.in-Serve.files.items) root.k =
    subst (IsCommand words) c.in-Serve.is (subst (λ found. MatchOption found (IsNoCommand words) (IsCommand words)) c.in-Some.is says) in
    serves words _ root.path.now root.k c.serve.result c.serve.ensures.not_words c.serve.ensures.cause
    (count_all _ c.serve.result c.serve.ensures.source c.serve.ensures.sink c.serve.ensures.store c.serve.ensures.patterns) (map (λ file. file.now) c.deref.result.now)
    (subst (λ items. IsServe words root.path.now (map (λ file. file.now) items) root.k) (sym c.deref.ensures.value) is) c.serve.ensures.works

pub returns-in-Make : goal.returns-in-Make
returns-in-Make g c =
    let root = c.in-Make.root in
    λ words says.
    let is : IsMake words root.path.now c.in-Make.count root.k =
    subst (IsCommand words) c.in-Make.is (subst (λ found. MatchOption found (IsNoCommand words) (IsCommand words)) c.in-Some.is says) in
    makes words _ root.path.now root.k c.make.result c.make.ensures.not_words c.make.ensures.cause
    (count_all _ c.make.result (c.make.ensures.source _) c.make.ensures.sink (unasked _ c.make.result c.make.ensures.store) c.make.ensures.patterns) c.in-Make.count is
    (Keeps-refl (g.S.Source.left c.args.source.now)) c.make.ensures.store c.make.ensures.works

-- the words name no more files than a session holds documents
pub serve-requires : goal.serve-requires
serve-requires g c =
    let words = c.requires.0 in
    let root = c.in-Serve.root in
    let is : IsServe words root.path.now (map (λ file. file.now) c.in-Serve.files.items) root.k =
    subst (IsCommand words) c.in-Serve.is (subst (λ found. MatchOption found (IsNoCommand words) (IsCommand words)) c.in-Some.is c.requires.1) in
    let all = c.in-Serve.files.items in
    let few : length all ≤ most_documents = omega (arith, length-map all (λ file. file.now), is.are_files.few) in
    record { few = subst (λ items. length items ≤ most_documents) (sym c.deref.ensures.value) few }

pub returns-in_default : goal.returns-in_default
returns-in_default g c =
    λ words says. does_nothing words _ _ _ _ _ _ _ _ (subst (λ found. MatchOption found (IsNoCommand words) (IsCommand words)) c.in_default.is says)
