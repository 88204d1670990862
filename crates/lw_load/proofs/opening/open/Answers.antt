use Rattle.std.proofs.lemmas.Result.{IfErr-weaker}
use Rattle.lw_load.specs.Opening.{IsUnreadable}
use Rattle.lw_load.proofs.Denied.{text_told, found_told, unread_told, unread_counts}
use Rattle.lw_load.proofs.opening.open.Goals as goal

pub returns-in-Text-clause-fault : goal.returns-in-Text-clause-fault
returns-in-Text-clause-fault g c =
    IfErr-weaker c.grammar_in.result (IsUnreadable c.args.path c.in-Text.text) _
    (λ found why. unread_told (g.F.Store.files c.args.store.now) c.args.path c.in-Text.text found (text_told (g.F.Store.files c.args.store.now) c.args.path c.in-Text.text c.in-Text.ensures.found) why) c.grammar_in.ensures.fault

pub returns-in-Text-clause-store : goal.returns-in-Text-clause-store
returns-in-Text-clause-store g c = unread_counts _ _ c.args.path c.in-Text.text c.grammar_in.result c.grammar_in.ensures.fault c.in-Text.ensures.cause

pub returns-in-Text-clause-found : goal.returns-in-Text-clause-found
returns-in-Text-clause-found g c =
    found_told (g.F.Store.files c.args.store.now) c.args.path c.in-Text.text c.grammar_in.result c.in-Text.ensures.found c.in-Text.ensures.limit c.grammar_in.ensures.path c.grammar_in.ensures.text c.grammar_in.ensures.says
    c.grammar_in.ensures.stands
