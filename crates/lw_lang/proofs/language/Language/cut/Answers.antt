-- By the lexicon that is kept, which is that of the grammar.
use Rattle.std.proofs.Common.{subst, sym}
use Rattle.lw_tokens.specs.Cut.{HasNoTokenAt, IsCut}
use Rattle.lw_lang.proofs.Cutting.{cut_by, kinds_by, lexicon_kept, parts_by, tiles_by}
use Rattle.lw_lang.proofs.language.Language.cut.Goals as goal

pub returns-clause-cut : goal.returns-clause-cut
returns-clause-cut c kinds lexicon are of =
    cut_by c.self.inside _ c.self.view_is c.self.invariant c.args.text.now (λ tokens. tokens.items) kinds lexicon are of c.cut.result
    (rw c.in_ok-new.ensures at c.cut.ensures.cut) (rw c.in_ok-new.ensures at c.cut.ensures.one_cut)

pub returns-clause-no_cut : goal.returns-clause-no_cut
returns-clause-no_cut c kinds lexicon s are of is tokens cut =
    c.cut.ensures.no_cut s is tokens
    (rw c.in_ok-new.ensures
    (subst (λ lexicon. IsCut lexicon c.args.text.now tokens) (sym (lexicon_kept c.self.inside _ c.self.view_is c.self.invariant c.args.text.now kinds lexicon are of)) cut))

pub returns-clause-no_token : goal.returns-clause-no_token
returns-clause-no_token c kinds lexicon s are of is =
    subst (λ lexicon. HasNoTokenAt lexicon c.args.text.now s.start)
    (lexicon_kept c.self.inside _ c.self.view_is c.self.invariant c.args.text.now kinds lexicon are of) (rw c.in_ok-new.ensures at (c.cut.ensures.no_token s is))

pub returns-clause-character : goal.returns-clause-character
returns-clause-character c s is = c.cut.ensures.character s is

pub returns-clause-of_kinds : goal.returns-clause-of_kinds
returns-clause-of_kinds c kinds are =
    kinds_by c.self.inside _ c.self.view_is c.self.invariant c.args.text.now (λ tokens. tokens.items) kinds are c.cut.result (rw c.in_ok-new.ensures at c.cut.ensures.cut) c.cut.ensures.places

pub returns-clause-tile : goal.returns-clause-tile
returns-clause-tile c =
    tiles_by c.self.inside _ c.self.view_is c.self.invariant c.args.text.now (λ tokens. tokens.items) c.cut.result (rw c.in_ok-new.ensures at c.cut.ensures.cut) c.cut.ensures.places

pub returns-clause-parts : goal.returns-clause-parts
returns-clause-parts c =
    parts_by c.self.inside _ c.self.view_is c.self.invariant c.args.text.now (λ tokens. tokens.items) c.cut.result c.cut.ensures.places
