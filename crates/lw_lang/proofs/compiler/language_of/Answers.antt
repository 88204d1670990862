use Rattle.std.proofs.Common.{◌≡◌, ◌∙◌, sym, ap, subst}
use Rattle.std.proofs.lemmas.Result.{IfOk-weaker}
use Rattle.lw_lang.specs.Compiled.{IsClear}
use Rattle.lw_lang.specs.Language.{LanguageView}
use Rattle.lw_lang.proofs.BuildLemmas.{is_prepared, is_clear}
use Rattle.lw_lang.proofs.compiler.language_of.Goals as goal

pub ready-requires : goal.ready-requires
ready-requires c = record {
  prepared = is_prepared c.args.grammar c.args.facts.now.kinds c.requires.facts.kinds c.requires.faultless c.args.tokens c.requires.tokens c.args.types
      c.requires.typed c.args.k c.in-Ok.parser (c.in-Ok.ensures c.requires.tokens.of c.requires.tokens.are);
}

pub returns-in-Ok-clause-clear : goal.returns-in-Ok-clause-clear
returns-in-Ok-clause-clear c =
    let clear : IsClear c.args.grammar c.args.k =
    is_clear c.args.grammar c.args.facts.now.kinds c.requires.facts.kinds c.requires.faultless c.args.tokens c.requires.tokens c.args.k c.requires.has in
    IfOk-weaker c.ready.result (λ made. made ≡ record { grammar = c.args.grammar; texts = c.args.tokens.texts; depth = c.in-Ok.parser.k }) (λ made. IsClear made.grammar c.args.k)
    (λ made is. subst (λ g. IsClear g c.args.k) (sym (ap (λ (v : LanguageView). v.grammar) is)) clear) c.ready.ensures.language

pub returns-in-Ok-clause-depth : goal.returns-in-Ok-clause-depth
returns-in-Ok-clause-depth c =
    let same = (c.in-Ok.ensures c.requires.tokens.of c.requires.tokens.are).parser.depth in
    IfOk-weaker c.ready.result (λ made. made ≡ record { grammar = c.args.grammar; texts = c.args.tokens.texts; depth = c.in-Ok.parser.k }) (λ made. made.depth ≡ c.args.k)
    (λ made is. ap (λ (v : LanguageView). v.depth) is ∙ same) c.ready.ensures.language
