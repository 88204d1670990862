use Rattle.std.proofs.Common.{None, ap, length, subst, sym, arith}
use Rattle.lw_link.specs.Indexed.{AreEntriesAt, treeless, whole}
use Rattle.lw_reading.specs.Issues.{IfBroken, IfWhole, IsIssueWithin, IsNamed}
use Rattle.lw_reading.specs.Reading.{Reads}
use Rattle.lw_reading.specs.Within.{StandsInText}
use Rattle.lw_build.proofs.Texts.{text_root}
use Rattle.lw_build.proofs.readings.kept_of.Goals as goal

pub entries-requires : goal.entries-requires
entries-requires c =
    (text_root c.args.language.now.grammar c.args.text.now c.in-Whole.tree
    (subst (Reads c.args.language.now.grammar c.args.text.now) c.in-Whole.is c.requires.reads)).there

pub returns-in_ok-exports-in-Whole : goal.returns-in_ok-exports-in-Whole
returns-in_ok-exports-in-Whole c = (
  (
    subst (Reads c.args.language.now.grammar c.args.text.now) c.in-Whole.is c.requires.reads,
    subst (λ p. IfWhole p (StandsInText c.args.text.now)) c.in-Whole.is c.requires.stands,
    c.in_ok-locals-in-Whole.ensures,
    omega (arith, ap length c.refs.ensures),
  ),
  whole c.in_ok-exports-in-Whole.ensures,
)

pub returns-in-Broken : goal.returns-in-Broken
returns-in-Broken c = (
  (
    subst (Reads c.args.language.now.grammar c.args.text.now) c.in-Broken.is c.requires.reads,
    subst (λ p. IfBroken p (IsNamed c.args.language.now.texts)) c.in-Broken.is c.requires.named,
    subst (λ p. IfBroken p (IsIssueWithin c.args.text.now)) c.in-Broken.is c.requires.within,
  ),
  subst (AreEntriesAt None) (sym c.new.ensures.items) treeless,
)
