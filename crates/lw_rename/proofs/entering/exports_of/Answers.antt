use Rattle.std.proofs.Common.{sym, ap, subst, subst₂}
use Rattle.std.specs.Option.{option_map}
use Rattle.lw_link.specs.Indexed.{AreEntriesAt, treeless}
use Rattle.lw_rename.specs.Entries.{HasRoot}
use Rattle.lw_rename.proofs.Putting.{entries_of}
use Rattle.lw_rename.proofs.entering.exports_of.Goals as goal

pub entries-requires : goal.entries-requires
entries-requires c = subst (λ tree. HasRoot (option_map (λ t. t.now) tree)) c.in-Some.is c.requires

pub returns-in-Some : goal.returns-in-Some
returns-in-Some c =
    entries_of (λ v. v.items) (option_map (λ t. t.now) c.args.tree) c.in-Some.tree.now c.entries.result (ap (option_map (λ t. t.now)) c.in-Some.is) c.entries.ensures

pub returns-in-None : goal.returns-in-None
returns-in-None c = subst₂ (λ tree xs. AreEntriesAt (option_map (λ t. t.now) tree) xs) (sym c.in-None.is) (sym c.new.ensures.items) treeless
