use Rattle.std.proofs.Common.{◌≡◌, ℕ, List, IfSome, length, map, take}
use Rattle.lw_conversation.specs.Standing.{beginning}
use Rattle.lw_commands.specs.Named.{AreFileTexts}
use Rattle.lw_commands.proofs.named.load_named.Given as goal

-- the files so far were read, and their texts were put
abbrev pub invariant-paths : goal.invariant-paths
invariant-paths g l = record {
  loaded : (named : List (List ℕ × List ℕ)) × (l.session.standing ≡ beginning named) × (length named ≡ l.path-index) × IfSome (g.F.Store.files l.fn.store) (λ files. AreFileTexts files (map (λ path. path.now) (take l.path-index l.paths)) named);
  setting : l.session.setting ≡ l.fn.session.setting;
  files : g.F.Store.files l.store ≡ g.F.Store.files l.fn.store;
  count : g.F.Store.count l.store ≡ g.F.Store.count l.fn.store;
}
