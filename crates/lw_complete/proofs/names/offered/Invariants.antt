use Rattle.std.proofs.Common.{◌≡◌, ◌↔◌, ◌++◌, ℕ, List, AllPairs, Contains}
use Rattle.std.specs.Cmp.Lexicographic.{slice_cmp}
use Rattle.std.specs.Ordering.{nat_cmp}
use Rattle.std.specs.Vec.Iter.{into_iter_items}
use Rattle.std.specs.declared.cmp.Ordering.TheVariants.{Less}
use Rattle.lw_grammar.specs.Kinds.{Kinds}
use Rattle.lw_program.specs.Says.{Task}
use Rattle.lw_scoping.specs.Links.{Trees}
use Rattle.lw_tokens.specs.Lexicon.{Lexicon}
use Rattle.lw_complete.specs.Starts.{IsOfferedBy}
use Rattle.lw_complete.specs.Tried.{AreJudgedBy, IsTypedWith}
use Rattle.lw_complete.proofs.names.offered.Given as goal

-- those of the names so far that are offered, in the order in which they came
abbrev pub invariant-names : goal.invariant-names
invariant-names l = record {
  left : l.yielded ++ into_iter_items l.name-iterator ≡ l.fn.names.items;
  offered : (of : Kinds) (lexicon : Lexicon) (tasks : List Task) (trees : Trees) (address : List ℕ) →
      IsTypedWith of lexicon tasks l.typing l.parser l.initial.recutter → AreJudgedBy of lexicon tasks l.typing trees address l.known → (name : List ℕ) →
      Contains l.found.items name ↔ (Contains l.yielded name × IsOfferedBy of lexicon tasks l.typing trees address l.known name);
  among : (name : List ℕ) → Contains l.found.items name → Contains l.yielded name;
  kept : l.recutter ≡ l.initial.recutter;
  ordered : AllPairs (λ one other. slice_cmp nat_cmp one other ≡ Less) l.yielded → AllPairs (λ one other. slice_cmp nat_cmp one other ≡ Less) l.found.items;
}
