-- The start, one turn, and the end.
use Rattle.std.proofs.Common.{◌≡◌, ◌<◌, [], ◌∷◌, ◌++◌, map, Some, sym, ap, ◌∙◌, subst, subst₂, arith}
use Rattle.std.proofs.lemmas.Grind.{common_steps}
use Rattle.std.proofs.lemmas.List.{map-append}
use Rattle.std.proofs.lemmas.List.Elements.{All-nil, All-same, All-pop}
use Rattle.lw_viable.specs.Aims.{Fulfils}
use Rattle.lw_viable.specs.Growing.{HasLists, read, fronts_weight}
use Rattle.lw_viable.proofs.Exploring.{IsExploring, exploring_first, exploring_on, exploring_last}
use Rattle.lw_viable.proofs.Made.{grows_none, grows_on}
use Rattle.lw_viable.proofs.ReadingTurns.{TurnsAt}
use Rattle.lw_viable.proofs.Turned.{turned_lighter, turned_within, turned_at}
use Rattle.lw_viable.proofs.sought.Sought.explore.Goals as goal

pub turns-init : goal.turns-init
turns-init c =
    let lists = c.args.lists.now in
    let work : c.extend_from_slice.new.self.items ≡ c.args.kept.now =
    c.in_ok-extend_from_slice.ensures.items ∙ ap (λ items. items ++ c.args.kept.now) c.new-work.ensures.items in
    let found : c.new-found.result.items ≡ [] = c.new-found.ensures.items in
    record {
      grows = grows_none lists;
      within = All-same (HasLists lists) c.extend_from_slice.new.self.items c.args.kept.now work c.requires;
      found_within = All-same (HasLists lists) c.new-found.result.items [] found (All-nil (HasLists lists));
      explored =
          λ g kinds aim ks kind known sought within keeps.
          let whole = Fulfils g kinds known.program.tasks aim in
          subst₂ (λ work found. IsExploring g kinds known whole ks kind (map (read lists) work) (map (read lists) found)) (sym work) (sym found)
          (exploring_first g kinds known whole kind (map (read lists) c.args.kept.now) keeps);
    }

pub turns-smaller : goal.turns-smaller
turns-smaller c =
    subst (λ work. fronts_weight c.turn.new.lists c.turn.new.work.items < fronts_weight c.turns.lists work) (sym c.in-Some.ensures.items)
    (turned_lighter c.args.self.program.now c.args.self.begins.now c.args.self.kind c.turn.ensures.grows c.in-Some.front c.pop.new.self.items c.turn.new.work.items
    c.turns.found.items c.turn.new.found.items c.in_ok-turn.ensures.turned)

pub turns-preserved : goal.turns-preserved
turns-preserved c =
    let program = c.args.self.program.now in
    let told = c.args.self.begins.now in
    let kind = c.args.self.kind in
    let others = c.pop.new.self.items in
    let popped = c.in-Some.ensures.items in
    let within = All-pop (HasLists c.turns.lists) c.turns.work.items others (Some c.in-Some.front) popped c.turns.invariant.within in
    let (all_within, all_found_within) =
    turned_within program told kind c.turn.ensures.grows c.in-Some.front others c.turn.new.work.items c.turns.found.items c.turn.new.found.items within.0
    c.turns.invariant.found_within c.in_ok-turn.ensures.turned in
    record {
      grows = grows_on c.turns.invariant.grows c.turn.ensures.grows;
      within = all_within;
      found_within = all_found_within;
      explored =
          λ g kinds aim ks k known sought within_kinds keeps.
          let whole = Fulfils g kinds known.program.tasks aim in
          let lists = c.turns.lists in
          exploring_on g kinds known whole k within_kinds (map (read lists) others) (map (read c.turn.new.lists) c.turn.new.work.items) (map (read lists) c.turns.found.items)
          (map (read c.turn.new.lists) c.turn.new.found.items)
          (subst (λ kind. TurnsAt program told kind (read lists c.in-Some.front) (map (read lists) others) (map (read c.turn.new.lists) c.turn.new.work.items)
          (map (read lists) c.turns.found.items) (map (read c.turn.new.lists) c.turn.new.found.items)) sought
          (turned_at program told kind c.turn.ensures.grows c.in-Some.front others c.turn.new.work.items c.turns.found.items c.turn.new.found.items within.0
          c.turns.invariant.found_within c.in_ok-turn.ensures.turned))
          (subst (λ work. IsExploring g kinds known whole ks k work (map (read lists) c.turns.found.items)) (ap (map (read lists)) popped ∙ map-append (read lists) others (c.in-Some.front ∷ []))
          (c.turns.invariant.explored g kinds aim ks k known sought within_kinds keeps));
    }

pub returns-clause-keeps : goal.returns-clause-keeps
returns-clause-keeps c g kinds aim ks kind known sought within keeps =
    let none : c.turns.work.items ≡ [] = grind (arith, common_steps) in
    let whole = Fulfils g kinds known.program.tasks aim in
    exploring_last g kinds known whole kind (map (read c.turns.lists) c.turns.found.items)
    (subst (λ work. IsExploring g kinds known whole ks kind (map (read c.turns.lists) work) (map (read c.turns.lists) c.turns.found.items)) none
    (c.turns.invariant.explored g kinds aim ks kind known sought within keeps))
