use Rattle.std.proofs.Common.{sym, ◌∙◌}
use Rattle.lw_scoping.specs.Links.{ByTest}
use Rattle.lw_scoping.proofs.Relations.{own_as}
use Rattle.lw_scoping.proofs.laws.own_symbols_follow_from_wanted_types.Goals as goal

pub returns : goal.returns
returns c = λ is_below is_under tree r same n is.
    own_as (ByTest is_below) (ByTest is_under) tree r (λ type under. sym (same type) ∙ under) (λ type under. same type ∙ under) n is
