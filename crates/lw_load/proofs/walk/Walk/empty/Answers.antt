use Rattle.std.proofs.Common.{[], ◌∷◌, ap, ◌∙◌}
use Rattle.std.proofs.lemmas.List.{nil_from_length}
use Rattle.lw_load.proofs.Seen.{seen_alone}
use Rattle.lw_load.proofs.walk.Walk.empty.Goals as goal

pub returns-clause-seen : goal.returns-clause-seen
returns-clause-seen c =
    seen_alone c.new-2.result.keys c.mark.new.seen.keys c.in_ok-path.path (nil_from_length _ c.new-2.ensures.len) c.in_ok-mark.field-0 c.in_ok-mark.ensures.new c.in_ok-mark.ensures.keys
    ∙ ap (λ path. path ∷ []) c.in_ok-path.ensures
