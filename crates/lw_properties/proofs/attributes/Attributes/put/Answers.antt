use Rattle.std.proofs.Common.{◌≡◌, ℕ, List, bytes_eq, Some, cond, ap, ◌∙◌, subst}
use Rattle.std.specs.Map.{lookup}
use Rattle.lw_properties.proofs.Knowing.{put_mapped}
use Rattle.lw_properties.proofs.attributes.Attributes.put.Goals as goal

pub returns : goal.returns
returns c q =
    let old = c.self.inside.known.entries in
    let then = c.insert.new.self.entries in
    let firsts = c.args.firsts in
    let named = subst (λ key. (q : List ℕ) → lookup (bytes_eq q) then ≡ cond (bytes_eq key q) (Some firsts) (lookup (bytes_eq q) old)) c.in_ok-key.ensures c.in_ok-insert.ensures.updates.0 in
    put_mapped (λ m. m.by_name.entries) old then firsts c.args.name.now named q
    ∙ ap (λ es. cond (bytes_eq c.args.name.now q) (Some firsts.by_name.entries) (lookup (bytes_eq q) es)) c.self.view_is
