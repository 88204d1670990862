use Rattle.std.proofs.Common.{◌≡◌, ◌↔◌, true, Some, cond, subst, refl, sym, ap, ◌∙◌}
use Rattle.std.specs.Map.{lookup}
use Rattle.std.proofs.lemmas.Bool.{true≢false}
use Rattle.lw_properties.specs.Mixing.{putting_of, IsAheadOf, LentKey, is_key}
use Rattle.lw_properties.proofs.Asking.{ruled_out}
use Rattle.lw_properties.proofs.FirstPuts.{Leads, leads_alone, leads_known, first_put, kept_put}
use Rattle.lw_properties.proofs.firsts.put_first.Goals as goal
use Rattle.lw_properties.proofs.firsts.put_first.Goals.{in-Some, in-None}

pub returns-in_ok-insert : goal.returns-in_ok-insert
returns-in_ok-insert c puts are =
    let put = putting_of c.args.put.now in
    let key : LentKey = (c.args.put.now.type_name, c.args.put.now.property, c.args.put.now.list) in
    let entries = c.args.firsts.now.entries in
    let leads : Leads puts entries put are key refl = elim c.match-get.branch [
      | in-Some w ↦
          let told = subst (λ at. (w.is_ahead-is_first.result ≡ true) ↔ IsAheadOf at w.in-Some.known.now) c.at_of-at.ensures w.is_ahead-is_first.ensures in
          leads_known puts entries put are key refl w.in-Some.known.now w.in-Some.ensures.value (told.0 (sym w.is_first-is ∙ c.if-is_first.true))
      | in-None w ↦ leads_alone puts entries put are key refl w.in-None.ensures.value
    ] in
    first_put puts entries put are key refl c.insert.new.self.entries leads
    (λ q. c.in_ok-insert.ensures.updates.0 q ∙ ap (λ at. cond (is_key key q) (Some at) (lookup (is_key q) entries)) c.at_of-at.ensures)

pub returns-else-is_first : goal.returns-else-is_first
returns-else-is_first c puts are =
    let put = putting_of c.args.put.now in
    let key : LentKey = (c.args.put.now.type_name, c.args.put.now.property, c.args.put.now.list) in
    let entries = c.args.firsts.now.entries in
    elim c.match-get.branch [
      | in-Some w ↦
          let told = subst (λ at. (w.is_ahead-is_first.result ≡ true) ↔ IsAheadOf at w.in-Some.known.now) c.at_of-at.ensures w.is_ahead-is_first.ensures in
          kept_put puts entries put are key refl w.in-Some.known.now w.in-Some.ensures.value
          (ruled_out w.is_ahead-is_first.result told.0 told.1 (sym w.is_first-is ∙ c.if-is_first.false))
      | in-None w ↦ absurd (true≢false (sym w.is_first-is ∙ c.if-is_first.false))
    ]
