use Rattle.std.proofs.Common.{◌≡◌, ℕ, cond, Some, refl, sym, ap, subst, ◌∙◌}
use Rattle.std.specs.Ordering.{eq_by_cmp, nat_cmp}
use Rattle.std.specs.BTreeMap as tree
use Rattle.std.specs.FinMap as map
use Rattle.lw_index.specs.declared.parts.Document.{Document}
use Rattle.lw_index.specs.Turns.{reserved, emptied, offered, swept, TurnsAll, AreFilledAlike}
use Rattle.lw_index.proofs.AllTurns.{all_reserved_alike}
use Rattle.lw_index.proofs.Entering.{entered_with, entered_alike, entered_same, same_document, none_document as no_document}
use Rattle.lw_index.proofs.View.{shown_get, shown_insert}
use Rattle.lw_index.proofs.Asked.{gone_is, was_there}
use Rattle.lw_index.proofs.Exchanged.{on_ok_is, on_err_is, turns_known, exchanged, swept_seen, alike_chain}
use Rattle.lw_index.proofs.index.Index.set.Goals as goal
use Rattle.lw_index.proofs.index.Index.set.Goals.{in-Some, in_default}

pub invariant_of-self : goal.invariant_of-self
invariant_of-self c =
    let names = c.self.inside.names in
    let ready = c.reserve_all-reserved.new.names in
    let after = c.sweep_all.new.names in
    let free : AreFilledAlike names ready = on_err_is c.reserve_all-reserved.result (sym c.is_err.ensures.value ∙ c.if-is_err.true) c.reserve_all-reserved.ensures.refused in
    entered_alike c.self.inside.documents names after (alike_chain names ready after free (swept_seen c.reserve_all-reserved.new.place.1 c.as_slice-then-is_err.result.now ready after c.sweep_all.ensures.turned)) c.self.invariant

pub invariant_of-self-in-Err : goal.invariant_of-self-in-Err
invariant_of-self-in-Err c =
    let names = c.self.inside.names in
    let ready = c.reserve_all-reserved.new.names in
    let after = c.sweep_all-in-Err.new.names in
    let made : TurnsAll (λ _. reserved c.args.doc) c.in_ok-copy.field-0 c.as_slice.result.now names ready = on_ok_is c.reserve_all-reserved.result (sym c.is_err.ensures.value ∙ c.if-is_err.false) c.reserve_all-reserved.ensures.made in
    let free : AreFilledAlike names ready = all_reserved_alike c.args.doc c.in_ok-copy.field-0 c.as_slice.result.now names ready made in
    entered_same c.self.inside.documents c.insert.new.self after c.in-Err.ensures.err
    (entered_alike c.self.inside.documents names after (alike_chain names ready after free (swept_seen c.reserve_all-reserved.new.place.1 c.as_slice-in-Err.result.now ready after c.sweep_all-in-Err.ensures.turned)) c.self.invariant)

pub invariant_of-self-in-Ok : goal.invariant_of-self-in-Ok
invariant_of-self-in-Ok c =
    let documents = c.self.inside.documents in
    let names = c.self.inside.names in
    let old = c.or_nothing-uri.result in
    let new : Document = record { uri = c.in_ok-own.own; exports = c.from_vec.result } in
    let ready = c.reserve_all-reserved.new.names in
    let free = c.withdraw_all.new.names in
    let full = c.match-get.self-inside.names in
    let after = c.sweep_all-in-Ok.new.names in
    let uri : c.in_ok-copy.field-0 ≡ new.uri = c.in_ok-copy.ensures ∙ sym c.in_ok-own.ensures in
    let made : TurnsAll (λ _. reserved c.args.doc) new.uri new.exports names ready = turns_known (λ _. reserved c.args.doc) c.in_ok-copy.field-0 new.uri c.as_slice.result.now new.exports names ready uri (c.as_slice.ensures.value ∙ sym c.from_vec.ensures)
    (on_ok_is c.reserve_all-reserved.result (sym c.is_err.ensures.value ∙ c.if-is_err.false) c.reserve_all-reserved.ensures.made) in
    let out : TurnsAll (λ _. emptied) old.uri old.exports ready free = turns_known (λ _. emptied) old.uri old.uri c.as_slice-in-Ok.result.now old.exports ready free refl c.as_slice-in-Ok.ensures c.withdraw_all.ensures.turned in
    let away : TurnsAll (λ _. swept) old.uri old.exports full after = turns_known (λ _. swept) c.withdraw_all.new.place.1 old.uri c.as_slice-in-Ok-2.result.now old.exports full after c.withdraw_all.ensures.uri c.as_slice-in-Ok-2.ensures c.sweep_all-in-Ok.ensures.turned in
    elim c.match-get.branch [
      | in-Some w ↦ (
          let document : w.in-Some.document.now ≡ new = same_document w.in-Some.document.now new (w.in-Some.ensures.value ∙ c.in-Ok.ensures.updates.1) in
          let filled_in : TurnsAll (λ x. offered c.args.doc x.node) new.uri new.exports free w.offer_all.new.names = turns_known (λ x. offered c.args.doc x.node) c.reserve_all-reserved.new.place.1 new.uri w.as_slice-in-Some.result.now new.exports free w.offer_all.new.names
          (c.reserve_all-reserved.ensures.uri ∙ uri) (w.as_slice-in-Some.ensures ∙ ap (λ (d : Document). d.exports) document) w.offer_all.ensures.turned in
          let offers : TurnsAll (λ x. offered c.args.doc x.node) new.uri new.exports free full = subst (λ s. TurnsAll (λ x. offered c.args.doc x.node) new.uri new.exports free s.names) (sym w.self-inside-is) filled_in in
          entered_with documents names c.self.invariant c.args.doc.0 old.uri old.exports (was_there c.in-Ok.old _ old c.in-Ok.ensures.old c.or_nothing-uri.ensures) c.args.doc refl new
          (λ other e is same. c.requires other e (ap (λ v. map.get v other) (sym c.self.view_is) ∙ shown_get documents other ∙ is) (same ∙ c.in_ok-own.ensures))
          c.match-get.self-inside.documents after (λ q. ap (λ s. tree.get nat_cmp s.documents q) w.self-inside-is ∙ c.in-Ok.ensures.updates.0 q)
          (exchanged c.args.doc new.uri old.uri new.exports old.exports names ready free full after made out offers away))
      | in_default w ↦ absurd (no_document new (w.in_default.ensures.value ∙ c.in-Ok.ensures.updates.1))
    ]

pub returns-clause-ok : goal.returns-clause-ok
returns-clause-ok c =
    let documents = c.self.inside.documents in
    let new : Document = record { uri = c.in_ok-own.own; exports = c.from_vec.result } in
    let known : new ≡ record { uri = c.args.uri.now; exports = c.args.exports.items } = λ i. record { uri = c.in_ok-own.ensures i; exports = c.from_vec.ensures i } in
    let inserted : (q : ℕ) → tree.get nat_cmp c.match-get.self-inside.documents q ≡ cond (eq_by_cmp nat_cmp c.args.doc.0 q) (Some new) (tree.get nat_cmp documents q) = elim c.match-get.branch [
      | in-Some w ↦ (λ q. ap (λ s. tree.get nat_cmp s.documents q) w.self-inside-is ∙ c.in-Ok.ensures.updates.0 q)
      | in_default w ↦ (λ q. ap (λ s. tree.get nat_cmp s.documents q) w.self-inside-is ∙ c.in-Ok.ensures.updates.0 q)
    ] in
    shown_insert documents c.match-get.self-inside.documents c.args.doc.0 new inserted ∙ ap (λ v. map.insert v c.args.doc.0 new) c.self.view_is ∙ ap (map.insert c.args.self.now c.args.doc.0) known

pub returns-clause-gone : goal.returns-clause-gone
returns-clause-gone c = (refl, gone_is c.self.inside.documents c.args.self.now c.args.doc.0 c.in-Ok.old c.or_nothing-uri.result c.self.view_is c.in-Ok.ensures.old c.or_nothing-uri.ensures)
