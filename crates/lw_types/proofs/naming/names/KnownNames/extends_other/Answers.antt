use Rattle.std.proofs.Common.{ℕ, List, length, Contains, sym, ap, subst, arith}
use Rattle.std.proofs.lemmas.Bool.{false≢true, iff_false}
use Rattle.lw_base.specs.declared.token.Span.{Span}
use Rattle.lw_types.specs.Rounds.{IsNoInterface}
use Rattle.lw_types.proofs.Membership.{none_more, none_all, in_map}
use Rattle.lw_types.proofs.naming.names.KnownNames.extends_other.Goals as goal

pub loop-name-preserved : goal.loop-name-preserved
loop-name-preserved c =
    let lent = c.as_slice-name-items in
    let P : List ℕ × Span → Type 0 = λ named. IsNoInterface c.args.self.now.g.now named.0 in
    none_more P lent.result.now c.args.interface.now.above c.loop-name.name-index c.loop-name-item.result lent.ensures (omega arith) c.loop-name-item.is
    c.loop-name.invariant (iff_false c.is_no_interface.ensures c.if-is_no_interface.false)

pub returns : goal.returns
returns c =
    let g = c.args.self.now.g.now in
    let x = c.args.interface.now in
    let lent = c.as_slice-name-items in
    let P : List ℕ × Span → Type 0 = λ named. IsNoInterface g named.0 in
    let none : (named : List ℕ × Span) → Contains x.above named → ¬ IsNoInterface g named.0 =
    none_all P x.above c.loop-name.name-index (omega (arith, ap length lent.ensures)) c.loop-name.invariant in (
      λ yes. absurd (false≢true yes),
      λ is.
          let named = in_map (λ (n : List ℕ × Span). n.0) x.above is.0 is.1 in
          absurd (none named.0 named.1 (subst (IsNoInterface g) (sym named.2) is.2)),
    )
