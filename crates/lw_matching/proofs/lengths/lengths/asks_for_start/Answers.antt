use Rattle.std.proofs.Common.{◌≡◌, false, length, inl, inr, arith, sym, ap, ◌∙◌}
use Rattle.std.proofs.lemmas.Bool.{cases_lt, false≢true}
use Rattle.std.proofs.lemmas.List.{get_or_default}
use Rattle.std.proofs.Math.ListN.{get_or-eq_default}
use Rattle.regex_nfa.specs.Run.{state_of}
use Rattle.regex_nfa.specs.declared.state.State.TheVariants.{Look, Fail}
use Rattle.lw_matching.proofs.lengths.lengths.asks_for_start.Goals as goal

pub returns-in-Look : goal.returns-in-Look
returns-in-Look c = (
  λ is. absurd (false≢true is),
  λ looks.
      let states = c.deref-state-items.result.now in
      let i = c.loop-state.state-index in
      let there : state_of c.args.nfa.now i ≡ Look c.in-Look.look c.in-Look.next =
      rw c.deref-state-items.ensures.value at (get_or_default states i Fail _ c.loop-state-test.true ∙ c.in-Look.is) in
      let same : c.ne.result ≡ false = rw (looks i c.in-Look.look c.in-Look.next there) at c.ne.ensures in
      absurd (false≢true (sym same ∙ c.if-ne.true)),
)

pub returns : goal.returns
returns c = (
  λ _ q look next is.
      let states = c.args.nfa.now.states.items in
      elim (cases_lt q (length states)) [
        | inl lt ↦ c.loop-state.invariant q look next (omega (arith, lt, c.loop-state-test.false, ap length c.deref-state-items.ensures.value)) is
        | inr ge ↦ (let past = get_or-eq_default states Fail {n = q} ge in absurd (let both : Look look next ≡ Fail = sym is ∙ past in cc))
      ],
  search,
)
