use Rattle.std.proofs.Common.{[], refl, sym, ◌∙◌, inl, inr, subst, get_or, arith, true≢false}
use Rattle.std.proofs.lemmas.Option.{slice_get-get_or, slice_get_within}
use Rattle.lw_grammar.specs.Subtypes.{IsSubtype}
use Rattle.lw_grammar.specs.Subtypes as subtype
use Rattle.lw_numbers.proofs.Deciding.{told_same, told_apart}
use Rattle.lw_numbers.proofs.Finding.{none_below, found_below}
use Rattle.lw_numbers.proofs.Reaching.{at_place}
use Rattle.lw_numbers.proofs.subtypes.subtypes.Subtypes.is_below.Goals as goal

pub returns-then-eq : goal.returns-then-eq
returns-then-eq c = λ g are.
    let equal = told_same c.args.one.now c.args.other.now c.args.one.now c.eq.ensures refl c.if-eq.true in
    (λ told. subst (IsSubtype g c.args.one.now) equal subtype.same, λ below. refl)

pub returns-in-Some-Some : goal.returns-in-Some-Some
returns-in-Some-Some c = λ g are.
    let table = c.args.self.now in
    let one = c.args.one.now in
    let other = c.args.other.now in
    let low = c.in-Some-Some.low in
    let high = c.in-Some-Some.high in
    let differ = told_apart one other one c.eq.ensures refl c.if-eq.false in
    let inside = slice_get_within table.names low one (at_place table.names one low (sym c.in-Some-Some.ensures.first)) in
    let row_at = slice_get-get_or table.above low [] (omega (arith, are.all, inside)) in
    let row = get_or table.above low [] in
    let stands = c.reaches.ensures.row row row_at in
    let found = found_below g table are one other differ c.reaches.ensures.distinct low high row (sym c.in-Some-Some.ensures.first) (sym c.in-Some-Some.ensures'.first) row_at in
    (λ told. found.0 (stands.0 told), λ below. stands.1 (found.1 below))

pub returns-in_default : goal.returns-in_default
returns-in_default c = λ g are.
    let differ = told_apart c.args.one.now c.args.other.now c.args.one.now c.eq.ensures refl c.if-eq.false in (
      λ told. absurd (true≢false (sym told)),
      λ below. absurd (none_below g c.args.self.now are c.args.one.now c.args.other.now differ (inr (sym c.in_default.ensures'.first)) below),
    )

pub returns-in_default-2 : goal.returns-in_default-2
returns-in_default-2 c = λ g are.
    let differ = told_apart c.args.one.now c.args.other.now c.args.one.now c.eq.ensures refl c.if-eq.false in (
      λ told. absurd (true≢false (sym told)),
      λ below. absurd (none_below g c.args.self.now are c.args.one.now c.args.other.now differ (inl (sym c.number.ensures.first ∙ c.in_default.is-0)) below),
    )
