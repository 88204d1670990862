use Rattle.std.proofs.Common.{◌≡◌, List, [], ◌∷◌, length, refl, sym, ap, ◌∙◌, arith}
use Rattle.std.specs.Option.{option_map}
use Rattle.std.proofs.lemmas.Bool.Decides.{Decides-eqb}
use Rattle.lw_base.specs.declared.token.Span.{Span}
use Rattle.lw_rename.specs.Rereading.{kept, treeless, untouched}
use Rattle.lw_rename.proofs.Listing.{not_both}
use Rattle.lw_rename.proofs.again.again.Goals as goal

none_long : (s : List Span) → length s ≡ 0 → s ≡ []
none_long [] none = refl
none_long (t ∷ s) none = absurd (omega (arith, none))

pub returns-in_default-clause-kept : goal.returns-in_default-clause-kept
returns-in_default-clause-kept c = treeless (ap (option_map (λ t. t.now)) c.in_default.is)

pub returns-then-is_empty-clause-kept : goal.returns-then-is_empty-clause-kept
returns-then-is_empty-clause-kept c =
    untouched (none_long c.args.spans.now ((Decides-eqb (length c.args.spans.now) 0).0 (sym c.is_empty.ensures ∙ c.if-is_empty.true)))

pub returns-in-Ok-clause-kept : goal.returns-in-Ok-clause-kept
returns-in-Ok-clause-kept c =
    kept (ap (option_map (λ t. t.now)) c.in-Some.is)
    (λ empty. not_both ((Decides-eqb (length c.args.spans.now) 0).1 (ap length empty)) (sym c.is_empty.ensures ∙ c.if-is_empty.false)) c.in-Ok.ensures.kept
