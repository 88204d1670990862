use Rattle.std.proofs.Common.{◌≡◌, ◌∷◌, [], ◌++◌, sym, ap, ap₂, ◌∙◌, arith}
use Rattle.std.specs.Option.{option_map}
use Rattle.std.proofs.lemmas.List.{map-append}
use Rattle.lw_base.specs.declared.numbers.KindId.{KindId}
use Rattle.lw_look.specs.Looks.{window}
use Rattle.lw_first.specs.Heads.{kinds_in, seen_in}
use Rattle.lw_first.proofs.Windows.{window_more}
use Rattle.lw_first.proofs.heads.head.Head.window.Goals as goal

pub loop-place-preserved : goal.loop-place-preserved
loop-place-preserved c = record {
  seen =
      let number = option_map (λ (kind : KindId). kind.0) in
      ap (λ items. seen_in items) c.push.ensures.items
      ∙ map-append number c.loop-place.seen.items (c.get.result ∷ [])
      ∙ ap₂ (λ ws w. ws ++ w ∷ []) c.loop-place.invariant.seen c.get.ensures
      ∙ sym (window_more c.loop-place.place (kinds_in c.args.self));
  len = omega arith;
}

pub returns : goal.returns
returns c = let e : c.loop-place.place ≡ c.args.k = omega arith in c.loop-place.invariant.seen ∙ ap (λ k. window k (kinds_in c.args.self)) e
