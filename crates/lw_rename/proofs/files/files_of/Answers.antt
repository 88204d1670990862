use Rattle.std.proofs.Common.{◌≡◌, ◌++◌, List, [], ◌∷◌, length, refl, sym, ap, ◌∙◌, arith}
use Rattle.std.proofs.lemmas.Bool.Decides.{Decides-eqb}
use Rattle.std.proofs.lemmas.List.{append-nil}
use Rattle.std.proofs.lemmas.Option.{slice_get_read}
use Rattle.lw_base.specs.declared.token.Span.{Span}
use Rattle.lw_query.specs.declared.view.View.{View}
use Rattle.lw_rename.specs.SpansOf.{file_of, files_over}
use Rattle.lw_rename.specs.declared.files.FileSpans.{FileSpans}
use Rattle.lw_rename.proofs.FirstApart.{some_at}
use Rattle.lw_rename.proofs.Lent.{filed_more, filed_one}
use Rattle.lw_rename.proofs.Listing.{not_both}
use Rattle.lw_rename.proofs.files.files_of.Goals as goal
use Rattle.lw_rename.proofs.files.files_of.Goals.{then-not-is_empty+in_ok-copy+in_ok-from_slice+in_ok-push, else-not-is_empty}

none_long : (s : List Span) → length s ≡ 0 → [] ≡ s
none_long [] none = refl
none_long (t ∷ s) none = absurd (omega (arith, none))

pub filing-preserved : goal.filing-preserved
filing-preserved c =
    let views = c.args.views.now in
    let spans = c.args.spans.now in
    let i = c.filing.i in
    let s = c.index-spans-i.result in
    let there = slice_get_read spans (length spans) i s refl (omega arith) c.index-spans-i.is in
    let list = c.as_slice-list.result.now in
    elim c.if-not-is_empty.branch [
      | then-not-is_empty+in_ok-copy+in_ok-from_slice+in_ok-push w ↦
          let v = w.index-views-i.result in
          let at = slice_get_read views (length views) i v refl c.filing-test.true w.index-views-i.is in
          filed_more views spans i v s c.filing.files (files_over views spans) c.if-not-is_empty.files at there c.filing.invariant
          (w.files-is ∙ w.in_ok-push.ensures.ok
          ∙ ap (λ (f : List FileSpans). c.filing.files ++ f)
          (filed_one v s _
          (λ empty. not_both ((Decides-eqb (length list) 0).1 (ap length (c.as_slice-list.ensures ∙ empty))) (sym c.is_empty.ensures ∙ w.if-not-is_empty.true))
          (w.in_ok-copy.ensures ∙ ap (λ (x : View). x.uri.now) (sym w.index-views-i.is)) (w.in_ok-from_slice.ensures ∙ c.as_slice-list.ensures)))
      | else-not-is_empty w ↦
          let found = some_at views i c.filing-test.true in
          let empty = none_long s (ap length (sym c.as_slice-list.ensures) ∙ (Decides-eqb (length list) 0).0 (sym c.is_empty.ensures ∙ w.if-not-is_empty.false)) in
          filed_more views spans i found.0 s c.filing.files (files_over views spans) c.if-not-is_empty.files found.1 there c.filing.invariant
          (w.files-is ∙ sym (append-nil c.filing.files) ∙ ap (λ (x : List Span). c.filing.files ++ file_of found.0 x) empty)
    ]
