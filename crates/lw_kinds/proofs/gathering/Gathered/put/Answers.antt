use Rattle.std.proofs.Common.{◌≡◌, Option, None, Some, false, is_some, sym, ap, ◌∙◌, refl, true≢false}
use Rattle.std.specs.Map.{lookup}
use Rattle.std.specs.Str.{bytes_eq}
use Rattle.indexmap.specs.IndexMap.{insert_entry}
use Rattle.indexmap.proofs.CallerLemmas.{insert_entry-new}
use Rattle.lw_kinds.proofs.FirstTexts.{put_use-new, put_use-present}
use Rattle.lw_kinds.proofs.gathering.Gathered.put.Goals as goal

is_none : {X : Type 0} (o : Option X) → is_some o ≡ false → o ≡ None
is_none None is = refl
is_none (Some x) is = absurd (true≢false is)

pub returns-in_ok-insert-clause-keywords : goal.returns-in_ok-insert-clause-keywords
returns-in_ok-insert-clause-keywords c =
    let map = c.args.self.now.keywords in
    let text = c.args.text.now in
    let absent : is_some (lookup (bytes_eq text) map.entries) ≡ false = sym c.contains_key.ensures ∙ c.if-not-contains_key.true in
    c.in_ok-insert.ensures.entries
    ∙ ap (λ key. insert_entry bytes_eq map.entries key c.args.first) c.in_ok-copy.ensures
    ∙ insert_entry-new bytes_eq map text c.args.first (is_none (lookup (bytes_eq text) map.entries) absent)
    ∙ sym (put_use-new map.entries (text, c.args.first) absent)

pub returns-else-not-contains_key-clause-keywords : goal.returns-else-not-contains_key-clause-keywords
returns-else-not-contains_key-clause-keywords c =
    sym (put_use-present c.args.self.now.keywords.entries (c.args.text.now, c.args.first) (sym c.contains_key.ensures ∙ c.if-not-contains_key.false))
