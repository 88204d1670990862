-- Texts in which the mentions of a node are replaced by a new name.
-- Held against the Language Server Protocol 3.17, "TextEdit" and "Rename Request": all edits speak of the text as it is before any of them is made.
use Rattle.std.specs.Prelude.{ℕ, ◌-◌, List, [], ◌∷◌, ◌++◌, filter, map, take, drop, nat_lt, if◌then◌else◌}
use Rattle.std.specs.Option.{option_map}
use Rattle.std.specs.Str.{bytes_eq}
use Rattle.lw_base.specs.declared.token.Span.{Span}
use Rattle.lw_places.specs.Mentions.{Mention}
use Rattle.lw_link_rules.specs.Links.{Texts}

-- What is left of a text from an offset on, where these spans of the text, given in their order, are replaced. Spans of one text do not overlap; one that
-- begins before the offset would be passed over.
abbrev pub replaced_from : List ℕ → ℕ → List ℕ → List Span → List ℕ
replaced_from new at rest [] = rest
replaced_from new at rest (s ∷ spans) =
    if nat_lt s.start at then replaced_from new at rest spans
    else take (s.start - at) rest ++ new ++ replaced_from new s.end (drop (s.end - at) rest) spans

-- a text with these spans of it replaced
abbrev pub replaced : List ℕ → List ℕ → List Span → List ℕ
replaced new text spans = replaced_from new 0 text spans

-- the mentions in the document at an address
abbrev pub spans_at : List ℕ → List Mention → List Span
spans_at address mentions = map (λ m. m.span) (filter (λ m. bytes_eq m.address address) mentions)

-- the texts once the mentions are replaced
abbrev pub renamed_texts : List ℕ → List Mention → Texts → Texts
renamed_texts new mentions texts address = option_map (λ text. replaced new text (spans_at address mentions)) (texts address)
