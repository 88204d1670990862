-- A token at the start of a text, as the code has it, is told by the token that stands for it.
use Rattle.std.proofs.Common.{◌≡◌, Option, Some, None, option_map, refl, sym, ap, ◌∙◌}
use Rattle.lw_tokens.specs.NextToken as token
use Rattle.lw_lexer.specs.declared.next.Next.{Next}
use Rattle.lw_lexer.specs.Place.{next_of}

-- as the code has it
abbrev next_from : token.Next → Next
next_from next = record { kind = record { 0 = next.kind }; hidden = next.hidden; bytes = next.bytes }

back_again : (a : Option Next) → option_map next_from (option_map next_of a) ≡ a
back_again None = refl
back_again (Some next) = refl

pub same_place : (a b : Option Next) → option_map next_of a ≡ option_map next_of b → a ≡ b
same_place a b is = sym (back_again a) ∙ ap (option_map next_from) is ∙ back_again b
