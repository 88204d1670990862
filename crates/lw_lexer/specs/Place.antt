-- The token at the start of a text, as the code has it.
use Rattle.lw_tokens.specs.NextToken as token
use Rattle.lw_lexer.specs.declared.next.Next.{Next}

-- the token that stands for it
abbrev pub next_of : Next → token.Next
next_of next = record { kind = next.kind.0; bytes = next.bytes; hidden = next.hidden }
