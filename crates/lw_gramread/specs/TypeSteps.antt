-- The steps by which interfaces and unions are read.
use Rattle.std.specs.Prelude.{ℕ, zero, suc, Bool, true, false, not, ◌&&◌, if◌then◌else◌, List, [], Err}
use Rattle.lw_base.specs.declared.token.Span.{Span}
use Rattle.lw_grammar.specs.declared.declared_types.Interface.{Interface}
use Rattle.lw_grammar.specs.declared.declared_types.Attribute.{Attribute}
use Rattle.lw_grammar.specs.declared.declared_types.UnionDef.{UnionDef}
use Rattle.lw_grammar.specs.declared.declared_types.Member.{Member}
use Rattle.lw_grammar.specs.declared.declared_types.Member.TheVariants as member
use Rattle.lw_gramlex.specs.declared.token.Symbol.TheVariants as sign
use Rattle.lw_gramread.specs.declared.lexeme.Reserved.TheVariants as word
use Rattle.lw_gramread.specs.declared.reader.left.Spot.TheVariants as spot
use Rattle.lw_gramread.specs.declared.reader.left.Stop.TheVariants.{TooDeep}
use Rattle.lw_gramread.specs.Steps.{Reading, ◌>>=◌, ◌>>◌, pure, refuse, sees, sees_word, sees_text, sees_primitive, skip, takes, takes_reserved, symbol, free_word, feature, text, primitive, all_of, one, behind, separated}

unfoldable pub extended_names : Reading (List (List ℕ × Span))
extended_names = separated sign.Comma (free_word spot.Elsewhere)

unfoldable pub types_above : Reading (List (List ℕ × Span))
types_above = takes_reserved word.Extends >>= (λ extends. if extends then extended_names else pure [])

unfoldable pub unmarked_member : Reading Member
unmarked_member = λ ts.
    if sees_primitive ts then (primitive spot.Elsewhere >>= (λ p. pure (member.Plain p))) ts
    else if sees_text ts then (text spot.Elsewhere >>= (λ v. pure (member.Literal v.0))) ts
    else (free_word spot.Elsewhere >>= (λ n. pure (member.Named n.0 n.1))) ts

unfoldable pub plain_member : Reading Member
plain_member = takes sign.At >>= (λ refers. if refers then free_word spot.Elsewhere >>= (λ n. pure (member.Refers n.0 n.1)) else unmarked_member)

-- over the reader of what stands in parentheses, with them
module _ (inside : Reading (List Member)) where
  unfoldable pub single : Reading (List Member)
  single = λ ts. if sees sign.OpenParenthesis ts then inside ts else one plain_member ts

  unfoldable pub more_members : List Member → Reading (List Member)
  more_members front = behind front (all_of (sees sign.Bar) (skip >> single))

  unfoldable pub members : Reading (List Member)
  members = single >>= more_members

unfoldable pub members_inside : ℕ → Reading (List Member)
members_inside zero = λ ts. Err (TooDeep, ts)
members_inside (suc depth) = do
  skip
  inside ← members (members_inside depth)
  symbol sign.CloseParenthesis spot.Elsewhere
  pure inside

-- how deep parentheses may nest
abbrev pub deepest : ℕ
deepest = 64

unfoldable pub attribute_end : Reading (Unit {0})
attribute_end = takes sign.Semicolon >>= (λ ended. λ ts. if not ended && sees sign.Equals ts then refuse spot.Attribute ts else pure tt ts)

-- where parentheses may nest so deep
module _ (most : ℕ) where
  unfoldable pub type_end : List Member → Reading (Bool × List Member)
  type_end first = takes sign.OpenBracket >>= (λ list.
      if list then symbol sign.CloseBracket spot.Elsewhere >> pure (true, first)
      else more_members (members_inside most) first >>= (λ all. pure (false, all)))

  -- behind its name and the mark that it may be left out
  unfoldable pub attribute_behind : List ℕ × Span → Bool → Reading Attribute
  attribute_behind n optional = do
    symbol sign.Colon spot.Elsewhere
    first ← single (members_inside most)
    type ← type_end first
    attribute_end
    pure (record { name = n.0; span = n.1; optional = optional; list = type.0; members = type.1 })

  unfoldable pub attribute : Reading Attribute
  attribute = do
    n ← feature spot.Elsewhere
    optional ← takes sign.Question
    attribute_behind n optional

  unfoldable pub attributes : Reading (List Attribute)
  attributes = behind [] (all_of sees_word (one attribute))

  unfoldable pub interface : Reading Interface
  interface = do
    n ← free_word spot.Elsewhere
    above ← types_above
    symbol sign.OpenBrace spot.Elsewhere
    inner ← attributes
    symbol sign.CloseBrace spot.Elsewhere
    takes sign.Semicolon
    pure (record { name = n.0; file = 0; span = n.1; above = above; attributes = inner })

  unfoldable pub union_type : Reading UnionDef
  union_type = do
    n ← free_word spot.Elsewhere
    symbol sign.Equals spot.Elsewhere
    all ← members (members_inside most)
    takes sign.Semicolon
    pure (record { name = n.0; file = 0; span = n.1; members = all })
