-- Interfaces and unions as they are read, beside the stack.
use Rattle.std.proofs.Common.{ℕ, zero, suc, ◌≡◌, ◌<◌, Bool, true, false, List, [], ◌∷◌, ◌++◌, length, Option, Some, None, append-nil, refl, sym, arith}
use Rattle.lw_base.specs.declared.token.Span.{Span}
use Rattle.lw_grammar.specs.declared.declared_types.Member.{Member}
use Rattle.lw_gramlex.specs.declared.token.Symbol.TheVariants as sign
use Rattle.lw_gramread.specs.declared.lexeme.Reserved.{Reserved}
use Rattle.lw_gramread.specs.declared.lexeme.Reserved.TheVariants as word
use Rattle.lw_gramread.specs.declared.lexeme.Lexeme.{Lexeme}
use Rattle.lw_gramread.specs.declared.lexeme.Lexeme.TheVariants.{Word, Text, Regex, Flagged, Sign, Other}
use Rattle.lw_gramread.specs.declared.reader.left.Spot.TheVariants as spot
use Rattle.lw_grammar.specs.declared.terminal.Primitive.{Primitive}
use Rattle.lw_gramread.specs.Lexemes.{primitive_of}
use Rattle.lw_gramread.specs.OptionalTokens.{MayTake}
use Rattle.lw_gramread.specs.DeclaredTypes as types
use Rattle.lw_gramread.specs.DeclaredTypes.{SpellsMoreNames, SpellsAbove, SpellsSingle, SpellsMembers, SpellsMoreMembers, SpellsTypeEnd, SpellsAttribute, SpellsAttributes, SpellsInterface, SpellsUnion}
use Rattle.lw_gramread.specs.Steps.{◌>>◌, pure, sees, sees_reserved, sees_word, same_symbol, same_reserved, skip, takes, free_word, feature, text, primitive, all_of, one}
use Rattle.lw_gramread.specs.TypeSteps.{extended_names, types_above, unmarked_member, plain_member, single, more_members, members, members_inside, type_end, attribute_end, attribute_behind, attribute, attributes, interface, union_type}
use Rattle.lw_gramread.proofs.Machine.{Sym, Want, WantName, May, Above, NamesOpen, Attributes, Single, TypeEnd, AttributeMembers, AttributeEnd, MembersEnd, MembersClose, Bottom, InType, Verdict, place}
use Rattle.lw_gramread.proofs.Shorter.{single_shorter, attribute_shorter}
use Rattle.lw_gramread.proofs.At.{At, read, stuck, deep, along, bind, done, either_way, finish, Seen, comes, comes_not, seen, SeenWord, word_comes, word_comes_not, seen_word, symbol_at, name_at, skip_may, Turns, gathered_at}

-- ---- what a stack wants where nothing goes on

-- behind a name that is extended the brace comes where no comma does
names_open : (d : ℕ) (i : Bool) (others : List Sym) (ts : List Lexeme) → sees sign.Comma ts ≡ false →
    place d (InType i) (NamesOpen ∷ others) ts ≡ place d (InType i) (Want sign.OpenBrace ∷ Attributes ∷ others) ts
names_open d i others [] h = refl
names_open d i others (Word n r s ∷ ts) h = refl
names_open d i others (Text v s ∷ ts) h = refl
names_open d i others (Regex p s ∷ ts) h = refl
names_open d i others (Flagged s ∷ ts) h = refl
names_open d i others (Other s ∷ ts) h = refl
names_open d i others (Sign y s ∷ ts) h = either_way (same_symbol y sign.OpenBrace) (λ e. rw (h, e) refl) (λ e. rw (h, e) refl)

above_open : (d : ℕ) (i : Bool) (others : List Sym) (ts : List Lexeme) → sees_reserved word.Extends ts ≡ false →
    place d (InType i) (Above ∷ others) ts ≡ place d (InType i) (Want sign.OpenBrace ∷ Attributes ∷ others) ts
above_open d i others [] h = refl
above_open d i others (Word n None s ∷ ts) h = refl
above_open d i others (Word n (Some r) s ∷ ts) h = rw h refl
above_open d i others (Text v s ∷ ts) h = refl
above_open d i others (Regex p s ∷ ts) h = refl
above_open d i others (Flagged s ∷ ts) h = refl
above_open d i others (Other s ∷ ts) h = refl
above_open d i others (Sign y s ∷ ts) h = either_way (same_symbol y sign.OpenBrace) (λ e. rw e refl) (λ e. rw e refl)

members_close : (d : ℕ) (i : Bool) (others : List Sym) (ts : List Lexeme) → sees sign.Bar ts ≡ false →
    place d (InType i) (MembersClose ∷ others) ts ≡ place d (InType i) (Want sign.CloseParenthesis ∷ others) ts
members_close d i others [] h = refl
members_close d i others (Word n r s ∷ ts) h = refl
members_close d i others (Text v s ∷ ts) h = refl
members_close d i others (Regex p s ∷ ts) h = refl
members_close d i others (Flagged s ∷ ts) h = refl
members_close d i others (Other s ∷ ts) h = refl
members_close d i others (Sign y s ∷ ts) h = rw h refl

attribute_members_end : (d : ℕ) (i : Bool) (others : List Sym) (ts : List Lexeme) → sees sign.Bar ts ≡ false →
    place d (InType i) (AttributeMembers ∷ others) ts ≡ place d (InType i) (AttributeEnd ∷ others) ts
attribute_members_end d i others [] h = refl
attribute_members_end d i others (Word n r s ∷ ts) h = refl
attribute_members_end d i others (Text v s ∷ ts) h = refl
attribute_members_end d i others (Regex p s ∷ ts) h = refl
attribute_members_end d i others (Flagged s ∷ ts) h = refl
attribute_members_end d i others (Other s ∷ ts) h = refl
attribute_members_end d i others (Sign y s ∷ ts) h = rw h refl

attribute_done : (d : ℕ) (others : List Sym) (ts : List Lexeme) → sees sign.Semicolon ts ≡ false → sees sign.Equals ts ≡ false →
    place d (InType true) (AttributeEnd ∷ others) ts ≡ place d (InType true) others ts
attribute_done d others [] h g = refl
attribute_done d others (Word n r s ∷ ts) h g = refl
attribute_done d others (Text v s ∷ ts) h g = refl
attribute_done d others (Regex p s ∷ ts) h g = refl
attribute_done d others (Flagged s ∷ ts) h g = refl
attribute_done d others (Other s ∷ ts) h g = refl
attribute_done d others (Sign y s ∷ ts) h g = rw (h, g) refl

members_may_end : (d : ℕ) (i : Bool) (others : List Sym) (ts : List Lexeme) → sees sign.Bar ts ≡ false →
    place d (InType i) (MembersEnd ∷ others) ts ≡ place d (InType i) (May sign.Semicolon ∷ others) ts
members_may_end d i others [] h = refl
members_may_end d i others (Word n r s ∷ ts) h = refl
members_may_end d i others (Text v s ∷ ts) h = refl
members_may_end d i others (Regex p s ∷ ts) h = refl
members_may_end d i others (Flagged s ∷ ts) h = refl
members_may_end d i others (Other s ∷ ts) h = refl
members_may_end d i others (Sign y s ∷ ts) h = rw h refl

type_members : (d : ℕ) (i : Bool) (others : List Sym) (ts : List Lexeme) → sees sign.OpenBracket ts ≡ false →
    place d (InType i) (TypeEnd ∷ others) ts ≡ place d (InType i) (AttributeMembers ∷ others) ts
type_members d i others [] h = refl
type_members d i others (Word n r s ∷ ts) h = refl
type_members d i others (Text v s ∷ ts) h = refl
type_members d i others (Regex p s ∷ ts) h = refl
type_members d i others (Flagged s ∷ ts) h = refl
type_members d i others (Other s ∷ ts) h = refl
type_members d i others (Sign y s ∷ ts) h = rw h refl

attributes_close : (d : ℕ) (i : Bool) (others : List Sym) (ts : List Lexeme) → sees_word ts ≡ false →
    place d (InType i) (Attributes ∷ others) ts ≡ place d (InType i) (Want sign.CloseBrace ∷ May sign.Semicolon ∷ others) ts
attributes_close d i others [] h = refl
attributes_close d i others (Word n r s ∷ ts) h = absurd (cc h)
attributes_close d i others (Text v s ∷ ts) h = refl
attributes_close d i others (Regex p s ∷ ts) h = refl
attributes_close d i others (Flagged s ∷ ts) h = refl
attributes_close d i others (Other s ∷ ts) h = refl
attributes_close d i others (Sign y s ∷ ts) h = either_way (same_symbol y sign.CloseBrace) (λ e. rw e refl) (λ e. rw e refl)

-- ---- names

module _ (d : ℕ) (i : Bool) (others : List Sym) where
  more_names_turns : Turns (sees sign.Comma) (skip >> one (free_word spot.Elsewhere)) (place d (InType i) (NamesOpen ∷ others)) (place d (InType i) (Want sign.OpenBrace ∷ Attributes ∷ others))
      (λ ts. Unit {0}) (λ ts. Unit {0}) SpellsMoreNames
  unfolding same_symbol
  more_names_turns = record {
    empty = refl;
    leaves = λ ts u e. (names_open d i others ts e, types.none, tt);
    turn = λ ts u e. from ts e (seen sign.Comma ts);
  }
    where
      from : (ts : List Lexeme) → sees sign.Comma ts ≡ true → Seen sign.Comma ts →
          At (place d (InType i) (NamesOpen ∷ others) ts) (place d (InType i) (NamesOpen ∷ others))
          (λ mid xs. (length mid < length ts) × Unit {0} × ((rest : List Lexeme) (ys : List (List ℕ × Span)) → SpellsMoreNames mid rest ys → SpellsMoreNames ts rest (xs ++ ys)))
          ((skip >> one (free_word spot.Elsewhere)) ts)
      from ts e (comes_not h) = absurd (cc (e, h))
      from ts e (comes s us) =
          bind _ (name_at d (InType i) (NamesOpen ∷ others) us) (λ mid n h. done (n ∷ []) mid (rw h (omega arith), tt, λ rest ys m. rw h (types.more m)))

  names_at : (w : List ℕ) (x : Span) (ts : List Lexeme) → At (place d (InType i) (WantName ∷ NamesOpen ∷ others) ts) (place d (InType i) (Want sign.OpenBrace ∷ Attributes ∷ others))
      (λ rest all. SpellsAbove (Word w (Some word.Extends) x ∷ ts) rest all) (extended_names ts)
  unfolding extended_names all_of
  names_at w x ts =
      bind _ (name_at d (InType i) (NamesOpen ∷ others) ts) (λ mid n h.
      bind _ (gathered_at (sees sign.Comma) (skip >> one (free_word spot.Elsewhere)) (place d (InType i) (NamesOpen ∷ others)) (place d (InType i) (Want sign.OpenBrace ∷ Attributes ∷ others))
      (λ us. Unit {0}) (λ us. Unit {0}) SpellsMoreNames more_names_turns (length mid) mid (omega arith) tt)
      (λ rest more g. done (n ∷ more) rest (rw h (types.extends g.0))))

  above_at : (ts : List Lexeme) → At (place d (InType i) (Above ∷ others) ts) (place d (InType i) (Want sign.OpenBrace ∷ Attributes ∷ others)) (SpellsAbove ts) (types_above ts)
  unfolding types_above same_reserved
  above_at ts = by ts (seen_word word.Extends ts)
    where
      by : (us : List Lexeme) → SeenWord word.Extends us → At (place d (InType i) (Above ∷ others) us) (place d (InType i) (Want sign.OpenBrace ∷ Attributes ∷ others)) (SpellsAbove us) (types_above us)
      by us (word_comes n s vs) = names_at n s vs
      by us (word_comes_not h) = rw h (read [] us (above_open d i others us h) types.nothing)

-- ---- members

module _ (i : Bool) (others : List Sym) where
  -- '@' Word | Word | Primitive | String
  unmarked_at : (d : ℕ) (ts : List Lexeme) → sees sign.OpenParenthesis ts ≡ false → sees sign.At ts ≡ false →
      At (place d (InType i) (Single ∷ others) ts) (place d (InType i) others) (λ rest m. SpellsSingle ts rest (m ∷ [])) (unmarked_member ts)
  unfolding unmarked_member primitive text free_word
  unmarked_at d [] o a = stuck refl
  unmarked_at d (Word n None s ∷ ts) o a = read _ ts refl types.named
  unmarked_at d (Word n (Some r) s ∷ ts) o a = by (primitive_of r) refl
    where
      by : (found : Option Primitive) → primitive_of r ≡ found →
          At (place d (InType i) (Single ∷ others) (Word n (Some r) s ∷ ts)) (place d (InType i) others) (λ rest m. SpellsSingle (Word n (Some r) s ∷ ts) rest (m ∷ [])) (unmarked_member (Word n (Some r) s ∷ ts))
      by (Some p) e = rw e (read _ ts refl (types.plain e))
      by None e = rw e (stuck refl)
  unmarked_at d (Text v s ∷ ts) o a = read _ ts refl types.literal
  unmarked_at d (Regex p s ∷ ts) o a = stuck refl
  unmarked_at d (Flagged s ∷ ts) o a = stuck refl
  unmarked_at d (Other s ∷ ts) o a = stuck refl
  unmarked_at d (Sign y s ∷ ts) o a = stuck (rw (o, a) refl)

  plain_at : (d : ℕ) (ts : List Lexeme) → sees sign.OpenParenthesis ts ≡ false →
      At (place d (InType i) (Single ∷ others) ts) (place d (InType i) others) (λ rest m. SpellsSingle ts rest (m ∷ [])) (plain_member ts)
  unfolding plain_member same_symbol
  plain_at d ts o = by ts o (seen sign.At ts)
    where
      by : (us : List Lexeme) → sees sign.OpenParenthesis us ≡ false → Seen sign.At us →
          At (place d (InType i) (Single ∷ others) us) (place d (InType i) others) (λ rest m. SpellsSingle us rest (m ∷ [])) (plain_member us)
      by us o (comes s vs) = bind _ (name_at d (InType i) others vs) (λ mid n h. done _ mid (rw h types.refers))
      by us o (comes_not h) = rw h (unmarked_at d us o h)

-- reading a member where so many parentheses may be opened, and one in parentheses
abbrev pub SingleAt : ℕ → Type 0
SingleAt d = (i : Bool) (others : List Sym) (ts : List Lexeme) → At (place d (InType i) (Single ∷ others) ts) (place d (InType i) others) (SpellsSingle ts) (single (members_inside d) ts)

abbrev InsideAt : ℕ → Type 0
InsideAt d = (i : Bool) (others : List Sym) (s : Span) (ts : List Lexeme) →
    At (place d (InType i) (Single ∷ others) (Sign sign.OpenParenthesis s ∷ ts)) (place d (InType i) others) (SpellsSingle (Sign sign.OpenParenthesis s ∷ ts))
    (members_inside d (Sign sign.OpenParenthesis s ∷ ts))

single_from : (d : ℕ) → InsideAt d → SingleAt d
unfolding single same_symbol
single_from d inside i others ts = by ts (seen sign.OpenParenthesis ts)
  where
    by : (us : List Lexeme) → Seen sign.OpenParenthesis us → At (place d (InType i) (Single ∷ others) us) (place d (InType i) others) (SpellsSingle us) (single (members_inside d) us)
    by us (comes s vs) = inside i others s vs
    by us (comes_not h) = rw h (bind _ (plain_at i others d us h) (λ mid m p. done (m ∷ []) mid p))

module _ (d : ℕ) (ok : SingleAt d) (i : Bool) (others : List Sym) (loop : Sym) (k : List Lexeme → Verdict)
    (turns : (s : Span) (ts : List Lexeme) → place d (InType i) (loop ∷ others) (Sign sign.Bar s ∷ ts) ≡ place d (InType i) (Single ∷ loop ∷ others) ts)
    (leaves : (ts : List Lexeme) → sees sign.Bar ts ≡ false → place d (InType i) (loop ∷ others) ts ≡ k ts) where
  more_members_turns : Turns (sees sign.Bar) (skip >> single (members_inside d)) (place d (InType i) (loop ∷ others)) k (λ ts. Unit {0}) (λ ts. Unit {0}) SpellsMoreMembers
  more_members_turns = record {
    empty = refl;
    leaves = λ ts u e. (leaves ts e, types.no_member, tt);
    turn = λ ts u e. from ts e (seen sign.Bar ts);
  }
    where
      from : (ts : List Lexeme) → sees sign.Bar ts ≡ true → Seen sign.Bar ts →
          At (place d (InType i) (loop ∷ others) ts) (place d (InType i) (loop ∷ others))
          (λ mid xs. (length mid < length ts) × Unit {0} × ((rest : List Lexeme) (ys : List Member) → SpellsMoreMembers mid rest ys → SpellsMoreMembers ts rest (xs ++ ys)))
          ((skip >> single (members_inside d)) ts)
      from ts e (comes_not h) = absurd (cc (e, h))
      from ts e (comes s us) =
          along (turns s us) (finish (λ mid ms h. (refl, (omega (arith, single_shorter h), tt, λ rest ys m. types.member h m))) (ok i (loop ∷ others) us))

  pub more_members_at : (front : List Member) (ts : List Lexeme) →
      At (place d (InType i) (loop ∷ others) ts) k (λ rest all. (ns : List Member) × (all ≡ front ++ ns) × SpellsMoreMembers ts rest ns) (more_members (members_inside d) front ts)
  unfolding more_members all_of
  more_members_at front ts =
      bind _ (gathered_at (sees sign.Bar) (skip >> single (members_inside d)) (place d (InType i) (loop ∷ others)) k (λ us. Unit {0}) (λ us. Unit {0}) SpellsMoreMembers
      more_members_turns (length ts) ts (omega arith) tt) (λ rest ns g. done (front ++ ns) rest (ns, refl, g.0))

  pub members_at : (ts : List Lexeme) → At (place d (InType i) (Single ∷ loop ∷ others) ts) k (SpellsMembers ts) (members (members_inside d) ts)
  unfolding members
  members_at ts =
      bind _ (ok i (loop ∷ others) ts) (λ mid ms h. finish (λ rest all g. (refl, rw g.1 (types.members h g.2))) (more_members_at ms mid))

inside_at : (d : ℕ) → InsideAt d
unfolding members_inside same_symbol
inside_at zero i others s ts = deep refl
inside_at (suc d) i others s ts =
    bind _ (members_at d (single_from d (inside_at d)) i others MembersClose (place d (InType i) (Want sign.CloseParenthesis ∷ others)) (λ q us. refl) (λ us e. members_close d i others us e) ts)
    (λ mid ms h. bind _ (symbol_at d (InType i) others sign.CloseParenthesis mid (place (suc d) (InType i) others) (λ q us. refl)) (λ rest c g. done ms rest (types.inside (rw g at h))))

pub single_at : (d : ℕ) → SingleAt d
single_at d = single_from d (inside_at d)

-- ---- attributes

module _ (d : ℕ) (others : List Sym) where
  type_end_at : (first : List Member) (ts : List Lexeme) → At (place d (InType true) (TypeEnd ∷ others) ts) (place d (InType true) (AttributeEnd ∷ others))
      (λ rest t. (ns : List Member) × (t.1 ≡ first ++ ns) × SpellsTypeEnd ts rest t.0 ns) (type_end d first ts)
  unfolding type_end same_symbol
  type_end_at first ts = by ts (seen sign.OpenBracket ts)
    where
      by : (us : List Lexeme) → Seen sign.OpenBracket us → At (place d (InType true) (TypeEnd ∷ others) us) (place d (InType true) (AttributeEnd ∷ others))
          (λ rest t. (ns : List Member) × (t.1 ≡ first ++ ns) × SpellsTypeEnd us rest t.0 ns) (type_end d first us)
      by us (comes o vs) =
          bind _ (symbol_at d (InType true) (AttributeEnd ∷ others) sign.CloseBracket vs (place d (InType true) (AttributeEnd ∷ others)) (λ q ws. refl))
          (λ mid c h. done (true, first) mid ([], sym (append-nil first), rw h types.list))
      by us (comes_not h) =
          rw h (along (type_members d true others us h) (bind _ (more_members_at d (single_at d) true others AttributeMembers (place d (InType true) (AttributeEnd ∷ others)) (λ q ws. refl)
          (λ ws e. attribute_members_end d true others ws e) first us) (λ mid all g. done (false, all) mid (g.0, g.1, types.union g.2))))

module _ (d : ℕ) (others : List Sym) where
  attribute_end_at : (ts : List Lexeme) → At (place d (InType true) (AttributeEnd ∷ Attributes ∷ others) ts) (place d (InType true) (Attributes ∷ others))
      (λ rest u. (ended : Bool) × MayTake sign.Semicolon ts rest ended) (attribute_end ts)
  unfolding attribute_end same_symbol
  attribute_end_at ts = by ts (seen sign.Semicolon ts) (seen sign.Equals ts)
    where
      by : (us : List Lexeme) → Seen sign.Semicolon us → Seen sign.Equals us → At (place d (InType true) (AttributeEnd ∷ Attributes ∷ others) us) (place d (InType true) (Attributes ∷ others))
          (λ rest u. (ended : Bool) × MayTake sign.Semicolon us rest ended) (attribute_end us)
      by us (comes s vs) q = read tt vs refl (true, MayTake.there)
      by us (comes_not h) (comes s vs) = stuck refl
      by us (comes_not h) (comes_not g) = rw (h, g) (read tt us (attribute_done d (Attributes ∷ others) us h g) (false, MayTake.left_out))

  attribute_behind_at : (n : List ℕ) (r : Option Reserved) (s : Span) (optional : Bool) (ts us : List Lexeme) → MayTake sign.Question ts us optional →
      At (place d (InType true) (Want sign.Colon ∷ Single ∷ TypeEnd ∷ Attributes ∷ others) us) (place d (InType true) (Attributes ∷ others)) (SpellsAttribute (Word n r s ∷ ts)) (attribute_behind d (n, s) optional us)
  unfolding attribute_behind same_symbol
  attribute_behind_at n r s optional ts us m =
      bind _ (symbol_at d (InType true) (Single ∷ TypeEnd ∷ Attributes ∷ others) sign.Colon us (place d (InType true) (Single ∷ TypeEnd ∷ Attributes ∷ others)) (λ q ws. refl)) (λ vs c h.
      bind _ (single_at d true (TypeEnd ∷ Attributes ∷ others) vs) (λ ws ms p.
      bind _ (type_end_at d (Attributes ∷ others) ms ws) (λ xs t g.
      bind _ (attribute_end_at xs) (λ rest u e.
      done _ rest (rw g.1 (types.attribute (rw h at m) p g.2 e.1))))))

  attribute_at : (ts : List Lexeme) → sees_word ts ≡ true → At (place d (InType true) (Attributes ∷ others) ts) (place d (InType true) (Attributes ∷ others)) (SpellsAttribute ts) (attribute d ts)
  unfolding attribute feature same_symbol
  attribute_at [] w = absurd (cc w)
  attribute_at (Word n r s ∷ ts) w = by ts (seen sign.Question ts)
    where
      by : (us : List Lexeme) → Seen sign.Question us → At (place d (InType true) (Attributes ∷ others) (Word n r s ∷ us)) (place d (InType true) (Attributes ∷ others)) (SpellsAttribute (Word n r s ∷ us)) (attribute d (Word n r s ∷ us))
      by us (comes q vs) = attribute_behind_at n r s true (Sign sign.Question q ∷ vs) vs MayTake.there
      by us (comes_not h) =
          rw h (along (skip_may d (InType true) (Want sign.Colon ∷ Single ∷ TypeEnd ∷ Attributes ∷ others) sign.Question us h) (attribute_behind_at n r s false us us MayTake.left_out))
  attribute_at (Text v s ∷ ts) w = absurd (cc w)
  attribute_at (Regex p s ∷ ts) w = absurd (cc w)
  attribute_at (Flagged s ∷ ts) w = absurd (cc w)
  attribute_at (Other s ∷ ts) w = absurd (cc w)
  attribute_at (Sign y s ∷ ts) w = absurd (cc w)

  attributes_turns : Turns sees_word (one (attribute d)) (place d (InType true) (Attributes ∷ others)) (place d (InType true) (Want sign.CloseBrace ∷ May sign.Semicolon ∷ others)) (λ ts. Unit {0}) (λ ts. Unit {0}) SpellsAttributes
  attributes_turns = record {
    empty = refl;
    leaves = λ ts u e. (attributes_close d true others ts e, types.no_attribute, tt);
    turn = λ ts u e. bind _ (attribute_at ts e) (λ mid a h. done (a ∷ []) mid (attribute_shorter h, tt, λ rest ys m. types.attribute_and h m));
  }

  attributes_at : (ts : List Lexeme) → At (place d (InType true) (Attributes ∷ others) ts) (place d (InType true) (Want sign.CloseBrace ∷ May sign.Semicolon ∷ others)) (SpellsAttributes ts) (attributes d ts)
  unfolding attributes all_of
  attributes_at ts =
      bind _ (gathered_at sees_word (one (attribute d)) (place d (InType true) (Attributes ∷ others)) (place d (InType true) (Want sign.CloseBrace ∷ May sign.Semicolon ∷ others)) (λ us. Unit {0}) (λ us. Unit {0})
      SpellsAttributes attributes_turns (length ts) ts (omega arith) tt) (λ rest all g. done all rest g.0)

-- ---- interfaces and unions

module _ (d : ℕ) (b : Bottom) (others : List Sym) where
  -- the `;` at the end of a declaration
  pub last_may_at : {X : Type 0} (x : X) (ts : List Lexeme) → At (place d b (May sign.Semicolon ∷ others) ts) (place d b others)
      (λ rest y. (y ≡ x) × ((ended : Bool) × MayTake sign.Semicolon ts rest ended)) ((takes sign.Semicolon >> pure x) ts)
  unfolding same_symbol
  last_may_at {X} x ts = by ts (seen sign.Semicolon ts)
    where
      by : (us : List Lexeme) → Seen sign.Semicolon us → At (place d b (May sign.Semicolon ∷ others) us) (place d b others)
          (λ rest y. (y ≡ x) × ((ended : Bool) × MayTake sign.Semicolon us rest ended)) ((takes sign.Semicolon >> pure x) us)
      by us (comes s vs) = read x vs refl (refl, (true, MayTake.there))
      by us (comes_not h) = rw h (read x us (skip_may d b others sign.Semicolon us h) (refl, (false, MayTake.left_out)))

module _ (d : ℕ) (others : List Sym) where
  pub interface_at : (ts : List Lexeme) → At (place d (InType true) (WantName ∷ Above ∷ others) ts) (place d (InType true) others) (SpellsInterface ts) (interface d ts)
  unfolding interface same_symbol
  interface_at ts =
      bind _ (name_at d (InType true) (Above ∷ others) ts) (λ us n h.
      bind _ (above_at d true others us) (λ vs above p.
      bind _ (symbol_at d (InType true) (Attributes ∷ others) sign.OpenBrace vs (place d (InType true) (Attributes ∷ others)) (λ q ws. refl)) (λ ws o g.
      bind _ (attributes_at d others ws) (λ xs inner m.
      bind _ (symbol_at d (InType true) (May sign.Semicolon ∷ others) sign.CloseBrace xs (place d (InType true) (May sign.Semicolon ∷ others)) (λ q ys. refl)) (λ ys c e.
      finish (λ rest i f. (refl, rw (h, f.0) (types.interface (rw g at p) (rw e at m) f.1.1))) (last_may_at d (InType true) others _ ys))))))

  pub union_at : (ts : List Lexeme) → At (place d (InType false) (WantName ∷ Want sign.Equals ∷ Single ∷ MembersEnd ∷ others) ts) (place d (InType false) others) (SpellsUnion ts) (union_type d ts)
  unfolding union_type same_symbol
  union_at ts =
      bind _ (name_at d (InType false) (Want sign.Equals ∷ Single ∷ MembersEnd ∷ others) ts) (λ us n h.
      bind _ (symbol_at d (InType false) (Single ∷ MembersEnd ∷ others) sign.Equals us (place d (InType false) (Single ∷ MembersEnd ∷ others)) (λ q ws. refl)) (λ vs q g.
      bind _ (members_at d (single_at d) false others MembersEnd (place d (InType false) (May sign.Semicolon ∷ others)) (λ s ws. refl) (λ ws e. members_may_end d false others ws e) vs) (λ ws ms m.
      finish (λ rest u f. (refl, rw (h, g, f.0) (types.union_of m f.1.1))) (last_may_at d (InType false) others _ ws))))
