-- What interfaces and unions spell is read again as it is.
use Rattle.std.proofs.Common.{ℕ, zero, suc, ◌≡◌, ◌<◌, ◌≤◌, Bool, true, false, List, [], ◌∷◌, ◌++◌, length, drop, None, Ok, refl, sym, ap, arith, append-nil, cond}
use denote.Enum.Bare.{true_same}
use Rattle.lw_base.specs.declared.token.Span.{Span}
use Rattle.lw_grammar.specs.declared.declared_types.Interface.{Interface}
use Rattle.lw_grammar.specs.declared.declared_types.Attribute.{Attribute}
use Rattle.lw_grammar.specs.declared.declared_types.UnionDef.{UnionDef}
use Rattle.lw_grammar.specs.declared.declared_types.Member.{Member}
use Rattle.lw_gramlex.specs.declared.token.Symbol.{Symbol}
use Rattle.lw_gramlex.specs.declared.token.Symbol.TheVariants as sign
use Rattle.lw_gramlex.specs.contracts.token.Symbol as the_symbol
use Rattle.lw_gramread.specs.declared.lexeme.Reserved.{Reserved}
use Rattle.lw_gramread.specs.declared.lexeme.Reserved.TheVariants as word
use Rattle.lw_gramread.specs.contracts.lexeme.Reserved as the_reserved
use Rattle.lw_gramread.specs.declared.lexeme.Lexeme.{Lexeme}
use Rattle.lw_gramread.specs.declared.lexeme.Lexeme.TheVariants.{Word, Sign}
use Rattle.lw_gramread.specs.declared.reader.left.Spot.TheVariants as spot
use Rattle.lw_gramread.specs.OptionalTokens.{MayTake, MayTakeWord}
use Rattle.lw_gramread.specs.DeclaredTypes as types
use Rattle.lw_gramread.specs.DeclaredTypes.{SpellsMoreNames, SpellsAbove, SpellsSingle, SpellsMembers, SpellsMoreMembers, SpellsTypeEnd, SpellsAttribute, SpellsAttributes, SpellsInterface, SpellsUnion}
use Rattle.lw_gramread.specs.Steps.{Reading, ◌>>◌, sees, sees_reserved, sees_word, same_symbol, same_reserved, skip, symbol, free_word, feature, text, primitive, gathered, all_of, one, behind, first_and}
use Rattle.lw_gramread.specs.TypeSteps.{extended_names, types_above, unmarked_member, plain_member, single, more_members, members, members_inside, type_end, attribute_end, attribute_behind, attribute, attributes, interface, union_type}
use Rattle.lw_gramread.proofs.Shorter.{may_shorter, above_shorter, single_shorter, attribute_shorter}

-- ---- steps

pub symbol_itself : (x : Symbol) → same_symbol x x ≡ true
unfolding same_symbol
symbol_itself x = true_same the_symbol.the_type x x refl

pub reserved_itself : (r : Reserved) → same_reserved r r ≡ true
unfolding same_reserved
reserved_itself r = true_same the_reserved.the_type r r refl

-- what a step finds that may take a token, and what it leaves
pub may_again : {x : Symbol} {ts rest : List Lexeme} {b : Bool} → MayTake x ts rest b → sees x rest ≡ false → (sees x ts ≡ b) × (cond b (drop 1 ts) ts ≡ rest)
may_again MayTake.left_out h = (h, refl)
may_again {x} MayTake.there h = (symbol_itself x, refl)

pub word_again : {r : Reserved} {ts rest : List Lexeme} {b : Bool} → MayTakeWord r ts rest b → sees_reserved r rest ≡ false →
    (sees_reserved r ts ≡ b) × (cond b (drop 1 ts) ts ≡ rest)
word_again MayTakeWord.left_out h = (h, refl)
word_again {r} MayTakeWord.there h = (reserved_itself r, refl)

-- ---- lists

module _ {A : Type 0} (goes_on : List Lexeme → Bool) (item : Reading (List A)) where
  pub gathered_none : (n : ℕ) (ts : List Lexeme) → goes_on ts ≡ false → gathered goes_on item n ts ≡ Ok ([], ts)
  unfolding gathered
  gathered_none zero ts off = refl
  gathered_none (suc n) ts off = rw off refl

  pub gathered_more : (n : ℕ) (ts mid rest : List Lexeme) (xs ys : List A) → 0 < length ts → length ts ≤ n → goes_on ts ≡ true → item ts ≡ Ok (xs, mid) →
      ((k : ℕ) → suc k ≡ n → gathered goes_on item k mid ≡ Ok (ys, rest)) → gathered goes_on item n ts ≡ Ok (xs ++ ys, rest)
  unfolding gathered
  gathered_more zero ts mid rest xs ys some le on e h = absurd (omega arith)
  gathered_more (suc n) ts mid rest xs ys some le on e h = rw (on, e, h n refl) refl

  pub first_again : (first : Reading A) (x : A) (xs : List A) (ts mid rest : List Lexeme) → first ts ≡ Ok (x, mid) →
      gathered goes_on item (length mid) mid ≡ Ok (xs, rest) → first_and goes_on item first ts ≡ Ok (x ∷ xs, rest)
  unfolding all_of
  first_again first x xs ts mid rest e h = rw (e, h) refl

  pub behind_again : (front xs : List A) (ts rest : List Lexeme) → gathered goes_on item (length ts) ts ≡ Ok (xs, rest) →
      behind front (all_of goes_on item) ts ≡ Ok (front ++ xs, rest)
  unfolding all_of
  behind_again front xs ts rest h = rw h refl

pub one_again : {A : Type 0} (item : Reading A) (x : A) (ts rest : List Lexeme) → item ts ≡ Ok (x, rest) → one item ts ≡ Ok (x ∷ [], rest)
one_again item x ts rest e = rw e refl

-- ---- names

more_names_again : {ts rest : List Lexeme} {all : List (List ℕ × Span)} → SpellsMoreNames ts rest all → sees sign.Comma rest ≡ false → (n : ℕ) → length ts ≤ n →
    gathered (sees sign.Comma) (skip >> one (free_word spot.Elsewhere)) n ts ≡ Ok (all, rest)
unfolding same_symbol free_word
more_names_again {ts} types.none h n le = gathered_none (sees sign.Comma) (skip >> one (free_word spot.Elsewhere)) n ts h
more_names_again (types.more {c} {s} {n = m} {ts} {rest} {names = ns} others) h n le =
    gathered_more (sees sign.Comma) (skip >> one (free_word spot.Elsewhere)) n (Sign sign.Comma c ∷ Word m None s ∷ ts) ts rest ((m, s) ∷ []) ns (omega arith) le refl refl
    (λ k e. more_names_again others h k (omega arith))

pub above_again : {ts rest : List Lexeme} {all : List (List ℕ × Span)} → SpellsAbove ts rest all → sees sign.Comma rest ≡ false →
    sees_reserved word.Extends rest ≡ false → types_above ts ≡ Ok (all, rest)
unfolding types_above extended_names same_reserved
above_again types.nothing comma extends = rw extends refl
above_again (types.extends {n} {s} {ts} {rest} {names = ns} others) comma extends =
    first_again (sees sign.Comma) (skip >> one (free_word spot.Elsewhere)) (free_word spot.Elsewhere) (n, s) ns (Word n None s ∷ ts) ts rest (unfold free_word in refl)
    (more_names_again others comma (length ts) (omega arith))

-- ---- members

mutual
  unfolding members more_members single plain_member unmarked_member members_inside free_word text primitive symbol same_symbol

  pub single_again : {ts rest : List Lexeme} {ms : List Member} → SpellsSingle ts rest ms → (d : ℕ) → length ts ≤ d → single (members_inside d) ts ≡ Ok (ms, rest)
  single_again types.refers d le = refl
  single_again types.named d le = refl
  single_again (types.plain e) d le = rw e refl
  single_again types.literal d le = refl
  single_again (types.inside m) zero le = absurd (omega arith)
  single_again (types.inside m) (suc d) le = rw (members_again m refl d (omega arith)) refl

  pub members_again : {ts rest : List Lexeme} {ms : List Member} → SpellsMembers ts rest ms → sees sign.Bar rest ≡ false → (d : ℕ) → length ts ≤ d →
      members (members_inside d) ts ≡ Ok (ms, rest)
  members_again (types.members {mid} {rest} {ms} {ns} s m) h d le =
      rw (single_again s d le) (behind_again (sees sign.Bar) (skip >> single (members_inside d)) ms ns mid rest
      (more_members_again m h d (omega (arith, single_shorter s)) (length mid) (omega arith)))

  pub more_members_again : {ts rest : List Lexeme} {ms : List Member} → SpellsMoreMembers ts rest ms → sees sign.Bar rest ≡ false → (d : ℕ) → length ts ≤ d →
      (n : ℕ) → length ts ≤ n → gathered (sees sign.Bar) (skip >> single (members_inside d)) n ts ≡ Ok (ms, rest)
  more_members_again {ts} types.no_member h d le n more = gathered_none (sees sign.Bar) (skip >> single (members_inside d)) n ts h
  more_members_again (types.member {b} {ts} {mid} {rest} {ms} {ns} s m) h d le n more =
      gathered_more (sees sign.Bar) (skip >> single (members_inside d)) n (Sign sign.Bar b ∷ ts) mid rest ms ns (omega arith) more refl (single_again s d (omega arith))
      (λ k e. more_members_again m h d (omega (arith, single_shorter s)) k (omega (arith, single_shorter s)))

-- ---- attributes, interfaces, unions

-- what may follow a type
pub record EndsType (rest : List Lexeme) : Type 0 where
  pub no_bar : sees sign.Bar rest ≡ false
  pub no_list : sees sign.OpenBracket rest ≡ false
  pub no_end : sees sign.Semicolon rest ≡ false
  pub no_default : sees sign.Equals rest ≡ false

type_end_again : {ts rest : List Lexeme} {b : Bool} {ms : List Member} → SpellsTypeEnd ts rest b ms → sees sign.Bar rest ≡ false → sees sign.OpenBracket rest ≡ false →
    (first : List Member) (d : ℕ) → length ts ≤ d → type_end d first ts ≡ Ok ((b, first ++ ms), rest)
unfolding type_end more_members symbol same_symbol
type_end_again (types.list {ts}) bar bracket first d le = ap (λ (ms : List Member). Ok ((true, ms), ts)) (sym (append-nil first))
type_end_again (types.union {ts} {rest} {ms} m) bar bracket first d le =
    rw (no_list m bracket) (rw (behind_again (sees sign.Bar) (skip >> single (members_inside d)) first ms ts rest (more_members_again m bar d le (length ts) (omega arith))) refl)
  where
    no_list : {us vs : List Lexeme} {ns : List Member} → SpellsMoreMembers us vs ns → sees sign.OpenBracket vs ≡ false → sees sign.OpenBracket us ≡ false
    no_list types.no_member h = h
    no_list (types.member q r) h = refl

end_again : {ts rest : List Lexeme} {b : Bool} → MayTake sign.Semicolon ts rest b → sees sign.Semicolon rest ≡ false → sees sign.Equals rest ≡ false →
    attribute_end ts ≡ Ok (tt, rest)
unfolding attribute_end same_symbol
end_again MayTake.left_out semicolon equals = rw (semicolon, equals) refl
end_again MayTake.there semicolon equals = refl

-- behind the first part of a type nothing else may stand than what goes on or ends it
may_end : {ts rest : List Lexeme} {b : Bool} → MayTake sign.Semicolon ts rest b → EndsType rest → (sees sign.Bar ts ≡ false) × (sees sign.OpenBracket ts ≡ false)
unfolding same_symbol
may_end MayTake.left_out e = (e.no_bar, e.no_list)
may_end MayTake.there e = (refl, refl)

pub attribute_again : {ts rest : List Lexeme} {a : Attribute} → SpellsAttribute ts rest a → EndsType rest → (d : ℕ) → length ts ≤ d → attribute d ts ≡ Ok (a, rest)
unfolding attribute attribute_behind feature symbol same_symbol
attribute_again (types.attribute {ms} q s t e) h d le =
    let ends = may_end e h in
    let question = may_again q refl in
    rw (question.0, question.1, single_again s d (omega (arith, may_shorter q)), type_end_again t ends.0 ends.1 ms d (omega (arith, may_shorter q, single_shorter s)), end_again e h.no_end h.no_default) refl

-- where attributes begin or end, a type has ended
attributes_start : {c : Span} {us ts : List Lexeme} {all : List Attribute} → SpellsAttributes ts (Sign sign.CloseBrace c ∷ us) all → EndsType ts
unfolding same_symbol
attributes_start types.no_attribute = record { no_bar = refl; no_list = refl; no_end = refl; no_default = refl }
attributes_start (types.attribute_and (types.attribute q s t e) m) = record { no_bar = refl; no_list = refl; no_end = refl; no_default = refl }

more_attributes_again : {c : Span} {ts us : List Lexeme} {all : List Attribute} → SpellsAttributes ts (Sign sign.CloseBrace c ∷ us) all → (d : ℕ) → length ts ≤ d →
    (n : ℕ) → length ts ≤ n → gathered sees_word (one (attribute d)) n ts ≡ Ok (all, Sign sign.CloseBrace c ∷ us)
more_attributes_again {ts} types.no_attribute d le n more = gathered_none sees_word (one (attribute d)) n ts refl
more_attributes_again {c} {us} (types.attribute_and {ts} {mid} {a} {others} x m) d le n more =
    gathered_more sees_word (one (attribute d)) n ts mid (Sign sign.CloseBrace c ∷ us) (a ∷ []) others (omega (arith, attribute_shorter x)) more (begun x)
    (one_again (attribute d) a ts mid (attribute_again x (attributes_start m) d le))
    (λ k e. more_attributes_again m d (omega (arith, attribute_shorter x)) k (omega (arith, attribute_shorter x)))
  where
    begun : {vs ws : List Lexeme} {b : Attribute} → SpellsAttribute vs ws b → sees_word vs ≡ true
    begun (types.attribute q s t e) = refl

pub interface_again : {ts rest : List Lexeme} {i : Interface} → SpellsInterface ts rest i → sees sign.Semicolon rest ≡ false → (d : ℕ) → length ts ≤ d → interface d ts ≡ Ok (i, rest)
unfolding interface attributes free_word symbol same_symbol
interface_again (types.interface {c} {us} {vs} {inner} a m e) h d le =
    let ended = may_again e h in
    rw (
      above_again a refl refl,
      behind_again sees_word (one (attribute d)) [] inner us (Sign sign.CloseBrace c ∷ vs)
          (more_attributes_again m d (omega (arith, above_shorter a)) (length us) (omega arith)),
      ended.0,
      ended.1,
    ) refl

no_bar_before : {ts rest : List Lexeme} {b : Bool} → MayTake sign.Semicolon ts rest b → sees sign.Bar rest ≡ false → sees sign.Bar ts ≡ false
unfolding same_symbol
no_bar_before MayTake.left_out h = h
no_bar_before MayTake.there h = refl

pub union_again : {ts rest : List Lexeme} {u : UnionDef} → SpellsUnion ts rest u → sees sign.Bar rest ≡ false → sees sign.Semicolon rest ≡ false → (d : ℕ) → length ts ≤ d →
    union_type d ts ≡ Ok (u, rest)
unfolding union_type free_word symbol same_symbol
union_again (types.union_of m e) bar semicolon d le =
    let ended = may_again e semicolon in
    rw (members_again m (no_bar_before e bar) d (omega arith), ended.0, ended.1) refl
