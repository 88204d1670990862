-- What interfaces and unions spell stands in the text, as their tokens do, and so do the tokens that are left.
use Rattle.std.proofs.Common.{ℕ, Bool, List, ◌++◌, map}
use Rattle.std.specs.List.{flat_map}
use Rattle.lw_base.specs.declared.token.Span.{Span}
use Rattle.lw_grammar.specs.declared.declared_types.Interface.{Interface}
use Rattle.lw_grammar.specs.declared.declared_types.Attribute.{Attribute}
use Rattle.lw_grammar.specs.declared.declared_types.UnionDef.{UnionDef}
use Rattle.lw_grammar.specs.declared.declared_types.Member.{Member}
use Rattle.lw_gramread.specs.declared.lexeme.Lexeme.{Lexeme}
use Rattle.lw_gramread.specs.DeclaredTypes as types
use Rattle.lw_gramread.specs.DeclaredTypes.{SpellsMoreNames, SpellsAbove, SpellsSingle, SpellsMembers, SpellsMoreMembers, SpellsTypeEnd, SpellsAttribute, SpellsAttributes, SpellsInterface, SpellsUnion}
use Rattle.lw_gramread.specs.PlacesWithin.{member_spans, attribute_spans, interface_spans, union_spans}
use Rattle.lw_gramread.proofs.Within.{and_behind, AreWithin, TokensWithin, EachWithin, each_both, all_of_each, within_both, may_within}

module _ (text : List ℕ) where
  more_names_within : {ts rest : List Lexeme} {names : List (List ℕ × Span)} → SpellsMoreNames ts rest names → TokensWithin text ts →
      AreWithin text (map (λ n. n.1) names) × TokensWithin text rest
  more_names_within types.none h = (tt, h)
  more_names_within (types.more others) h = let r = more_names_within others h.1.1 in ((h.1.0, r.0), r.1)

  above_within : {ts rest : List Lexeme} {names : List (List ℕ × Span)} → SpellsAbove ts rest names → TokensWithin text ts →
      AreWithin text (map (λ n. n.1) names) × TokensWithin text rest
  above_within types.nothing h = (tt, h)
  above_within (types.extends others) h = let r = more_names_within others h.1.1 in ((h.1.0, r.0), r.1)

  mutual
    single_within : {ts rest : List Lexeme} {ms : List Member} → SpellsSingle ts rest ms → TokensWithin text ts → EachWithin text member_spans ms × TokensWithin text rest
    single_within types.refers h = (((h.1.0, tt), tt), h.1.1)
    single_within types.named h = (((h.0, tt), tt), h.1)
    single_within (types.plain e) h = ((tt, tt), h.1)
    single_within types.literal h = ((tt, tt), h.1)
    single_within (types.inside m) h = let r = members_within m h.1 in (r.0, r.1.1)

    members_within : {ts rest : List Lexeme} {ms : List Member} → SpellsMembers ts rest ms → TokensWithin text ts → EachWithin text member_spans ms × TokensWithin text rest
    members_within (types.members {ms} {ns} s m) h =
        let r = and_behind (single_within s h) (more_members_within m) in (each_both text member_spans ms ns r.0.0 r.0.1, r.1)

    more_members_within : {ts rest : List Lexeme} {ms : List Member} → SpellsMoreMembers ts rest ms → TokensWithin text ts → EachWithin text member_spans ms × TokensWithin text rest
    more_members_within types.no_member h = (tt, h)
    more_members_within (types.member {ms} {ns} s m) h =
        let r = and_behind (single_within s h.1) (more_members_within m) in (each_both text member_spans ms ns r.0.0 r.0.1, r.1)

  type_end_within : {ts rest : List Lexeme} {list : Bool} {ms : List Member} → SpellsTypeEnd ts rest list ms → TokensWithin text ts →
      EachWithin text member_spans ms × TokensWithin text rest
  type_end_within types.list h = (tt, h.1.1)
  type_end_within (types.union m) h = more_members_within m h

  attribute_within : {ts rest : List Lexeme} {a : Attribute} → SpellsAttribute ts rest a → TokensWithin text ts → AreWithin text (attribute_spans a) × TokensWithin text rest
  attribute_within (types.attribute {ms} {ns} optional first end ended) h =
      let o = may_within text optional h.1 in
      let r = and_behind (single_within first o.1) (type_end_within end) in
      ((h.0, all_of_each text member_spans (ms ++ ns) (each_both text member_spans ms ns r.0.0 r.0.1)), may_within text ended r.1)

  attributes_within : {ts rest : List Lexeme} {all : List Attribute} → SpellsAttributes ts rest all → TokensWithin text ts → EachWithin text attribute_spans all × TokensWithin text rest
  attributes_within types.no_attribute h = (tt, h)
  attributes_within (types.attribute_and a others) h = and_behind (attribute_within a h) (attributes_within others)

  pub interface_within : {ts rest : List Lexeme} {i : Interface} → SpellsInterface ts rest i → TokensWithin text ts → AreWithin text (interface_spans i) × TokensWithin text rest
  interface_within (types.interface {above} {inner} names attributes ended) h =
      let r = above_within names h.1 in
      let q = attributes_within attributes r.1.1 in
      ((h.0, within_both text (map (λ n. n.1) above) (flat_map attribute_spans inner) r.0 (all_of_each text attribute_spans inner q.0)), may_within text ended q.1.1)

  pub union_within : {ts rest : List Lexeme} {u : UnionDef} → SpellsUnion ts rest u → TokensWithin text ts → AreWithin text (union_spans u) × TokensWithin text rest
  union_within (types.union_of {ms} m ended) h =
      let r = members_within m h.1.1 in
      ((h.0, all_of_each text member_spans ms r.0), may_within text ended r.1)
