-- Names that are put behind others, item by item of a list, and the names of types that have numbers.
use Rattle.std.proofs.Common.{◌≡◌, ℕ, ◌+◌, ◌≤◌, List, [], ◌∷◌, ◌++◌, Bool, true, false, Some, length, take, slice_get, Contains, bytes_eq, ◌⊎◌, inl, inr, refl, sym, ap, ◌∙◌, subst, append_assoc, if◌then◌else◌}
use Rattle.std.specs.List.{list_any}
use Rattle.std.proofs.lemmas.List.{append-nil, take_all, take_more}
use Rattle.std.proofs.lemmas.List.Sums.{fold-append}
use Rattle.std.proofs.lemmas.Option.{slice_get_within, get_or_from_slice_get}
use Rattle.std.proofs.lemmas.List.Elements.{Contains-append_left}
use Rattle.std.proofs.lemmas.Map.Views.{Contains-from_any}
use Rattle.indexmap.specs.IndexSet.{insert_key, insert_all}
use Rattle.lw_grammar.specs.declared.grammar.Grammar.{Grammar}
use Rattle.lw_base.specs.declared.token.Span.{Span}
use Rattle.lw_grammar.specs.declared.declared_types.Interface.{Interface}
use Rattle.lw_grammar.specs.declared.declared_types.UnionDef.{UnionDef}
use Rattle.lw_grammar.specs.declared.declared_types.Member.{Member}
use Rattle.lw_grammar.specs.declared.declared_types.Member.TheVariants.{Named, Refers, Plain, Literal}
use Rattle.lw_grammar.specs.Kinds.{first_uses}
use Rattle.lw_grammar.proofs.FirstUses.{stands_in, same_text}
use Rattle.lw_numbers.specs.Numbering.{type_names}
use Rattle.lw_numbers.proofs.Gathering.{inserted_first}
use Rattle.lw_numbers.specs.Lists.{SomeAt, SomeBefore}
use Rattle.lw_numbers.specs.Spoken.{ExtendsBy, InterfaceSpeaks, NamesMember, UnionSpeaks, AreNames}
use Rattle.lw_numbers.proofs.Joining.{some_before_more, some_before_all}

pub extends_then : {one two all : List ℕ → Type 0} {a b c : List (List ℕ)} → ((name : List ℕ) → all name → one name ⊎ two name) → ExtendsBy one a b → ExtendsBy two b c →
    ExtendsBy all a c
extends_then {a = a} cases first second = record {
  more = first.more ++ second.more;
  begins = second.begins ∙ ap (λ names. names ++ second.more) first.begins ∙ append_assoc a first.more second.more;
  among = λ name put. elim (cases name put) [
    | inl one ↦ subst (λ names. Contains names name) (sym second.begins) (Contains-append_left _ second.more name (first.among name one))
    | inr two ↦ second.among name two
  ];
}

pub extends_none : {put : List ℕ → Type 0} {a : List (List ℕ)} → ((name : List ℕ) → ¬ put name) → ExtendsBy put a a
extends_none {a = a} none = record { more = []; begins = sym (append-nil a); among = λ name put. absurd (none name put) }

pub extends_same : {one two : List ℕ → Type 0} {a b : List (List ℕ)} → ((name : List ℕ) → two name → one name) → ExtendsBy one a b → ExtendsBy two a b
extends_same same first = record { more = first.more; begins = first.begins; among = λ name put. first.among name (same name put) }

-- a name that is one of the others
pub extends_there : (name : List ℕ) (names : List (List ℕ)) → list_any (bytes_eq name) names ≡ true → ExtendsBy (λ n. n ≡ name) names names
extends_there name names there = record {
  more = [];
  begins = sym (append-nil names);
  among = λ n same. subst (Contains names) (sym same) (Contains-from_any same_text name names there);
}

module _ {A : Type 0} (xs : List A) (P : ℕ → A → List ℕ → Type 0) where
  pub extends_more : {a b c : List (List ℕ)} (n : ℕ) (x : A) → slice_get xs n ≡ Some x → ExtendsBy (λ name. SomeBefore xs n (λ k y. P k y name)) a b →
      ExtendsBy (P n x) b c → ExtendsBy (λ name. SomeBefore xs (n + 1) (λ k y. P k y name)) a c
  extends_more n x at = extends_then (λ name. (some_before_more xs (λ k y. P k y name) n x at).0)

  pub extends_all : {a b : List (List ℕ)} (n : ℕ) → length xs ≤ n → ExtendsBy (λ name. SomeBefore xs n (λ k y. P k y name)) a b →
      ExtendsBy (λ name. SomeAt xs (λ k y. P k y name)) a b
  extends_all n all = extends_same (λ name. (some_before_all xs (λ k y. P k y name) n all).1)

-- ---- names that have numbers

-- first uses are first uses of themselves
once_more : (seen xs : List (List ℕ)) → first_uses seen (first_uses seen xs) ≡ first_uses seen xs
once_more seen [] = refl
once_more seen (x ∷ xs) = by (stands_in x seen) refl (once_more seen xs) (once_more (x ∷ seen) xs)
  where
    by : (b : Bool) → stands_in x seen ≡ b → first_uses seen (first_uses seen xs) ≡ first_uses seen xs →
        first_uses (x ∷ seen) (first_uses (x ∷ seen) xs) ≡ first_uses (x ∷ seen) xs →
        first_uses seen (if b then first_uses seen xs else x ∷ first_uses (x ∷ seen) xs) ≡ (if b then first_uses seen xs else x ∷ first_uses (x ∷ seen) xs)
    by true is old new = old
    by false is old new =
        ap (λ b. if b then first_uses seen (first_uses (x ∷ seen) xs) else x ∷ first_uses (x ∷ seen) (first_uses (x ∷ seen) xs)) is ∙ ap (λ ns. x ∷ ns) new

pub numbered_more : (types keys new : List (List ℕ)) (n : ℕ) (name copied : List ℕ) → keys ≡ insert_all bytes_eq [] (take n types) → slice_get types n ≡ Some name →
    copied ≡ name → new ≡ insert_key bytes_eq keys copied → new ≡ insert_all bytes_eq [] (take (n + 1) types)
numbered_more types keys new n name copied is at same put =
    put ∙ ap (insert_key bytes_eq keys) same ∙ ap (λ ks. insert_key bytes_eq ks name) is ∙ sym (fold-append (insert_key bytes_eq) [] (take n types) (name ∷ []))
    ∙ ap (λ x. insert_all bytes_eq [] (take n types ++ x ∷ [])) (sym (get_or_from_slice_get types n name name at))
    ∙ ap (insert_all bytes_eq []) (sym (take_more types n name (slice_get_within types n name at)))

pub all_numbered : (g : Grammar) (n : ℕ) (keys : List (List ℕ)) → length (type_names g) ≤ n → keys ≡ insert_all bytes_eq [] (take n (type_names g)) → keys ≡ type_names g
all_numbered g n keys past is = is ∙ ap (insert_all bytes_eq []) (take_all n (type_names g) past) ∙ inserted_first (type_names g) ∙ once_more [] _

-- a member that is no name
pub no_member : (member : Member) → ((name : List ℕ) (s : Span) → member ≡ Named name s → ⊥) → (name : List ℕ) → ¬ NamesMember member name
no_member (Named own s) not name is = not own s refl
no_member (Refers own s) not name is = is
no_member (Plain primitive) not name is = is
no_member (Literal text) not name is = is

pub all_names : (g : Grammar) {interfaces : List Interface} {unions : List UnionDef} {first second third : List (List ℕ)} → interfaces ≡ g.interfaces → unions ≡ g.unions →
    first ≡ type_names g → ExtendsBy (λ name. SomeAt interfaces (λ k interface. InterfaceSpeaks interface name)) first second →
    ExtendsBy (λ name. SomeAt unions (λ k union. UnionSpeaks union name)) second third → AreNames g third
all_names g {first = first} {third = third} are were is extended members = record {
  others = extended.more ++ members.more;
  begins =
      members.begins ∙ ap (λ names. names ++ members.more) extended.begins ∙ append_assoc first extended.more members.more
      ∙ ap (λ names. names ++ (extended.more ++ members.more)) is;
  extended = λ name speaks.
      subst (λ names. Contains names name) (sym members.begins)
      (Contains-append_left _ members.more name (extended.among name (subst (λ xs. SomeAt xs (λ k interface. InterfaceSpeaks interface name)) (sym are) speaks)));
  members = λ name speaks. members.among name (subst (λ xs. SomeAt xs (λ k union. UnionSpeaks union name)) (sym were) speaks);
}
