-- The marks before a reference are told by what they are followed by and by the kinds that they read.
use Rattle.std.proofs.Common.{◌≡◌, ◌≢◌, ℕ, List, [], ◌∷◌, ◌++◌, length, refl, sym, ap, ap₂, ◌∙◌, arith}
use Rattle.std.proofs.lemmas.List.{append_assoc, append_cancel_left, length-append, map-append}
use Rattle.lw_base.specs.declared.token.Token.{Token}
use Rattle.lw_grammar.specs.declared.rule.Op.{Op}
use Rattle.lw_grammar.specs.declared.rule.Value0.{Value0}
use Rattle.lw_places.specs.Starting.{ReferenceNext, marks_with, token_marks}
use Rattle.lw_reading.proofs.Listed.{same_head, same_tail}
use Rattle.lw_grammar.specs.Marks.{Mark, Token as AToken, Put, End, kinds_of}
use Rattle.lw_grammar.proofs.Joined.{kinds_join}
use Rattle.lw_tokens.specs.Cut.{kinds}
use Rattle.lw_substitution.proofs.OneReference.{kinds_to_end}

-- ---- the kinds of the marks of a reference

pub kinds_with : (next : ReferenceNext) (front mid : List Token) (after : List Mark) → kinds front ≡ kinds_of next.before →
    kinds_of (marks_with next (kinds mid) ++ after) ≡ kinds (front ++ mid) ++ kinds_of after
kinds_with next front mid after reads =
    kinds_join (marks_with next (kinds mid)) after
    ∙ ap (λ (ks : List ℕ). ks ++ kinds_of after) (sym (kinds_to_end next.before next.prop next.op next.value front mid reads))

pub kinds_after : (next : ReferenceNext) (front mid rest : List Token) (after : List Mark) → kinds front ≡ kinds_of next.before →
    kinds_of (marks_with next (kinds mid) ++ after) ≡ kinds (front ++ mid ++ rest) → kinds_of after ≡ kinds rest
kinds_after next front mid rest after reads same =
    append_cancel_left (kinds (front ++ mid)) (kinds_of after) (kinds rest)
    (sym (kinds_with next front mid after reads) ∙ same ∙ map-append (λ (t : Token). t.kind.0) (front ++ mid) rest)

-- ---- one row of marks before

no_token_puts : {name : List ℕ} {op : Op} {c : Value0} {k : ℕ} → AToken k ≡ Put name op c → ⊥
no_token_puts e = cc

some_kind : (m : Mark) (k : ℕ) (n : List Mark) → [] ≡ kinds_of (m ∷ AToken k ∷ n) → ⊥
some_kind m k n same = omega (arith, ap length (same ∙ kinds_join (m ∷ []) (AToken k ∷ n)), length-append (kinds_of (m ∷ [])) (k ∷ kinds_of n))

-- a token is read directly behind what is put
abbrev PutThenToken : List ℕ → Op → Value0 → ℕ → List Mark → List Mark
PutThenToken name op c k more = Put name op c ∷ AToken k ∷ more

module _ (name other : List ℕ) (op by : Op) (c d : Value0) (k l : ℕ) (more others : List Mark) where
  none_longer : (m : Mark) (behind : List Mark) → [] ≡ kinds_of (m ∷ behind) → PutThenToken name op c k more ≡ m ∷ (behind ++ PutThenToken other by d l others) → ⊥
  none_longer m [] reads same = no_token_puts (same_head (same_tail same))
  none_longer m (x ∷ behind) reads same =
      some_kind m k behind (reads ∙ ap (λ (y : Mark). kinds_of (m ∷ y ∷ behind)) (sym (same_head (same_tail same))))

one_before : (name other : List ℕ) (op by : Op) (c d : Value0) (k l : ℕ) (more others before fore : List Mark) → kinds_of before ≡ kinds_of fore →
    before ++ PutThenToken name op c k more ≡ fore ++ PutThenToken other by d l others → before ≡ fore
one_before name other op by c d k l more others [] [] reads same = refl
one_before name other op by c d k l more others [] (y ∷ fore) reads same = absurd (none_longer name other op by c d k l more others y fore reads same)
one_before name other op by c d k l more others (x ∷ before) [] reads same =
    absurd (none_longer other name by op d c l k others more x before (sym reads) (sym same))
one_before name other op by c d k l more others (x ∷ before) (y ∷ fore) reads same =
    let head : x ≡ y = same_head same in
    let kinds_same : kinds_of (y ∷ []) ++ kinds_of before ≡ kinds_of (y ∷ []) ++ kinds_of fore =
    sym (kinds_join (y ∷ []) before) ∙ ap (λ (z : Mark). kinds_of (z ∷ before)) (sym head) ∙ reads ∙ kinds_join (y ∷ []) fore in
    ap₂ (λ (z : Mark) (zs : List Mark). z ∷ zs) head
    (one_before name other op by c d k l more others before fore (append_cancel_left (kinds_of (y ∷ [])) (kinds_of before) (kinds_of fore) kinds_same) (same_tail same))

-- the marks of a reference that reads a token
token_first : (next : ReferenceNext) (t : Token) (mid : List Token) (after : List Mark) →
    marks_with next (kinds (t ∷ mid)) ++ after
    ≡ next.before ++ PutThenToken next.prop next.op next.value t.kind.0 ((token_marks (kinds mid) ++ End ∷ []) ++ after)
token_first next t mid after =
    ap (λ (m : List Mark). m ++ after) (append_assoc next.before (Put next.prop next.op next.value ∷ token_marks (kinds (t ∷ mid))) (End ∷ []))
    ∙ append_assoc next.before (Put next.prop next.op next.value ∷ token_marks (kinds (t ∷ mid)) ++ End ∷ []) after

pub same_before : (next other : ReferenceNext) (mid : List Token) (after behind : List Mark) → mid ≢ [] → kinds_of next.before ≡ kinds_of other.before →
    marks_with next (kinds mid) ++ after ≡ marks_with other (kinds mid) ++ behind → next.before ≡ other.before
same_before next other [] after behind some reads same = absurd (some refl)
same_before next other (t ∷ mid) after behind some reads same =
    one_before next.prop other.prop next.op other.op next.value other.value t.kind.0 t.kind.0 ((token_marks (kinds mid) ++ End ∷ []) ++ after)
    ((token_marks (kinds mid) ++ End ∷ []) ++ behind) next.before other.before reads
    (sym (token_first next t mid after) ∙ same ∙ token_first other t mid behind)
