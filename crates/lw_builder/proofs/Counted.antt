-- As many tokens are read as there are marks of tokens.
use Rattle.std.proofs.Common.{ℕ, ◌≡◌, ◌+◌, List, [], ◌∷◌, ◌++◌, length, refl, arith, length-append}
use Rattle.std.proofs.lemmas.List.{length-take-le}
use Rattle.lw_base.specs.declared.token.Token.{Token}
use Rattle.lw_grammar.specs.declared.grammar.Grammar.{Grammar}
use Rattle.lw_grammar.specs.Marks as mark
use Rattle.lw_grammar.specs.Marks.{Mark, kinds_of}
use Rattle.lw_reading.specs.Brackets.{Bracket}
use Rattle.lw_reading.specs.Follows as follows
use Rattle.lw_reading.specs.Follows.{ChangesOpen, FollowsMarks, opens, puts, shuts, renames, wraps, ends}
use Rattle.lw_builder.specs.declared.builder.Builder.{Builder}
use Rattle.lw_builder.specs.Built.{HasFollowed}
use Rattle.lw_builder.specs.Steps.{read_tokens}

kinds_before : (m n : List Mark) → length (kinds_of (m ++ n)) ≡ length (kinds_of m) + length (kinds_of n)
kinds_before [] n = omega arith
kinds_before (mark.Token k ∷ m) n = omega (arith, kinds_before m n)
kinds_before (mark.Open r ∷ m) n = kinds_before m n
kinds_before (mark.Shut ∷ m) n = kinds_before m n
kinds_before (mark.Put name op c ∷ m) n = kinds_before m n
kinds_before (mark.End ∷ m) n = kinds_before m n
kinds_before (mark.Act a ∷ m) n = kinds_before m n

no_kind : (g : Grammar) (text : List ℕ) (ts : List Token) (x : Mark) (bs after : List Bracket) → ChangesOpen g text ts x bs after → length (kinds_of (x ∷ [])) ≡ 0
no_kind g text ts x bs after (opens at has number) = refl
no_kind g text ts x bs after (puts number) = refl
no_kind g text ts x bs after (shuts s) = refl
no_kind g text ts x bs after (renames put number) = refl
no_kind g text ts x bs after (wraps put number prop) = refl
no_kind g text ts x bs after (ends put) = refl

pub as_many_tokens : (g : Grammar) (text : List ℕ) (m : List Mark) (ts : List Token) (bs : List Bracket) → FollowsMarks g text m ts bs → length ts ≡ length (kinds_of m)
as_many_tokens g text m ts bs follows.nothing = refl
as_many_tokens g text m ts bs (follows.token {m = n} {ts = us} t f) =
    omega (arith, as_many_tokens g text n us bs f, length-append us (t ∷ []), kinds_before n (mark.Token t.kind.0 ∷ []))
as_many_tokens g text m ts bs (follows.next {m = n} {mark = x} {bs = mid} f change) =
    omega (arith, as_many_tokens g text n ts mid f, kinds_before n (x ∷ []), no_kind g text ts x mid bs change)

pub counted : (g : Grammar) (m : List Mark) (bs : List Bracket) (builder : Builder) → HasFollowed g m bs builder → builder.read ≡ length (kinds_of m)
counted g m bs builder h =
    omega (arith, length-take-le builder.read builder.visible.now h.within, as_many_tokens g builder.text.now m (read_tokens builder) bs h.follows)

pub read_one : (g : Grammar) (m : List Mark) (k : ℕ) (bs after : List Bracket) (old new : Builder) → HasFollowed g m bs old →
    HasFollowed g (m ++ mark.Token k ∷ []) after new → new.read ≡ old.read + 1
read_one g m k bs after old new h j =
    omega (arith, counted g m bs old h, counted g (m ++ mark.Token k ∷ []) after new j, kinds_before m (mark.Token k ∷ []))

pub read_none : (g : Grammar) (m : List Mark) (x : Mark) (bs after mid : List Bracket) (text : List ℕ) (ts : List Token) (old new : Builder) → HasFollowed g m bs old →
    HasFollowed g (m ++ x ∷ []) after new → ChangesOpen g text ts x bs mid → new.read ≡ old.read
read_none g m x bs after mid text ts old new h j change =
    omega (arith, counted g m bs old h, counted g (m ++ x ∷ []) after new j, kinds_before m (x ∷ []), no_kind g text ts x bs mid change)
