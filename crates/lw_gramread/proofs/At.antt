-- What a reader reads, beside the stack: where it reads something the stack goes on as it says, and where it stops the stack does.
use Rattle.std.proofs.Common.{ℕ, zero, suc, ◌≡◌, Bool, true, false, cond, List, [], ◌∷◌, ◌++◌, ◌<◌, ◌≤◌, length, Option, Some, None, Ok, Err, refl, sym, ap, ◌∙◌, subst, arith, rules}
use denote.Enum.Bare.{same_true}
use Rattle.lw_base.specs.declared.token.Span.{Span}
use Rattle.lw_gramlex.specs.declared.token.Symbol.{Symbol}
use Rattle.lw_gramlex.specs.declared.token.Symbol.TheVariants as sign
use Rattle.lw_gramlex.specs.contracts.token.Symbol as the_symbol
use Rattle.lw_gramread.specs.declared.lexeme.Reserved.{Reserved}
use Rattle.lw_gramread.specs.contracts.lexeme.Reserved as the_reserved
use Rattle.lw_gramread.specs.declared.lexeme.Lexeme.{Lexeme}
use Rattle.lw_gramread.specs.declared.lexeme.Lexeme.TheVariants.{Word, Text, Regex, Flagged, Sign, Other}
use Rattle.lw_gramread.specs.declared.reader.left.Spot.{Spot}
use Rattle.lw_gramread.specs.declared.reader.left.Stop.TheVariants.{Unexpected, TooDeep}
use Rattle.lw_grammar.specs.declared.terminal.Primitive.{Primitive}
use Rattle.lw_gramread.specs.Lexemes.{primitive_of}
use Rattle.lw_gramread.specs.Steps.{Reading, Outcome, and_then, sees, sees_reserved, same_symbol, same_reserved, symbol, reserved, free_word, feature, text, primitive, this_primitive, gathered}
use Rattle.lw_gramread.proofs.AgainTypes.{reserved_itself}
use Rattle.lw_gramread.proofs.Machine.{Sym, Want, WantWord, WantName, WantFeature, WantText, WantPrimitive, May, Bottom, Verdict, Stuck, Deep, place, Card, bottom_spot}

pub data At {X : Type 0} (v : Verdict) (k : List Lexeme → Verdict) (P : List Lexeme → X → Type 0) : Outcome X → Type 0 where
  read : (x : X) (rest : List Lexeme) → v ≡ k rest → P rest x → At v k P (Ok (x, rest))
  stuck : {spot : Spot} {left : List Lexeme} → v ≡ Stuck spot left → At v k P (Err (Unexpected spot, left))
  deep : {left : List Lexeme} → v ≡ Deep left → At v k P (Err (TooDeep, left))

pub along : {X : Type 0} {v w : Verdict} {k : List Lexeme → Verdict} {P : List Lexeme → X → Type 0} {r : Outcome X} → v ≡ w → At w k P r → At v k P r
along e (read x rest h p) = read x rest (e ∙ h) p
along e (stuck h) = stuck (e ∙ h)
along e (deep h) = deep (e ∙ h)

pub bind : {X Y : Type 0} {v : Verdict} {k l : List Lexeme → Verdict} {P : List Lexeme → X → Type 0} {Q : List Lexeme → Y → Type 0} {r : Outcome X} (f : X → Reading Y) →
    At v k P r → ((mid : List Lexeme) (x : X) → P mid x → At (k mid) l Q (f x mid)) → At v l Q (and_then r f)
bind f (read x rest e p) g = along e (g rest x p)
bind f (stuck e) g = stuck e
bind f (deep e) g = deep e

pub done : {X : Type 0} {k : List Lexeme → Verdict} {P : List Lexeme → X → Type 0} (x : X) (ts : List Lexeme) → P ts x → At (k ts) k P (Ok (x, ts))
done x ts p = read x ts refl p

pub either_way : {P : Type 0} (c : Bool) → (c ≡ true → P) → (c ≡ false → P) → P
either_way true f g = f refl
either_way false f g = g refl

pub is_symbol : (y x : Symbol) → same_symbol y x ≡ true → y ≡ x
unfolding same_symbol
is_symbol y x e = same_true the_symbol.the_type (search rules) y x e

-- a symbol, where `v` stops at every other token
pub wanted_at : (x : Symbol) (spot : Spot) (v k : List Lexeme → Verdict) → ((ts : List Lexeme) → sees x ts ≡ false → v ts ≡ Stuck spot ts) →
    ((s : Span) (rest : List Lexeme) → v (Sign x s ∷ rest) ≡ k rest) → (ts : List Lexeme) → At (v ts) k (λ rest s. ts ≡ Sign x s ∷ rest) (symbol x spot ts)
unfolding symbol
wanted_at x spot v k stops goes [] = stuck (stops [] refl)
wanted_at x spot v k stops goes (Word n r s ∷ ts) = stuck (stops (Word n r s ∷ ts) refl)
wanted_at x spot v k stops goes (Text w s ∷ ts) = stuck (stops (Text w s ∷ ts) refl)
wanted_at x spot v k stops goes (Regex p s ∷ ts) = stuck (stops (Regex p s ∷ ts) refl)
wanted_at x spot v k stops goes (Flagged s ∷ ts) = stuck (stops (Flagged s ∷ ts) refl)
wanted_at x spot v k stops goes (Other s ∷ ts) = stuck (stops (Other s ∷ ts) refl)
wanted_at x spot v k stops goes (Sign y s ∷ ts) = by (same_symbol y x) refl
  where
    by : (same : Bool) → same_symbol y x ≡ same → At (v (Sign y s ∷ ts)) k (λ rest q. Sign y s ∷ ts ≡ Sign x q ∷ rest) (cond same (Ok (s, ts)) (Err (Unexpected spot, Sign y s ∷ ts)))
    by true e = read s ts (ap (λ z. v (Sign z s ∷ ts)) (is_symbol y x e) ∙ goes s ts) (ap (λ z. Sign z s ∷ ts) (is_symbol y x e))
    by false e = stuck (stops (Sign y s ∷ ts) e)

want_not : (d : ℕ) (b : Bottom) (others : List Sym) (x : Symbol) (ts : List Lexeme) → sees x ts ≡ false → place d b (Want x ∷ others) ts ≡ Stuck (bottom_spot b) ts
want_not d b others x [] h = refl
want_not d b others x (Word n r s ∷ ts) h = refl
want_not d b others x (Text v s ∷ ts) h = refl
want_not d b others x (Regex p s ∷ ts) h = refl
want_not d b others x (Flagged s ∷ ts) h = refl
want_not d b others x (Other s ∷ ts) h = refl
want_not d b others x (Sign y s ∷ ts) h = rw h refl

module _ (d : ℕ) (b : Bottom) (others : List Sym) where
  pub symbol_at : (x : Symbol) (ts : List Lexeme) (k : List Lexeme → Verdict) → ((s : Span) (rest : List Lexeme) → place d b (Want x ∷ others) (Sign x s ∷ rest) ≡ k rest) →
      At (place d b (Want x ∷ others) ts) k (λ rest s. ts ≡ Sign x s ∷ rest) (symbol x (bottom_spot b) ts)
  symbol_at x ts k h = wanted_at x (bottom_spot b) (place d b (Want x ∷ others)) k (want_not d b others x) h ts

  pub name_at : (ts : List Lexeme) → At (place d b (WantName ∷ others) ts) (place d b others) (λ rest n. ts ≡ Word n.0 None n.1 ∷ rest) (free_word (bottom_spot b) ts)
  unfolding free_word
  name_at [] = stuck refl
  name_at (Word n None s ∷ ts) = read (n, s) ts refl refl
  name_at (Word n (Some r) s ∷ ts) = stuck refl
  name_at (Text v s ∷ ts) = stuck refl
  name_at (Regex p s ∷ ts) = stuck refl
  name_at (Flagged s ∷ ts) = stuck refl
  name_at (Other s ∷ ts) = stuck refl
  name_at (Sign y s ∷ ts) = stuck refl

  pub feature_at : (ts : List Lexeme) → At (place d b (WantFeature ∷ others) ts) (place d b others) (λ rest n. (r : Option Reserved) × (ts ≡ Word n.0 r n.1 ∷ rest)) (feature (bottom_spot b) ts)
  unfolding feature
  feature_at [] = stuck refl
  feature_at (Word n r s ∷ ts) = read (n, s) ts refl (r, refl)
  feature_at (Text v s ∷ ts) = stuck refl
  feature_at (Regex p s ∷ ts) = stuck refl
  feature_at (Flagged s ∷ ts) = stuck refl
  feature_at (Other s ∷ ts) = stuck refl
  feature_at (Sign y s ∷ ts) = stuck refl

  pub text_at : (ts : List Lexeme) → At (place d b (WantText ∷ others) ts) (place d b others) (λ rest v. ts ≡ Text v.0 v.1 ∷ rest) (text (bottom_spot b) ts)
  unfolding text
  text_at [] = stuck refl
  text_at (Word n r s ∷ ts) = stuck refl
  text_at (Text v s ∷ ts) = read (v, s) ts refl refl
  text_at (Regex p s ∷ ts) = stuck refl
  text_at (Flagged s ∷ ts) = stuck refl
  text_at (Other s ∷ ts) = stuck refl
  text_at (Sign y s ∷ ts) = stuck refl

  -- the word of a primitive, and the token that it is
  pub primitive_at : (ts : List Lexeme) → At (place d b (WantPrimitive ∷ others) ts) (place d b others)
      (λ rest p. (n : List ℕ) × (r : Reserved) × (s : Span) × (primitive_of r ≡ Some p) × (ts ≡ Word n (Some r) s ∷ rest)) (primitive (bottom_spot b) ts)
  unfolding primitive
  primitive_at [] = stuck refl
  primitive_at (Word n None s ∷ ts) = stuck refl
  primitive_at (Word n (Some r) s ∷ ts) = by (primitive_of r) refl
    where
      by : (found : Option Primitive) → primitive_of r ≡ found → At (place d b (WantPrimitive ∷ others) (Word n (Some r) s ∷ ts)) (place d b others)
          (λ rest p. (m : List ℕ) × (q : Reserved) × (t : Span) × (primitive_of q ≡ Some p) × (Word n (Some r) s ∷ ts ≡ Word m (Some q) t ∷ rest)) (this_primitive (bottom_spot b) found (Word n (Some r) s ∷ ts))
      by (Some p) e = read p ts (rw e refl) (n, r, s, e, refl)
      by None e = stuck (rw e refl)
  primitive_at (Text v s ∷ ts) = stuck refl
  primitive_at (Regex p s ∷ ts) = stuck refl
  primitive_at (Flagged s ∷ ts) = stuck refl
  primitive_at (Other s ∷ ts) = stuck refl
  primitive_at (Sign y s ∷ ts) = stuck refl

-- a token that may be left out, and is not of what stands behind it
module _ (d : ℕ) (b : Bottom) (others : List Sym) (x : Symbol) where
  may_not : (ts : List Lexeme) → sees x ts ≡ false → place d b (May x ∷ others) ts ≡ place d b others ts
  may_not [] h = refl
  may_not (Word n r s ∷ ts) h = refl
  may_not (Text v s ∷ ts) h = refl
  may_not (Regex p s ∷ ts) h = refl
  may_not (Flagged s ∷ ts) h = refl
  may_not (Other s ∷ ts) h = refl
  may_not (Sign y s ∷ ts) h = rw h refl

pub skip_may : (d : ℕ) (b : Bottom) (others : List Sym) (x : Symbol) (ts : List Lexeme) → sees x ts ≡ false → place d b (May x ∷ others) ts ≡ place d b others ts
skip_may d b others x ts h = may_not d b others x ts h

-- whether a symbol comes next
pub data Seen (x : Symbol) : List Lexeme → Type 0 where
  comes : (s : Span) (ts : List Lexeme) → Seen x (Sign x s ∷ ts)
  comes_not : {ts : List Lexeme} → sees x ts ≡ false → Seen x ts

pub seen : (x : Symbol) (ts : List Lexeme) → Seen x ts
seen x [] = comes_not refl
seen x (Word n r s ∷ ts) = comes_not refl
seen x (Text v s ∷ ts) = comes_not refl
seen x (Regex p s ∷ ts) = comes_not refl
seen x (Flagged s ∷ ts) = comes_not refl
seen x (Other s ∷ ts) = comes_not refl
seen x (Sign y s ∷ ts) = by (same_symbol y x) refl
  where
    by : (same : Bool) → same_symbol y x ≡ same → Seen x (Sign y s ∷ ts)
    by true e = subst (λ z. Seen x (Sign z s ∷ ts)) (sym (is_symbol y x e)) (comes s ts)
    by false e = comes_not e

pub is_the_word : (q r : Reserved) → same_reserved q r ≡ true → q ≡ r
unfolding same_reserved
is_the_word q r e = same_true the_reserved.the_type (search rules) q r e

pub data SeenWord (r : Reserved) : List Lexeme → Type 0 where
  word_comes : (n : List ℕ) (s : Span) (ts : List Lexeme) → SeenWord r (Word n (Some r) s ∷ ts)
  word_comes_not : {ts : List Lexeme} → sees_reserved r ts ≡ false → SeenWord r ts

pub seen_word : (r : Reserved) (ts : List Lexeme) → SeenWord r ts
seen_word r [] = word_comes_not refl
seen_word r (Word n None s ∷ ts) = word_comes_not refl
seen_word r (Word n (Some q) s ∷ ts) = by (same_reserved q r) refl
  where
    by : (same : Bool) → same_reserved q r ≡ same → SeenWord r (Word n (Some q) s ∷ ts)
    by true e = subst (λ z. SeenWord r (Word n (Some z) s ∷ ts)) (sym (is_the_word q r e)) (word_comes n s ts)
    by false e = word_comes_not e
seen_word r (Text v s ∷ ts) = word_comes_not refl
seen_word r (Regex p s ∷ ts) = word_comes_not refl
seen_word r (Flagged s ∷ ts) = word_comes_not refl
seen_word r (Other s ∷ ts) = word_comes_not refl
seen_word r (Sign y s ∷ ts) = word_comes_not refl

want_word_not : (d : ℕ) (b : Bottom) (others : List Sym) (r : Reserved) (ts : List Lexeme) → sees_reserved r ts ≡ false → place d b (WantWord r ∷ others) ts ≡ Stuck (bottom_spot b) ts
want_word_not d b others r [] h = refl
want_word_not d b others r (Word n None s ∷ ts) h = refl
want_word_not d b others r (Word n (Some q) s ∷ ts) h = rw h refl
want_word_not d b others r (Text v s ∷ ts) h = refl
want_word_not d b others r (Regex p s ∷ ts) h = refl
want_word_not d b others r (Flagged s ∷ ts) h = refl
want_word_not d b others r (Other s ∷ ts) h = refl
want_word_not d b others r (Sign y s ∷ ts) h = refl

pub reserved_at : (d : ℕ) (b : Bottom) (others : List Sym) (r : Reserved) (ts : List Lexeme) →
    At (place d b (WantWord r ∷ others) ts) (place d b others) (λ rest u. (n : List ℕ) × (s : Span) × (ts ≡ Word n (Some r) s ∷ rest)) (reserved r (bottom_spot b) ts)
unfolding reserved
reserved_at d b others r ts = by ts (seen_word r ts)
  where
    by : (us : List Lexeme) → SeenWord r us → At (place d b (WantWord r ∷ others) us) (place d b others) (λ rest u. (n : List ℕ) × (s : Span) × (us ≡ Word n (Some r) s ∷ rest)) (reserved r (bottom_spot b) us)
    by us (word_comes n s vs) = rw (reserved_itself r) (read tt vs refl (n, s, refl))
    by us (word_comes_not h) = rw h (stuck (want_word_not d b others r us h))

-- a mark that is not there
pub card_not : (d : ℕ) (b : Bottom) (others : List Sym) (ts : List Lexeme) → sees sign.Question ts ≡ false → sees sign.Star ts ≡ false → sees sign.Plus ts ≡ false →
    place d b (Card ∷ others) ts ≡ place d b others ts
card_not d b others [] h g f = refl
card_not d b others (Word n r s ∷ ts) h g f = refl
card_not d b others (Text v s ∷ ts) h g f = refl
card_not d b others (Regex p s ∷ ts) h g f = refl
card_not d b others (Flagged s ∷ ts) h g f = refl
card_not d b others (Other s ∷ ts) h g f = refl
card_not d b others (Sign y s ∷ ts) h g f = rw (h, g, f) refl

pub finish : {X : Type 0} {v : Verdict} {k l : List Lexeme → Verdict} {P Q : List Lexeme → X → Type 0} {r : Outcome X} →
    ((rest : List Lexeme) (x : X) → P rest x → (k rest ≡ l rest) × Q rest x) → At v k P r → At v l Q r
finish f (read x rest e p) = let h = f rest x p in read x rest (e ∙ h.0) h.1
finish f (stuck e) = stuck e
finish f (deep e) = deep e

-- where the stack behind it is as good as another
pub moved : {X : Type 0} {v : Verdict} {k l : List Lexeme → Verdict} {P : List Lexeme → X → Type 0} {r : Outcome X} → ((rest : List Lexeme) → k rest ≡ l rest) → At v k P r → At v l P r
moved f a = finish (λ rest x p. (f rest, p)) a

-- as many as there are: `v` is where the stack is between them and `k` behind them, `I` holds between them and `E` behind them
module _ {A : Type 0} (goes_on : List Lexeme → Bool) (item : Reading (List A)) (v k : List Lexeme → Verdict) (I E : List Lexeme → Type 0)
    (Q : List Lexeme → List Lexeme → List A → Type 0) where
  pub record Turns : Type 0 where
    pub empty : goes_on [] ≡ false
    pub leaves : (ts : List Lexeme) → I ts → goes_on ts ≡ false → (v ts ≡ k ts) × Q ts ts [] × E ts
    pub turn : (ts : List Lexeme) → I ts → goes_on ts ≡ true →
        At (v ts) v (λ mid xs. (length mid < length ts) × I mid × ((rest : List Lexeme) (ys : List A) → Q mid rest ys → Q ts rest (xs ++ ys))) (item ts)

  pub gathered_at : Turns → (n : ℕ) (ts : List Lexeme) → length ts ≤ n → I ts → At (v ts) k (λ rest xs. Q ts rest xs × E rest) (gathered goes_on item n ts)
  unfolding gathered
  gathered_at t zero [] le i = let h = t.leaves [] i t.empty in read [] [] h.0 (h.1, h.2)
  gathered_at t zero (x ∷ ts) le i = absurd (omega arith)
  gathered_at t (suc n) ts le i =
      either_way (goes_on ts)
      (λ e. rw e (bind _ (t.turn ts i e) (λ mid xs h. bind _ (gathered_at t n mid (omega (arith, h.0)) h.1) (λ rest ys g. done (xs ++ ys) rest (h.2 rest ys g.0, g.1)))))
      (λ e. let h = t.leaves ts i e in rw e (read [] ts h.0 (h.1, h.2)))
