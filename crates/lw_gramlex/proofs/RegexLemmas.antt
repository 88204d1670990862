-- A text begins with at most one regular expression, whose end a scan from the left finds.
use Rattle.std.proofs.Math.Seq.{drop-cons, drop-append-add}
use Rattle.std.proofs.Math.ListN.{drop_of_length-le}
use Rattle.std.proofs.Common.{◌≡◌, ◌≢◌, ◌<◌, ◌≤◌, drop, get_or, ℕ, suc, ◌+◌, List, [], ◌∷◌, ◌++◌, length, take_while, Bool, true, false, not, ◌&&◌, ◌||◌, Option, Some, None, refl, sym, ap, ◌∙◌, subst, arith, add-zero, zero-add, append_assoc, length-append, if◌then◌else◌, ◌==◌}
use Rattle.std.specs.Char.{is_ascii_lowercase}
use Rattle.std.proofs.lemmas.Bool.{eqb-true, eqb-false, eq-eqb, ne_eqb}
use Rattle.lw_gramlex.specs.FileTokens.{is_line_end, NoLineEnd, IsClassInside, IsRegexPart, AreRegexParts, AreClosed, IsRegex}

-- where the slash stands that closes the parts, n bytes having been passed: behind a backslash or not, in a class or not
abbrev pub body_end : ℕ → Bool → Bool → List ℕ → Option ℕ
body_end n escaped in_class [] = None
body_end n true in_class (c ∷ cs) = if is_line_end c then None else body_end (n + 1) false in_class cs
body_end n false in_class (c ∷ cs) =
    if is_line_end c then None
    else if not in_class && (c == 47) then Some n
    else body_end (n + 1) (c == 92) ((in_class && not (c == 93)) || (c == 91)) cs

-- ---- parts are found

class_passed : (n : ℕ) (cs after : List ℕ) → IsClassInside cs → body_end n false true (cs ++ 93 ∷ after) ≡ body_end (n + length cs + 1) false false after
class_passed n _ after IsClassInside.done = ap (λ k. body_end k false false after) (let e : n + 1 ≡ n + 0 + 1 = omega arith in e)
class_passed n _ after (IsClassInside.one {c = c} {cs = cs} in_line not_end not_backslash rest) =
    let longer : n + 1 + length cs + 1 ≡ n + suc (length cs) + 1 = omega arith in
    rw (in_line, ne_eqb c 92 not_backslash, ne_eqb c 93 not_end) (class_passed (n + 1) cs after rest ∙ ap (λ k. body_end k false false after) longer)
class_passed n _ after (IsClassInside.pair {c = c} {cs = cs} in_line rest) =
    let longer : n + 1 + 1 + length cs + 1 ≡ n + suc (suc (length cs)) + 1 = omega arith in
    rw in_line (class_passed (n + 1 + 1) cs after rest ∙ ap (λ k. body_end k false false after) longer)

part_passed : (n : ℕ) (part after : List ℕ) → IsRegexPart part → body_end n false false (part ++ after) ≡ body_end (n + length part) false false after
part_passed n _ after (IsRegexPart.one {c = c} in_line not_open not_slash not_backslash) =
    rw (in_line, ne_eqb c 47 not_slash, ne_eqb c 92 not_backslash, ne_eqb c 91 not_open) refl
part_passed n _ after (IsRegexPart.pair {c = c} in_line) =
    let longer : n + 1 + 1 ≡ n + 2 = omega arith in
    rw in_line (ap (λ k. body_end k false false after) longer)
part_passed n _ after (IsRegexPart.class {cs = cs} within) =
    let longer : n + 1 + length cs + 1 ≡ n + suc (length (cs ++ 93 ∷ [])) = omega (arith, length-append cs (93 ∷ [])) in
    ap (body_end (n + 1) false true) (append_assoc cs (93 ∷ []) after) ∙ class_passed (n + 1) cs after within ∙ ap (λ k. body_end k false false after) longer

pub body_end_finds : (n : ℕ) (body after : List ℕ) → AreRegexParts body → body_end n false false (body ++ 47 ∷ after) ≡ Some (n + length body)
body_end_finds n _ after AreRegexParts.none = ap Some (sym (add-zero n))
body_end_finds n _ after (AreRegexParts.more {part = part} {parts = parts} is_part are_parts) =
    let longer : n + length part + length parts ≡ n + length (part ++ parts) = omega (arith, length-append part parts) in
    ap (body_end n false false) (append_assoc part parts (47 ∷ after)) ∙ part_passed n part (parts ++ 47 ∷ after) is_part ∙ body_end_finds (n + length part) parts after are_parts ∙ ap Some longer

-- ---- what is found are parts

-- the rest of a class, and the parts behind it
pub record IsInClass (body : List ℕ) : Type 0 where
  pub class : List ℕ
  pub others : List ℕ
  pub split : body ≡ class ++ 93 ∷ others
  pub within : IsClassInside class
  pub are_parts : AreRegexParts others

abbrev pub InState : Bool → List ℕ → Type 0
InState true body = IsInClass body
InState false body = AreRegexParts body

-- behind a backslash the body goes on the pair
abbrev pub with_backslash : Bool → List ℕ → List ℕ
with_backslash true body = 92 ∷ body
with_backslash false body = body

pub record IsFound (n : ℕ) (escaped in_class : Bool) (cs : List ℕ) (m : ℕ) : Type 0 where
  pub body : List ℕ
  pub after : List ℕ
  pub parts : cs ≡ body ++ 47 ∷ after
  pub within : InState in_class (with_backslash escaped body)
  pub bytes : m ≡ n + length body

module _ (n c : ℕ) (cs : List ℕ) (m : ℕ) where
  behind_backslash : (k : Bool) → NoLineEnd c → (f : IsFound (n + 1) false k cs m) → InState k (92 ∷ c ∷ f.body)
  behind_backslash true in_line f =
      let w = f.within in
      record { class = 92 ∷ c ∷ w.class; others = w.others; split = ap (λ x. 92 ∷ c ∷ x) w.split; within = IsClassInside.pair in_line w.within; are_parts = w.are_parts }
  behind_backslash false in_line f = AreRegexParts.more (IsRegexPart.pair in_line) f.within

  from_backslash : (k : Bool) → IsFound (n + 1) true k cs m → IsFound n false k (92 ∷ cs) m
  from_backslash k f = record { body = 92 ∷ f.body; after = f.after; parts = ap (λ x. 92 ∷ x) f.parts; within = f.within; bytes = omega (arith, f.bytes) }

  into_class : IsFound (n + 1) false true cs m → IsFound n false false (91 ∷ cs) m
  into_class f =
      let w = f.within in
      let joined : 91 ∷ ((w.class ++ 93 ∷ []) ++ w.others) ≡ 91 ∷ f.body = ap (λ x. 91 ∷ x) (append_assoc w.class (93 ∷ []) w.others ∙ sym w.split) in
      record { body = 91 ∷ f.body; after = f.after; parts = ap (λ x. 91 ∷ x) f.parts; within = subst AreRegexParts joined (AreRegexParts.more (IsRegexPart.class w.within) w.are_parts); bytes = omega (arith, f.bytes) }

  out_of_class : IsFound (n + 1) false false cs m → IsFound n false true (93 ∷ cs) m
  out_of_class f = record {
    body = 93 ∷ f.body;
    after = f.after;
    parts = ap (λ x. 93 ∷ x) f.parts;
    within = record { class = []; others = f.body; split = refl; within = IsClassInside.done; are_parts = f.within };
    bytes = omega (arith, f.bytes);
  }

  in_class_still : NoLineEnd c → c ≢ 93 → c ≢ 92 → IsFound (n + 1) false true cs m → IsFound n false true (c ∷ cs) m
  in_class_still in_line not_end not_backslash f =
      let w = f.within in
      record {
        body = c ∷ f.body;
        after = f.after;
        parts = ap (λ x. c ∷ x) f.parts;
        within = record { class = c ∷ w.class; others = w.others; split = ap (λ x. c ∷ x) w.split; within = IsClassInside.one in_line not_end not_backslash w.within; are_parts = w.are_parts };
        bytes = omega (arith, f.bytes);
      }

  one_part : NoLineEnd c → c ≢ 91 → c ≢ 47 → c ≢ 92 → IsFound (n + 1) false false cs m → IsFound n false false (c ∷ cs) m
  one_part in_line not_open not_slash not_backslash f = record {
    body = c ∷ f.body;
    after = f.after;
    parts = ap (λ x. c ∷ x) f.parts;
    within = AreRegexParts.more (IsRegexPart.one in_line not_open not_slash not_backslash) f.within;
    bytes = omega (arith, f.bytes);
  }

  -- ---- the step of the scan at the byte c

  step_escaped : (k : Bool) → (body_end (n + 1) false k cs ≡ Some m → IsFound (n + 1) false k cs m) → (b : Bool) → is_line_end c ≡ b →
      (if b then None else body_end (n + 1) false k cs) ≡ Some m → IsFound n true k (c ∷ cs) m
  step_escaped k later true is g = cc
  step_escaped k later false is g =
      let f = later g in
      record { body = c ∷ f.body; after = f.after; parts = ap (λ x. c ∷ x) f.parts; within = behind_backslash k is f; bytes = omega (arith, f.bytes) }

  -- outside of a class
  in_parts : NoLineEnd c → c ≢ 47 → (a b : Bool) → (c == 92) ≡ a → (c == 91) ≡ b → IsFound (n + 1) a b cs m → IsFound n false false (c ∷ cs) m
  in_parts in_line not_slash true true is_backslash is_open f = absurd (omega (arith, eqb-true c 92 is_backslash, eqb-true c 91 is_open))
  in_parts in_line not_slash true false is_backslash is_open f = subst (λ x. IsFound n false false (x ∷ cs) m) (sym (eqb-true c 92 is_backslash)) (from_backslash false f)
  in_parts in_line not_slash false true is_backslash is_open f = subst (λ x. IsFound n false false (x ∷ cs) m) (sym (eqb-true c 91 is_open)) (into_class f)
  in_parts in_line not_slash false false is_backslash is_open f = one_part in_line (eqb-false c 91 is_open) not_slash (eqb-false c 92 is_backslash) f

  step_parts : (body_end (n + 1) (c == 92) (c == 91) cs ≡ Some m → IsFound (n + 1) (c == 92) (c == 91) cs m) → (a b : Bool) → is_line_end c ≡ a → (c == 47) ≡ b →
      (if a then None else if b then Some n else body_end (n + 1) (c == 92) (c == 91) cs) ≡ Some m → IsFound n false false (c ∷ cs) m
  step_parts later true b is is_slash g = cc
  step_parts later false true is is_slash g =
      let at : n ≡ m = cc in
      record { body = []; after = cs; parts = ap (λ x. x ∷ cs) (eqb-true c 47 is_slash); within = AreRegexParts.none; bytes = omega (arith, at) }
  step_parts later false false is is_slash g = in_parts is (eqb-false c 47 is_slash) (c == 92) (c == 91) refl refl (later g)

  -- inside of one
  in_class_next : NoLineEnd c → (a b : Bool) → (c == 92) ≡ a → (c == 93) ≡ b → IsFound (n + 1) (c == 92) (not (c == 93) || (c == 91)) cs m → IsFound n false true (c ∷ cs) m
  in_class_next in_line true b is_backslash is_end f =
      let e : c ≡ 92 = eqb-true c 92 is_backslash in
      subst (λ x. IsFound n false true (x ∷ cs) m) (sym e) (from_backslash true (subst (λ x. IsFound (n + 1) (x == 92) (not (x == 93) || (x == 91)) cs m) e f))
  in_class_next in_line false true is_backslash is_end f =
      let e : c ≡ 93 = eqb-true c 93 is_end in
      subst (λ x. IsFound n false true (x ∷ cs) m) (sym e) (out_of_class (subst (λ x. IsFound (n + 1) (x == 92) (not (x == 93) || (x == 91)) cs m) e f))
  in_class_next in_line false false is_backslash is_end f =
      in_class_still in_line (eqb-false c 93 is_end) (eqb-false c 92 is_backslash)
      (subst (λ b. IsFound (n + 1) false (not b || (c == 91)) cs m) is_end (subst (λ a. IsFound (n + 1) a (not (c == 93) || (c == 91)) cs m) is_backslash f))

  step_class : (body_end (n + 1) (c == 92) (not (c == 93) || (c == 91)) cs ≡ Some m → IsFound (n + 1) (c == 92) (not (c == 93) || (c == 91)) cs m) → (a : Bool) → is_line_end c ≡ a →
      (if a then None else body_end (n + 1) (c == 92) (not (c == 93) || (c == 91)) cs) ≡ Some m → IsFound n false true (c ∷ cs) m
  step_class later true is g = cc
  step_class later false is g = in_class_next is (c == 92) (c == 93) refl refl (later g)

pub body_end_found : (n : ℕ) (escaped in_class : Bool) (cs : List ℕ) (m : ℕ) → body_end n escaped in_class cs ≡ Some m → IsFound n escaped in_class cs m
body_end_found n e k [] m h = cc
body_end_found n true k (c ∷ cs) m h = step_escaped n c cs m k (body_end_found (n + 1) false k cs m) (is_line_end c) refl h
body_end_found n false false (c ∷ cs) m h = step_parts n c cs m (body_end_found (n + 1) (c == 92) (c == 91) cs m) (is_line_end c) (c == 47) refl refl h
body_end_found n false true (c ∷ cs) m h = step_class n c cs m (body_end_found (n + 1) (c == 92) (not (c == 93) || (c == 91)) cs m) (is_line_end c) refl h

-- ---- the parts and their slash

pub closed_end : (cs : List ℕ) (m : ℕ) → AreClosed cs m → body_end 0 false false cs ≡ Some m
closed_end cs m a = ap (body_end 0 false false) a.parts ∙ body_end_finds 0 a.body a.after a.are_parts ∙ ap Some (let e : 0 + length a.body ≡ m = omega (arith, a.bytes) in e)

pub closed_none : (cs : List ℕ) → body_end 0 false false cs ≡ None → (m : ℕ) → ¬ AreClosed cs m
closed_none cs none m a = let e : None ≡ Some m = sym none ∙ closed_end cs m a in cc

pub closed_some : (cs : List ℕ) (m : ℕ) → body_end 0 false false cs ≡ Some m → AreClosed cs m
closed_some cs m h =
    let f = body_end_found 0 false false cs m h in
    record { body = f.body; after = f.after; parts = f.parts; are_parts = f.within; bytes = omega (arith, f.bytes) }

-- ---- how a scan that has come to a place goes on

module _ (at : ℕ) (cs : List ℕ) (e k : Bool) where
  stops_there : (c : ℕ) (ds : List ℕ) (e : Bool) → is_line_end c ≡ true → body_end at e k (c ∷ ds) ≡ None
  stops_there c ds true is = rw is refl
  stops_there c ds false is = rw is refl

  pub scan_stops : at < length cs → is_line_end (get_or cs at 0) ≡ true → body_end 0 false false cs ≡ body_end at e k (drop at cs) → body_end 0 false false cs ≡ None
  scan_stops le is so_far = so_far ∙ ap (body_end at e k) (drop-cons cs at 0 le) ∙ stops_there (get_or cs at 0) (drop (suc at) cs) e is

  pub scan_ends : length cs ≤ at → body_end 0 false false cs ≡ body_end at e k (drop at cs) → body_end 0 false false cs ≡ None
  scan_ends le so_far = so_far ∙ ap (body_end at e k) (drop_of_length-le cs le)

pub scan_closes : (at : ℕ) (cs : List ℕ) → at < length cs → is_line_end (get_or cs at 0) ≡ false → get_or cs at 0 ≡ 47 → body_end 0 false false cs ≡ body_end at false false (drop at cs) → body_end 0 false false cs ≡ Some at
scan_closes at cs le in_line is so_far = so_far ∙ ap (body_end at false false) (drop-cons cs at 0 le) ∙ (rw (in_line, eq-eqb (get_or cs at 0) 47 is) refl)

-- ---- regular expressions

-- a part begins with no slash, and one that begins with a star is the star
pub record HasHead (part : List ℕ) : Type 0 where
  pub head : ℕ
  pub tail : List ℕ
  pub split : part ≡ head ∷ tail
  pub no_slash : head ≢ 47
  pub star : head ≡ 42 → part ≡ 42 ∷ []

part_head : (part : List ℕ) → IsRegexPart part → HasHead part
part_head _ (IsRegexPart.one {c = c} in_line not_open not_slash not_backslash) =
    record { head = c; tail = []; split = refl; no_slash = not_slash; star = λ e. ap (λ x. x ∷ []) e }
part_head _ (IsRegexPart.pair {c = c} in_line) =
    record { head = 92; tail = c ∷ []; split = refl; no_slash = λ e. omega arith; star = λ e. absurd (omega arith) }
part_head _ (IsRegexPart.class {cs = cs} within) =
    record { head = 91; tail = cs ++ 93 ∷ []; split = refl; no_slash = λ e. omega arith; star = λ e. absurd (omega arith) }

-- what the text behind the first slash of a regular expression is
pub record IsBehindSlash (cs : List ℕ) (flags n : ℕ) : Type 0 where
  pub count : ℕ
  pub closed : body_end 0 false false cs ≡ Some count
  pub some : 0 < count
  pub no_star : get_or cs 0 0 ≢ 42
  pub no_slash : get_or cs 0 0 ≢ 47
  pub flags_are : flags ≡ length (take_while is_ascii_lowercase (drop (count + 1) cs))
  pub bytes : n ≡ count + 2 + flags

pub regex_parts : (t cs : List ℕ) (c flags n : ℕ) → t ≡ c ∷ cs → IsRegex t flags n → (c ≡ 47) × IsBehindSlash cs flags n
regex_parts t cs c flags n e r = (
  slash,
  record {
    count = length body;
    closed = ap (body_end 0 false false) (sym rest) ∙ body_end_finds 0 body r.after are_parts ∙ ap Some (zero-add (length body));
    some = omega (arith, length-append r.first r.others, ap length h.split);
    no_star = λ star. r.no_star (h.star (sym at ∙ star));
    no_slash = λ is. h.no_slash (sym at ∙ is);
    flags_are = r.count ∙ ap (λ x. length (take_while is_ascii_lowercase x)) (sym dropped);
    bytes = omega (arith, r.bytes, length-append r.first r.others);
  },
)
  where
    body : List ℕ
    body = r.first ++ r.others

    f : 47 ∷ (body ++ 47 ∷ r.after) ≡ c ∷ cs
    f = sym r.parts ∙ e

    slash : c ≡ 47
    slash = cc

    rest : body ++ 47 ∷ r.after ≡ cs
    rest = cc

    are_parts : AreRegexParts body
    are_parts = AreRegexParts.more r.is_part r.are_parts

    h : HasHead r.first
    h = part_head r.first r.is_part

    at : get_or cs 0 0 ≡ h.head
    at = ap (λ x. get_or x 0 0) (sym rest) ∙ ap (λ p. get_or ((p ++ r.others) ++ 47 ∷ r.after) 0 0) h.split

    dropped : drop (length body + 1) cs ≡ r.after
    dropped = ap (drop (length body + 1)) (sym rest) ∙ drop-append-add body (47 ∷ r.after) 1

behind_same : (cs : List ℕ) (f g m n : ℕ) → IsBehindSlash cs f m → IsBehindSlash cs g n → (f ≡ g) × (m ≡ n)
behind_same cs f g m n a b =
    let e : a.count ≡ b.count = (let h : Some a.count ≡ Some b.count = sym a.closed ∙ b.closed in cc) in
    let i : f ≡ g = a.flags_are ∙ ap (λ k. length (take_while is_ascii_lowercase (drop (k + 1) cs))) e ∙ sym b.flags_are in
    (i, omega (arith, a.bytes, b.bytes))

pub regex_same : (t : List ℕ) (f g m n : ℕ) → IsRegex t f m → IsRegex t g n → (f ≡ g) × (m ≡ n)
regex_same t f g m n p q =
    let cs = (p.first ++ p.others) ++ 47 ∷ p.after in
    behind_same cs f g m n (regex_parts t cs 47 f m p.parts p).1 (regex_parts t cs 47 g n p.parts q).1

-- none begins with a slash that nothing closes, and none with `/*`
pub regex_none_open : (t cs : List ℕ) (c : ℕ) → t ≡ c ∷ cs → ((m : ℕ) → ¬ AreClosed cs m) → (flags n : ℕ) → ¬ IsRegex t flags n
regex_none_open t cs c e none flags n r = let b = (regex_parts t cs c flags n e r).1 in none b.count (closed_some cs b.count b.closed)

pub regex_none_star : (t cs : List ℕ) (c : ℕ) → t ≡ c ∷ cs → get_or cs 0 0 ≡ 42 → (flags n : ℕ) → ¬ IsRegex t flags n
regex_none_star t cs c e star flags n r = (regex_parts t cs c flags n e r).1.no_star star

pub regex_none_bare : (t cs : List ℕ) (c m : ℕ) → t ≡ c ∷ cs → AreClosed cs m → m ≡ 0 → (flags n : ℕ) → ¬ IsRegex t flags n
regex_none_bare t cs c m e closed bare flags n r =
    let b = (regex_parts t cs c flags n e r).1 in
    let same : b.count ≡ m = (let h : Some b.count ≡ Some m = sym b.closed ∙ closed_end cs m closed in cc) in
    omega (arith, b.some)

-- a body that is not empty has a first part
pub record IsSplit (body : List ℕ) : Type 0 where
  pub first : List ℕ
  pub others : List ℕ
  pub split : body ≡ first ++ others
  pub is_part : IsRegexPart first
  pub are_parts : AreRegexParts others

split_body : (body : List ℕ) → AreRegexParts body → 0 < length body → IsSplit body
split_body _ AreRegexParts.none some = absurd (omega arith)
split_body _ (AreRegexParts.more {part = part} {parts = parts} is_part are_parts) some =
    record { first = part; others = parts; split = refl; is_part = is_part; are_parts = are_parts }

pub regex_some : (t cs : List ℕ) (c m : ℕ) → t ≡ c ∷ cs → c ≡ 47 → AreClosed cs m → m ≢ 0 → get_or cs 0 0 ≢ 42 →
    (flags n : ℕ) → flags ≡ length (take_while is_ascii_lowercase (drop (m + 1) cs)) → n ≡ m + 2 + flags → IsRegex t flags n
regex_some t cs c m e slash closed not_bare no_star flags n flags_are bytes = record {
  first = s.first;
  others = s.others;
  after = closed.after;
  parts = e ∙ ap (λ x. x ∷ cs) slash ∙ ap (λ x. 47 ∷ x) parts;
  is_part = s.is_part;
  no_star = λ star. no_star (ap (λ x. get_or x 0 0) parts ∙ ap (λ p. get_or ((p ++ s.others) ++ 47 ∷ closed.after) 0 0) star);
  are_parts = s.are_parts;
  count = flags_are ∙ ap (λ x. length (take_while is_ascii_lowercase x)) dropped;
  bytes = omega (arith, bytes, closed.bytes, ap length s.split, length-append s.first s.others);
}
  where
    some : 0 < length closed.body
    some = omega (arith, closed.bytes, not_bare)

    s : IsSplit closed.body
    s = split_body closed.body closed.are_parts some

    parts : cs ≡ (s.first ++ s.others) ++ 47 ∷ closed.after
    parts = closed.parts ∙ ap (λ b. b ++ 47 ∷ closed.after) s.split

    dropped : drop (m + 1) cs ≡ closed.after
    dropped = ap (λ k. drop (k + 1) cs) closed.bytes ∙ ap (drop (length closed.body + 1)) closed.parts ∙ drop-append-add closed.body (47 ∷ closed.after) 1
