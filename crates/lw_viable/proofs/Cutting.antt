-- Where marks are cut: what goes on from marks that are cut behind their last token does not come before they end.
use Rattle.std.proofs.Common.{◌≡◌, ◌⊎◌, inl, inr, ℕ, List, [], ◌∷◌, ◌++◌, refl, sym, ap, ◌∙◌, append-nil}
use Rattle.std.proofs.lemmas.List.{append_cancel_left}
use Rattle.lw_grammar.specs.declared.grammar.Grammar.{Grammar}
use Rattle.lw_grammar.specs.Kinds.{Kinds}
use Rattle.lw_grammar.specs.Marks.{Mark, kinds_of}
use Rattle.lw_grammar.specs.Marks as mark
use Rattle.lw_grammar.proofs.Joined.{kinds_join}
use Rattle.lw_program.specs.Says.{Task}
use Rattle.lw_program.specs.declared.recipes.mark.TreeMark.{TreeMark}
use Rattle.lw_program.specs.declared.recipes.mark.TreeMark.TheVariants as numbered
use Rattle.lw_program.specs.Meant.{AreMeant}
use Rattle.lw_program.specs.Meant as meant
use Rattle.lw_viable.specs.Readings.{IsCutReading}
use Rattle.lw_viable.specs.Readings as keep
use Rattle.lw_viable.specs.Visiting.{BeginsDue}
use Rattle.lw_viable.specs.declared.due.Due.{Due}
use Rattle.lw_viable.specs.declared.due.Due.TheVariants.{Nothing, End, Reference}
use Rattle.lw_viable.proofs.Meaning.{meant_cut, none_left, quiet_parts}
use Rattle.lw_viable.proofs.Moves.Marking.{token_meant}

-- of one list that is cut at two places, the one cut comes before the other
pub cut_twice : {X : Type 0} (a b c d : List X) → a ++ b ≡ c ++ d →
    ((e : List X) × (c ≡ a ++ e) × (b ≡ e ++ d)) ⊎ ((e : List X) × (a ≡ c ++ e) × (d ≡ e ++ b))
cut_twice [] b c d is = inl (c, refl, is)
cut_twice (x ∷ a) b [] d is = inr (x ∷ a, refl, sym is)
cut_twice (x ∷ a) b (y ∷ c) d is =
    let first : x ≡ y = cc in
    let others : a ++ b ≡ c ++ d = cc in
    elim (cut_twice a b c d others) [
      | inl (e, c_is, b_is) ↦ inl (e, ap (λ x. x ∷ c) (sym first) ∙ ap (λ c. x ∷ c) c_is, b_is)
      | inr (e, a_is, d_is) ↦ inr (e, ap (λ x. x ∷ a) first ∙ ap (λ a. y ∷ a) a_is, d_is)
    ]

no_more : {X : Type 0} (xs : List X) (y : X) (ys : List X) → [] ≡ xs ++ y ∷ ys → ⊥
no_more [] y ys is = cc
no_more (x ∷ xs) y ys is = cc

-- with a token, marks have a kind
no_quiet_token : (m : List Mark) (k : ℕ) → kinds_of (m ++ mark.Token k ∷ []) ≡ [] → ⊥
no_quiet_token m k quiet = let (own, token) = quiet_parts m (mark.Token k ∷ []) quiet in cc

-- behind the last of marks that end with a token there is nothing without a token
pub quiet_end : (front : List Mark) (k : ℕ) (a e : List Mark) → front ++ mark.Token k ∷ [] ≡ a ++ e → kinds_of e ≡ [] → e ≡ []
quiet_end front k a e is quiet = by (cut_twice front (mark.Token k ∷ []) a e is)
  where
    token_there : (x : List Mark) → mark.Token k ∷ [] ≡ x ++ e → e ≡ []
    token_there [] is = absurd (no_quiet_token [] k (ap kinds_of is ∙ quiet))
    token_there (x ∷ xs) is = let rest : [] ≡ xs ++ e = cc in (none_left xs e (sym rest)).1

    by : ((x : List Mark) × (a ≡ front ++ x) × (mark.Token k ∷ [] ≡ x ++ e)) ⊎ ((x : List Mark) × (front ≡ a ++ x) × (e ≡ x ++ mark.Token k ∷ [])) → e ≡ []
    by (inl (x, a_is, is)) = token_there x is
    by (inr (x, front_is, is)) = absurd (no_quiet_token x k (sym (ap kinds_of is) ∙ quiet))

-- what comes behind marks that have all kinds has none
pub same_kinds : {ks : List ℕ} (m n : List Mark) → kinds_of m ≡ ks → kinds_of (m ++ n) ≡ ks → kinds_of n ≡ []
same_kinds {ks} m n first both =
    append_cancel_left ks (kinds_of n) []
    (ap (λ ks. ks ++ kinds_of n) (sym first) ∙ sym (kinds_join m n) ∙ both ∙ sym (append-nil ks))

no_open_due : (due : Due) {r : ℕ} {m n : List Mark} → BeginsDue due m → m ≡ mark.Open r ∷ n → ⊥
no_open_due Nothing begins is = cc
no_open_due End (x, begins) is = cc
no_open_due (Reference recipes) (p, op, c, x, begins, makes) is = cc

module _ (g : Grammar) (kinds : Kinds) (tasks : List Task) where
  -- nothing without a token is behind a cut in what was read, where what is due follows it
  cut_apart : (due : Due) {ks : List ℕ} {marks : List TreeMark} {front b : List Mark} → IsCutReading g kinds tasks ks marks → AreMeant g marks front →
      (a : List Mark) (m : Mark) (e others : List Mark) → front ≡ a ++ m ∷ e → kinds_of (m ∷ e) ≡ [] → b ≡ m ∷ (e ++ others) → BeginsDue due b → ⊥
  cut_apart due keep.unmarked meant.none a m e others is quiet b_is begins = no_more a m e is
  cut_apart due (keep.opened r) (meant.more (meant.opens q) meant.none) a m e others is quiet b_is begins = by a is
    where
      by : (a : List Mark) → mark.Open q.0 ∷ [] ≡ a ++ m ∷ e → ⊥
      by [] is = let first : m ≡ mark.Open q.0 = cc in no_open_due due begins (b_is ∙ ap (λ m. m ∷ (e ++ others)) first)
      by (x ∷ a) is = let rest : [] ≡ a ++ m ∷ e = cc in no_more a m e rest
  cut_apart due (keep.token marks kind) means a m e others is quiet b_is begins =
      let cut = meant_cut g marks (numbered.Token kind ∷ []) means in
      let ends = ap (λ back. cut.front ++ back) (sym (token_meant g cut.behind)) ∙ sym cut.are ∙ is in
      no_first (quiet_end cut.front kind.0 a (m ∷ e) ends quiet)
    where
      no_first : m ∷ e ≡ [] → ⊥
      no_first is = cc

  -- what was read comes first
  pub record CutFirst (front a b others : List Mark) : Type 0 where
    pub mid : List Mark
    pub quiet : kinds_of mid ≡ []
    pub are : a ≡ front ++ mid
    pub left : others ≡ mid ++ b

  pub front_first : (due : Due) {ks : List ℕ} {marks : List TreeMark} (front a b others : List Mark) → IsCutReading g kinds tasks ks marks → AreMeant g marks front →
      kinds_of front ≡ ks → a ++ b ≡ front ++ others → kinds_of a ≡ ks → BeginsDue due b → CutFirst front a b others
  front_first due front a b others cut means front_kinds is a_kinds begins = by (cut_twice a b front others is)
    where
      cut_here : (e : List Mark) → front ≡ a ++ e → kinds_of e ≡ [] → b ≡ e ++ others → CutFirst front a b others
      cut_here [] front_is quiet b_is =
          record { mid = []; quiet = refl; are = sym (append-nil front ∙ front_is ∙ append-nil a); left = sym b_is }
      cut_here (m ∷ e) front_is quiet b_is = absurd (cut_apart due cut means a m e others front_is quiet b_is begins)

      by : ((e : List Mark) × (front ≡ a ++ e) × (b ≡ e ++ others)) ⊎ ((e : List Mark) × (a ≡ front ++ e) × (others ≡ e ++ b)) → CutFirst front a b others
      by (inl (e, front_is, b_is)) = cut_here e front_is (same_kinds a e a_kinds (sym (ap kinds_of front_is) ∙ front_kinds)) b_is
      by (inr (e, a_is, others_is)) = record { mid = e; quiet = same_kinds front e front_kinds (sym (ap kinds_of a_is) ∙ a_kinds); are = a_is; left = others_is }
