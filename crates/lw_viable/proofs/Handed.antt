-- What is handed out of the readings that were found: where references start, and the marks of wholes.
use Rattle.std.proofs.Common.{◌≡◌, ◌↔◌, ℕ, zero, suc, List, [], ◌∷◌, ◌++◌, All, Any, map, slice_get, refl, sym, ap, ◌∙◌, subst, append_assoc, append-nil, arith}
use Rattle.std.specs.List.{AllZip}
use Rattle.std.proofs.lemmas.List.Elements.{All-nil, All-cons, All-head, All-tail, All-weaker, All-map, All-contains}
use Rattle.std.proofs.lemmas.Option.{same_Some}
use Rattle.lw_grammar.specs.declared.grammar.Grammar.{Grammar}
use Rattle.lw_grammar.specs.declared.rule.Op.{Op}
use Rattle.lw_grammar.specs.declared.rule.Value0.{Value0}
use Rattle.lw_grammar.specs.Kinds.{Kinds}
use Rattle.lw_grammar.specs.Marks.{Mark, kinds_of}
use Rattle.lw_grammar.specs.Marks as mark
use Rattle.lw_program.specs.declared.instr.Instr.TheVariants.{Put}
use Rattle.lw_program.specs.ProgramOf.{ProgramParts}
use Rattle.lw_program.specs.declared.recipes.mark.TreeMark.{TreeMark}
use Rattle.lw_program.specs.declared.recipes.mark.TreeMark.TheVariants as numbered
use Rattle.lw_program.specs.Making.{RecipeLists}
use Rattle.lw_program.specs.Meant.{MeansMark, AreMeant}
use Rattle.lw_viable.specs.Gives.{PlacesGive}
use Rattle.lw_viable.specs.Gives as gives
use Rattle.lw_viable.specs.Told.{BeginsParts}
use Rattle.lw_viable.specs.Fronts.{IsKnownProgram}
use Rattle.lw_viable.specs.Growing.{marks_of_each, read}
use Rattle.lw_viable.specs.Marked.{MeanExactly, MeanSome}
use Rattle.lw_viable.specs.Readings.{KeptReading, HasTask, IsAhead}
use Rattle.lw_viable.specs.ReferenceStarts.{IsBeforeStart, StartsAt, IsReferenceStart, AreReferenceStarts}
use Rattle.lw_viable.specs.Visiting.{IsReferencePut, PutsFirst, StandsBeforePut, Arrives, IsFound, FindsDue}
use Rattle.lw_viable.specs.declared.due.Due.TheVariants.{Nothing, Reference}
use Rattle.lw_viable.specs.declared.front.Front.{Front}
use Rattle.lw_viable.specs.declared.lists.Lists.{Lists}
use Rattle.lw_viable.specs.declared.reference_start.ReferenceStart.{ReferenceStart}
use Rattle.lw_viable.proofs.Exploring.{of_any, any_mapped}
use Rattle.lw_viable.proofs.Meaning.{one_kinds}
use Rattle.lw_viable.proofs.Puts.{put_said, put_means, value_has, put_gives, put_given}

-- ---- lists side by side

pub any_of_mapped : {X Y : Type 0} (P : Y → Type 0) (f : X → Y) (xs : List X) → Any P (map f xs) → Any (λ x. P (f x)) xs
any_of_mapped P f [] (k, y, within, is, p) = absurd (omega arith)
any_of_mapped P f (x ∷ xs) (zero, y, within, is, p) = (0, x, omega arith, refl, subst P (sym is) p)
any_of_mapped P f (x ∷ xs) (suc k, y, within, is, p) =
    let (j, z, inside, same, q) = any_of_mapped P f xs (k, y, omega arith, is, p) in (suc j, z, omega arith, same, q)

all_of_mapped : {X Y : Type 0} (P : Y → Type 0) (f : X → Y) (xs : List X) → All P (map f xs) → All (λ x. P (f x)) xs
all_of_mapped P f [] all = All-nil (λ x. P (f x))
all_of_mapped P f (x ∷ xs) all =
    All-cons (λ x. P (f x)) x xs (All-head P (f x) (map f xs) all) (all_of_mapped P f xs (All-tail P (f x) (map f xs) all))

zipped_all : {X Y : Type 0} {R : X → Y → Type 0} {P : X → Type 0} {Q : Y → Type 0} (xs : List X) (ys : List Y) → AllZip R xs ys → All P xs →
    ((x : X) (y : Y) → P x → R x y → Q y) → All Q ys
zipped_all {Q} [] [] zip all step = All-nil Q
zipped_all [] (y ∷ ys) zip all step = absurd zip
zipped_all (x ∷ xs) [] zip all step = absurd zip
zipped_all {P} {Q} (x ∷ xs) (y ∷ ys) zip all step =
    All-cons Q y ys (step x y (All-head P x xs all) zip.0) (zipped_all {P = P} {Q = Q} xs ys zip.1 (All-tail P x xs all) step)

zipped_any : {X Y : Type 0} {R : X → Y → Type 0} {P S : X → Type 0} {Q : Y → Type 0} (xs : List X) (ys : List Y) → AllZip R xs ys → All P xs → Any S xs →
    ((x : X) (y : Y) → P x → S x → R x y → Q y) → Any Q ys
zipped_any [] ys zip all (k, x, within, is, s) step = absurd (omega arith)
zipped_any (x ∷ xs) [] zip all some step = absurd zip
zipped_any {P} {S} (x ∷ xs) (y ∷ ys) zip all (zero, z, within, is, s) step = (0, y, omega arith, refl, step x y (All-head P x xs all) (subst S (sym is) s) zip.0)
zipped_any {P} {S} {Q} (x ∷ xs) (y ∷ ys) zip all (suc k, z, within, is, s) step =
    let (j, w, inside, same, q) = zipped_any {P = P} {S = S} {Q = Q} xs ys zip.1 (All-tail P x xs all) (k, z, omega arith, is, s) step in (suc j, w, omega arith, same, q)

pub zip_mapped : {X Y Z : Type 0} (f : X → Y) (R : Y → Z → Type 0) (xs : List X) (zs : List Z) → AllZip (λ x. R (f x)) xs zs → AllZip R (map f xs) zs
zip_mapped f R [] [] zip = zip
zip_mapped f R [] (z ∷ zs) zip = absurd zip
zip_mapped f R (x ∷ xs) [] zip = absurd zip
zip_mapped f R (x ∷ xs) (z ∷ zs) zip = (zip.0, zip_mapped f R xs zs zip.1)

marks_read : (lists : Lists) (fronts : List Front) → marks_of_each lists fronts ≡ map (λ r. r.marks) (map (read lists) fronts)
marks_read lists [] = refl
marks_read lists (front ∷ fronts) = ap (λ all. (read lists front).marks ∷ all) (marks_read lists fronts)

-- the marks of the readings that were found
pub marks_found : (lists : Lists) {fronts found : List Front} → fronts ≡ found →
    marks_of_each lists fronts ≡ map (λ r. r.marks) (map (read lists) found)
marks_found lists {found} same = ap (marks_of_each lists) same ∙ marks_read lists found

-- what holds of them holds of the marks that are handed out
pub by_marks : (P : List (List TreeMark) → Type 0) (lists : Lists) {fronts found : List Front} {all : List (List TreeMark)} →
    all ≡ marks_of_each lists fronts → fronts ≡ found → P (map (λ r. r.marks) (map (read lists) found)) → P all
by_marks P lists are same holds = subst P (sym (are ∙ marks_found lists same)) holds

-- one value is put at a first place
one_first : {program : ProgramParts} {rest behind beyond : List ℕ} {put value other there : ℕ} → PutsFirst program rest put value behind →
    PutsFirst program rest other there beyond → put ≡ other
one_first {put} {value} {other} {there} a b =
    let places = sym a.are ∙ b.are in
    let same : a.place ≡ b.place = cc in
    let instrs : Put put value ≡ Put other there = same_Some (Put put value) (Put other there) (sym a.at ∙ ap (slice_get _) same ∙ b.at) in
    cc

module _ (g : Grammar) (kinds : Kinds) {program : ProgramParts} {told : BeginsParts} (known : IsKnownProgram g kinds program told) (Whole : List Mark → Type 0) (ks : List ℕ) where
  abbrev Placed : ℕ → Type 0
  Placed p = HasTask g kinds known.program.tasks p

  -- ---- references

  -- at each that was found a value is put
  pub puts_found : (recipes : _) (lists : Lists) (found : List Front) → FindsDue g kinds known.program.tasks Whole program (Reference recipes) ks (map (read lists) found) →
      All (λ front. StandsBeforePut program (read lists front).rest) found
  puts_found recipes lists found finds =
      all_of_mapped (λ r. StandsBeforePut program r.rest) (read lists) found
      (All-weaker (IsFound g kinds known.program.tasks Whole program (Reference recipes) ks) (λ r. StandsBeforePut program r.rest)
      (λ r (ahead, (put, value, behind, puts, refers)). (put, value, behind, puts)) (map (read lists) found) finds.each)

  module _ {r : KeptReading} (ahead : IsAhead g kinds known.program.tasks Whole ks r) (start : ReferenceStart) (before : IsBeforeStart program r start) where
    all_placed : All Placed (before.puts.place ∷ start.behind)
    all_placed = subst (All Placed) before.puts.are ahead.placed

    first_placed : Placed before.puts.place
    first_placed = All-head Placed before.puts.place start.behind all_placed

    start_sound : (recipes : RecipeLists) → IsReferencePut recipes start.put → IsReferenceStart g kinds known.program.tasks recipes Whole ks start
    start_sound recipes refers =
        let said = put_said g kinds known.are program known.program before.puts.place first_placed before.puts.at in
        record {
          before = ahead.front;
          p = said.property;
          op = said.op;
          c = said.value;
          meant = subst (λ marks. AreMeant g marks ahead.front) before.marks ahead.meant;
          puts = put_means g kinds known.are program known.program before.puts.place first_placed before.puts.at;
          kinds_are = ahead.kinds_are;
          refers = refers;
          site = said.site;
          numbers = said.numbers;
          reads = said.reads;
          value = value_has g kinds known.are program known.program before.puts.place first_placed before.puts.at;
          behind = All-tail Placed before.puts.place start.behind all_placed;
          whole = λ m n value behind.
              ahead.sound (ahead.front ++ mark.Put said.property said.op said.value ∷ m ++ mark.End ∷ n) (record {
                front = ahead.front;
                others = mark.Put said.property said.op said.value ∷ (m ++ mark.End ∷ n);
                meant = ahead.meant;
                gives = subst (λ rest. PlacesGive g kinds known.program.tasks rest (mark.Put said.property said.op said.value ∷ (m ++ mark.End ∷ n))) (sym before.puts.are)
                    (put_given g kinds known.are program known.program before.puts.place first_placed before.puts.at value behind);
                are = append_assoc ahead.front (mark.Put said.property said.op said.value ∷ m) (mark.End ∷ n);
              });
        }

    start_there : {front x : List Mark} {p : List ℕ} {op : Op} {c : Value0} → Arrives g kinds known.program.tasks front (mark.Put p op c ∷ x) r →
        StartsAt g kinds known.program.tasks front p op c x start
    start_there {front} {x} {p} {op} {c} there =
        let said = put_said g kinds known.are program known.program before.puts.place first_placed before.puts.at in
        let means = put_means g kinds known.are program known.program before.puts.place first_placed before.puts.at in
        let give =
        put_gives g kinds known.are program known.program before.puts.place first_placed before.puts.at
        (subst (λ rest. PlacesGive g kinds known.program.tasks rest (mark.Put p op c ∷ x)) before.puts.are there.gives) in
        let are = give.are in
        let first : mark.Put said.property said.op said.value ≡ mark.Put p op c = cc in
        let others : x ≡ give.inner ++ mark.End ∷ give.others = cc in
        record {
          meant = subst (λ marks. AreMeant g marks front) before.marks there.meant;
          puts = subst (MeansMark g (numbered.Put start.put)) first means;
          inner = give.inner;
          others = give.others;
          value = give.value;
          behind = give.behind;
          are = others;
        }

  pub starts_found : (recipes : _) (found : List KeptReading) (starts : List ReferenceStart) →
      FindsDue g kinds known.program.tasks Whole program (Reference recipes) ks found → AllZip (IsBeforeStart program) found starts →
      AreReferenceStarts g kinds known.program.tasks recipes.now Whole ks starts
  starts_found recipes found starts finds zip =
      record {
        each = zipped_all {P = IsFound g kinds known.program.tasks Whole program (Reference recipes) ks} {Q = IsReferenceStart g kinds known.program.tasks recipes.now Whole ks}
            found starts zip finds.each (λ r start is_found before. sound r start is_found before);
        all = λ before p op c x whole kinds_are makes.
            zipped_any {P = IsFound g kinds known.program.tasks Whole program (Reference recipes) ks} {S = Arrives g kinds known.program.tasks before (mark.Put p op c ∷ x)}
            {Q = StartsAt g kinds known.program.tasks before p op c x} found starts zip finds.each
            (finds.all before (mark.Put p op c ∷ x) whole kinds_are (p, op, c, x, refl, makes))
            (λ r start is_found there is_before. start_there is_found.0 start is_before there);
      }
    where
      sound : (r : KeptReading) (start : ReferenceStart) → IsFound g kinds known.program.tasks Whole program (Reference recipes) ks r → IsBeforeStart program r start →
          IsReferenceStart g kinds known.program.tasks recipes.now Whole ks start
      sound r start (ahead, (put, value, behind, puts, refers)) before =
          start_sound ahead start before recipes.now (subst (IsReferencePut recipes.now) (one_first puts before.puts) refers)

  -- ---- wholes

  -- each of such readings means some marks
  pub each_ahead : (readings : List KeptReading) → All (IsAhead g kinds known.program.tasks Whole ks) readings →
      MeanSome g (map (λ r. r.marks) readings)
  each_ahead readings each =
      All-map (λ marks. (m : List Mark) × AreMeant g marks m) (λ (r : KeptReading). r.marks) readings
      (All-weaker (IsAhead g kinds known.program.tasks Whole ks) (λ r. (m : List Mark) × AreMeant g r.marks m) (λ r ahead. (ahead.front, ahead.meant)) readings each)

  pub each_found : (found : List KeptReading) → FindsDue g kinds known.program.tasks Whole program Nothing ks found →
      MeanSome g (map (λ r. r.marks) found)
  each_found found finds =
      each_ahead found
      (All-weaker (IsFound g kinds known.program.tasks Whole program Nothing ks) (IsAhead g kinds known.program.tasks Whole ks) (λ r (ahead, none). ahead) found finds.each)

  pub wholes_found : (found : List KeptReading) → FindsDue g kinds known.program.tasks Whole program Nothing ks found →
      MeanExactly g (λ m. Whole m × (kinds_of m ≡ ks)) (map (λ r. r.marks) found)
  wholes_found found finds m = (to, from)
    where
      to : Whole m × (kinds_of m ≡ ks) → Any (λ marks. AreMeant g marks m) (map (λ r. r.marks) found)
      to (whole, are) =
          let (r, has, there) = of_any (Arrives g kinds known.program.tasks m []) found (finds.all m [] (subst Whole (sym (append-nil m)) whole) are refl) in
          any_mapped (λ marks. AreMeant g marks m) (λ r. r.marks) found r has there.meant

      from : Any (λ marks. AreMeant g marks m) (map (λ r. r.marks) found) → Whole m × (kinds_of m ≡ ks)
      from some =
          let (r, has, means) = of_any (λ r. AreMeant g r.marks m) found (any_of_mapped (λ marks. AreMeant g marks m) (λ r. r.marks) found some) in
          let (ahead, none) = All-contains (IsFound g kinds known.program.tasks Whole program Nothing ks) found r finds.each has in (
            ahead.sound m (record {
              front = m;
              others = [];
              meant = means;
              gives = subst (λ rest. PlacesGive g kinds known.program.tasks rest []) (sym none) gives.nothing;
              are = sym (append-nil m);
            }),
            one_kinds g means ahead.meant ∙ ahead.kinds_are,
          )
