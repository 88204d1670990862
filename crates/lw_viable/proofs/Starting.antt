-- The reading of no tokens, at the start of the entry rule or of some places.
use Rattle.std.proofs.Common.{◌≡◌, ℕ, ◌+◌, List, [], ◌∷◌, ◌++◌, Some, None, All, map, reverse, slice_get, refl, sym, ap, ◌∙◌, subst, subst₂, append-nil, arith}
use Rattle.std.proofs.lemmas.List.Elements.{All-nil, All-cons}
use Rattle.lw_viable.specs.Chains.{chain}
use Rattle.lw_grammar.specs.declared.grammar.Grammar.{Grammar}
use Rattle.lw_grammar.specs.declared.rule.Rule.{Rule}
use Rattle.lw_grammar.specs.Kinds.{Kinds}
use Rattle.lw_grammar.specs.Named.{IsEntry}
use Rattle.lw_grammar.specs.Reached.{IsReached}
use Rattle.lw_grammar.specs.Reached as reached
use Rattle.lw_grammar.proofs.FirstLemmas.{first_place, first_item}
use Rattle.lw_grammar.specs.Marks.{Mark}
use Rattle.lw_grammar.specs.Marks as mark
use Rattle.lw_grammar.specs.Sentences.{IsSentence}
use Rattle.lw_grammar.specs.Yields.{RuleGives}
use Rattle.lw_program.specs.ProgramOf.{ProgramParts}
use Rattle.lw_program.specs.declared.recipes.mark.TreeMark.TheVariants as numbered
use Rattle.lw_program.specs.Meant as meant
use Rattle.lw_program.specs.Says.{Task}
use Rattle.lw_viable.specs.Gives.{OpensNode, PlacesGive}
use Rattle.lw_viable.specs.Told.{BeginsParts}
use Rattle.lw_viable.specs.Readings.{KeptReading, GoesOnFrom, HasTask, IsKeptReading, Keeps}
use Rattle.lw_viable.specs.Readings as keep
use Rattle.lw_viable.specs.Fronts.{IsKnownProgram}
use Rattle.lw_viable.specs.Growing.{read, Change, changed, ArePut}
use Rattle.lw_viable.specs.Turning.{Enters}
use Rattle.lw_viable.specs.Turning as turn
use Rattle.lw_viable.specs.declared.front.Front.{Front}
use Rattle.lw_viable.specs.declared.lists.Lists.{Lists}
use Rattle.lw_viable.proofs.Exploring.{any_of}
use Rattle.lw_viable.proofs.Made.{reading}
use Rattle.lw_viable.proofs.Moves.Entering.{node_placed, body_placed, node_given, body_given, node_enters, body_enters}
use Rattle.lw_viable.proofs.Moves.Marking.{open_meant, none_meant}

-- where no list was put in, nothing is read by any front
empty_read : (lists : Lists) (front : Front) → lists.marks ≡ [] → lists.rests ≡ [] → read lists front ≡ reading [] []
empty_read lists front marks rests =
    ap (λ cells. reading (reverse (chain cells front.marks.0)) (chain lists.rests front.rest.0)) marks ∙ ap (λ cells. reading [] (chain cells front.rest.0)) rests

pub first_read : (lists new : Lists) (front : Front) (change : Change) (before after : List Front) → lists.marks ≡ [] → lists.rests ≡ [] → before ≡ [] →
    ArePut (change ∷ []) lists new front before after → map (read new) after ≡ changed (reading [] []) change ∷ []
first_read lists new front change before after marks rests none put =
    ap (map (read new)) (put.are ∙ ap (λ fronts. fronts ++ put.fronts) none) ∙ put.are_read ∙ ap (λ r. changed r change ∷ []) (empty_read lists front marks rests)

module _ (g : Grammar) (kinds : Kinds) (tasks : List Task) where
  -- one reading of no tokens is all of them
  pub one_keeps : {Whole : List Mark → Type 0} (r : KeptReading) → IsKeptReading g kinds tasks Whole [] r → ((m : List Mark) → Whole m → GoesOnFrom g kinds tasks m r) →
      Keeps g kinds tasks Whole [] (r ∷ [])
  one_keeps {Whole} r kept all =
      record {
        each = All-cons (IsKeptReading g kinds tasks Whole []) r [] kept (All-nil (IsKeptReading g kinds tasks Whole []));
        all = λ m ls whole have. any_of (GoesOnFrom g kinds tasks m) (r ∷ []) r (0, omega arith, refl) (all m whole);
      }

  -- that of the places alone
  pub places_keep : (places : List ℕ) → All (HasTask g kinds tasks) places →
      Keeps g kinds tasks (PlacesGive g kinds tasks places) [] (changed (reading [] []) (None, places) ∷ [])
  places_keep places placed =
      subst (λ rest. Keeps g kinds tasks (PlacesGive g kinds tasks places) [] (reading [] rest ∷ [])) (sym (append-nil places))
      (one_keeps (reading [] places)
      (record {
        ahead = record {
          sound = λ m on. subst (PlacesGive g kinds tasks places) (sym (on.are ∙ ap (λ front. front ++ on.others) (none_meant g on.meant))) on.gives;
          front = [];
          meant = meant.none;
          kinds_are = refl;
          placed = placed;
        };
        cut = keep.unmarked;
      })
      (λ m give. record { front = []; others = m; meant = meant.none; gives = give; are = refl }))

module _ (g : Grammar) (kinds : Kinds) {program : ProgramParts} {told : BeginsParts} (known : IsKnownProgram g kinds program told) {r start : ℕ} {rule : Rule}
    (is : IsEntry g r rule) (at : slice_get program.starts r ≡ Some (Some start)) where
  gives_entry : {m : List Mark} → IsSentence g kinds m → RuleGives g kinds r rule m
  gives_entry {m} sentence =
      subst₂ (λ r rule. RuleGives g kinds r rule m) (first_place sentence.entry is) (first_item sentence.entry is) sentence.gives

  entry_sentence : {m : List Mark} → RuleGives g kinds r rule m → IsSentence g kinds m
  entry_sentence gives = record { number = r; rule = rule; entry = is; gives = gives }

  abbrev entered : IsReached g r
  entered = reached.entry rule is

  pub starts_keep : (change : Change) → Enters told r start change → Keeps g kinds known.program.tasks (IsSentence g kinds) [] (changed (reading [] []) change ∷ [])
  starts_keep change (turn.opens flag) =
      let opens = (known.begins.nodes r rule is.there).1 flag in
      one_keeps g kinds known.program.tasks (reading (numbered.Open (record { 0 = r }) ∷ []) (start ∷ (start + 1) ∷ []))
      (record {
        ahead = record {
          sound = λ m on.
              entry_sentence (subst (RuleGives g kinds r rule) (sym (on.are ∙ ap (λ front. front ++ on.others) (open_meant g on.meant)))
              (node_given g kinds program known.program entered is.there at opens on.gives));
          front = mark.Open r ∷ [];
          meant = meant.more (meant.opens (record { 0 = r })) meant.none;
          kinds_are = refl;
          placed = node_placed g kinds program known.program entered is.there at opens;
        };
        cut = keep.opened (record { 0 = r });
      })
      (λ m sentence.
      let (n, give, are) = node_enters g kinds program known.program entered is.there at opens (gives_entry sentence) in
      record { front = mark.Open r ∷ []; others = n; meant = meant.more (meant.opens (record { 0 = r })) meant.none; gives = give; are = are })
  starts_keep change (turn.goes no_flag) =
      let alone = λ (opens : OpensNode g rule). no_flag ((known.begins.nodes r rule is.there).0 opens) in
      one_keeps g kinds known.program.tasks (reading [] (start ∷ []))
      (record {
        ahead = record {
          sound = λ m on.
              entry_sentence (subst (RuleGives g kinds r rule) (sym (on.are ∙ ap (λ front. front ++ on.others) (none_meant g on.meant)))
              (body_given g kinds program known.program entered is.there at alone on.gives));
          front = [];
          meant = meant.none;
          kinds_are = refl;
          placed = body_placed g kinds program known.program entered is.there at;
        };
        cut = keep.unmarked;
      })
      (λ m sentence.
      record {
        front = [];
        others = m;
        meant = meant.none;
        gives = body_enters g kinds program known.program entered is.there at alone (gives_entry sentence);
        are = refl;
      })
