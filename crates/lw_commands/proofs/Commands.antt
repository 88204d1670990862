-- What the words name, and what the work of their command comes to.
use Rattle.std.proofs.Common.{◌≡◌, inl, inr, ℕ, List, [], Option, Some, None, Result, Err, IfSome, MatchOption, refl, subst, arith}
use Rattle.std.specs.Option.{option_copied}
use Rattle.std.specs.Io.KnownBytes.{Keeps}
use denote.Ref.{Bor}
use Rattle.std.proofs.KnownBytes.{Keeps-refl, Consumes-nil}
use Rattle.lw_load.specs.Loading.{Files}
use Rattle.lw_command_line.specs.declared.words.Command.{Command}
use Rattle.lw_command_line.specs.declared.words.Command.TheVariants.{Check, Serve, Make}
use Rattle.lw_command_line.specs.Words.{IsCheck, IsServe, IsMake, IsCommand, IsNoCommand, NamesFile, root_of}
use Rattle.lw_command_line.specs.Words as said
use Rattle.lw_command_line.proofs.OneCommand.{one_check, one_grammar, one_make, one_serve, not_check_and_make, not_check_and_serve, not_serve_and_make}
use Rattle.lw_commands.specs.declared.report.Verdict.{Verdict}
use Rattle.lw_commands.specs.declared.stop.Stop.{Stop}
use Rattle.lw_commands.specs.declared.stop.Stop.TheVariants as stop
use Rattle.lw_commands.specs.Checking.{CheckComesTo, IsCaused}
use Rattle.lw_commands.specs.Making.{MakeComesTo}
use Rattle.lw_commands.specs.Run.{Work, ComesTo}
use Rattle.lw_commands.specs.Serving.{ServeComesTo}
use Rattle.lw_commands.specs.Stops.{Counts, TheSource, TheSink, TheStore, ThePatterns}
use Rattle.lw_commands.proofs.Ends.{CountsAll}

-- a command names its grammar
pub names_its_grammar : (words : List (List ℕ)) (command : Command) → IsCommand words command → (k : ℕ) × NamesFile words (root_of command).path.now k
names_its_grammar words (Check root) is = (root.k, said.checks is)
names_its_grammar words (Serve root files) is = (root.k, said.serves is)
names_its_grammar words (Make root count) is = (root.k, said.makes is)

-- the path that was found is the one that they name, seen as a value
pub named : (words : List (List ℕ)) (found : Option (Bor (List ℕ))) → MatchOption found (IsNoCommand words) (λ p. (k : ℕ) × NamesFile words p.now k) →
    MatchOption (option_copied found) (IsNoCommand words) (λ p. (k : ℕ) × NamesFile words p k)
named words None is = is
named words (Some p) is = is

module _ (words : List (List ℕ)) (w : Work) (p : List ℕ) (j : ℕ) (outcome : Result Verdict Stop) (other : ¬ (outcome ≡ Err stop.Words)) (caused : IsCaused w.files p j w.refused outcome)
    (counts : CountsAll w.faults outcome) where
  -- a fault of the grammar that they name
  caused_by : NamesFile words p j → (path : List ℕ) (k : ℕ) → NamesFile words path k → IsCaused w.files path k w.refused outcome
  caused_by is path k also =
      let same = one_grammar is also in
      subst (λ i. IsCaused w.files path i w.refused outcome) same.1 (subst (λ q. IsCaused w.files q j w.refused outcome) same.0 caused)

  pub checks : IsCheck words p j → Counts TheStore w.faults.store.0 w.faults.store.1 outcome → IfSome w.files (λ files. IfSome w.left.0 (λ held. CheckComesTo files p j held w.refused w.left.1 w.written.0 w.written.1 outcome)) →
      ComesTo words w outcome
  checks is store came = record {
    check = λ path k also.
        let same = one_check is also in (
          store,
          subst (λ i. IfSome w.files (λ files. IfSome w.left.0 (λ held. CheckComesTo files path i held w.refused w.left.1 w.written.0 w.written.1 outcome))) same.1
              (subst (λ q. IfSome w.files (λ files. IfSome w.left.0 (λ held. CheckComesTo files q j held w.refused w.left.1 w.written.0 w.written.1 outcome))) same.0 came),
        );
    serve = λ path paths k also. absurd (not_check_and_serve is also);
    make = λ path count k also. absurd (not_check_and_make is also);
    none = λ none. absurd (none p j (said.checks is));
    unnamed = λ stops. absurd (other stops);
    cause = caused_by (said.checks is);
    counts = counts;
  }

  pub serves : (paths : List (List ℕ)) → IsServe words p paths j → IfSome w.files (λ files. ServeComesTo files p paths j w.refused w.left.0 w.left.1 w.written.0 w.written.1 w.faults.store outcome) →
      ComesTo words w outcome
  serves paths is came = record {
    check = λ path k also. absurd (not_check_and_serve also is);
    serve = λ path others k also.
        let same = one_serve is also in
        subst (λ i. IfSome w.files (λ files. ServeComesTo files path others i w.refused w.left.0 w.left.1 w.written.0 w.written.1 w.faults.store outcome)) same.2
        (subst (λ ps. IfSome w.files (λ files. ServeComesTo files path ps j w.refused w.left.0 w.left.1 w.written.0 w.written.1 w.faults.store outcome)) same.1
        (subst (λ q. IfSome w.files (λ files. ServeComesTo files q paths j w.refused w.left.0 w.left.1 w.written.0 w.written.1 w.faults.store outcome)) same.0 came));
    make = λ path count k also. absurd (not_serve_and_make is also);
    none = λ none. absurd (none p j (said.serves is));
    unnamed = λ stops. absurd (other stops);
    cause = caused_by (said.serves is);
    counts = counts;
  }

  pub makes : (count : ℕ) → IsMake words p count j → Keeps w.left.0 w.left.1 → Counts TheStore w.faults.store.0 w.faults.store.1 outcome → IfSome w.files (λ files. MakeComesTo files p j count w.refused w.written.0 w.written.1 outcome) →
      ComesTo words w outcome
  makes count is untaken store came = record {
    check = λ path k also. absurd (not_check_and_make also is);
    serve = λ path paths k also. absurd (not_serve_and_make also is);
    make = λ path n k also.
        let same = one_make is also in (
          untaken,
          store,
          subst (λ i. IfSome w.files (λ files. MakeComesTo files path i n w.refused w.written.0 w.written.1 outcome)) same.2
              (subst (λ m. IfSome w.files (λ files. MakeComesTo files path j m w.refused w.written.0 w.written.1 outcome)) same.1
              (subst (λ q. IfSome w.files (λ files. MakeComesTo files q j count w.refused w.written.0 w.written.1 outcome)) same.0 came)),
        );
    none = λ none. absurd (none p j (said.makes is));
    unnamed = λ stops. absurd (other stops);
    cause = caused_by (said.makes is);
    counts = counts;
  }

-- words that are no command, or that cannot be read for want of memory: nothing is done
module _ (words : List (List ℕ)) (files : Option Files) (left written refused : Option (List ℕ)) (a b c d : ℕ) where
  abbrev untouched : Work
  untouched = record {
    files = files;
    left = (left, left);
    written = (written, written);
    refused = refused;
    faults = record { source = (a, a); sink = (b, b); store = (c, c); patterns = (d, d) };
  }

  stands : CountsAll untouched.faults (Err stop.Words)
  stands TheSource = refl
  stands TheSink = refl
  stands TheStore = refl
  stands ThePatterns = refl

  pub does_nothing : IsNoCommand words → ComesTo words untouched (Err stop.Words)
  does_nothing none = record {
    check = λ path k is. absurd (none path k (said.checks is));
    serve = λ path paths k is. absurd (none path k (said.serves is));
    make = λ path count k is. absurd (none path k (said.makes is));
    none = λ none. (inl refl, Keeps-refl left, Keeps-refl written);
    unnamed = λ stops. none;
    cause = λ path k names. tt;
    counts = stands;
  }

  unsaid : CountsAll untouched.faults (Err stop.Memory)
  unsaid TheSource = tt
  unsaid TheSink = tt
  unsaid TheStore = ([], tt)
  unsaid ThePatterns = tt

  checks_nothing : (told : Option Files) (held : Option (List ℕ)) (path : List ℕ) (k : ℕ) →
      IfSome told (λ files. IfSome held (λ bytes. CheckComesTo files path k bytes refused held written written (Err stop.Memory)))
  checks_nothing None held path k = tt
  checks_nothing (Some files) None path k = tt
  checks_nothing (Some files) (Some bytes) path k = inl (([], omega arith, Consumes-nil (Some bytes)), Keeps-refl written)

  serves_nothing : (told : Option Files) (path : List ℕ) (paths : List (List ℕ)) (k : ℕ) → IfSome told (λ files. ServeComesTo files path paths k refused left left written written (c, c) (Err stop.Memory))
  serves_nothing None path paths k = tt
  serves_nothing (Some files) path paths k = inl (Keeps-refl written)

  makes_nothing : (told : Option Files) (path : List ℕ) (count k : ℕ) → IfSome told (λ files. MakeComesTo files path k count refused written written (Err stop.Memory))
  makes_nothing None path count k = tt
  makes_nothing (Some files) path count k = inl (Keeps-refl written)

  pub reads_no_words : ComesTo words untouched (Err stop.Memory)
  reads_no_words = record {
    check = λ path k is. (tt, checks_nothing files left path k);
    serve = λ path paths k is. serves_nothing files path paths k;
    make = λ path count k is. (Keeps-refl left, tt, makes_nothing files path count k);
    none = λ none. (inr refl, Keeps-refl left, Keeps-refl written);
    unnamed = λ stops. absurd (let apart : ⊥ = cc in apart);
    cause = λ path k names. tt;
    counts = unsaid;
  }
