use Rattle.std.proofs.Common.{◌≡◌, List, Ok, sym, ap, ◌∙◌, subst}
use Rattle.lw_gramread.specs.declared.lexeme.Lexeme.{Lexeme}
use Rattle.lw_gramread.specs.FileSteps.{file}
use Rattle.lw_gramread.specs.Lexemes.{lexemes_of}
use Rattle.lw_gramread.specs.Syntax.{Syntax}
use Rattle.lw_gramread.specs.Forms.{form_left}
use Rattle.lw_gramread.specs.Refusals.{Tells, front_of, place_or_end}
use Rattle.lw_gramread.proofs.Verdicts.{read_is, says_is, only_is, refusal_is, place_is, nothing_is}
use Rattle.lw_gramread.proofs.WithinFiles.{stands_within}
use Rattle.lw_gramread.proofs.reader.read_grammar.Goals as goal

-- what the reader's steps came to
read : (c : goal.After-drop-tokens-in-Ok) → file 64 (lexemes_of c.args.text.now c.in_ok-tokens.tokens.items) ≡ Ok (c.in-Ok.grammar, c.file.new.left)
read c = ap (file 64) same ∙ c.in-Ok.ensures.reads
  where
    same : lexemes_of c.args.text.now c.in_ok-tokens.tokens.items ≡ c.new-left.result
    same = sym (c.new-left.ensures ∙ c.as_slice-2.ensures.value ∙ c.in_ok-lexemes.ensures ∙ ap (lexemes_of c.args.text.now) c.as_slice.ensures.value)

says : (c : goal.After-drop-tokens-in-Ok) → Syntax c.args.text.now c.in-Ok.grammar
says c = says_is c.args.text.now c.in_ok-tokens.tokens.items c.in-Ok.grammar c.file.new.left c.in_ok-tokens.ensures.cut (read c)

-- what the code tells where it stopped
told : (c : goal.After-drop-tokens-2) → Tells c.in-Err.stop (place_or_end c.args.text.now c.file.new.left)
    (λ spot. form_left spot (front_of (lexemes_of c.args.text.now c.in_ok-tokens.tokens.items) c.file.new.left) c.file.new.left) c.fault_at.result
told c =
    subst (λ (us : List Lexeme). Tells c.in-Err.stop (place_or_end c.args.text.now us) (λ spot. form_left spot (front_of (lexemes_of c.args.text.now c.in_ok-tokens.tokens.items) us) us) c.fault_at.result)
    c.rest.ensures (subst (λ (all : List Lexeme). Tells c.in-Err.stop (place_or_end c.args.text.now c.rest.result.now)
    (λ spot. form_left spot (front_of all c.rest.result.now) c.rest.result.now) c.fault_at.result) all_said c.fault_at.ensures)
  where
    all_said : c.as_slice-in-Err.result.now ≡ lexemes_of c.args.text.now c.in_ok-tokens.tokens.items
    all_said = c.as_slice-in-Err.ensures.value ∙ c.in_ok-lexemes.ensures ∙ ap (lexemes_of c.args.text.now) c.as_slice.ensures.value

same : (c : goal.After-drop-tokens-2) → lexemes_of c.args.text.now c.in_ok-tokens.tokens.items ≡ c.new-left.result
same c = sym (c.new-left.ensures ∙ c.as_slice-2.ensures.value ∙ c.in_ok-lexemes.ensures ∙ ap (lexemes_of c.args.text.now) c.as_slice.ensures.value)

pub returns-in-Ok-clause-says : goal.returns-in-Ok-clause-says
returns-in-Ok-clause-says c = says c

pub returns-in-Ok-clause-only : goal.returns-in-Ok-clause-only
returns-in-Ok-clause-only c = λ other y. only_is c.args.text.now c.in-Ok.grammar other (says c) y

pub returns-in-Ok-clause-stand : goal.returns-in-Ok-clause-stand
returns-in-Ok-clause-stand c =
    stands_within c.args.text.now c.in_ok-tokens.tokens.items c.in-Ok.grammar c.in_ok-tokens.ensures.places
    (read_is (lexemes_of c.args.text.now c.in_ok-tokens.tokens.items) c.in-Ok.grammar c.file.new.left (read c)).1

pub returns-clause-refusal : goal.returns-clause-refusal
returns-clause-refusal c =
    refusal_is c.args.text.now c.in_ok-tokens.tokens.items c.in_ok-tokens.ensures.cut c.in-Err.stop c.file.new.left c.fault_at.result (λ n. ap (file 64) (same c) ∙ c.in-Err.ensures.reads n) (told c)

pub returns-clause-place : goal.returns-clause-place
returns-clause-place c =
    place_is c.args.text.now c.in_ok-tokens.tokens.items c.in_ok-tokens.ensures.cut c.in_ok-tokens.ensures.places c.in-Err.stop c.file.new.left c.fault_at.result (λ n. ap (file 64) (same c) ∙ c.in-Err.ensures.reads n) (told c)

pub returns-clause-nothing : goal.returns-clause-nothing
returns-clause-nothing c = λ n g.
    nothing_is c.args.text.now c.in_ok-tokens.tokens.items c.in_ok-tokens.ensures.cut c.in-Err.stop c.file.new.left c.fault_at.result (λ n. ap (file 64) (same c) ∙ c.in-Err.ensures.reads n) (told c) n g
