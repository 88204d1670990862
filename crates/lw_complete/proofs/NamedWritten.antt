-- A name that is written is read as a reference, or it is not.
use Rattle.std.proofs.Common.{◌≡◌, ◌≢◌, ◌==◌, ◌↔◌, ◌∙◌, ℕ, List, [], ◌∷◌, ◌++◌, Bool, true, false, Some, IsTrue, ◌+◌, ◌<◌, ◌≤◌, All, map, take, drop, eqb, length, append_assoc, length-append, slice_get, refl, sym, ap, subst, true≢false, arith}
use Rattle.std.specs.List.{starts_with}
use Rattle.std.proofs.lemmas.Bool.Decides.{Decides-eqb}
use Rattle.std.proofs.lemmas.List.{length-take-le, take-append-drop}
use Rattle.std.proofs.lemmas.List.Elements.{All-drop}
use Rattle.std.proofs.lemmas.Slice.Eq.{starts_is}
use Rattle.lw_base.specs.declared.numbers.TypeId.{TypeId}
use Rattle.lw_base.specs.declared.token.Token.{Token}
use Rattle.lw_viable.specs.Gives.{PlacesGive}
use Rattle.lw_builder.specs.Contents.{said_in}
use Rattle.lw_grammar.specs.declared.grammar.Grammar.{Grammar}
use Rattle.lw_grammar.specs.Kinds.{Kinds}
use Rattle.lw_lang.proofs.CutPlaces.{all_known, are_parts}
use Rattle.lw_lang.proofs.ParsedLemmas.{counted}
use Rattle.lw_lexer.specs.TokenPlaces.{IsTokenPlace}
use Rattle.lw_reading.specs.Brackets.{joined_texts}
use Rattle.lw_places.specs.Starting.{ReferenceNext}
use Rattle.lw_places.specs.Words.{BeginsBy}
use Rattle.lw_parse.specs.Parsers.{ParserParts}
use Rattle.lw_program.specs.Says.{Task}
use Rattle.lw_program.specs.declared.recipes.recipe.Content.TheVariants.{Reference}
use Rattle.lw_program.specs.declared.recipes.recipe.TextForm.{TextForm}
use Rattle.lw_program.specs.declared.recipes.recipe.ValueRecipe.{ValueRecipe}
use Rattle.lw_lexer.specs.declared.recut.recut.Recut.{Recut}
use Rattle.lw_lexer.specs.Recut.{IsRecut, RecutterParts, added, added_behind}
use Rattle.lw_reading.proofs.Meant.{IsReadAs}
use Rattle.lw_matching.specs.Parted.{moved}
use Rattle.lw_tokens.specs.Cut.{IsCut, kinds, visible}
use Rattle.lw_tokens.specs.Lexicon.{Lexicon}
use Rattle.lw_viable.specs.Aims.{EndsSome}
use Rattle.lw_viable.specs.Visiting.{IsReferencePut}
use Rattle.lw_viable.specs.declared.reference_start.ReferenceStart.{ReferenceStart}
use Rattle.lw_complete.specs.declared.written.Written.{Written}
use Rattle.lw_complete.specs.declared.typing.Typing.{Typing}
use Rattle.lw_complete.specs.Starts.{ComesAt, IsParsedBy, IsReadAsStart, IsSaidBy, IsWritten}
use Rattle.lw_complete.specs.Typing.{CutsBehind, IsTypedBy, grammar_of}
use Rattle.lw_complete.proofs.NamedReads.{next_read}
use Rattle.lw_complete.proofs.NamedSays.{HasRecipe, IsReferenceBy, recipe_of, reference_by, says_name}
use Rattle.lw_complete.proofs.WrittenThere.{joined_there, kinds_there}

emptied : {X : Type 0} (xs : List X) → length xs ≡ 0 → xs ≡ []
emptied [] is = refl
emptied (x ∷ xs) is = absurd (omega (arith, is))

-- a list that is told to be empty
pub is_empty_there : {X : Type 0} (xs : List X) (r : Bool) → r ≡ (length xs == 0) → r ≡ true → xs ≡ []
is_empty_there xs r told so = emptied xs ((Decides-eqb (length xs) 0).0 (sym told ∙ so))

pub not_empty_there : {X : Type 0} (xs : List X) (r : Bool) → r ≡ (length xs == 0) → r ≡ false → xs ≢ []
not_empty_there {X} xs r told not_so none = true≢false (sym (told ∙ ap (λ (ys : List X). length ys == 0) none) ∙ not_so)

-- what is not so is told by no
pub never : {P : Type 0} → ¬ P → IsTrue false ↔ P
never {P} not = (λ is. absurd (true≢false (sym is)), λ (so : P). absurd (not so))

-- what is told of how a name begins
pub begun : (word name lent : List ℕ) (r : Bool) → lent ≡ name → r ≡ starts_with eqb lent word → r ≡ true → BeginsBy word name
begun word name lent r same told so =
    (drop (length word) name, subst (λ (t : List ℕ). t ≡ word ++ drop (length word) t) same ((starts_is Decides-eqb lent word r told).0 so))

pub begun_not : (word name lent : List ℕ) (r : Bool) → lent ≡ name → r ≡ starts_with eqb lent word → r ≡ false → ¬ BeginsBy word name
begun_not word name lent r same told not (rest, is) = true≢false (sym ((starts_is Decides-eqb lent word r told).1 rest (same ∙ is)) ∙ not)

-- how a name is cut behind the text before the word, where that is told of its text as it is lent
pub cut_as_named : (lexicon : Lexicon) (typing : Typing) (recutter : RecutterParts) → CutsBehind lexicon typing recutter → (lent name : List ℕ) → lent ≡ name →
    (it : Recut) → IsCut recutter.lexicon (typing.front.now ++ lent) (typing.tokens.now ++ added_behind it)
    × ((others : List Token) → IsCut recutter.lexicon (typing.front.now ++ lent) (typing.tokens.now ++ others) → others ≡ added_behind it) →
    IsCut lexicon (typing.front.now ++ name) (typing.tokens.now ++ added_behind it)
    × ((others : List Token) → IsCut lexicon (typing.front.now ++ name) (typing.tokens.now ++ others) → others ≡ added_behind it)
cut_as_named lexicon typing recutter cuts lent name same it told =
    subst (λ (t : List ℕ). IsCut lexicon (typing.front.now ++ t) (typing.tokens.now ++ added_behind it)
    × ((others : List Token) → IsCut lexicon (typing.front.now ++ t) (typing.tokens.now ++ others) → others ≡ added_behind it)) same
    (subst (λ (l : Lexicon). IsCut l (typing.front.now ++ lent) (typing.tokens.now ++ added_behind it)
    × ((others : List Token) → IsCut l (typing.front.now ++ lent) (typing.tokens.now ++ others) → others ≡ added_behind it)) cuts.lexicon_is told)

pub uncut_as_named : (lexicon : Lexicon) (typing : Typing) (recutter : RecutterParts) → CutsBehind lexicon typing recutter → (lent name : List ℕ) → lent ≡ name →
    ((others : List Token) → ¬ IsCut recutter.lexicon (typing.front.now ++ lent) (typing.tokens.now ++ others)) → (others : List Token) →
    ¬ IsCut lexicon (typing.front.now ++ name) (typing.tokens.now ++ others)
uncut_as_named lexicon typing recutter cuts lent name same not others cut =
    not others
    (subst (λ (l : Lexicon). IsCut l (typing.front.now ++ lent) (typing.tokens.now ++ others)) (sym cuts.lexicon_is)
    (subst (λ (t : List ℕ). IsCut lexicon (typing.front.now ++ t) (typing.tokens.now ++ others)) (sym same) cut))

-- what a name comes to behind the text before the word, by what cuts it there
pub written_there : (of : Kinds) (lexicon : Lexicon) (typing : Typing) (recutter : RecutterParts) (written : Written) → IsTypedBy of lexicon typing →
    CutsBehind lexicon typing recutter → IsRecut recutter written.name.now written.recut.now →
    IsCut lexicon (typing.front.now ++ written.name.now) (typing.tokens.now ++ added_behind written.recut.now) → IsWritten of lexicon typing written
written_there of lexicon typing recutter written typed cuts recut cut =
    let it = written.recut.now in
    let end = cuts.end in
    let tail : it.tail ≤ length it.tokens.items =
    omega (arith, recut.tail, ap length recut.are, length-append recutter.tokens (added it)) in
    record {
      head = take recutter.from typing.front.now;
      text = ap (λ (t : List ℕ). t ++ written.name.now) (sym (take-append-drop recutter.from typing.front.now)
          ∙ ap (λ (t : List ℕ). take recutter.from typing.front.now ++ t) end.text)
          ∙ append_assoc (take recutter.from typing.front.now) recutter.text written.name.now
          ∙ ap (λ (t : List ℕ). take recutter.from typing.front.now ++ t) (sym recut.text);
      from = length-take-le recutter.from typing.front.now end.within ∙ sym recut.from;
      within = subst (λ (n : ℕ). n ≤ length typing.front.now) (sym recut.from) end.within;
      cut = cut;
      tail = tail;
      parts = are_parts recutter.lexicon it.text (added it) (All-drop (IsTokenPlace it.text) it.tail it.tokens.items recut.places);
      of_kinds = let P : ℕ → Type 0 = λ n. All (λ (t : Token). t.kind.0 < n) (added it) in
          subst P (counted (grammar_of typing) of lexicon typed.is_lexicon)
          (subst (λ (l : Lexicon). P (length l.keywords + length l.terminals)) cuts.lexicon_is
          (All-drop (λ (t : Token). t.kind.0 < length recutter.lexicon.keywords + length recutter.lexicon.terminals) it.tail it.tokens.items
          (all_known recutter.lexicon it.text recut.cut)));
    }

module _ (typing : Typing) (of : Kinds) (tasks : List Task) (parser : ParserParts) (parsed : IsParsedBy of tasks typing parser) (start : ReferenceStart)
    (next : ReferenceNext) (at : ComesAt of typing next start) where
  abbrev g : Grammar
  g = grammar_of typing

  recipe : HasRecipe g parser.recipes start.put next.op next.value
  recipe = recipe_of g parsed.faultless.parser.recipes at.is_start.puts at.comes.makes

  pub reference_put : IsReferencePut parser.recipes start.put
  reference_put = record { recipe = recipe.recipe; made = recipe.made; refers = recipe.reference }

  module _ (lexicon : Lexicon) (written : Written) (is : IsWritten of lexicon typing written) where
    abbrev there : List Token
    there = added_behind written.recut.now

    abbrev whole : List ℕ
    whole = typing.front.now ++ written.name.now

    reads : IsReadAs g whole next.value
    reads = next_read g of parsed.faultless.types parsed.faultless.checks next typing.tokens.now at.comes parser.recipes.naming parsed.faultless.parser.recipes.name whole

    -- what the recipe says is told
    abbrev pub TellsSaid : Bool → Type 0
    TellsSaid b =
        (recipe : ValueRecipe) (want : TypeId) (form : TextForm) → slice_get parser.recipes.made start.put ≡ Some recipe → recipe.content ≡ Reference want form →
        IsTrue b ↔ (said_in form (joined_texts written.recut.now.text (visible (added written.recut.now))) ≡ written.name.now)

    pub said : (b : Bool) → TellsSaid b → IsTrue b ↔ IsSaidBy typing next there written.name.now
    said b told =
        let by : IsReferenceBy recipe.recipe.content = reference_by recipe.recipe.content recipe.reference in
        let tells = told recipe.recipe by.want by.form recipe.made by.is in
        let names = says_name g whole at.comes.makes reads recipe by.want by.form by.is (visible there) written.name.now in
        let same : said_in by.form (joined_texts whole (visible there)) ≡ said_in by.form (joined_texts written.recut.now.text (visible (added written.recut.now))) =
        ap (said_in by.form) (joined_there of lexicon typing written is) in (
          λ yes. let (wanted, rule, refers, means) = names.0 (same ∙ tells.0 yes) in record { wanted = wanted; rule = rule; refers = refers; means = means },
          λ says. tells.1 (sym same ∙ names.1 (says.wanted, says.rule, says.refers, says.means)),
        )

    abbrev pub IsRead : Type 0
    IsRead = IsReadAsStart of tasks typing next start there written.name.now

    pub none_read : added written.recut.now ≡ [] → ¬ IsRead
    none_read none read = read.some (ap (map (moved written.recut.now.from)) none)

    something : {t : Token} {ts : List Token} → ◌≢◌ {A = List Token} (t ∷ ts) []
    something none = cc

    some_there : (ts : List Token) (n : ℕ) → ts ≢ [] → map (moved n) ts ≢ []
    some_there [] n some = absurd (some refl)
    some_there (t ∷ ts) n some = something

    pub unsaid : (b : Bool) → TellsSaid b → b ≡ false → ¬ IsRead
    unsaid b told not_so read = true≢false (sym ((said b told).1 read.says) ∙ not_so)

    pub given : (b : Bool) → TellsSaid b → b ≡ true → added written.recut.now ≢ [] → (r : Bool) →
        IsTrue r ↔ EndsSome (PlacesGive g of tasks (start.value ∷ [])) (kinds (visible (added written.recut.now))) → IsTrue r ↔ IsRead
    given b told so some r gives =
        let same = kinds_there of lexicon typing written is in (
          λ ends. record {
            some = some_there (added written.recut.now) written.recut.now.from some;
            gives = subst (EndsSome (PlacesGive g of tasks (start.value ∷ []))) (sym same) (gives.0 ends);
            says = (said b told).0 so;
          },
          λ (read : IsRead). gives.1 (subst (EndsSome (PlacesGive g of tasks (start.value ∷ []))) same read.gives),
        )
