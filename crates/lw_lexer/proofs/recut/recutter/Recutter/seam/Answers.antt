use Rattle.std.proofs.Common.{ℕ, ◌≡◌, ◌<◌, ◌++◌, List, All, length, sym, ap, ◌∙◌, subst, append-nil}
use Rattle.lw_base.specs.declared.token.Token.{Token}
use Rattle.lw_matching.specs.Nfas.{AreNfas}
use Rattle.lw_tokens.specs.Cut.{IsCutTo}
use Rattle.lw_tokens.specs.Lexicon.{Lexicon}
use Rattle.lw_lexer.specs.Recut.{IsCrossed, IsEndOf, IsRecut, RecutterParts}
use Rattle.lw_lexer.specs.declared.recut.seam.Seam.TheVariants.{Crossed, Meets}
use Rattle.lw_lexer.proofs.Automata.{lent_automata}
use Rattle.lw_lexer.proofs.Behind.{is_crossed, looked_at, meets}
use Rattle.lw_base.proofs.Bytes.{utf8_small}
use Rattle.lw_lexer.proofs.FrontEnds.{emptied}
use Rattle.lw_lexer.proofs.recut.recutter.Recutter.seam.Goals as goal
use Rattle.lw_lexer.proofs.recut.recutter.Recutter.seam.Goals.{After-seam_of}

pub returns-then-is_empty-clause-meets : goal.returns-then-is_empty-clause-meets
returns-then-is_empty-clause-meets c front more tokens is end small recut =
    let it = c.args.it.now in
    let rest = c.args.rest.now in
    let none : it.text ++ rest ≡ it.text = ap (λ (xs : List ℕ). it.text ++ xs) (emptied rest c.is_empty.result c.is_empty.ensures c.if-is_empty.true) ∙ append-nil it.text in
    meets c.args.self.now front more rest tokens end small (utf8_small rest c.utf8.rest) it recut
    (subst (λ (text : List ℕ). IsCutTo c.args.self.now.lexicon text (length it.text) it.tokens.items) (sym none) recut.cut)

-- what is told of the end and the beginning of what follows, whatever is behind, is so of all that follows
so_of_all : (c : After-seam_of) (front more : List ℕ) (tokens : List Token) → IsEndOf c.args.self.now front tokens → All (λ b. b < 256) more →
    IsRecut c.args.self.now more c.args.it.now → (Holds : Lexicon → List ℕ → Type 0) →
    ((others : List ℕ) → c.self.inside.keywords.now ≡ c.self.inside.lexer.lexicon.keywords → AreNfas c.self.inside.lexer.lexicon.terminals c.as_slice.result.now →
    All (λ b. b < 256) (c.text-2.result.now ++ others) → Holds c.self.inside.lexer.lexicon (c.text-2.result.now ++ others)) →
    Holds c.args.self.now.lexicon (c.args.it.now.text ++ c.args.rest.now)
so_of_all c front more tokens end small recut Holds told =
    let rest = c.args.rest.now in
    let lexicon = c.self.inside.lexer.lexicon in
    let (others, split) = c.beginning.ensures in
    looked_at c.args.self.now front more rest tokens end small (utf8_small rest c.utf8.rest) c.args.it.now recut Holds lexicon
    (ap (λ (parts : RecutterParts). parts.lexicon) c.self.view_is) c.text-2.result.now c.beginning.result.now others
    (c.text-2.ensures.text ∙ c.in_ok-text.ensures) split
    (told others c.self.invariant.same
    (lent_automata lexicon.terminals _ c.in-Some.nfas c.as_slice.result.now c.in-Some.is c.as_slice.ensures.value c.self.invariant.automata))

pub returns-clause-meets : goal.returns-clause-meets
returns-clause-meets c front more tokens is end small recut =
    let it = c.args.it.now in
    let rest = c.args.rest.now in
    let told : c.seam_of.result ≡ Meets = cc in
    meets c.args.self.now front more rest tokens end small (utf8_small rest c.utf8.rest) it recut
    (so_of_all (goal.at.returns-clause-meets c).After-seam_of front more tokens end small recut (λ (lexicon : Lexicon) (text : List ℕ). IsCutTo lexicon text (length it.text) it.tokens.items)
    (λ others. c.seam_of.ensures.meets others told))

pub returns-clause-crossed : goal.returns-clause-crossed
returns-clause-crossed c front more tokens is end small recut =
    let it = c.args.it.now in
    let rest = c.args.rest.now in
    let told : c.seam_of.result ≡ Crossed = cc in
    is_crossed c.args.self.now front more rest tokens end small (utf8_small rest c.utf8.rest) it recut
    (so_of_all (goal.at.returns-clause-crossed c).After-seam_of front more tokens end small recut (λ (lexicon : Lexicon) (text : List ℕ). IsCrossed lexicon text (length it.text))
    (λ others. c.seam_of.ensures.crossed others told))
