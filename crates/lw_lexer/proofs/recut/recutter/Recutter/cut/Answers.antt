use Rattle.std.proofs.Common.{ℕ, ◌≡◌, ◌≤◌, ◌++◌, List, Err, drop, length, refl, sym, ap, ◌∙◌, subst, arith, rules, true≢false}
use Rattle.lw_base.specs.declared.limits.TheConstants.{LONGEST_TEXT}
use Rattle.lw_base.specs.declared.token.Token.{Token}
use Rattle.lw_tokens.specs.Cut.{IsCut}
use Rattle.lw_tokens.specs.Keywords.{AreKeywords}
use Rattle.lw_lexer.specs.Recut.{IsEndOf, IsRecut, RecutterParts}
use Rattle.lw_lexer.specs.declared.recut.recut.Recut.{Recut}
use Rattle.lw_lexer.proofs.Behind.{added_alone, none_other, none_uncut}
use Rattle.lw_lexer.proofs.SameTokens.{begins, told_begins}
use Rattle.lw_base.proofs.Bytes.{utf8_small}
use Rattle.lw_lexer.proofs.recut.recutter.Recutter.cut.Goals as goal

pub returns-in-Err-NoToken-clause-added : goal.returns-in-Err-NoToken-clause-added
returns-in-Err-NoToken-clause-added c front tokens end =
    let inside = c.self.inside in
    let more = c.args.more.now in
    let parts : RecutterParts = record { lexicon = inside.lexer.lexicon; text = inside.text; tokens = inside.tokens.items; from = inside.from } in
    subst (λ (p : RecutterParts). IsEndOf p front tokens → (others : List Token) → ¬ IsCut p.lexicon (front ++ more) (tokens ++ others)) c.self.view_is
    (λ end. none_uncut parts front more tokens end (utf8_small more c.utf8.more) c.self.invariant.apart c.in_ok-text.text c.in_ok-text.ensures
    (λ all. c.cut.ensures.no_cut c.in-Err-NoToken.field-0-0 (c.in-Err-NoToken.is ∙ ap Err c.in-Err-NoToken.field-0-is) all)) end

pub returns-then-not-starts_with-clause-added : goal.returns-then-not-starts_with-clause-added
returns-then-not-starts_with-clause-added c front tokens end =
    let inside = c.self.inside in
    let more = c.args.more.now in
    let parts : RecutterParts = record { lexicon = inside.lexer.lexicon; text = inside.text; tokens = inside.tokens.items; from = inside.from } in
    let all = c.in-Ok.tokens.items in
    let first : c.as_slice.result.now ≡ parts.tokens = c.as_slice.ensures.value in
    let lent : c.deref.result.now ≡ all = c.deref.ensures.value in
    let not : (rest : List Token) → ¬ (all ≡ parts.tokens ++ rest) =
    λ rest is. true≢false (sym ((begins c.deref.result.now c.as_slice.result.now c.starts_with.result c.starts_with.ensures.value).1 rest
    (lent ∙ is ∙ ap (λ (ts : List Token). ts ++ rest) (sym first))) ∙ c.if-not-starts_with.true) in
    subst (λ (p : RecutterParts). IsEndOf p front tokens → (others : List Token) → ¬ IsCut p.lexicon (front ++ more) (tokens ++ others)) c.self.view_is
    (λ end. none_other parts front more tokens end (utf8_small more c.utf8.more) c.self.invariant.apart c.in_ok-text.text c.in_ok-text.ensures all
    c.in-Ok.ensures.cut not) end

pub returns : goal.returns
returns c =
    let inside = c.self.inside in
    let more = c.args.more.now in
    let parts : RecutterParts = record { lexicon = inside.lexer.lexicon; text = inside.text; tokens = inside.tokens.items; from = inside.from } in
    let all = c.in-Ok.tokens.items in
    let it : Recut = record { text = c.in_ok-text.text; tokens = c.in-Ok.tokens; tail = c.len.result; from = inside.from } in
    let are : all ≡ parts.tokens ++ drop (length parts.tokens) all =
    told_begins parts.tokens all c.as_slice.result.now c.deref.result.now c.as_slice.ensures.value c.deref.ensures.value c.starts_with.result
    c.starts_with.ensures.value c.if-not-starts_with.false in
    let tail : c.len.result ≡ length parts.tokens = c.len.ensures ∙ inside.tokens.ok.0 in
    let recut : IsRecut c.args.self.now more it = subst (λ (p : RecutterParts). IsRecut p more it) c.self.view_is (record {
      from = refl;
      text = c.in_ok-text.ensures;
      short = subst (λ (bytes : List ℕ). length bytes ≤ LONGEST_TEXT) c.bytes.ensures.bytes (omega (arith, c.if-bytes-gt-LONGEST_TEXT.false));
      tail = tail;
      are = are ∙ ap (λ (n : ℕ). parts.tokens ++ drop n all) (sym tail);
      cut = c.in-Ok.ensures.cut;
      places = c.in-Ok.ensures.places;
    }) in
    let apart = subst (λ (p : RecutterParts). AreKeywords p.lexicon.keywords) c.self.view_is c.self.invariant.apart in
    record {
      added = λ front tokens end. added_alone c.args.self.now front more tokens end (utf8_small more c.utf8.more) apart it recut;
      recut = recut;
      same = search rules;
    }
