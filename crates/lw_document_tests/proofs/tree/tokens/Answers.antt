use Rattle.std.proofs.Common.{ℕ, ◌≡◌, ◌<◌, List, ◌∷◌, refl, sym, subst, lit<, ◌∙◌, arith}
use Rattle.lw_base.specs.declared.token.Token.{Token}
use Rattle.lw_tree.specs.Parts.{Tile, more, none}
use Rattle.lw_document_tests.proofs.tree.tokens.Goals as goal

-- one more token before others
next : {from end : ℕ} {t : Token} {ts : List Token} (start : ℕ) → from ≡ start → t.span.start ≡ start → t.span.end ≡ end → start < end →
    Tile t.span.end ts → Tile from (t ∷ ts)
next start at first last some rest = more (first ∙ sym at) (omega (arith, at, some, last)) rest

pub returns : goal.returns
returns c =
    let P : List Token → Type 0 = λ l. Tile 0 l in
    subst P (sym c.in_ok-vec.ensures.items)
    (next 0 refl c.token.ensures.start c.token.ensures.end (lit< tt)
    (next 5 c.token.ensures.end c.token-2.ensures.start c.token-2.ensures.end (lit< tt)
    (next 6 c.token-2.ensures.end c.token-3.ensures.start c.token-3.ensures.end (lit< tt)
    (next 7 c.token-3.ensures.end c.token-4.ensures.start c.token-4.ensures.end (lit< tt)
    (next 8 c.token-4.ensures.end c.token-5.ensures.start c.token-5.ensures.end (lit< tt)
    (next 13 c.token-5.ensures.end c.token-6.ensures.start c.token-6.ensures.end (lit< tt)
    (next 14 c.token-6.ensures.end c.token-7.ensures.start c.token-7.ensures.end (lit< tt)
    (next 15 c.token-7.ensures.end c.token-8.ensures.start c.token-8.ensures.end (lit< tt)
    (next 16 c.token-8.ensures.end c.token-9.ensures.start c.token-9.ensures.end (lit< tt)
    (next 18 c.token-9.ensures.end c.token-10.ensures.start c.token-10.ensures.end (lit< tt)
    (next 19 c.token-10.ensures.end c.token-11.ensures.start c.token-11.ensures.end (lit< tt)
    (next 20 c.token-11.ensures.end c.token-12.ensures.start c.token-12.ensures.end (lit< tt)
    (next 21 c.token-12.ensures.end c.token-13.ensures.start c.token-13.ensures.end (lit< tt)
    (none))))))))))))))
