-- A document that turned stands where it stood, and may turn again.
use Rattle.std.proofs.Common.{◌≡◌, List, ℕ, ap, ◌∙◌}
use Rattle.std.specs.FinMap.{get, insert}
use Rattle.lw_base.specs.declared.numbers.DocId.{DocId}
use Rattle.lw_docs.specs.Documents.{ByAddress, IsAt, IsHeld, Turns, numbered}
use Rattle.lw_docs.specs.declared.doc.Doc.{Doc}
use Rattle.lw_build.proofs.Maps.{put_here, put_twice}

module _ (m n : ByAddress) (d : DocId) (f : Doc → Doc) (uri : (x : Doc) → (f x).uri ≡ x.uri) (turns : Turns m n d f) where
  at_after : (x : Doc) → IsAt m d x → IsAt n d (f x)
  at_after x at = ap (get n) (uri x) ∙ ap (λ (k : ByAddress). get k x.uri) (turns x at) ∙ put_here m x.uri (numbered d (f x))

  pub still_held : IsHeld m d → IsHeld n d
  still_held (x, at) = (f x, at_after x at)

  pub turned_twice : (o : ByAddress) (g : Doc → Doc) → Turns n o d g → Turns m o d (λ x. g (f x))
  turned_twice o g again x at =
      again (f x) (at_after x at)
      ∙ ap (λ (u : List ℕ). insert n u (numbered d (g (f x)))) (uri x)
      ∙ ap (λ (k : ByAddress). insert k x.uri (numbered d (g (f x)))) (turns x at)
      ∙ put_twice m x.uri (numbered d (f x)) (numbered d (g (f x)))
