-- A start is one of one reference.
use Rattle.std.proofs.Common.{◌≡◌, ℕ, List, ap₂, ◌∙◌}
use Rattle.lw_grammar.specs.declared.grammar.Grammar.{Grammar}
use Rattle.lw_grammar.specs.declared.rule.Op.{Op}
use Rattle.lw_grammar.specs.declared.rule.Value0.{Value0}
use Rattle.lw_grammar.specs.Marks.{Mark, Put}
use Rattle.lw_places.specs.Starting.{ReferenceNext}
use Rattle.lw_viable.specs.declared.reference_start.ReferenceStart.{ReferenceStart}
use Rattle.lw_complete.specs.Starts.{IsStartOf}
use Rattle.lw_complete.proofs.FrontMeaning.{one_mark, one_meaning}

abbrev reference : List Mark → List ℕ → Op → Value0 → ReferenceNext
reference before prop op value = record { before = before; prop = prop; op = op; value = value }

same_put : {p q : List ℕ} {op by : Op} {c d : Value0} → ◌≡◌ {A = Mark} (Put p op c) (Put q by d) → (p ≡ q) × (op ≡ by) × (c ≡ d)
same_put is = (cc, cc, cc)

same_next : (a b : ReferenceNext) → a.before ≡ b.before → ◌≡◌ {A = Mark} (Put a.prop a.op a.value) (Put b.prop b.op b.value) → a ≡ b
same_next a b before put =
    let (prop, op, value) = same_put put in
    ap₂ (λ (l : List Mark) (p : List ℕ). reference l p a.op a.value) before prop ∙ ap₂ (λ (o : Op) (v : Value0). reference b.before b.prop o v) op value

pub one_start : (g : Grammar) (a b : ReferenceNext) (start : ReferenceStart) → IsStartOf g a start → IsStartOf g b start → a ≡ b
one_start g a b start is was = same_next a b (one_meaning g is.meant was.meant) (one_mark g is.puts was.puts)
