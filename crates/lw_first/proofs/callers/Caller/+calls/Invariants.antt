use Rattle.std.proofs.Common.{Contains, take}
use Rattle.lw_grammar.specs.declared.rule.Element.{Element}
use Rattle.lw_look.specs.Sites.{Body}
use Rattle.lw_first.specs.Calling.{AddsCalls, HasCall}
use Rattle.lw_first.proofs.callers.Caller.+calls.Given as goal

abbrev pub invariant-elements-loop-element : goal.invariant-elements-loop-element
invariant-elements-loop-element l =
    AddsCalls l.self.number (λ r. (e : Element) × Contains (take l.element-index l.elements) e × HasCall l.self.lexicon.g.now (Body e) r) l.fn.graph l.graph
