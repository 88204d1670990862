use Rattle.std.proofs.Common.{◌⊎◌, List, Result, Ok, Err, OnOk}
use Rattle.lw_base.specs.declared.memory.NoMemory.{NoMemory}
use Rattle.lw_faults.specs.Properties.{NotASubtype}
use Rattle.lw_grammar.specs.declared.fault.GrammarFault.{GrammarFault}
use Rattle.lw_faults.specs.Finding.{Finds, IsFaultOf}
use Rattle.lw_faults.proofs.Joining.{Finds-then}
use Rattle.lw_properties.proofs.find.find_at.Goals as goal

one_by_one : {A B C : GrammarFault → Type 0} (D : GrammarFault → Type 0) {a b c d : List GrammarFault} (e : List GrammarFault) → Finds A a b → Finds B b c → Finds C c d →
    (r : Result (Unit {0}) NoMemory) → OnOk r (Finds D d e) → OnOk r (Finds (λ f. A f ⊎ B f ⊎ C f ⊎ D f) a e)
one_by_one D e one two three (Ok u) four = Finds-then one (Finds-then two (Finds-then three four))
one_by_one D e one two three (Err err) four = tt

pub returns : goal.returns
returns c =
    one_by_one (IsFaultOf 17 (NotASubtype c.args.known.now.g.now)) c.find_not_below.new.found c.in_ok-find_unknown_properties.ensures c.in_ok-find_wrong_forms.ensures
    c.in_ok-find_mixed_properties.ensures c.find_not_below.result c.find_not_below.ensures
