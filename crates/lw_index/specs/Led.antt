-- What an index of references holds: for the number of each document that it was given, where the references of the document lead, in their order. Held against Langium, "Document lifecycle": once a document is linked, each of its references has the description that it leads to, or an error that there is none.
use Rattle.std.specs.Prelude.{◌≡◌, ℕ, List, [], Option, Some, None, refl}
use Rattle.std.specs.Option.{option_map_or}
use Rattle.std.specs.Ordering.{nat_cmp}
use Rattle.std.specs.Coded.{Coded, code_by, coded×, coded_option, coded_ℕ}
use Rattle.std.specs.FinMap as map
use Rattle.lw_index.specs.declared.parts.Answer.{Answer}
use Rattle.lw_index.specs.declared.parts.Answer.TheVariants.{Found, Missing}

abbrev pub Led : Type 0
Led = map.FinMap nat_cmp (List Answer)

-- where the references of a document lead: none where it was given none
abbrev pub answers_in : Led → ℕ → List Answer
answers_in led doc = option_map_or (λ answers. answers) (map.get led doc) []

-- an answer as the numbers of a document and a node, if it is one that was found
abbrev pub numbers_of : Answer → Option (ℕ × ℕ)
numbers_of (Found target) = Some (target.doc.0, target.node.0)
numbers_of Missing = None

abbrev pub answer_of : Option (ℕ × ℕ) → Answer
answer_of (Some p) = Found (record { doc = record { 0 = p.0 }; node = record { 0 = p.1 } })
answer_of None = Missing

pub answer_of-numbers_of : (a : Answer) → answer_of (numbers_of a) ≡ a
answer_of-numbers_of (Found target) = refl
answer_of-numbers_of Missing = refl

abbrev pub coded_answer : Coded Answer
coded_answer = code_by (Option (ℕ × ℕ)) (coded_option (coded× coded_ℕ coded_ℕ)) numbers_of answer_of answer_of-numbers_of
