-- The trees of two texts that are written out.
use Rattle.std.proofs.Common.{◌≡◌, ℕ, List, [], ◌∷◌, Some, codes, get_or, refl, ap, arith}
use Rattle.lw_base.specs.declared.token.Span.{Span}
use Rattle.lw_reading.specs.Grown.{Text, Grown, Grow, Nothing, Puts, Takes, Points}
use Rattle.lw_reading.specs.Trees.{parts_of_tree}
use Rattle.lw_reading.specs.Worked.{begun_tree, from_to, state_text, state_tree}
use Rattle.lw_tree.specs.Parts.{SameTables}
use Rattle.lw_substitution.specs.Growth.{AreAlikeGrown}
use Rattle.lw_substitution.specs.Growth as alike
use Rattle.lw_substitution.specs.OneName.{AreAlikeTrees}
use Rattle.lw_substitution.specs.Tokens.{AreSameTokens}
use Rattle.lw_substitution.specs.Worked.{front_tokens, end_token, moved_end_token, longer_text, longer_tree}
use Rattle.lw_substitution.proofs.Tabled.{trees_alike}

-- both as they grow, up to this byte, with a reference by this name there
abbrev grown_states : ℕ → List ℕ → Span → Grown
grown_states end name s =
    Grow 0 (from_to 0 end)
    (Takes (Puts Nothing 0 (Text (codes "m") (from_to 6 7))) 1
    (Grow 1 (from_to 8 end) (Points (Puts Nothing 0 (Text (codes "x") (from_to 14 15))) 2 1 name s)))

short_tables : SameTables state_tree (parts_of_tree (grown_states 24 (codes "x") (from_to 19 20)) state_tree.tokens state_tree.name)
short_tables = record { nodes = refl; values = λ n p. refl; refs = refl; tokens = refl; name = refl }

longer_tables : SameTables longer_tree (parts_of_tree (grown_states 29 (codes "target") (from_to 19 25)) longer_tree.tokens longer_tree.name)
longer_tables = record { nodes = refl; values = λ n p. refl; refs = refl; tokens = refl; name = refl }

grown_alike : AreAlikeGrown 0 0 (grown_states 24 (codes "x") (from_to 19 20)) (grown_states 29 (codes "target") (from_to 19 25))
grown_alike =
    alike.grow
    (alike.takes (alike.puts alike.nothing alike.text)
    (alike.grow (alike.points_to (alike.puts alike.nothing alike.text) (λ apart. absurd (apart refl)))))

pub states_alike : AreAlikeTrees 0 state_tree longer_tree
states_alike =
    trees_alike 0 (grown_states 24 (codes "x") (from_to 19 20)) (grown_states 29 (codes "target") (from_to 19 25)) grown_alike
    state_tree.tokens longer_tree.tokens state_tree longer_tree refl short_tables longer_tables

first_apart : ◌≡◌ {A = ℕ} 0 1 → ⊥
first_apart e = omega (arith, e)

names_apart : ◌≡◌ {A = _} (Some (codes "x")) (Some (codes "target")) → ⊥
names_apart e = cc

pub names_differ : ¬ AreAlikeTrees 1 state_tree longer_tree
names_differ is = names_apart (is.names 0 first_apart)

pub one_left_out : ¬ AreAlikeTrees 0 state_tree begun_tree
one_left_out is = is.refs

pub fronts_say_the_same : AreSameTokens state_text longer_text front_tokens front_tokens
fronts_say_the_same = (record { kind = refl; bytes = refl }, (record { kind = refl; bytes = refl }, (record { kind = refl; bytes = refl }, (record { kind = refl; bytes = refl }, (record { kind = refl; bytes = refl }, tt)))))

pub rests_say_the_same : AreSameTokens state_text longer_text (end_token ∷ []) (moved_end_token ∷ [])
rests_say_the_same = (record { kind = refl; bytes = refl }, tt)

other_bytes : codes "end" ≡ codes "rge" → ⊥
other_bytes e = let first : 101 ≡ 114 = ap (λ (bytes : List ℕ). get_or bytes 0 0) e in omega (arith, first)

pub rests_have_moved : ¬ AreSameTokens state_text longer_text (end_token ∷ []) (end_token ∷ [])
rests_have_moved same = other_bytes same.0.bytes
