-- A text with a longer name in the place of a reference, written out beside `model m state x to x end`.
use Rattle.std.specs.Prelude.{ℕ, List, [], ◌∷◌, Some, codes}
use Rattle.lw_base.specs.declared.token.Token.{Token}
use Rattle.lw_reading.specs.Worked.{from_to, has, node_in, root_node, word_token}
use Rattle.lw_tree.specs.declared.node.Value.TheVariants as value
use Rattle.lw_tree.specs.Parts.{Parts}

abbrev pub longer_text : List ℕ
longer_text = codes "model m state x to target end"

-- the tokens up to the reference, which are those of both texts, and the one behind it
abbrev pub front_tokens : List Token
front_tokens = word_token 0 0 5 ∷ word_token 5 6 7 ∷ word_token 1 8 13 ∷ word_token 5 14 15 ∷ word_token 2 16 18 ∷ []

abbrev pub end_token : Token
end_token = word_token 3 21 24

abbrev pub moved_end_token : Token
moved_end_token = word_token 3 26 29

abbrev pub longer_tree : Parts
longer_tree = record {
  nodes = root_node 0 (from_to 0 29) ∷ node_in 0 1 1 (from_to 8 29) ∷ [];
  values = has 0 0 (value.Text (codes "m") (from_to 6 7)) ∷ has 0 1 (value.Child (record { 0 = 1 }))
      ∷ has 1 0 (value.Text (codes "x") (from_to 14 15)) ∷ has 1 2 (value.Refers (record { 0 = 0 })) ∷ [];
  refs = record { owner = record { 0 = 1 }; prop = record { 0 = 2 }; want = record { 0 = 1 }; name = codes "target"; span = from_to 19 25 } ∷ [];
  tokens = word_token 0 0 5 ∷ word_token 5 6 7 ∷ word_token 1 8 13 ∷ word_token 5 14 15 ∷ word_token 2 16 18 ∷ word_token 5 19 25 ∷ word_token 3 26 29 ∷ [];
  name = Some (record { 0 = 0 });
}
