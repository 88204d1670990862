-- What is offered at a place of a text, by bytes, and as an editor is told it.
-- Language Server Protocol 3.17, "Completion Request": the range of an edit ends at the position that was asked about.
use Rattle.std.specs.Prelude.{ℕ, ◌≡◌, List, length}
use Rattle.lw_complete.specs.Items.{offer_of}
use Rattle.lw_complete.specs.declared.item.Item.{Item}
use Rattle.lw_conversation.specs.Asking.{IsItemOf}
use Rattle.lw_places.specs.Words.{IsTypedAt}
use Rattle.lw_rpc.specs.declared.reply.CompletionItem.{CompletionItem}

-- the item takes the place of the word that ends where it ends
pub record TakesWord (text : List ℕ) (item : Item) : Type 0 where
  pub front : List ℕ
  pub word : List ℕ
  pub rest : List ℕ
  pub typed : IsTypedAt text item.to front word rest
  pub begins : item.from ≡ length front

-- an item as an editor is told it
abbrev pub IsItemTold : List ℕ → Item → CompletionItem → Type 0
IsItemTold text item told = IsItemOf text item.to (offer_of item) told
