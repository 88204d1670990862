-- What was found in a value, by what was made of it.
use Rattle.std.proofs.Common.{◌≡◌, ℕ, ℤ, List, Option, Some, None, option_map, option_and_then, refl, ap, sym, ◌∙◌}
use Rattle.serde_json.specs.Data.{Data, Num, Items, null, boolean, number, string, array, object}
use Rattle.serde_json.specs.Find.{get, as_str, as_number, as_array, as_i64}
use Rattle.lw_rpc.specs.Params.{member_at}

pub str_of : (found : Option Data) (text : List ℕ) → option_and_then as_str found ≡ Some text → found ≡ Some (string text)
str_of None text same = cc
str_of (Some null) text same = cc
str_of (Some (boolean b)) text same = cc
str_of (Some (number n)) text same = cc
str_of (Some (string s)) text same = cc
str_of (Some (array items)) text same = cc
str_of (Some (object _)) text same = cc

pub whole_of : (found : Option Data) (z : ℤ) → option_and_then as_i64 (option_and_then as_number found) ≡ Some z → (n : Num) × (found ≡ Some (number n)) × (as_i64 n ≡ Some z)
whole_of None z same = absurd (cc)
whole_of (Some null) z same = absurd (cc)
whole_of (Some (boolean b)) z same = absurd (cc)
whole_of (Some (number n)) z same = (n, refl, same)
whole_of (Some (string s)) z same = absurd (cc)
whole_of (Some (array items)) z same = absurd (cc)
whole_of (Some (object _)) z same = absurd (cc)

pub list_of : {A : Type 0} (make : Items → Option A) (found : Option Data) (made : A) → option_and_then make (option_and_then as_array found) ≡ Some made → (items : Items) × (found ≡ Some (array items)) × (make items ≡ Some made)
list_of make None made same = absurd (cc)
list_of make (Some null) made same = absurd (cc)
list_of make (Some (boolean b)) made same = absurd (cc)
list_of make (Some (number n)) made same = absurd (cc)
list_of make (Some (string s)) made same = absurd (cc)
list_of make (Some (array items)) made same = (items, refl, same)
list_of make (Some (object _)) made same = absurd (cc)

-- what a look-up in a found value found
pub inside : (look : Data → Option Data) (value : Option Data) (found : Data) → option_and_then look value ≡ Some found → (w : Data) × (value ≡ Some w) × (look w ≡ Some found)
inside look (Some w) found same = (w, refl, same)
inside look None found same = absurd (cc)

pub found_in : (value : Option Data) (w found : Data) (key : List ℕ) → value ≡ Some w → member_at key value ≡ Some found → get key w ≡ Some found
found_in value w found key e same = ap (option_and_then (get key)) (sym e) ∙ same

-- what was made of a found thing
pub mapped : {A B : Type 0} (f : A → B) (found : Option A) (made : B) → option_map f found ≡ Some made → (a : A) × (found ≡ Some a) × (made ≡ f a)
mapped f (Some a) made same = (a, refl, cc)
mapped f None made same = absurd (cc)

pub none-and-some : {A : Type 0} {found : Option A} {x : A} → found ≡ None → found ≡ Some x → ⊥
none-and-some e f = absurd (cc)
