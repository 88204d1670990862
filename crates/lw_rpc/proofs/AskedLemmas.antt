-- What a request asks about a place, is what its parameters say by their shape.
use Rattle.std.proofs.Common.{◌≡◌, ℕ, List, Bool, codes, Option, Some, None, refl, ap, sym, subst, ◌∙◌, option_map, option_and_then, unwrap_or}
use Rattle.serde_json.specs.Data.{Data, null, boolean, number, string, array, object}
use Rattle.serde_json.specs.Find.{get, as_bool}
use Rattle.lw_text.specs.declared.place.Pos.{Pos}
use Rattle.lw_rpc.specs.Causes.{HasValue, IsCall, NamesPoint, AsksAtPlace, AsksReferences, AsksRename, IsMessage, asks_definition, not_definition, asks_references, not_references, asks_rename, not_rename, asks_completion, not_completion}
use Rattle.lw_rpc.specs.Params.{member_at, text_at, truth_at, point_by, point_of, asked_at_place, definition_asked, flag_beside, point_and_flag, references_asked, name_beside, point_and_name, rename_asked, completion_asked}
use Rattle.lw_rpc.proofs.ChangeLemmas.{position_of-HasPos, HasPos-found}
use Rattle.lw_rpc.proofs.Found.{str_of, inside, found_in, mapped, none-and-some}
use Rattle.lw_rpc.specs.declared.message.Id.{Id}
use Rattle.lw_rpc.specs.declared.message.Message.{Message}
use Rattle.lw_rpc.specs.declared.message.Message.TheVariants.{BadParams, Definition, References, Rename, Completion}

-- ---- from the rules to the shape

point_of-NamesPoint : (params : Data) (uri : List ℕ) (at : Pos) → NamesPoint params uri at → point_of (Some params) ≡ Some (uri, at)
point_of-NamesPoint params uri at is = rw (is.has_document, is.has_uri, position_of-HasPos (codes "position") params at is.has_position) refl

pub asked_at_place-AsksAtPlace : (made : List ℕ → Pos → Message) (d : Data) (uri : List ℕ) (at : Pos) → AsksAtPlace d uri at → asked_at_place made (get (codes "params") d) ≡ Some (made uri at)
asked_at_place-AsksAtPlace made d uri at is =
    ap (asked_at_place made) is.has_params ∙ ap (option_map (λ (asked : List ℕ × Pos). made asked.0 asked.1)) (point_of-NamesPoint is.params uri at is.names_point)

pub references_asked-AsksReferences : (d : Data) (id : Id) (uri : List ℕ) (at : Pos) (include : Bool) → AsksReferences d uri at include → references_asked id (get (codes "params") d) ≡ Some (References id uri at include)
references_asked-AsksReferences d id uri at include is =
    let flag : truth_at (codes "includeDeclaration") (member_at (codes "context") (Some is.params)) ≡ Some include = rw (is.has_context, is.has_flag) refl in
    ap (references_asked id) is.has_params
    ∙ ap (λ point. option_map (λ (asked : List ℕ × Pos × Bool). References id asked.0 asked.1 asked.2) (flag_beside point (truth_at (codes "includeDeclaration") (member_at (codes "context") (Some is.params)))))
    (point_of-NamesPoint is.params uri at is.names_point)
    ∙ ap (λ found. option_map (λ (asked : List ℕ × Pos × Bool). References id asked.0 asked.1 asked.2) (flag_beside (Some (uri, at)) found)) flag

pub rename_asked-AsksRename : (d : Data) (id : Id) (uri : List ℕ) (at : Pos) (name : List ℕ) → AsksRename d uri at name → rename_asked id (get (codes "params") d) ≡ Some (Rename id uri at name)
rename_asked-AsksRename d id uri at name is =
    let new_name : text_at (codes "newName") (Some is.params) ≡ Some name = rw is.has_new_name refl in
    ap (rename_asked id) is.has_params
    ∙ ap (λ point. option_map (λ (asked : List ℕ × Pos × List ℕ). Rename id asked.0 asked.1 asked.2) (name_beside point (text_at (codes "newName") (Some is.params))))
    (point_of-NamesPoint is.params uri at is.names_point)
    ∙ ap (λ found. option_map (λ (asked : List ℕ × Pos × List ℕ). Rename id asked.0 asked.1 asked.2) (name_beside (Some (uri, at)) found)) new_name

-- ---- from the shape to the rules

truth_of : (found : Option Data) (b : Bool) → option_and_then as_bool found ≡ Some b → found ≡ Some (boolean b)
truth_of None b same = cc
truth_of (Some null) b same = cc
truth_of (Some (boolean c)) b same = cc
truth_of (Some (number n)) b same = cc
truth_of (Some (string s)) b same = cc
truth_of (Some (array items)) b same = cc
truth_of (Some (object _)) b same = cc

point_by-parts : (uri : Option (List ℕ)) (at : Option Pos) (point : List ℕ × Pos) → point_by uri at ≡ Some point → (uri ≡ Some point.0) × (at ≡ Some point.1)
point_by-parts (Some uri) (Some at) point same =
    let e : (uri, at) ≡ point = cc in
    (ap (λ (p : List ℕ × Pos). Some p.0) e, ap (λ (p : List ℕ × Pos). Some p.1) e)
point_by-parts (Some uri) None point same = absurd (cc)
point_by-parts None at point same = absurd (cc)

NamesPoint-point_of : (given : Option Data) (point : List ℕ × Pos) → point_of given ≡ Some point → (params : Data) × (given ≡ Some params) × NamesPoint params point.0 point.1
NamesPoint-point_of (Some params) point same =
    let parts = point_by-parts _ _ point same in
    let uri : (w : Data) × (get (codes "textDocument") params ≡ Some w) × (get (codes "uri") w ≡ Some (string point.0)) =
    inside (get (codes "uri")) (get (codes "textDocument") params) (string point.0) (str_of _ _ parts.0) in
    (params, refl, record { document = uri.0; has_document = uri.1; has_uri = uri.2; has_position = HasPos-found (codes "position") params _ point.1 refl parts.1 })
NamesPoint-point_of None point same = absurd (cc)

AsksAtPlace-asked_at_place : (made : List ℕ → Pos → Message) (d : Data) (m : Message) → asked_at_place made (get (codes "params") d) ≡ Some m → (u : List ℕ) × (p : Pos) × (m ≡ made u p) × AsksAtPlace d u p
AsksAtPlace-asked_at_place made d m same =
    let asked = mapped (λ (asked : List ℕ × Pos). made asked.0 asked.1) (point_of (get (codes "params") d)) m same in
    let point = NamesPoint-point_of (get (codes "params") d) asked.0 asked.1 in
    (asked.0.0, asked.0.1, asked.2, record { params = point.0; has_params = point.1; names_point = point.2 })

flag_beside-parts : (point : Option (List ℕ × Pos)) (flag : Option Bool) (asked : List ℕ × Pos × Bool) → flag_beside point flag ≡ Some asked → (point ≡ Some (asked.0, asked.1)) × (flag ≡ Some asked.2)
flag_beside-parts (Some point) (Some flag) asked same =
    let e : (point.0, point.1, flag) ≡ asked = cc in
    (ap (λ (a : List ℕ × Pos × Bool). Some (a.0, a.1)) e, ap (λ (a : List ℕ × Pos × Bool). Some a.2) e)
flag_beside-parts (Some point) None asked same = absurd (cc)
flag_beside-parts None flag asked same = absurd (cc)

AsksReferences-references_asked : (d : Data) (id : Id) (m : Message) → references_asked id (get (codes "params") d) ≡ Some m
    → (u : List ℕ) × (p : Pos) × (f : Bool) × (m ≡ References id u p f) × AsksReferences d u p f
AsksReferences-references_asked d id m same =
    let given : Option Data = get (codes "params") d in
    let asked = mapped (λ (asked : List ℕ × Pos × Bool). References id asked.0 asked.1 asked.2) (point_and_flag given) m same in
    let parts = flag_beside-parts (point_of given) (truth_at (codes "includeDeclaration") (member_at (codes "context") given)) asked.0 asked.1 in
    let point = NamesPoint-point_of given (asked.0.0, asked.0.1) parts.0 in
    let context : (w : Data) × (member_at (codes "context") given ≡ Some w) × (get (codes "includeDeclaration") w ≡ Some (boolean asked.0.2)) =
    inside (get (codes "includeDeclaration")) (member_at (codes "context") given) (boolean asked.0.2) (truth_of _ _ parts.1) in (
      asked.0.0,
      asked.0.1,
      asked.0.2,
      asked.2,
      record {
        params = point.0;
        context = context.0;
        has_params = point.1;
        names_point = point.2;
        has_context = found_in given point.0 context.0 (codes "context") point.1 context.1;
        has_flag = context.2;
      },
    )

name_beside-parts : (point : Option (List ℕ × Pos)) (name : Option (List ℕ)) (asked : List ℕ × Pos × List ℕ) → name_beside point name ≡ Some asked → (point ≡ Some (asked.0, asked.1)) × (name ≡ Some asked.2)
name_beside-parts (Some point) (Some name) asked same =
    let e : (point.0, point.1, name) ≡ asked = cc in
    (ap (λ (a : List ℕ × Pos × List ℕ). Some (a.0, a.1)) e, ap (λ (a : List ℕ × Pos × List ℕ). Some a.2) e)
name_beside-parts (Some point) None asked same = absurd (cc)
name_beside-parts None name asked same = absurd (cc)

AsksRename-rename_asked : (d : Data) (id : Id) (m : Message) → rename_asked id (get (codes "params") d) ≡ Some m
    → (u : List ℕ) × (p : Pos) × (n : List ℕ) × (m ≡ Rename id u p n) × AsksRename d u p n
AsksRename-rename_asked d id m same =
    let given : Option Data = get (codes "params") d in
    let asked = mapped (λ (asked : List ℕ × Pos × List ℕ). Rename id asked.0 asked.1 asked.2) (point_and_name given) m same in
    let parts = name_beside-parts (point_of given) (text_at (codes "newName") given) asked.0 asked.1 in
    let point = NamesPoint-point_of given (asked.0.0, asked.0.1) parts.0 in (
      asked.0.0,
      asked.0.1,
      asked.0.2,
      asked.2,
      record {
        params = point.0;
        has_params = point.1;
        names_point = point.2;
        has_new_name = found_in given point.0 (string asked.0.2) (codes "newName") point.1 (str_of _ _ parts.1);
      },
    )

-- ---- the rule that the parameters meet

module _ (body : List ℕ) (d : Data) (id : Id) (has : HasValue body d) where
  -- whatever message is made of the place
  place-met : (made : List ℕ → Pos → Message) (method : List ℕ) (found : Option Message) → ((u : List ℕ) (p : Pos) → AsksAtPlace d u p → IsMessage body (made u p))
      → (((u : List ℕ) (p : Pos) → ¬ AsksAtPlace d u p) → IsMessage body (BadParams (Some id) method)) → asked_at_place made (get (codes "params") d) ≡ found
      → IsMessage body (unwrap_or found (BadParams (Some id) method))
  place-met made method (Some m) asked closed e = let parts = AsksAtPlace-asked_at_place made d m e in subst (IsMessage body) (sym parts.2) (asked parts.0 parts.1 parts.3)
  place-met made method None asked closed e = closed (λ u p asks. none-and-some e (asked_at_place-AsksAtPlace made d u p asks))

  pub definition-met : (found : Option Message) → IsCall d (Some id) (codes "textDocument/definition") → definition_asked id (get (codes "params") d) ≡ found
      → IsMessage body (unwrap_or found (BadParams (Some id) (codes "textDocument/definition")))
  definition-met found is = place-met (Definition id) (codes "textDocument/definition") found (λ u p asks. asks_definition d has is asks) (not_definition d has is)

  pub completion-met : (found : Option Message) → IsCall d (Some id) (codes "textDocument/completion") → completion_asked id (get (codes "params") d) ≡ found
      → IsMessage body (unwrap_or found (BadParams (Some id) (codes "textDocument/completion")))
  completion-met found is = place-met (Completion id) (codes "textDocument/completion") found (λ u p asks. asks_completion d has is asks) (not_completion d has is)

  pub references-met : (found : Option Message) → IsCall d (Some id) (codes "textDocument/references") → references_asked id (get (codes "params") d) ≡ found
      → IsMessage body (unwrap_or found (BadParams (Some id) (codes "textDocument/references")))
  references-met (Some m) is e = let parts = AsksReferences-references_asked d id m e in subst (IsMessage body) (sym parts.3) (asks_references d has is parts.4)
  references-met None is e = not_references d has is (λ u p f asks. none-and-some e (references_asked-AsksReferences d id u p f asks))

  pub rename-met : (found : Option Message) → IsCall d (Some id) (codes "textDocument/rename") → rename_asked id (get (codes "params") d) ≡ found
      → IsMessage body (unwrap_or found (BadParams (Some id) (codes "textDocument/rename")))
  rename-met (Some m) is e = let parts = AsksRename-rename_asked d id m e in subst (IsMessage body) (sym parts.3) (asks_rename d has is parts.4)
  rename-met None is e = not_rename d has is (λ u p n asks. none-and-some e (rename_asked-AsksRename d id u p n asks))

-- ---- what is not of the shape

pub no_place : (made : List ℕ → Pos → Message) (d : Data) (found : Option Message) → asked_at_place made (get (codes "params") d) ≡ found → ((u : List ℕ) (p : Pos) → ¬ AsksAtPlace d u p) → found ≡ None
no_place made d (Some m) same closed = let parts = AsksAtPlace-asked_at_place made d m same in absurd (closed parts.0 parts.1 parts.3)
no_place made d None same closed = refl

pub no_references : (d : Data) (id : Id) (found : Option Message) → references_asked id (get (codes "params") d) ≡ found → ((u : List ℕ) (p : Pos) (f : Bool) → ¬ AsksReferences d u p f) → found ≡ None
no_references d id (Some m) same closed = let parts = AsksReferences-references_asked d id m same in absurd (closed parts.0 parts.1 parts.2 parts.4)
no_references d id None same closed = refl

pub no_rename : (d : Data) (id : Id) (found : Option Message) → rename_asked id (get (codes "params") d) ≡ found → ((u : List ℕ) (p : Pos) (n : List ℕ) → ¬ AsksRename d u p n) → found ≡ None
no_rename d id (Some m) same closed = let parts = AsksRename-rename_asked d id m same in absurd (closed parts.0 parts.1 parts.2 parts.4)
no_rename d id None same closed = refl
