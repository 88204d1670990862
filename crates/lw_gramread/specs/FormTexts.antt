-- How messages name the forms of Langium's grammar language that are left out.
use Rattle.std.specs.Prelude.{ℕ, List, codes}
use Rattle.lw_gramread.specs.declared.form.Form.{Form}
use Rattle.lw_gramread.specs.declared.form.Form.TheVariants.{UnorderedGroup, GuardOrParameter, Predicate, Until, Negation, Wildcard, Lookaround, WildcardFragment, PropertyDefault, MultiReference, RegexFlags, HiddenList, InfixRule}

abbrev pub form_text : Form → List ℕ
form_text UnorderedGroup = codes "unordered group"
form_text GuardOrParameter = codes "guard or parameter"
form_text Predicate = codes "predicate"
form_text Until = codes "until"
form_text Negation = codes "negation"
form_text Wildcard = codes "wildcard"
form_text Lookaround = codes "lookaround"
form_text WildcardFragment = codes "wildcard fragment"
form_text PropertyDefault = codes "property default"
form_text MultiReference = codes "multi-reference"
form_text RegexFlags = codes "regex flags"
form_text HiddenList = codes "hidden list"
form_text InfixRule = codes "infix rule"
