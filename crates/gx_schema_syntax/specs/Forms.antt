-- The forms of the values of attributes.
use Rattle.std.specs.Prelude.{ℕ, Bool, true, ◌||◌, List, codes}
use Rattle.gx_schema_syntax.specs.declared.attributes.Form.{Form}
use Rattle.gx_schema_syntax.specs.declared.attributes.Form.TheVariants.{Name, Reference, TypeReference, Digits, DigitsOrUnbounded, Boolean, False, Usage, Qualification, Any}
use Rattle.gx_qnames.specs.Lexical.{is_local_name, is_qname, is_digits}
use Rattle.gx_qnames.specs.Words.{has_spelling}

-- a value is one of the words of the form, where the form lists words
abbrev pub is_one_of_words : Form → List ℕ → Bool
is_one_of_words Boolean value = has_spelling (codes "true") value || (has_spelling (codes "false") value || (has_spelling (codes "1") value || has_spelling (codes "0") value))
is_one_of_words False value = has_spelling (codes "false") value
is_one_of_words Usage value = has_spelling (codes "optional") value || (has_spelling (codes "required") value || has_spelling (codes "prohibited") value)
is_one_of_words Qualification value = has_spelling (codes "qualified") value || has_spelling (codes "unqualified") value
is_one_of_words _ value = true

-- a value has the form
abbrev pub has_form : Form → List ℕ → Bool
has_form Name value = is_local_name value
has_form Reference value = is_qname value
has_form TypeReference value = is_qname value
has_form Digits value = is_digits value
has_form DigitsOrUnbounded value = has_spelling (codes "unbounded") value || is_digits value
has_form Boolean value = is_one_of_words Boolean value
has_form False value = is_one_of_words False value
has_form Usage value = is_one_of_words Usage value
has_form Qualification value = is_one_of_words Qualification value
has_form Any value = true
