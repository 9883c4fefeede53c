-- Functions that take strings apart, compare them and bring them into a normal form (Functions and Operators, sections 7.2, 7.3.2 and 7.4.6).
use Rattle.std.specs.Prelude.{ℕ, ℤ, pos, negsuc, List, [], ◌∷◌, map, Option, None, Some, Result, Ok, Err, codes, encode_utf8_all, if◌then◌else◌}
use Rattle.std.specs.Char.{to_ascii_uppercase}
use Rattle.std.specs.declared.cmp.Ordering.{Ordering}
use Rattle.std.specs.declared.cmp.Ordering.TheVariants.{Less, Equal, Greater}
pub use Rattle.unicode_normalization.specs.Forms.{Form, Nfd, Nfkd, Nfc, Nfkc, normalize}
use Rattle.gx_base.specs.declared.code.Code.{Code}
use Rattle.gx_base.specs.declared.code.Code.TheVariants.{FOCH0001, FOCH0003}
use Rattle.gx_base.specs.NameCharacters.{is_xml_character}
use Rattle.gx_base.specs.Text.{same_text, text_cmp}
use Rattle.gx_facets.specs.declared.Atomic.{Atomic}
use Rattle.gx_facets.specs.WhiteSpace.{collapsed}
use Rattle.gx_funcs.specs.Function.{integer_atom, string_atom}
use Rattle.gx_funcs.specs.Texts.{Text}

-- ---- the order of two strings (7.3.2)

abbrev pub sign_of_order : Ordering → ℤ
sign_of_order Less = negsuc 0
sign_of_order Equal = pos 0
sign_of_order Greater = pos 1

abbrev pub compared_texts : Text → Text → Atomic
compared_texts t u = integer_atom (sign_of_order (text_cmp t u))

-- ---- code points (7.2)

abbrev pub codepoints_of : Text → List Atomic
codepoints_of = map (λ (c : ℕ). integer_atom (pos c))

-- the character with a code point, if it is one of XML
abbrev pub character_with_code : ℤ → Option ℕ
character_with_code (pos n) = if is_xml_character n then Some n else None
character_with_code (negsuc n) = None

-- the string of some integers, each of which is to be the code point of a character
abbrev pub character_behind : Option ℕ → Result Text Code → Result Text Code
character_behind None rest = Err FOCH0001
character_behind (Some c) (Ok cs) = Ok (c ∷ cs)
character_behind (Some c) (Err code) = Err code

abbrev pub text_of_codepoints : List ℤ → Result Text Code
text_of_codepoints [] = Ok []
text_of_codepoints (i ∷ codepoints) = character_behind (character_with_code i) (text_of_codepoints codepoints)

-- ---- normalization forms (7.4.6)

-- the name of a form in UTF-8, without white space at its ends and with capitals for ASCII letters
abbrev pub form_name : Text → List ℕ
form_name t = encode_utf8_all (map to_ascii_uppercase (collapsed t))

-- no form at all, or a form, if the name is one
abbrev pub form_named : (name : List ℕ) → Option (Option Form)
form_named name =
    if same_text name [] then Some None
    else if same_text name (codes "NFC") then Some (Some Nfc)
    else if same_text name (codes "NFD") then Some (Some Nfd)
    else if same_text name (codes "NFKC") then Some (Some Nfkc)
    else if same_text name (codes "NFKD") then Some (Some Nfkd)
    else None

abbrev pub normal_form : Option Form → Text → Text
normal_form None t = t
normal_form (Some form) t = normalize form t

abbrev pub normalized_as : Option (Option Form) → Text → Result (List Atomic) Code
normalized_as None t = Err FOCH0003
normalized_as (Some form) t = Ok (string_atom (normal_form form t) ∷ [])
