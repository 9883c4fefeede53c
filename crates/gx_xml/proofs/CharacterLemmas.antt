-- Numbers that are no characters.
use Rattle.std.proofs.Common.{◌≡◌, ℕ, true, false, List, refl, sym, ap, ◌∙◌, Option, Some, None, arith}
use Rattle.std.proofs.lemmas.Bool.Decides.{nat_tests}
use Rattle.std.specs.Char.{OutOfScalarRange}
use Rattle.std.specs.Prelude.{bytes_eq}
use Rattle.std.specs.Str.{chars, all_scalars, encode_utf8_all}
use Rattle.std.proofs.lemmas.Str.{chars_from_encodes}
use Rattle.std.specs.Bool.{one_answer}
use Rattle.std.specs.Cmp.Lexicographic.{bytes_decides}
use Rattle.gx_tree.specs.Binding.{xml}
use Rattle.gx_base.specs.NameCharacters.{is_xml_character}
use Rattle.gx_xml.specs.Tokens.{names_character}

pub no_scalar_no_char : (n : ℕ) → OutOfScalarRange n → is_xml_character n ≡ false
unfolding is_xml_character
no_scalar_no_char n h = grind (arith, nat_tests)

pub names_none : (expected : Option ℕ) (n : ℕ) → OutOfScalarRange n → names_character expected n ≡ false
names_none None n h = no_scalar_no_char n h
names_none (Some k) n h = rw (no_scalar_no_char n h) refl

chars_of_text : (text bytes : List ℕ) → all_scalars text ≡ true → bytes ≡ encode_utf8_all text → chars bytes ≡ text
chars_of_text text bytes scalars e = sym (chars_from_encodes text bytes (text, (scalars, sym e)) (sym e))

-- a text is xml where its bytes are
pub is_xml_text : (text : List ℕ) → all_scalars text ≡ true → bytes_eq (encode_utf8_all text) xml ≡ bytes_eq text xml
unfolding lib.Utf8.encode
is_xml_text text scalars =
    let by_bytes = bytes_decides (encode_utf8_all text) xml in
    let by_text = bytes_decides text xml in
    let back = λ (e : encode_utf8_all text ≡ xml). sym (chars_of_text text (encode_utf8_all text) scalars refl) ∙ ap chars e ∙ chars_of_text xml xml refl refl in
    one_answer {P = encode_utf8_all text ≡ xml} _ _ by_bytes (λ h. ap encode_utf8_all (by_text.0 h), λ e. by_text.1 (back e))
