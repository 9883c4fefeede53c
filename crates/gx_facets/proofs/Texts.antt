-- Characters and their bytes.
use Rattle.std.proofs.Common.{◌≡◌, ℕ, List, true, sym, rules}
use Rattle.std.specs.Prelude.{codes}
use Rattle.std.specs.Str.{chars, IsUtf8, all_scalars, encode_utf8_all}
use Rattle.std.proofs.lemmas.Str.{chars-IsAscii, chars_from_encodes}

pub chars_true : chars (codes "true") ≡ codes "true"
chars_true = chars-IsAscii (codes "true") (search rules)

pub chars_false : chars (codes "false") ≡ codes "false"
chars_false = chars-IsAscii (codes "false") (search rules)

pub ruleset boolean_texts = (chars_true, chars_false)

-- bytes that encode characters are a text of these
pub text_of : (cs bs : List ℕ) → all_scalars cs ≡ true → bs ≡ encode_utf8_all cs → IsUtf8 bs
text_of cs bs scalars e = (cs, (scalars, sym e))

pub chars_of : (cs bs : List ℕ) → all_scalars cs ≡ true → bs ≡ encode_utf8_all cs → chars bs ≡ cs
chars_of cs bs scalars e = sym (chars_from_encodes cs bs (text_of cs bs scalars e) (sym e))
