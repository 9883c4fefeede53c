-- The characters of a text, and what is left of a decimal beside whole units.
use Rattle.std.proofs.Common.{◌≡◌, ℕ, List, true, sym}
use Rattle.std.specs.Str.{chars, IsUtf8, all_scalars, encode_utf8_all}
use Rattle.std.proofs.lemmas.Str.{chars_from_encodes}

pub utf8_of_characters : (text bytes : List ℕ) → all_scalars text ≡ true → bytes ≡ encode_utf8_all text → IsUtf8 bytes
utf8_of_characters text bytes scalars e = (text, (scalars, sym e))

pub characters_of_utf8 : (text bytes : List ℕ) → all_scalars text ≡ true → bytes ≡ encode_utf8_all text → chars bytes ≡ text
characters_of_utf8 text bytes scalars e = sym (chars_from_encodes text bytes (utf8_of_characters text bytes scalars e) (sym e))
