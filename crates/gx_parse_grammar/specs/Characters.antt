-- The characters that numbers, names and comments are made of.
use Rattle.std.specs.Prelude.{ℕ, Bool, false, ◌||◌, ◌==◌}
use Rattle.gx_base.specs.NameCharacters.{is_ncname_start, lies_between}

abbrev pub is_digit : ℕ → Bool
is_digit c = lies_between 48 57 c

-- a character of an NCName but `-` and `.`
unfoldable pub is_word_character : ℕ → Bool
is_word_character c = is_ncname_start c || (is_digit c || (c == 183 || (lies_between 768 879 c || lies_between 8255 8256 c)))

abbrev pub no_character : ℕ → Bool
no_character c = false
