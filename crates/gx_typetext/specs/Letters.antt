-- The runs of characters that names are made of.
use Rattle.std.specs.Prelude.{ℕ, Bool, false, ◌==◌, not}
use Rattle.gx_base.specs.NameCharacters.{is_ncname_start, is_ncname_character}
use Rattle.gx_grammar.specs.Apart.{is}
use Rattle.gx_typetext.specs.declared.letters.Run.{Run}
use Rattle.gx_typetext.specs.declared.letters.Run.TheVariants as run

-- a character of a URI in braces
abbrev pub is_uri_character : ℕ → Bool
is_uri_character c = not (c == 125)

abbrev pub no_character : ℕ → Bool
no_character c = false

-- with which characters a run begins, with which it goes on, and which may not stand behind it
abbrev pub starts : Run → ℕ → Bool
starts run.Local = is_ncname_start
starts run.Uri = is_uri_character

abbrev pub goes : Run → ℕ → Bool
goes run.Local = is_ncname_character
goes run.Uri = is_uri_character

abbrev pub stops : Run → ℕ → Bool
stops run.Local = is 58
stops run.Uri = no_character
