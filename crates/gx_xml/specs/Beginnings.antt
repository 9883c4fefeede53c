-- The bytes with which characters begin in UTF-8.
use Rattle.std.specs.Prelude.{ℕ, Bool, not}
use Rattle.gx_base.specs.NameCharacters.{lies_between}

abbrev pub begins_character : ℕ → Bool
begins_character byte = not (lies_between 128 191 byte)
