-- The characters of a part of a text.
use Rattle.std.specs.Prelude.{ℕ, List}
use Rattle.std.specs.Str.{chars}
use Rattle.gx_xml.specs.declared.characters.Characters.{Characters}

abbrev pub spelled : Characters → List ℕ
spelled c = chars c.text.now
