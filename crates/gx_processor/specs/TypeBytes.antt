-- The bytes of a type's text, which a line feed ends.
use Rattle.std.specs.Prelude.{ℕ, List}
use Rattle.std.specs.Str.{encode_utf8_all}
use Rattle.gx_types.specs.SequenceType.{SequenceType}
use Rattle.gx_typetext.specs.TypeText.{type_text}
use Rattle.gx_processor.specs.FaultLines.{line}

abbrev pub type_bytes : SequenceType → List ℕ
type_bytes t = line (encode_utf8_all (type_text t))
