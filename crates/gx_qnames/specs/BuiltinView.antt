-- What a row of the code's table of built-in types stands for.
use Rattle.std.specs.Prelude.{ℕ, List}
use Rattle.gx_base.specs.declared.type_name.Builtin.{Builtin}
use Rattle.gx_qnames.specs.declared.reference.BuiltinRow.{BuiltinRow}

abbrev pub builtin_row_of : BuiltinRow → List ℕ × Builtin
builtin_row_of row = (row.name.now, row.builtin)
