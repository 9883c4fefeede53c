-- Whole queries and their declarations, as they are normalised and with types.
use Rattle.gx_types.specs.SequenceType.{SequenceType}
use Rattle.gx_core.specs.declared.expression.Declaration.{Declaration}
use Rattle.gx_core.specs.declared.expression.DeclaredFunction.{DeclaredFunction}
use Rattle.gx_core.specs.declared.expression.Query.{Query}

abbrev pub Core : Type 0
Core = Query (Unit {0})

abbrev pub TypedCore : Type 0
TypedCore = Query SequenceType

abbrev pub CoreDeclaration : Type 0
CoreDeclaration = Declaration (Unit {0})

abbrev pub TypedDeclaration : Type 0
TypedDeclaration = Declaration SequenceType

abbrev pub CoreFunction : Type 0
CoreFunction = DeclaredFunction (Unit {0})

abbrev pub TypedFunction : Type 0
TypedFunction = DeclaredFunction SequenceType
