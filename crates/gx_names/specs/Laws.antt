-- What refusals of names have in common.
use Rattle.std.specs.Prelude.{◌≡◌, true, All}
use Rattle.gx_base.specs.Code.{is_static}
use Rattle.gx_ast.specs.declared.query.Query.{Query}
use Rattle.gx_types.specs.SchemaSet.{SchemaSet}
use Rattle.gx_names_scope.specs.declared.refusal.Refusal.{Refusal}
use Rattle.gx_names.specs.Refusals.{query_refusals}

-- the code is that of a static error
abbrev pub IsOfStaticCode : Refusal → Type 0
IsOfStaticCode refusal = is_static refusal.code ≡ true

-- names are refused with the codes of static errors alone
abbrev pub NamesAreRefusedWithStaticCodes : Type 0
NamesAreRefusedWithStaticCodes = (schemas : SchemaSet) (query : Query) → All IsOfStaticCode (query_refusals schemas query)
