-- Each text is a value of xs:string.
use Rattle.std.proofs.Common.{◌≡◌, ℕ, true, List, [], ◌∷◌, refl}
use Rattle.std.specs.Prelude.{is_ok}
use Rattle.gx_base.specs.declared.type_name.Builtin.TheVariants.{Str}
use Rattle.gx_base.specs.declared.type_name.TypeName.TheVariants as names
use Rattle.gx_types.specs.SchemaSet.{SchemaSet}
use Rattle.gx_types.specs.SimpleType.{meaning_among}
use Rattle.gx_types.specs.SimpleValue.{values_at}
use Rattle.gx_types.specs.declared.declaration.Declared.{Declared}
use Rattle.gx_model.specs.DeclaredContent.{is_valued}

valued_among : (types : List Declared) (text : List ℕ) → is_ok (values_at (meaning_among types (names.Builtin Str)) text) ≡ true
valued_among [] text = refl
valued_among (declared ∷ others) text = refl

pub strings_are_values : (schemas : SchemaSet) (text : List ℕ) → is_valued schemas (names.Builtin Str) text ≡ true
strings_are_values schemas text = valued_among schemas.types text
