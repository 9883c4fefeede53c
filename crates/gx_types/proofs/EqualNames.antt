-- Equality of names, of names of types and of item types, for proofs.
pub use Rattle.gx_types.specs.EqualNames.{same_tests, names_are_equivalent, same_names_trans, builtins_are_one, type_name_itself, type_name_symm, type_name_trans, type_names_are_equivalent, item_types_are_equivalent}
