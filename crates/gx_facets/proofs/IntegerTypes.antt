-- The types that are or derive from xs:integer.
use Rattle.std.proofs.Common.{◌≡◌, ◌⊎◌, ℕ, List, refl, sym, subst, inl, inr}
use Rattle.gx_base.specs.declared.type_name.Builtin.{Builtin}
use Rattle.gx_base.specs.declared.type_name.Builtin.TheVariants as types
use Rattle.gx_num.specs.Lexical.{integer_of}
use Rattle.gx_facets.specs.Value.{value_of, lexical_form, integer_within, least_of, greatest_of}

abbrev IsIntegerValue : List ℕ → Builtin → Type 0
IsIntegerValue text kind = value_of kind text ≡ integer_within (least_of kind) (greatest_of kind) (integer_of (lexical_form text))

pub integer_value : (text : List ℕ) (kind : Builtin) → (kind ≡ types.Integer) ⊎ ((kind ≡ types.NonPositive) ⊎ ((kind ≡ types.Negative) ⊎ ((kind ≡ types.Long) ⊎ ((kind ≡ types.Int) ⊎ ((kind ≡ types.Short) ⊎ ((kind ≡ types.Byte) ⊎ ((kind ≡ types.NonNegative) ⊎ ((kind ≡ types.UnsignedLong) ⊎ ((kind ≡ types.UnsignedInt) ⊎ ((kind ≡ types.UnsignedShort) ⊎ ((kind ≡ types.UnsignedByte) ⊎ ((kind ≡ types.Positive)))))))))))))
    → value_of kind text ≡ integer_within (least_of kind) (greatest_of kind) (integer_of (lexical_form text))
integer_value text kind (inl e) = subst (IsIntegerValue text) (sym e) refl
integer_value text kind (inr (inl e)) = subst (IsIntegerValue text) (sym e) refl
integer_value text kind (inr (inr (inl e))) = subst (IsIntegerValue text) (sym e) refl
integer_value text kind (inr (inr (inr (inl e)))) = subst (IsIntegerValue text) (sym e) refl
integer_value text kind (inr (inr (inr (inr (inl e))))) = subst (IsIntegerValue text) (sym e) refl
integer_value text kind (inr (inr (inr (inr (inr (inl e)))))) = subst (IsIntegerValue text) (sym e) refl
integer_value text kind (inr (inr (inr (inr (inr (inr (inl e))))))) = subst (IsIntegerValue text) (sym e) refl
integer_value text kind (inr (inr (inr (inr (inr (inr (inr (inl e)))))))) = subst (IsIntegerValue text) (sym e) refl
integer_value text kind (inr (inr (inr (inr (inr (inr (inr (inr (inl e))))))))) = subst (IsIntegerValue text) (sym e) refl
integer_value text kind (inr (inr (inr (inr (inr (inr (inr (inr (inr (inl e)))))))))) = subst (IsIntegerValue text) (sym e) refl
integer_value text kind (inr (inr (inr (inr (inr (inr (inr (inr (inr (inr (inl e))))))))))) = subst (IsIntegerValue text) (sym e) refl
integer_value text kind (inr (inr (inr (inr (inr (inr (inr (inr (inr (inr (inr (inl e)))))))))))) = subst (IsIntegerValue text) (sym e) refl
integer_value text kind (inr (inr (inr (inr (inr (inr (inr (inr (inr (inr (inr (inr e)))))))))))) = subst (IsIntegerValue text) (sym e) refl
