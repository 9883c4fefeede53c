-- Ways among declarations that come to an end.
use Rattle.std.specs.Prelude.{◌≡◌, ℕ, zero, suc, ◌<◌, Bool, true, false, List, length, Option, None, Some}
use Rattle.gx_schema_simple.specs.Circles.{named_next}
use Rattle.gx_schema_simple.specs.Forms.{references_of}
use Rattle.gx_schema_simple.specs.declared.type_form.TypeForm.{TypeForm}

-- there is no next declaration, or it passes
abbrev pub none_or_passes : (ℕ → Bool) → Option ℕ → Bool
none_or_passes passes None = true
none_or_passes passes (Some next) = passes next

-- a way of so many steps at most leads from a declaration to one that names none
abbrev pub ends_by_steps : List (Option ℕ) → (steps number : ℕ) → Bool
ends_by_steps bases zero number = none_or_passes (λ next. false) (named_next bases number)
ends_by_steps bases (suc steps) number = none_or_passes (ends_by_steps bases steps) (named_next bases number)

-- the ways from all declarations end in no more steps than there are declarations
abbrev pub EndSoon : List (Option ℕ) → Type 0
EndSoon bases = (number : ℕ) → ends_by_steps bases (length bases) number ≡ true

-- each declared type that a type names is there
abbrev pub NamesTypes : List TypeForm → Type 0
NamesTypes types = (number named : ℕ) → named_next (references_of types) number ≡ Some named → named < length types
