-- Names of which none is doubled are distinct.
use mathlib.Core.Path.{fun_ext}
use Rattle.std.proofs.Common.{◌≡◌, ◌∙◌, ℕ, suc, List, [], ◌∷◌, Option, None, Some, refl, ap, if◌then◌else◌}
use Rattle.gx_base.specs.Name.{same_name}
use Rattle.gx_base.specs.declared.name.Name.{Name}
use Rattle.gx_base.specs.declared.type_name.TypeName.{TypeName}
use Rattle.gx_base.specs.declared.type_name.TypeName.TheVariants as names
use Rattle.gx_types.specs.SameItemType.{same_type_name}
use Rattle.gx_types.specs.SchemaInvariant.{AreDistinctBy}
use Rattle.gx_references.specs.Numbers.{first_from}
use Rattle.gx_schema.specs.Doubled.{doubled_from, doubled_declared_name, doubled_type_name}
use Rattle.gx_schema.specs.TypeNumbers.{first_type_number, own_type_number, type_number_from}
use Rattle.gx_schema.proofs.Lists.{distinct_by_numbers, number_by, number_told}

names_by : (number : ℕ) (names : List Name) (name : Name) → number_by same_name number names name ≡ first_from number names name
names_by number [] name = refl
names_by number (other ∷ others) name = ap (λ (rest : Option ℕ). if same_name other name then Some number else rest) (names_by (suc number) others name)

types_by : (number : ℕ) (names : List TypeName) (t : TypeName) → number_by same_type_name number names t ≡ type_number_from number names t
types_by number [] t = refl
types_by number (other ∷ others) t = ap (λ (rest : Option ℕ). if same_type_name other t then Some number else rest) (types_by (suc number) others t)

pub names_are_distinct : (names : List Name) → doubled_declared_name names ≡ None → AreDistinctBy same_name names
names_are_distinct names e =
    distinct_by_numbers same_name names (ap (λ (first : Name → Option ℕ). doubled_from first 0 names) (fun_ext (names_by 0 names)) ∙ e)

-- where each declared type has its own number, none is built in
all_own : (declared : List TypeName) (number : ℕ) (names : List TypeName) → doubled_from (own_type_number declared) number names ≡ None → doubled_from (first_type_number declared) number names ≡ None
all_own declared number [] e = refl
all_own declared number (names.Builtin builtin ∷ others) e = absurd (cc)
all_own declared number (names.Named name ∷ others) e =
    let told = number_told (own_type_number declared) number (names.Named name) others e in rw told.0 (all_own declared (suc number) others told.1)
all_own declared number (names.Anonymous n ∷ others) e =
    let told = number_told (own_type_number declared) number (names.Anonymous n) others e in rw told.0 (all_own declared (suc number) others told.1)

pub types_are_distinct : (names : List TypeName) → doubled_type_name names ≡ None → AreDistinctBy same_type_name names
types_are_distinct names e =
    distinct_by_numbers same_type_name names (ap (λ (first : TypeName → Option ℕ). doubled_from first 0 names) (fun_ext (types_by 0 names)) ∙ all_own names 0 names e)
