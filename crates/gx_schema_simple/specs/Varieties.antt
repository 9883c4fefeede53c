-- The varieties of types (XML Schema 1.0 part 1, section 3.14.1; part 2, section 2.5.1), where what stands on a circle is not looked through.
use Rattle.std.specs.Prelude.{◌≡◌, ℕ, suc, Bool, true, false, List, [], ◌∷◌, length, nat_lt, if◌then◌else◌}
use Rattle.gx_references.specs.References.{meaning_of}
use Rattle.gx_schema_simple.specs.Circles.{is_circular}
use Rattle.gx_schema_simple.specs.Forms.{references_of}
use Rattle.gx_schema_simple.specs.Walk.{has_mark}
use Rattle.gx_schema_components.specs.declared.component.Base.{Base}
use Rattle.gx_schema_components.specs.declared.component.Base.TheVariants.{Builtin, Declared}
use Rattle.gx_schema_simple.specs.declared.type_form.TypeForm.{TypeForm}
use Rattle.gx_schema_simple.specs.declared.type_form.TypeForm.TheVariants as forms
use Rattle.gx_schema_simple.specs.declared.variety.SaidVariety.{SaidVariety}
use Rattle.gx_schema_simple.specs.declared.variety.SaidVariety.TheVariants.{Own, OfBase}
use Rattle.gx_schema_simple.specs.declared.variety.TypeVariety.{TypeVariety}
use Rattle.gx_schema_simple.specs.declared.variety.TypeVariety.TheVariants as varieties

-- the variety of a base is that of a built-in type, or that of a declared one, which has a number below the count of types
abbrev pub said_of_base : (count : ℕ) → Base → SaidVariety
said_of_base count (Builtin builtin) = Own (varieties.Atomic builtin)
said_of_base count (Declared number) = if nat_lt number count then OfBase number else Own varieties.Hidden

abbrev pub said_by : (count : ℕ) → TypeForm → SaidVariety
said_by count (forms.Restriction place base facets) = said_of_base count base
said_by count (forms.List place item) = Own (varieties.List item)
said_by count (forms.SimpleContent base facets) = said_of_base count base
said_by count (forms.ComplexContent base) = Own varieties.NoValues

-- nothing is seen of a type that stands on a circle
abbrev pub said : (is_on_circle : Bool) → (count : ℕ) → TypeForm → SaidVariety
said true count form = Own varieties.Hidden
said false count form = said_by count form

-- what types say of their varieties, of which the first has this number among all types
abbrev pub said_from : List TypeForm → (number : ℕ) → List TypeForm → List SaidVariety
said_from types number [] = []
said_from types number (form ∷ others) = said (is_circular (references_of types) number) (length types) form ∷ said_from types (suc number) others

abbrev pub said_varieties : List TypeForm → List SaidVariety
said_varieties types = said_from types 0 types

abbrev pub said_number : SaidVariety → List ℕ
said_number (Own variety) = []
said_number (OfBase number) = number ∷ []

abbrev pub variety_said : (ℕ → TypeVariety) → SaidVariety → TypeVariety
variety_said known (Own variety) = variety
variety_said known (OfBase number) = known number

-- the variety of a type
abbrev pub variety_of : List TypeForm → ℕ → TypeVariety
variety_of types number = meaning_of variety_said varieties.Hidden (said_varieties types) number

-- the variety of a type that is built in or declared
abbrev pub variety_of_base : (ℕ → TypeVariety) → Base → TypeVariety
variety_of_base known (Builtin builtin) = varieties.Atomic builtin
variety_of_base known (Declared number) = known number

-- marks stand at the types on circles
abbrev pub IsMarked : List TypeForm → List Bool → Type 0
IsMarked types marks = (number : ℕ) → has_mark marks number ≡ is_circular (references_of types) number
