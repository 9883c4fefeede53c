-- The first construct of schema files that is outside the profile.
use Rattle.std.specs.Prelude.{◌≡◌, ℕ, ◌+◌, List, [], ◌∷◌, Option, None, Some}
use Rattle.std.specs.Option.{option_or, option_map}
use Rattle.gx_xml.specs.declared.source.Source.{Source}
use Rattle.gx_schema_syntax.specs.declared.profile.ProfileRefusal.{ProfileRefusal}
use Rattle.gx_schema_syntax.specs.declared.profile.ProfileRefusal.TheVariants.{Outside, Memory}
use Rattle.gx_schema_syntax.specs.Outside.{outside_root}

-- the number of its file, and its name, where the first of the files has this number
abbrev pub outside_files : (number : ℕ) → List Source → Option (ℕ × List ℕ)
outside_files number [] = None
outside_files number (file ∷ files) = option_or (option_map (λ (name : List ℕ). (number, name)) (outside_root file.root)) (outside_files (number + 1) files)

-- a refusal is this construct; want of memory says nothing
abbrev pub IsRefusal : Option (ℕ × List ℕ) → ProfileRefusal → Type 0
IsRefusal found (Outside file name) = found ≡ Some (file, name)
IsRefusal found Memory = Unit {0}
