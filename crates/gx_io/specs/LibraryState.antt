-- A library in memory.
use Rattle.std.specs.Prelude.{◌≡◌, ℕ, ◌<◌, ◌≤◌, List, [], ◌∷◌, length, Bool, ◌||◌, ◌==◌, is_none, if◌then◌else◌, bytes_eq, Result, Ok, Err, Vec}
use Rattle.std.specs.Global.{Global}
use Rattle.gx_io.specs.declared.errors.LoadError.{LoadError}
use Rattle.gx_io.specs.declared.errors.LoadError.TheVariants.{Failed, TooLong, Memory}
use Rattle.std.specs.List.{list_any}
use Rattle.gx_io.specs.Faults.{one_more}
use Rattle.gx_io.specs.Load.{file_of}

-- the files, the numbers of the loads that fail, how many loads were made, and how many of them failed
pub record LibraryState : Type 0 where
  pub files : List (List ℕ × List ℕ)
  pub failing : List ℕ
  pub calls : ℕ
  pub faults : ℕ

-- the files with one of them set
abbrev pub with_file : List (List ℕ × List ℕ) → List ℕ → List ℕ → List (List ℕ × List ℕ)
with_file [] name bytes = (name, bytes) ∷ []
with_file (file ∷ files) name bytes = if bytes_eq file.0 name then (name, bytes) ∷ files else file ∷ with_file files name bytes

-- the next load fails: it was told to, or there is no file of that name
abbrev pub load_fails : LibraryState → List ℕ → Bool
load_fails library name = list_any (λ number. number == one_more library.calls) library.failing || is_none (file_of library.files name)

-- the library after a load
abbrev pub after_load : LibraryState → List ℕ → LibraryState
after_load library name = record library {
  calls = one_more library.calls;
  faults = if load_fails library name then one_more library.faults else library.faults;
}

-- all the bytes, of which there are at most the limit, or how many they are, which is more; or memory is wanting
abbrev pub IsCopyWithin : ℕ → List ℕ → Result (Vec ℕ Global) LoadError → Type 0
IsCopyWithin limit bytes (Ok copy) = (copy.items ≡ bytes) × (length bytes ≤ limit)
IsCopyWithin limit bytes (Err Failed) = ⊥
IsCopyWithin limit bytes (Err (TooLong count)) = (count ≡ length bytes) × (limit < length bytes)
IsCopyWithin limit bytes (Err Memory) = Unit {0}
