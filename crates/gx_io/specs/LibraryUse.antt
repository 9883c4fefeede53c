-- A library before and after a run, with what its trait tells of it.
use Rattle.std.specs.Prelude.{ℕ, List, Option}
use Rattle.gx_io.specs.Faults.{Rose}
use Rattle.gx_io.specs.Calls.{Loads}

pub record LibraryUse : Type 1 where
  pub Library : Type 0
  pub before : Library
  pub after : Library
  pub files : Library → Option (List (List ℕ × List ℕ))
  pub faults : Library → ℕ
  pub was_loaded : Library → List ℕ → Library → Type 0

abbrev pub library_use : {Library : Type 0} → (Library → Option (List (List ℕ × List ℕ))) → (Library → ℕ) → (Library → List ℕ → Library → Type 0) → Library → Library → LibraryUse
library_use {Library} files faults was_loaded before after =
    record { Library = Library; before = before; after = after; files = files; faults = faults; was_loaded = was_loaded }

-- the files of these names were loaded, each once and in this order, and no other was
abbrev pub LoadsOnly : LibraryUse → List (List ℕ) → Type 0
LoadsOnly library names = Loads library.was_loaded names library.before library.after

-- the count of faults rose
abbrev pub LibraryFailed : LibraryUse → Type 0
LibraryFailed library = Rose (library.faults library.before) (library.faults library.after)

-- these files were loaded, and then that of this name, which was the last load; the count of faults rose in it
pub record LastLoadFailed (library : LibraryUse) (earlier : List (List ℕ)) (name : List ℕ) : Type 0 where
  pub between : library.Library
  pub loaded : Loads library.was_loaded earlier library.before between
  pub last : library.was_loaded between name library.after
  pub rose : Rose (library.faults between) (library.faults library.after)
