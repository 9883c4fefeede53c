use Rattle.std.proofs.Common.{◌≡◌, ℕ, List, ◌++◌, take, drop}
use Rattle.gx_io.specs.Load.{file_of}
use Rattle.gx_io.specs.LibraryState.{with_file}
use Rattle.gx_io.proofs.memory_library.place_of.Given as goal

-- the file is among those that are left, and so is the place where it is set
abbrev pub invariant-loop-i : goal.invariant-loop-i
invariant-loop-i l = record {
  file : file_of l.files l.name ≡ file_of (drop l.i l.files) l.name;
  replaced : (bytes : List ℕ) → with_file l.files l.name bytes ≡ take l.i l.files ++ with_file (drop l.i l.files) l.name bytes;
}
