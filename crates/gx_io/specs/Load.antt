-- What a load owes.
use Rattle.std.specs.Prelude.{◌≡◌, ℕ, ◌<◌, ◌≤◌, List, [], ◌∷◌, length, Option, None, Some, Result, Ok, Err, if◌then◌else◌, bytes_eq, Bool, true, false}
use Rattle.gx_io.specs.declared.errors.LoadError.{LoadError}
use Rattle.gx_io.specs.declared.errors.LoadError.TheVariants.{Failed, TooLong, Memory}

-- the contents of the file of that name; files are pairs of a name's bytes and the contents
abbrev pub file_of : List (List ℕ × List ℕ) → List ℕ → Option (List ℕ)
file_of [] name = None
file_of (file ∷ files) name = if bytes_eq file.0 name then Some file.1 else file_of files name

-- the answer is that the load failed, or that memory is wanting
abbrev pub IsFailedOrMemory : {T : Type 0} → Result T LoadError → Type 0
IsFailedOrMemory (Ok _) = ⊥
IsFailedOrMemory (Err Failed) = Unit {0}
IsFailedOrMemory (Err (TooLong _)) = ⊥
IsFailedOrMemory (Err Memory) = Unit {0}

-- a length that is told is past the limit
abbrev pub TellsLengthAbove : ℕ → LoadError → Type 0
TellsLengthAbove limit (TooLong count) = limit < count
TellsLengthAbove limit Failed = Unit {0}
TellsLengthAbove limit Memory = Unit {0}

-- a length that is told is this one
abbrev pub TellsLength : ℕ → LoadError → Type 0
TellsLength length (TooLong count) = count ≡ length
TellsLength length Failed = Unit {0}
TellsLength length Memory = Unit {0}

-- the load failed
abbrev pub is_failed : {T : Type 0} → Result T LoadError → Bool
is_failed (Err Failed) = true
is_failed _ = false

-- a length that is told is that of the file
abbrev pub TellsLengthOf : {T : Type 0} → Option (List ℕ) → Result T LoadError → Type 0
TellsLengthOf (Some bytes) (Err (TooLong count)) = count ≡ length bytes
TellsLengthOf _ _ = Unit {0}

-- the answer is TooLong exactly where the file is longer than the limit, unless it is Failed or Memory
abbrev pub TooLongExactlyAbove : {T : Type 0} → ℕ → Option (List ℕ) → Result T LoadError → Type 0
TooLongExactlyAbove limit None (Ok _) = Unit {0}
TooLongExactlyAbove limit None (Err Failed) = Unit {0}
TooLongExactlyAbove limit None (Err (TooLong _)) = ⊥
TooLongExactlyAbove limit None (Err Memory) = Unit {0}
TooLongExactlyAbove limit (Some bytes) (Ok _) = length bytes ≤ limit
TooLongExactlyAbove limit (Some bytes) (Err Failed) = Unit {0}
TooLongExactlyAbove limit (Some bytes) (Err (TooLong _)) = limit < length bytes
TooLongExactlyAbove limit (Some bytes) (Err Memory) = Unit {0}
