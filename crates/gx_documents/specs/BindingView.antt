-- What a fault of the program's bindings stands for.
use Rattle.std.specs.Prelude.{◌≡◌, String, List, ℕ, map, Option, Some}
use Rattle.std.specs.String.{string_bytes}
use Rattle.gx_documents.specs.declared.bindings.BindingError.{BindingError}
use Rattle.gx_documents.specs.declared.bindings.BindingError.TheVariants.{Fault, Memory}
use Rattle.gx_documents.specs.declared.bindings.BindingFault.{BindingFault}
use Rattle.gx_documents.specs.declared.bindings.BindingFault.TheVariants.{Unknown, Doubled, Missing}
use Rattle.gx_documents.specs.Bindings.{Misbound, unknown, doubled, missing}

abbrev pub plain_fault : BindingFault → Misbound
plain_fault (Unknown name) = unknown (string_bytes name)
plain_fault (Doubled name) = doubled (string_bytes name)
plain_fault (Missing name) = missing (string_bytes name)

-- the bytes of each word
abbrev pub word_bytes : {Z : Type 0} → List (String Z) → List (List ℕ)
word_bytes = map string_bytes

-- an error is this fault; want of memory says nothing
abbrev pub IsBindingFault : Option Misbound → BindingError → Type 0
IsBindingFault found (Fault fault) = found ≡ Some (plain_fault fault)
IsBindingFault found Memory = Unit {0}
