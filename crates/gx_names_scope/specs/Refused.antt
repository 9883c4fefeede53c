-- What a part of the work says of the refusals that it looks for; want of memory says nothing.
use Rattle.std.specs.Prelude.{◌≡◌, List, [], Some, Result, Ok, Err}
use Rattle.gx_names_scope.specs.declared.refusal.Refusal.{Refusal}
use Rattle.gx_names_scope.specs.declared.refusal.NameRefusal.{NameRefusal}
use Rattle.gx_names_scope.specs.declared.refusal.NameRefusal.TheVariants.{Refused, Memory}
use Rattle.gx_base.specs.Stacked.{first}

-- the first of these refusals is the answer
abbrev pub IsFirstRefusal : NameRefusal → List Refusal → Type 0
IsFirstRefusal (Refused code place) refusals = first refusals ≡ Some (record { code = code; place = place })
IsFirstRefusal Memory refusals = Unit {0}

-- nothing is refused, or the first refusal is the answer
abbrev pub Judges : {A : Type 0} → Result A NameRefusal → List Refusal → Type 0
Judges (Ok value) refusals = refusals ≡ []
Judges (Err refusal) refusals = IsFirstRefusal refusal refusals

-- the same refusals are left after a step as before it, or the first of them is the answer
abbrev pub Proceeds : {A : Type 0} → Result A NameRefusal → (before after : List Refusal) → Type 0
Proceeds (Ok value) before after = after ≡ before
Proceeds (Err refusal) before after = IsFirstRefusal refusal before
