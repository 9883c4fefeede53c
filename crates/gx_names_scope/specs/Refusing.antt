-- What is refused at a place, and of a name whose prefix is unknown.
use Rattle.std.specs.Prelude.{Bool, List, [], ◌∷◌, Option, None, Some, if◌then◌else◌}
use Rattle.gx_base.specs.declared.name.Name.{Name}
use Rattle.gx_base.specs.declared.place.Place.{Place}
use Rattle.gx_base.specs.declared.code.Code.{Code}
use Rattle.gx_base.specs.declared.code.Code.TheVariants.{XPST0081}
use Rattle.gx_names_scope.specs.declared.refusal.Refusal.{Refusal}

abbrev pub refused_at : Place → Code → List Refusal
refused_at place code = (record { code = code; place = place }) ∷ []

abbrev pub refused_if : Bool → Place → Code → List Refusal
refused_if wrong place code = if wrong then refused_at place code else []

-- a name whose prefix is unknown; and else what is refused of the name
abbrev pub where_named : Option Name → Place → (Name → List Refusal) → List Refusal
where_named None place refusals = refused_at place XPST0081
where_named (Some name) place refusals = refusals name

abbrev pub unless_found : {A : Type 0} → Option A → Place → Code → List Refusal
unless_found None place code = refused_at place code
unless_found (Some a) place code = []

abbrev pub prefix_refusals : Option Name → Place → List Refusal
prefix_refusals name place = where_named name place (λ n. [])
