-- What an error of typing says; want of memory says nothing.
use Rattle.std.specs.Prelude.{◌≡◌, List}
use Rattle.gx_base.specs.declared.place.Place.{Place}
use Rattle.gx_base.specs.declared.code.Code.{Code}
use Rattle.gx_static.specs.declared.error.InferError.{InferError}
use Rattle.gx_static.specs.declared.error.InferError.TheVariants as infer
use Rattle.gx_static.specs.declared.error.RuleError.{RuleError}
use Rattle.gx_static.specs.declared.error.RuleError.TheVariants as rules
use Rattle.gx_static.specs.Rule.{Ruling, has_none}
use Rattle.gx_static.specs.Judgement.{code_place}

-- the error names the place and the code of a failure
abbrev pub NamesFailure : InferError → (Place → Code → Type 0) → Type 0
NamesFailure (infer.NoType place code) Fails = Fails place code
NamesFailure infer.Memory Fails = Unit {0}

-- the rule gives no type, with this code at this part
abbrev pub RefusesType : RuleError → Ruling → Type 0
RefusesType (rules.NoType code part) ruling = ruling ≡ has_none code part
RefusesType rules.Memory ruling = Unit {0}

-- the error of an expression at this place, the outermost parentheses of whose parts have these places
abbrev pub refusal_at : Place → List Place → RuleError → InferError
refusal_at place parts (rules.NoType code part) = infer.NoType (code_place place parts part) code
refusal_at place parts rules.Memory = infer.Memory
