-- Arguments as parameters of built-in functions ask for them (XQuery 1.0, section 3.1.5).
use Rattle.std.specs.Prelude.{List, [], ◌∷◌, Some}
use Rattle.gx_base.specs.declared.type_name.TypeName.TheVariants as names
use Rattle.gx_facets.specs.declared.Atomic.{Atomic}
use Rattle.gx_funcs.specs.Function.{conversion_of}
use Rattle.gx_funcs.specs.declared.function.Conversion.{Conversion}
use Rattle.gx_funcs.specs.declared.function.Conversion.TheVariants.{Nothing, Data, DataAndCast}
use Rattle.gx_funcs.specs.declared.function.Parameter.{Parameter}
use Rattle.gx_types.specs.SchemaSet.{SchemaSet}
use Rattle.gx_model.specs.Atomization.{atomized}
use Rattle.gx_model.specs.Forest.{Forest}
use Rattle.gx_model.specs.Item.{Items}
use Rattle.gx_core.specs.Comparing.{atoms_among}
use Rattle.gx_core.specs.Converting.{converted_to}
use Rattle.gx_core.specs.Outcome.{Outcome, gives, wrong, after, given}

-- an argument as its parameter asks for it
abbrev pub argument_by : Conversion → SchemaSet → Items → Forest → Outcome Items
argument_by Nothing schemas xs forest = gives xs forest
argument_by Data schemas xs forest = given (atomized schemas forest xs) (λ ys. gives ys forest)
argument_by (DataAndCast kind) schemas xs forest = converted_to (Some (names.Builtin kind)) schemas xs forest

-- arguments from the left, each as its parameter asks for it; another number of them is a type error
abbrev pub arguments_by : SchemaSet → List Parameter → List Items → Forest → Outcome (List Items)
arguments_by schemas [] [] forest = gives [] forest
arguments_by schemas (parameter ∷ parameters) (xs ∷ arguments) forest =
    after (argument_by (conversion_of parameter.takes) schemas xs forest)
    (λ ys left. after (arguments_by schemas parameters arguments left) (λ others last. gives (ys ∷ others) last))
arguments_by schemas _ _ forest = wrong

-- the atomic values of an argument
abbrev pub argument_values : Conversion → SchemaSet → Items → Forest → Outcome (List Atomic)
argument_values conversion schemas xs forest =
    after (argument_by conversion schemas xs forest) (λ ys left. given (atoms_among ys) (λ values. gives values left))

-- those of arguments from the left; another number of them is a type error
abbrev pub all_argument_values : SchemaSet → List Parameter → List Items → Forest → Outcome (List (List Atomic))
all_argument_values schemas [] [] forest = gives [] forest
all_argument_values schemas (parameter ∷ parameters) (xs ∷ arguments) forest =
    after (argument_values (conversion_of parameter.takes) schemas xs forest)
    (λ values left. after (all_argument_values schemas parameters arguments left) (λ others last. gives (values ∷ others) last))
all_argument_values schemas _ _ forest = wrong
