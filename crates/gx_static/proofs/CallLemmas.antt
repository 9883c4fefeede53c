-- The parameters of built-in functions, one after another.
use Rattle.std.proofs.Common.{◌≡◌, ℕ, zero, suc, ◌+◌, ◌<◌, List, [], ◌∷◌, length, drop, None, Some, refl, ◌∙◌, ap, arith}
use Rattle.std.specs.Prelude.{slice_get}
use Rattle.gx_base.specs.declared.code.Code.TheVariants.{XPTY0004}
use Rattle.gx_funcs.specs.declared.function.Parameter.{Parameter}
use Rattle.gx_types.specs.SchemaSet.{SchemaSet}
use Rattle.gx_types.specs.SequenceType.{SequenceType}
use Rattle.gx_static.specs.Rule.{Ruling, has_none, argument_ruling, arguments_rule}

-- the parameter with this number, and those behind it
pub one_parameter : (ps : List Parameter) (number : ℕ) (p : Parameter) → slice_get ps number ≡ Some p → drop number ps ≡ p ∷ drop (suc number) ps
one_parameter [] number p e = absurd (cc)
one_parameter (q ∷ ps) zero p e = let k : q ≡ p = cc in ap (λ (r : Parameter). r ∷ ps) k
one_parameter (q ∷ ps) (suc number) p e = one_parameter ps number p e

pub parameter_is_within : (ps : List Parameter) (number : ℕ) (p : Parameter) → slice_get ps number ≡ Some p → number < length ps
parameter_is_within [] number p e = absurd (cc)
parameter_is_within (q ∷ ps) zero p e = omega arith
parameter_is_within (q ∷ ps) (suc number) p e = let l = parameter_is_within ps number p e in omega (arith, l)

-- behind the last one
pub no_parameter : (ps : List Parameter) (number : ℕ) → slice_get ps number ≡ None → drop number ps ≡ []
no_parameter [] zero e = refl
no_parameter [] (suc number) e = refl
no_parameter (q ∷ ps) zero e = absurd (cc)
no_parameter (q ∷ ps) (suc number) e = no_parameter ps number e

-- ---- arguments

pub next_argument : (s : SchemaSet) (ps : List Parameter) (number : ℕ) (p : Parameter) (a : SequenceType) (arguments : List SequenceType) (r : Ruling) → slice_get ps number ≡ Some p
    → arguments_rule s (drop number ps) (a ∷ arguments) number r ≡ argument_ruling s p number (arguments_rule s (drop (number + 1) ps) arguments (number + 1) r) a
next_argument s ps number p a arguments r e =
    let next : suc number ≡ number + 1 = omega arith in
    ap (λ (qs : List Parameter). arguments_rule s qs (a ∷ arguments) number r) (one_parameter ps number p e)
    ∙ ap (λ (behind : ℕ). argument_ruling s p number (arguments_rule s (drop behind ps) arguments (number + 1) r) a) next

-- an argument that no parameter takes
pub too_many_arguments : (s : SchemaSet) (ps : List Parameter) (number : ℕ) (a : SequenceType) (arguments : List SequenceType) (r : Ruling) → slice_get ps number ≡ None
    → arguments_rule s (drop number ps) (a ∷ arguments) number r ≡ has_none XPTY0004 None
too_many_arguments s ps number a arguments r e = ap (λ (qs : List Parameter). arguments_rule s qs (a ∷ arguments) number r) (no_parameter ps number e)

-- a parameter that no argument has
pub too_few_arguments : (s : SchemaSet) (ps : List Parameter) (number place : ℕ) (r : Ruling) → number < length ps → arguments_rule s (drop number ps) [] place r ≡ has_none XPTY0004 None
too_few_arguments s [] number place r l = absurd (omega arith)
too_few_arguments s (q ∷ ps) zero place r l = refl
too_few_arguments s (q ∷ ps) (suc number) place r l = too_few_arguments s ps number place r (omega (arith, l))
