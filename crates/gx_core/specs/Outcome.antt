-- What an evaluation comes to (XQuery 1.0, section 2.3).
use Rattle.std.specs.Prelude.{Option, None, Some}
use Rattle.gx_base.specs.declared.code.Code.{Code}
use Rattle.gx_model.specs.Forest.{Forest}

-- a result and the forest that is left, a dynamic error, or a type error, which typing excludes
pub data Outcome (R : Type 0) : Type 0 where
  gives : (result : R) (forest : Forest) → Outcome R
  raises : (code : Code) → Outcome R
  wrong : Outcome R

-- the first outcome that gives nothing is that of the whole
abbrev pub after : {R S : Type 0} → Outcome R → (R → Forest → Outcome S) → Outcome S
after (gives result forest) next = next result forest
after (raises code) next = raises code
after wrong next = wrong

-- what is made of what there is; where there is nothing, that is a type error
abbrev pub given : {R S : Type 0} → Option R → (R → Outcome S) → Outcome S
given None next = wrong
given (Some x) next = next x
