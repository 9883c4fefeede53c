use Rattle.std.proofs.Common.{◌≡◌, ◌++◌, List, length}
use Rattle.std.specs.Prelude.{option_map}
use Rattle.gx_model.specs.Forest.{Forest}
use Rattle.gx_model.specs.Growth.{Extends}
use Rattle.gx_funcs.specs.Texts.{Text, texts_of}
use Rattle.gx_build.specs.Parts.{parts_in}
use Rattle.gx_core.specs.Calling.{all_argument_texts}
use Rattle.gx_machine.proofs.calling.called_with_texts.Given as goal

-- the texts of the operands so far stand in front of those of the operands that are left
abbrev pub invariant-loop-operand : goal.invariant-loop-operand
invariant-loop-operand l = (later : Forest) → Extends l.store later
    → option_map (λ (others : List (List Text)). texts_of l.arguments.items ++ others) (all_argument_texts l.schemas l.store (parts_in later l.left)) ≡ all_argument_texts l.schemas l.store (parts_in later l.operands)

abbrev pub decreases-loop-operand : goal.decreases-loop-operand
decreases-loop-operand l = length l.left
