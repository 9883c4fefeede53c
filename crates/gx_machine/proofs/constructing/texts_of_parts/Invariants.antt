use Rattle.std.proofs.Common.{◌≡◌, Some, drop}
use Rattle.gx_model.specs.Forest.{Forest}
use Rattle.gx_model.specs.Growth.{Extends}
use Rattle.gx_core.specs.Constructing.{joined_texts, texts_of_parts}
use Rattle.gx_build.specs.Parts.{parts_in}
use Rattle.gx_machine.proofs.constructing.texts_of_parts.Given as goal

-- the text so far, and those of the parts that are left
abbrev pub invariant-loop-part : goal.invariant-loop-part
invariant-loop-part l =
    (later : Forest) → Extends l.store later
    → joined_texts (Some l.text) (texts_of_parts l.schemas l.store (parts_in later (drop l.part-index l.parts))) ≡ texts_of_parts l.schemas l.store (parts_in later l.parts)
