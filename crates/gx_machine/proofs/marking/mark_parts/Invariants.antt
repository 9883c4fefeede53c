use Rattle.std.proofs.Common.{◌≡◌, ℕ, List, length, map}
use Rattle.gx_model.specs.Item.{Items}
use Rattle.gx_model.specs.Forest.{Forest}
use Rattle.gx_core.specs.Meaning.{Context, Bindings}
use Rattle.gx_joins.specs.JoinedMeaning.{joined_meaning as joined}
use Rattle.gx_machine.specs.Resume.{Stacks, in_order, resume_marked}
use Rattle.gx_machine.proofs.marking.mark_parts.Given as goal

-- evaluating the parts that are left, and then what is put down, comes to evaluating all parts
abbrev pub invariant-loop-part : goal.invariant-loop-part
invariant-loop-part l =
    (k : Context) (stacks : Stacks) (values : Items) (marks : List ℕ) (bindings : Bindings) (forest : Forest)
    → in_order (map (joined k) l.rest) (resume_marked k l.work stacks) values marks bindings forest
    ≡ in_order (map (joined k) l.fn.parts) (resume_marked k l.fn.work stacks) values marks bindings forest

abbrev pub decreases-loop-part : goal.decreases-loop-part
decreases-loop-part l = length l.rest
