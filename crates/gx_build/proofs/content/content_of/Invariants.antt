use Rattle.std.proofs.Common.{◌≡◌, List, drop}
use Rattle.gx_tree.specs.PlainTree.{PlainTree}
use Rattle.gx_core.specs.Constructing.{content_of_parts}
use Rattle.gx_build.specs.Making.{content_with, merged_with}
use Rattle.gx_build.specs.Parts.{parts_in}
use Rattle.gx_build.proofs.content.content_of.Given as goal

-- what the content comes to with what the parts give that are left
abbrev pub invariant-loop-part : goal.invariant-loop-part
invariant-loop-part l =
    (rest : List PlainTree) → content_with l.content (content_of_parts l.store (parts_in l.store (drop l.part-index l.parts))) rest ≡ merged_with (content_of_parts l.store (parts_in l.store l.parts)) rest
