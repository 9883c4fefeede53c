use Rattle.std.proofs.Common.{◌≡◌, length}
use Rattle.std.specs.List.{list_all}
use Rattle.gx_processor.specs.Command.{bytes_of, is_binding}
use Rattle.gx_processor.proofs.command.are_bindings.Given as goal

-- the words that are left bind where all do
abbrev pub invariant-loop-word : goal.invariant-loop-word
invariant-loop-word l = list_all is_binding (bytes_of l.left) ≡ list_all is_binding (bytes_of l.words)

abbrev pub decreases-loop-word : goal.decreases-loop-word
decreases-loop-word l = length l.left
