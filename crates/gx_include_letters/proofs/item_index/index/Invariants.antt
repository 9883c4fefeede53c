use Rattle.gx_include_letters.proofs.Listed.{AreIndexedBelow}
use Rattle.gx_include_letters.proofs.item_index.index.Given as goal

-- the item types before this one are indexed
abbrev pub invariant-loop-number : goal.invariant-loop-number
invariant-loop-number l = AreIndexedBelow l.items l.names.keys l.asking.items l.unnamed.items l.number
