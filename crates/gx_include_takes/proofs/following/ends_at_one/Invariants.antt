use Rattle.gx_include_takes.proofs.PlaceSets.{NoneEnds}
use Rattle.gx_include_takes.proofs.following.ends_at_one.Given as goal

-- no list ends at the places before this one
abbrev pub invariant-loop-place : goal.invariant-loop-place
invariant-loop-place l = NoneEnds l.t l.places l.place
