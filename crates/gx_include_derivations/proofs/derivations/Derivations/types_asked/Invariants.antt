use Rattle.std.proofs.Common.{◌≡◌, ◌∷◌, [], take, if◌then◌else◌}
use Rattle.std.specs.List.{flat_map}
use Rattle.gx_types.specs.declared.declaration.Declared.{Declared}
use Rattle.gx_include_derivations.specs.Asked.{is_asked}
use Rattle.gx_include_derivations.proofs.derivations.Derivations.types_asked.Given as goal

-- the declared types before this one
abbrev pub invariant-loop-number : goal.invariant-loop-number
invariant-loop-number l =
    l.types.items ≡ flat_map (λ (d : Declared). if is_asked l.self l.items d.name then d.name ∷ [] else []) (take l.number l.self.types)
