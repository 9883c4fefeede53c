-- How declared functions are told apart.
use Rattle.std.specs.Prelude.{Bool, ◌==◌}
use Rattle.std.specs.Ordering.{on, eq_of_both}
use Rattle.gx_base.specs.Name.{same_name}
use Rattle.gx_names_scope.specs.declared.signature.Signature.{Signature}

-- two functions have the same name and as many parameters
abbrev pub same_signature : Signature → Signature → Bool
same_signature = eq_of_both (on (λ s. s.name) same_name) (on (λ s. s.arity) ◌==◌)
