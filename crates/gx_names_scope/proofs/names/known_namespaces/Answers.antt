use Rattle.std.proofs.Common.{refl}
use Rattle.gx_names_scope.specs.Environment.{known_namespaces, function_uri}
use Rattle.gx_names_scope.proofs.names.known_namespaces.Goals as goal

pub returns : goal.returns
unfolding known_namespaces function_uri
returns c = rw (c.in_ok-know-5.ensures, c.in_ok-know-4.ensures, c.in_ok-know-3.ensures, c.in_ok-know-2.ensures, c.in_ok-know.ensures, c.new-namespaces.ensures) refl
