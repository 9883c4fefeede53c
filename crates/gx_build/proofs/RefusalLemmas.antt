-- A refusal that is handed on.
use Rattle.std.proofs.Common.{◌≡◌, sym, subst}
use Rattle.std.specs.Prelude.{Result, Ok, Err, IfErr, IsErrAnd}
use Rattle.gx_core.specs.Constructing.{Built}
use Rattle.gx_build.specs.Made.{RefusesTree}
use Rattle.gx_build.specs.declared.error.BuildError.{BuildError}

pub still_refused : {A : Type 0} (result : Result A BuildError) (error : BuildError) (b : Built) → IsErrAnd result (λ made. made ≡ error) → RefusesTree error b → IfErr result (λ e. RefusesTree e b)
still_refused (Ok x) error b h r = tt
still_refused (Err made) error b h r = subst (λ (e : BuildError). RefusesTree e b) (sym h) r
