-- Refusals in front of others.
use Rattle.std.proofs.Common.{List, [], ◌∷◌, ◌++◌, Result, Ok, Err, refl}
use Rattle.gx_names_scope.specs.declared.refusal.Refusal.{Refusal}
use Rattle.gx_names_scope.specs.declared.refusal.NameRefusal.{NameRefusal}
use Rattle.gx_names_scope.specs.declared.refusal.NameRefusal.TheVariants.{Refused, Memory}
use Rattle.gx_names_scope.specs.Refused.{IsFirstRefusal, Judges, Proceeds}

-- what is refused first is refused first in front of others
pub refused_before : (refusal : NameRefusal) (refusals rest : List Refusal) → IsFirstRefusal refusal refusals → IsFirstRefusal refusal (refusals ++ rest)
refused_before (Refused code place) [] rest h = absurd (cc)
refused_before (Refused code place) (r ∷ rs) rest h = h
refused_before Memory refusals rest h = tt

pub judged_proceeds : {A : Type 0} (result : Result A NameRefusal) (refusals rest : List Refusal) → Judges result refusals → Proceeds result (refusals ++ rest) rest
judged_proceeds (Ok value) refusals rest h = rw h refl
judged_proceeds (Err refusal) refusals rest h = refused_before refusal refusals rest h
