-- Facts about the files that a library tells.
use Rattle.std.proofs.Common.{Option, None, Some, IfSome}

pub told_so : {Files : Type 0} (told : Option Files) (P Q : Files → Type 0) → ((files : Files) → P files → Q files) → IfSome told P → IfSome told Q
told_so None P Q f h = tt
told_so (Some files) P Q f h = f files h

pub told_always : {Files : Type 0} (told : Option Files) (Q : Files → Type 0) → ((files : Files) → Q files) → IfSome told Q
told_always None Q f = tt
told_always (Some files) Q f = f files

pub both_told : {Files : Type 0} (told : Option Files) (P Q R : Files → Type 0) → ((files : Files) → P files → Q files → R files) → IfSome told P → IfSome told Q → IfSome told R
both_told None P Q R f h k = tt
both_told (Some files) P Q R f h k = f files h k
