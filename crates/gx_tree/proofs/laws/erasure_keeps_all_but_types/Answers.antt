use Rattle.gx_tree.proofs.ErasureLemmas.{IsUntyped-erased, SameButTypes-erased, erased_only, IsProper-erased}
use Rattle.gx_tree.proofs.laws.erasure_keeps_all_but_types.Goals as goal

pub returns : goal.returns
returns c = record { untyped = IsUntyped-erased; same = SameButTypes-erased; only = erased_only; proper = IsProper-erased }
