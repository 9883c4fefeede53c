use Rattle.std.proofs.Common.{◌∙◌, sym, ap, Bool, List, false, subst}
use Rattle.std.specs.Prelude.{slice_index_or, nat_eq}
use Rattle.std.specs.List.{list_any}
use Rattle.gx_include_followers.specs.NumberSet.{AscendWithin}
use Rattle.gx_include_followers.proofs.NumberSetLemmas.{flag_of_members}
use Rattle.gx_include_followers.proofs.number_set.NumberSet.has.Goals as goal

pub found-requires : goal.found-requires
found-requires c = subst (AscendWithin 0 c.self.inside.count) (sym c.as_slice.ensures.value) c.self.invariant

pub returns : goal.returns
returns c =
    c.found.ensures ∙ ap (list_any (λ m. nat_eq m c.args.number)) c.as_slice.ensures.value
    ∙ sym (flag_of_members c.self.inside.count c.args.number c.self.inside.members.items c.self.invariant)
    ∙ ap (λ (flags : List Bool). slice_index_or flags c.args.number false) c.self.view_is
