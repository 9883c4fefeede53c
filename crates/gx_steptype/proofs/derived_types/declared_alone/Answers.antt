use Rattle.std.proofs.Common.{option_copied, sym, ◌∙◌}
use Rattle.gx_steptype.proofs.AloneTypes.{found_alone}
use Rattle.gx_steptype.proofs.AskedTypes.{member_as_asked}
use Rattle.gx_steptype.proofs.derived_types.declared_alone.Goals as goal

pub returns : goal.returns
returns c =
    let bases = c.args.bases.now.keys in
    let kind = c.args.kind.now in
    found_alone c.args.schemas.now c.types-types.ensures.invariant bases c.requires kind (option_copied c.declared.result) (sym (member_as_asked bases kind) ∙ sym c.contains.ensures ∙ c.if-contains.false) c.declared.ensures
