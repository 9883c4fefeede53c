use Rattle.std.proofs.Common.{◌≡◌, ℕ, List, ◌∙◌, subst}
use Rattle.gx_references.specs.Known.{known}
use Rattle.gx_references.specs.References.{AreEndless, meaning_of}
use Rattle.gx_schema_simple.specs.Varieties.{said_number, variety_said}
use Rattle.gx_schema_simple.specs.declared.variety.SaidVariety.{SaidVariety}
use Rattle.gx_schema_simple.specs.declared.variety.TypeVariety.TheVariants.{Hidden}
use Rattle.gx_schema_simple.proofs.VarietyLemmas.{not_endless, table_is_right}
use Rattle.gx_schema_simple.proofs.variety.varieties.Goals as goal

pub unreachable-requires : goal.unreachable-requires
unreachable-requires c =
    let endless = rw c.in-None.is at c.in_ok-table.ensures in
    not_endless c.args.forms.now c.circles_are_endless.ensures.circle (subst (AreEndless said_number) (c.as_slice.ensures.value ∙ c.in_ok-said.ensures) endless)

pub returns : goal.returns
returns c =
    let are = rw c.in-Some.is at c.in_ok-table.ensures in
    subst (λ (bodies : List SaidVariety). (number : ℕ) → known Hidden c.in-Some.table.items number ≡ meaning_of variety_said Hidden bodies number)
    (c.as_slice.ensures.value ∙ c.in_ok-said.ensures)
    (table_is_right c.as_slice.result.now c.in-Some.table.items are)
