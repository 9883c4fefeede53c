use Rattle.std.proofs.Common.{◌≡◌, List, [], Option, length, ◌∙◌, ap}
use Rattle.std.proofs.lemmas.Result.{IfOk-weaker}
use Rattle.gx_references.specs.Known.{known}
use Rattle.gx_schema_content.specs.declared.elements.ElementParticle.{ElementParticle}
use Rattle.gx_schema_content.specs.Disagreement.{first_disagreement, first_disagreement_below}
use Rattle.gx_schema_content.proofs.ElementViewLemmas.{disagreement_is}
use Rattle.gx_schema_content.proofs.disagreement.first_disagreement.Goals as goal

pub returns : goal.returns
returns c =
    let types = c.args.types.now in
    let groups = c.args.groups.now in
    let table = known [] c.as_slice.result.now in
    let same : first_disagreement_below table (length types) ≡ first_disagreement types groups =
    disagreement_is table types groups (λ n. ap (λ (t : List (Option (List ElementParticle))). known [] t n) c.as_slice.ensures.value ∙ c.in_ok-table.ensures n) in
    IfOk-weaker c.first_below.result (λ (found : Option ElementParticle). found ≡ first_disagreement_below table (length types)) (λ (found : Option ElementParticle). found ≡ first_disagreement types groups)
    (λ found here. here ∙ same) c.first_below.ensures
