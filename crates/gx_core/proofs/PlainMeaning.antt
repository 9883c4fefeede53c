-- The meaning looks at no annotation.
use Rattle.std.proofs.Common.{◌≡◌, List, ◌∷◌, refl, ◌∙◌, ap}
use Rattle.gx_types.specs.SequenceType.{SequenceType}
use Rattle.gx_core.specs.Expression.{Expression, At, Parts, no_parts, a_part, plain, plain_parts}
use Rattle.gx_core.specs.Meaning.{Context, Denotation, denoted, meaning, meanings}
use Rattle.gx_core.specs.Laws.{MeaningLooksAtNoType}

mutual
  pub plain_means_the_same : (A : Type 0) (context : Context) (e : Expression A) → meaning context (plain e) ≡ meaning context e
  plain_means_the_same A context (At place outer annotation operator parts) =
      ap (denoted context operator) (plain_parts_mean_the_same A context parts)

  plain_parts_mean_the_same : (A : Type 0) (context : Context) (parts : Parts A)
      → meanings context (plain_parts parts) ≡ meanings context parts
  plain_parts_mean_the_same A context no_parts = refl
  plain_parts_mean_the_same A context (a_part first others) =
      ap (λ (d : Denotation). d ∷ meanings context (plain_parts others)) (plain_means_the_same A context first)
      ∙ ap (λ (ds : List Denotation). meaning context first ∷ ds) (plain_parts_mean_the_same A context others)

pub meaning_looks_at_no_type : MeaningLooksAtNoType
meaning_looks_at_no_type context e bindings forest =
    ap (λ (d : Denotation). d bindings forest) (plain_means_the_same SequenceType context e)
