use Rattle.gx_schema_restriction.proofs.OneJudgement as one
use Rattle.gx_schema_restriction.proofs.laws.judgements_are_one.Goals as goal

pub returns : goal.returns
returns c = one.judgements_are_one c.answers_are_one.ensures c.too_many_pairs_exclude_verdicts.ensures
