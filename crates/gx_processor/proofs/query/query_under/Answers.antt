use Rattle.std.proofs.Common.{sym, subst, ap, ◌∙◌}
use Rattle.gx_core.specs.Invariant.{HasQueryVariablesInOrder, CallsDeclaredFunctions}
use Rattle.gx_core.specs.Queries.{Core}
use Rattle.gx_core.specs.WrittenTypes.{QueryNamesWrittenTypes}
use Rattle.gx_static.specs.QueryJudgement.{query_judged}
use Rattle.gx_processor.specs.ExternalDocuments.{ExternalsAreDocuments}
use Rattle.gx_processor.proofs.query.query_under.Goals as goal

pub returns-clause-externals : goal.returns-clause-externals
returns-clause-externals c =
    subst (λ (core : Core). ExternalsAreDocuments c.args.schemas core.declarations) (sym c.in_ok-core.ensures.same)
    (c.named_queries_have_documents.ensures c.args.schemas c.args.tree c.in_ok-named.named c.in_ok-named.ensures.core)

pub returns-clause-well : goal.returns-clause-well
returns-clause-well c =
    let same = sym c.in_ok-core.ensures.same in
    record {
      judged = ap (query_judged c.args.schemas) c.in_ok-core.ensures.same ∙ c.in_ok-core.ensures.typed;
      variables = subst (λ (core : Core). HasQueryVariablesInOrder core) same c.in_ok-named.ensures.variables;
      calls = subst (λ (core : Core). CallsDeclaredFunctions core) same c.in_ok-named.ensures.calls;
      types = subst (λ (core : Core). QueryNamesWrittenTypes core) same
          (c.named_queries_name_written_types.ensures c.args.schemas c.args.tree c.in_ok-named.named c.requires.set c.in_ok-named.ensures.core);
    }
