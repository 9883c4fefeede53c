-- All promises of a run, from what the parts of the public call show of it.
use Rattle.std.proofs.Common.{ℕ, List, subst}
use Rattle.gx_documents.specs.Laws.{DocumentsAreAsAsked, DocumentsAreHonest, HeldTreesAreKept}
use Rattle.gx_schema.specs.Laws.{ImportsAreOne, ImportsAreSchemaSets}
use Rattle.gx_processor.specs.ExternalDocuments.{NamedQueriesHaveDocuments}
use Rattle.gx_processor.specs.Command.{command_of}
use Rattle.gx_processor.specs.Loading.{LoadsAsked, LoadsOf, AreFirstOf}
use Rattle.gx_processor.specs.Replies.{ReplyLoads}
use Rattle.gx_processor.proofs.StepLoads.{reply_all, reply_first}
use Rattle.gx_processor.proofs.Told.{told_so}
use Rattle.gx_core.specs.QueryMeaning.{SoundQueriesKeepTheirTypes}
use Rattle.gx_static.specs.QueryJudgement.{QueryTypingIsSound, QueryRejectionNamesFailure}
use Rattle.gx_processor.specs.declared.reply.Reply.{Reply}
use Rattle.gx_processor.specs.Run.{Run, WhereTold, IsFaultless}
use Rattle.gx_processor.specs.Promises.{IsCertain, IsAnswered, LoadsSteps, Promises}
use Rattle.gx_processor.proofs.Course.{Shows, course_of}
use Rattle.gx_processor.proofs.PromiseLemmas.{answer_promised, output_put_promised, line_put_promised, output_promised, line_promised, part_promised, CauseOf, cause_promised, usage_promised, too_long_refused, faultless_answered, complete_at, AnsweredOrStarved, compared_promised}
use Rattle.gx_processor.proofs.HeadlineLemmas.{types_are_kept, typed_run, typed_check, typed_plan, run_as_checked, rejected_query}

-- the laws on which the headline stands
pub record Laws : Type 0 where
  pub sound : QueryTypingIsSound
  pub keep : SoundQueriesKeepTheirTypes
  pub names : QueryRejectionNamesFailure
  pub honest : DocumentsAreHonest
  pub fits : DocumentsAreAsAsked
  pub trees : HeldTreesAreKept
  pub documents : NamedQueriesHaveDocuments
  pub imports : ImportsAreSchemaSets
  pub single : ImportsAreOne

-- the loads
loads_promised : ImportsAreOne → (run : Run) (reply : Reply) → Shows run reply → LoadsSteps run
loads_promised single run reply v =
    let told = run.library.files run.library.before in
    record {
      names = v.loads.names;
      loaded = v.loads.loaded;
      may = v.loads.may;
      all = told_so told (λ files. ReplyLoads (LoadsAsked files (command_of run.words)) v.loads.names reply) (λ files. IsCertain run.status → LoadsOf run.words files v.loads.names)
          (λ files h c. reply_all (LoadsAsked files (command_of run.words)) v.loads.names reply run.status run.out run.err v.ends h c) v.loads.told;
      first = told_so told (λ files. ReplyLoads (LoadsAsked files (command_of run.words)) v.loads.names reply) (λ files. (loads : List (List ℕ)) → LoadsOf run.words files loads → AreFirstOf v.loads.names loads)
          (λ files h. reply_first single files (command_of run.words) v.loads.names reply h) v.loads.told;
    }

pub promised : (run : Run) (reply : Reply) → Laws → Shows run reply → Promises run
promised run reply laws v =
    let course = course_of run reply v in
    let answer = answer_promised run course in
    let kept = types_are_kept laws.sound laws.keep laws.honest laws.fits in
    let told = run.library.files run.library.before in
    let faultless : WhereTold run (λ files. IsFaultless run → AnsweredOrStarved run files) =
    told_so told (λ files. IsCertain run.status → IsAnswered run files) _ (λ files a f. faultless_answered run course files a f) answer in
    record {
      told = v.told;
      answer = answer;
      loads = loads_promised laws.single run reply v;
      output_put = output_put_promised run course;
      line_put = line_put_promised run course;
      output = output_promised run course;
      line = line_promised run course;
      part = part_promised laws.single run course;
      usage = λ e. subst (CauseOf run) e (cause_promised run course);
      usage_always = λ line misuse. usage_promised reply run.status run.out run.err (v.usage line misuse) v.ends;
      query = λ e. subst (CauseOf run) e (cause_promised run course);
      schema = λ e. subst (CauseOf run) e (cause_promised run course);
      document = λ e. subst (CauseOf run) e (cause_promised run course);
      dynamic = λ e. subst (CauseOf run) e (cause_promised run course);
      read_fault = λ e. subst (CauseOf run) e (cause_promised run course);
      write_fault = λ e. subst (CauseOf run) e (cause_promised run course);
      too_long = told_so told (λ files. IsCertain run.status → IsAnswered run files) _ (λ files a long certain. too_long_refused run files (a certain) long) answer;
      complete = told_so told (λ files. IsFaultless run → AnsweredOrStarved run files) _ (λ files a bytes h f. complete_at laws.single run files bytes h (a f)) faultless;
      compared = compared_promised run course;
      headline = told_so told (λ files. IsFaultless run → AnsweredOrStarved run files) _ (λ files a f. typed_run laws.single run files kept laws.imports laws.documents laws.trees (a f)) faultless;
      checked = told_so told (λ files. IsFaultless run → AnsweredOrStarved run files) _ (λ files a f. typed_check laws.single run files (a f)) faultless;
      as_checked = told_so told (λ files. IsFaultless run → AnsweredOrStarved run files) _ (λ files a f. run_as_checked run files (typed_run laws.single run files kept laws.imports laws.documents laws.trees (a f))) faultless;
      rejected = told_so told (λ files. IsFaultless run → AnsweredOrStarved run files) _ (λ files a f. rejected_query laws.single run files laws.names (a f)) faultless;
      planned = told_so told (λ files. IsFaultless run → AnsweredOrStarved run files) _ (λ files a f. typed_plan laws.single run files (a f)) faultless;
    }
