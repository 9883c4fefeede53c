-- The loads of the steps are one list, and what a reply says of those that were made.
use Rattle.std.proofs.Common.{◌≡◌, ℕ, Bool, true, false, List, [], ◌++◌, Option, Some, None, inl, inr, refl, sym, ◌∙◌, ap₂, subst, Err, string_bytes}
use Rattle.std.specs.Bool.{MatchBool}
use Rattle.gx_types.specs.SchemaSet.{SchemaSet}
use Rattle.gx_core.specs.Queries.{Core, TypedCore}
use Rattle.gx_io.specs.LibraryUse.{LibraryUse}
use Rattle.gx_io.specs.SinkUse.{SinkUse}
use Rattle.gx_documents.specs.declared.documents.DocumentFault.TheVariants as faults
use Rattle.gx_documents.specs.Bindings.{Misbound, misbound}
use Rattle.gx_documents.specs.BindingView.{plain_fault}
use Rattle.gx_tree.specs.PlainTree.{PlainTree}
use Rattle.gx_documents.specs.Documents.{Files, Request, tree_requests}
use Rattle.gx_base.specs.declared.code.Code.TheVariants.{GLXS0001}
use Rattle.gx_schema.specs.Laws.{ImportsAreOne}
use Rattle.gx_processor.specs.declared.status.Status.{Status}
use Rattle.gx_processor.specs.declared.status.Status.TheVariants as status
use Rattle.gx_processor.specs.declared.reply.Reply.{Reply}
use Rattle.gx_processor.specs.declared.reply.Reply.TheVariants.{Output, Fault, Starved}
use Rattle.gx_processor.specs.declared.refusal.Refusal.{Refusal}
use Rattle.gx_processor.specs.declared.refusal.Refusal.TheVariants as refusal
use Rattle.gx_processor.specs.Answer.{can_be_written}
use Rattle.gx_processor.specs.Command.{Command, run_file, check_file, plan_file, query_file}
use Rattle.gx_processor.specs.Ending.{Ends}
use Rattle.gx_processor.specs.Externals.{external_words, documents_bound}
use Rattle.gx_processor.specs.FaultLines.{read_fault_line, code_line, placed_line, binding_line, long_document_line, document_line, invalid_line, import_line}
use Rattle.gx_processor.specs.Loading.{BoundLoads, RunLoads, BehindQuery, CommandLoads, LoadsAsked, loads_behind}
use Rattle.gx_processor.specs.Promises.{IsCertain}
use Rattle.gx_processor.specs.Replies.{IsFaultOrStarved, IsComparison, IsWorkload, IsReplyOf, TellsOf, ReplyTells, NamesOneOf, AreFirst, ReplyLoads, ReplyFailed, LoadFailed, LoadsSo, RefusalLoads, RefusalFailed, OutputLoads}
use Rattle.gx_processor.proofs.CommandLoads.{one_query, one_typing, one_query_load}
use Rattle.gx_processor.proofs.LoadLemmas.{one_load, whole_is_front}
use Rattle.gx_processor.proofs.PromiseLemmas.{put_is_of_it}
use Rattle.gx_processor.proofs.Told.{told_so, told_always}

-- ---- one list

bound_once : (files : Files) (fault : Option Misbound) (documents : List (Request PlainTree)) (a b : List (List ℕ)) → BoundLoads files fault documents a → BoundLoads files fault documents b → a ≡ b
bound_once files (Some fault) documents a b h k = h ∙ sym k
bound_once files None documents a b h k = one_load files documents a b h k

match_once : (files : Files) (writable : Bool) (fault : Option Misbound) (documents : List (Request PlainTree)) (a b : List (List ℕ)) → MatchBool writable (BoundLoads files fault documents a) (a ≡ []) → MatchBool writable (BoundLoads files fault documents b) (b ≡ []) → a ≡ b
match_once files true fault documents a b h k = bound_once files fault documents a b h k
match_once files false fault documents a b h k = h ∙ sym k

run_once : (files : Files) (bindings : List (List ℕ)) (schemas : SchemaSet) (core : Core) (t : TypedCore) (a b : List (List ℕ)) → RunLoads files bindings schemas core t a → RunLoads files bindings schemas core t b → a ≡ b
run_once files bindings schemas core t a b h k =
    match_once files (can_be_written schemas t) (misbound (external_words core.declarations) bindings) (tree_requests schemas (documents_bound core.declarations bindings)) a b h k

behind_once : ImportsAreOne → (files : Files) (name : List ℕ) (bindings a b : List (List ℕ)) → BehindQuery files name bindings a → BehindQuery files name bindings b → a ≡ b
behind_once single files name bindings a b (inl h) (inl k) =
    let same = one_query single files name k.0.schemas h.0.schemas k.0.core h.0.core k.0.query h.0.query in
    let same_typing = one_typing k.0.schemas h.0.schemas k.0.core h.0.core k.0.typing h.0.typing same.0 same.1 k.0.judgement h.0.judgement in
    let other = subst (λ (s : SchemaSet). RunLoads files bindings s h.0.core h.0.typing b) same.0
    (subst (λ (c : Core). RunLoads files bindings k.0.schemas c h.0.typing b) same.1 (subst (λ (u : TypedCore). RunLoads files bindings k.0.schemas k.0.core u b) same_typing k.1)) in
    run_once files bindings h.0.schemas h.0.core h.0.typing a b h.1 other
behind_once single files name bindings a b (inl h) (inr k) = absurd (k.0 h.0)
behind_once single files name bindings a b (inr h) (inl k) = absurd (h.0 k.0)
behind_once single files name bindings a b (inr h) (inr k) = h.1 ∙ sym k.1

command_once : ImportsAreOne → (files : Files) (command : Command) (a b : List (List ℕ)) → CommandLoads files command a → CommandLoads files command b → a ≡ b
command_once single files (check_file name) a b h k = one_query_load files name a b h k
command_once single files (plan_file name) a b h k = one_query_load files name a b h k
command_once single files (run_file name bindings) a b h k =
    h.4 ∙ ap₂ (λ (front : List (List ℕ)) rest. front ++ rest) (one_query_load files name h.0 k.0 h.2 k.2) (behind_once single files name bindings h.1 k.1 h.3 k.3) ∙ sym k.4

asked_once : ImportsAreOne → (files : Files) (asked : Option Command) (a b : List (List ℕ)) → LoadsAsked files asked a → LoadsAsked files asked b → a ≡ b
asked_once single files None a b h k = h ∙ sym k
asked_once single files (Some command) a b h k = command_once single files command a b h k

all_are_first : ImportsAreOne → (files : Files) (asked : Option Command) (names : List (List ℕ)) → LoadsAsked files asked names → AreFirst (LoadsAsked files asked) names
all_are_first single files asked names h loads k = whole_is_front names loads (asked_once single files asked names loads h k)

-- ---- from a reply

pub reply_first : ImportsAreOne → (files : Files) (asked : Option Command) (names : List (List ℕ)) (r : Reply) → ReplyLoads (LoadsAsked files asked) names r → AreFirst (LoadsAsked files asked) names
reply_first single files asked names (Output text) h = all_are_first single files asked names h
reply_first single files asked names (Fault status.Done line) h = all_are_first single files asked names h
reply_first single files asked names (Fault status.Usage line) h = all_are_first single files asked names h
reply_first single files asked names (Fault status.Query line) h = all_are_first single files asked names h
reply_first single files asked names (Fault status.Schema line) h = all_are_first single files asked names h
reply_first single files asked names (Fault status.Document line) h = all_are_first single files asked names h
reply_first single files asked names (Fault status.Dynamic line) h = all_are_first single files asked names h
reply_first single files asked names (Fault status.ReadFault line) h = h
reply_first single files asked names (Fault status.WriteFault line) h = all_are_first single files asked names h
reply_first single files asked names (Fault status.Memory line) h = all_are_first single files asked names h
reply_first single files asked names Starved h = h

-- a certain status comes from a reply whose steps were all made
pub reply_all : (Steps : List (List ℕ) → Type 0) (names : List (List ℕ)) (r : Reply) (result : Status) (out err : SinkUse) → Ends r result out err → ReplyLoads Steps names r → IsCertain result → Steps names
reply_all Steps names (Output text) result out err e h c = h
reply_all Steps names (Fault status.Done line) result out err e h c = h
reply_all Steps names (Fault status.Usage line) result out err e h c = h
reply_all Steps names (Fault status.Query line) result out err e h c = h
reply_all Steps names (Fault status.Schema line) result out err e h c = h
reply_all Steps names (Fault status.Document line) result out err e h c = h
reply_all Steps names (Fault status.Dynamic line) result out err e h c = h
reply_all Steps names (Fault status.ReadFault line) result out err e h c = absurd (subst IsCertain (put_is_of_it status.ReadFault (string_bytes line) result err c e.1).0 c)
reply_all Steps names (Fault status.WriteFault line) result out err e h c = h
reply_all Steps names (Fault status.Memory line) result out err e h c = h
reply_all Steps names Starved result out err e h c = absurd (subst IsCertain e.0 c)

-- ---- a reply without a load

idle_told : (names : List (List ℕ)) (r : Reply) → names ≡ [] → ReplyLoads (λ loads. loads ≡ []) names r
idle_told names (Output text) e = e
idle_told names (Fault status.Done line) e = e
idle_told names (Fault status.Usage line) e = e
idle_told names (Fault status.Query line) e = e
idle_told names (Fault status.Schema line) e = e
idle_told names (Fault status.Document line) e = e
idle_told names (Fault status.Dynamic line) e = e
idle_told names (Fault status.ReadFault line) e = λ loads f. whole_is_front names loads (e ∙ sym f)
idle_told names (Fault status.WriteFault line) e = e
idle_told names (Fault status.Memory line) e = e
idle_told names Starved e = λ loads f. whole_is_front names loads (e ∙ sym f)

idle_loads : (library : LibraryUse) (asked : Option Command) (r : Reply) → library.after ≡ library.before → asked ≡ None → ReplyFailed library [] r → ReplyTells [] r → LoadsSo library asked r
idle_loads library asked r untouched none f tells =
    subst (λ (o : Option Command). LoadsSo library o r) (sym none)
    (record {
      names = [];
      loaded = untouched;
      may = refl;
      told = told_always (library.files library.before) (λ files. ReplyLoads (LoadsAsked files None) [] r) (λ files. idle_told [] r refl);
      failed = f;
      of_loads = tells;
    })

usage_unfailed : (library : LibraryUse) (line : List ℕ) (r : Reply) → IsFaultOrStarved status.Usage line r → ReplyFailed library [] r
usage_unfailed library line (Output text) h = tt
usage_unfailed library line (Fault status.ReadFault text) h = cc h.0
usage_unfailed library line (Fault _ text) h = tt
usage_unfailed library line Starved h = tt

comparison_unfailed : (library : LibraryUse) (left right : List ℕ) (r : Reply) → IsComparison left right r → ReplyFailed library [] r
comparison_unfailed library left right (Output text) h = tt
comparison_unfailed library left right (Fault status.ReadFault text) h = cc h.0
comparison_unfailed library left right (Fault _ text) h = tt
comparison_unfailed library left right Starved h = tt

-- a line that names what it is of
fault_tells : (loads : List (List ℕ)) (told : Status) (line : List ℕ) (r : Reply) → IsFaultOrStarved told line r → TellsOf loads told line → ReplyTells loads r
fault_tells loads told line (Output text) h k = tt
fault_tells loads told line (Fault here text) h k =
    subst (λ (z : Status). TellsOf loads z (string_bytes text)) (sym h.0) (subst (λ (xs : List ℕ). TellsOf loads told xs) (sym h.1) k)
fault_tells loads told line Starved h k = tt

comparison_tells : (left right : List ℕ) (r : Reply) → IsComparison left right r → ReplyTells [] r
comparison_tells left right (Output text) h = tt
comparison_tells left right (Fault told text) h = subst (λ (z : Status). TellsOf [] z (string_bytes text)) (sym h.0) tt
comparison_tells left right Starved h = tt

pub misuse_loads : (library : LibraryUse) (asked : Option Command) (line : List ℕ) (r : Reply) → library.after ≡ library.before → asked ≡ None → IsFaultOrStarved status.Usage line r → LoadsSo library asked r
misuse_loads library asked line r untouched none h = idle_loads library asked r untouched none (usage_unfailed library line r h) (fault_tells [] status.Usage line r h tt)

pub comparison_loads : (library : LibraryUse) (asked : Option Command) (left right : List ℕ) (r : Reply) → library.after ≡ library.before → asked ≡ None → IsComparison left right r → LoadsSo library asked r
comparison_loads library asked left right r untouched none h = idle_loads library asked r untouched none (comparison_unfailed library left right r h) (comparison_tells left right r h)

workload_unfailed : (library : LibraryUse) (items : ℕ) (r : Reply) → IsWorkload items r → ReplyFailed library [] r
workload_unfailed library items (Output text) h = tt
workload_unfailed library items (Fault told line) h = absurd h
workload_unfailed library items Starved h = tt

workload_tells : (items : ℕ) (r : Reply) → IsWorkload items r → ReplyTells [] r
workload_tells items (Output text) h = tt
workload_tells items (Fault told line) h = absurd h
workload_tells items Starved h = tt

pub workload_loads : (library : LibraryUse) (asked : Option Command) (items : ℕ) (r : Reply) → library.after ≡ library.before → asked ≡ None → IsWorkload items r → LoadsSo library asked r
workload_loads library asked items r untouched none h = idle_loads library asked r untouched none (workload_unfailed library items r h) (workload_tells items r h)

-- ---- a reply to a refusal

abbrev IsOther : Status → Type 0
IsOther told = told ≡ status.ReadFault → ⊥

fault_told : ImportsAreOne → (files : Files) (command : Command) (names : List (List ℕ)) (told : Status) (line : List ℕ) (r : Reply) → IsOther told → IsFaultOrStarved told line r → CommandLoads files command names → ReplyLoads (LoadsAsked files (Some command)) names r
fault_told single files command names told line (Output text) other h k = absurd h
fault_told single files command names told line (Fault status.Done text) other h k = k
fault_told single files command names told line (Fault status.Usage text) other h k = k
fault_told single files command names told line (Fault status.Query text) other h k = k
fault_told single files command names told line (Fault status.Schema text) other h k = k
fault_told single files command names told line (Fault status.Document text) other h k = k
fault_told single files command names told line (Fault status.Dynamic text) other h k = k
fault_told single files command names told line (Fault status.ReadFault text) other h k = absurd (other (sym h.0))
fault_told single files command names told line (Fault status.WriteFault text) other h k = k
fault_told single files command names told line (Fault status.Memory text) other h k = k
fault_told single files command names told line Starved other h k = all_are_first single files (Some command) names k

fault_unfailed : (library : LibraryUse) (names : List (List ℕ)) (told : Status) (line : List ℕ) (r : Reply) → IsOther told → IsFaultOrStarved told line r → ReplyFailed library names r
fault_unfailed library names told line (Output text) other h = tt
fault_unfailed library names told line (Fault status.ReadFault text) other h = absurd (other (sym h.0))
fault_unfailed library names told line (Fault _ text) other h = tt
fault_unfailed library names told line Starved other h = tt

unread_told : (Steps : List (List ℕ) → Type 0) (names : List (List ℕ)) (line : List ℕ) (r : Reply) → IsFaultOrStarved status.ReadFault line r → AreFirst Steps names → ReplyLoads Steps names r
unread_told Steps names line (Output text) h k = absurd h
unread_told Steps names line (Fault status.Done text) h k = cc h.0
unread_told Steps names line (Fault status.Usage text) h k = cc h.0
unread_told Steps names line (Fault status.Query text) h k = cc h.0
unread_told Steps names line (Fault status.Schema text) h k = cc h.0
unread_told Steps names line (Fault status.Document text) h k = cc h.0
unread_told Steps names line (Fault status.Dynamic text) h k = cc h.0
unread_told Steps names line (Fault status.ReadFault text) h k = k
unread_told Steps names line (Fault status.WriteFault text) h k = cc h.0
unread_told Steps names line (Fault status.Memory text) h k = cc h.0
unread_told Steps names line Starved h k = k

unread_failed : (library : LibraryUse) (names : List (List ℕ)) (line : List ℕ) (r : Reply) → IsFaultOrStarved status.ReadFault line r → LoadFailed library names line → ReplyFailed library names r
unread_failed library names line (Output text) h k = tt
unread_failed library names line (Fault status.ReadFault text) h k = subst (λ (xs : List ℕ). LoadFailed library names xs) (sym h.1) k
unread_failed library names line (Fault _ text) h k = tt
unread_failed library names line Starved h k = tt

refusal_told : ImportsAreOne → (files : Files) (command : Command) (names : List (List ℕ)) (e : Refusal) (r : Reply) → IsReplyOf (query_file command) e r → RefusalLoads (CommandLoads files command) names e → ReplyLoads (LoadsAsked files (Some command)) names r
refusal_told single files command names refusal.ReadFault r h k = unread_told (CommandLoads files command) names (read_fault_line (query_file command)) r h k
refusal_told single files command names refusal.TooLong r h k = fault_told single files command names status.Query (code_line GLXS0001) r (λ e. cc) h k
refusal_told single files command names (refusal.Query code place) r h k = fault_told single files command names status.Query (placed_line code place) r (λ e. cc) h k
refusal_told single files command names (refusal.SchemaFile file faults.Unread) r h k = unread_told (CommandLoads files command) names (read_fault_line (string_bytes file)) r h k
refusal_told single files command names (refusal.SchemaFile file faults.TooLong) r h k = fault_told single files command names status.Schema (long_document_line (string_bytes file)) r (λ e. cc) h k
refusal_told single files command names (refusal.SchemaFile file (faults.Refused rule place)) r h k = fault_told single files command names status.Schema (document_line rule (string_bytes file) place) r (λ e. cc) h k
refusal_told single files command names (refusal.SchemaFile file (faults.Invalid rule path)) r h k = fault_told single files command names status.Schema (invalid_line rule (string_bytes file) path) r (λ e. cc) h k
refusal_told single files command names (refusal.Schema rule file construct) r h k = fault_told single files command names status.Schema (import_line rule (string_bytes file) construct) r (λ e. cc) h k
refusal_told single files command names (refusal.Binding fault) r h k = fault_told single files command names status.Usage (binding_line (plain_fault fault)) r (λ e. cc) h k
refusal_told single files command names (refusal.Document file faults.Unread) r h k = unread_told (CommandLoads files command) names (read_fault_line (string_bytes file)) r h k
refusal_told single files command names (refusal.Document file faults.TooLong) r h k = fault_told single files command names status.Document (long_document_line (string_bytes file)) r (λ e. cc) h k
refusal_told single files command names (refusal.Document file (faults.Refused rule place)) r h k = fault_told single files command names status.Document (document_line rule (string_bytes file) place) r (λ e. cc) h k
refusal_told single files command names (refusal.Document file (faults.Invalid rule path)) r h k = fault_told single files command names status.Document (invalid_line rule (string_bytes file) path) r (λ e. cc) h k
refusal_told single files command names (refusal.Dynamic code) r h k = fault_told single files command names status.Dynamic (code_line code) r (λ e. cc) h k
refusal_told single files command names refusal.Memory r h k = subst (λ (z : Reply). ReplyLoads (LoadsAsked files (Some command)) names z) (sym h) k

refusal_failed : (library : LibraryUse) (command : Command) (names : List (List ℕ)) (e : Refusal) (r : Reply) → IsReplyOf (query_file command) e r → RefusalFailed library (query_file command) names e → ReplyFailed library names r
refusal_failed library command names refusal.ReadFault r h k = unread_failed library names (read_fault_line (query_file command)) r h k
refusal_failed library command names refusal.TooLong r h k = fault_unfailed library names status.Query (code_line GLXS0001) r (λ e. cc) h
refusal_failed library command names (refusal.Query code place) r h k = fault_unfailed library names status.Query (placed_line code place) r (λ e. cc) h
refusal_failed library command names (refusal.SchemaFile file faults.Unread) r h k = unread_failed library names (read_fault_line (string_bytes file)) r h k
refusal_failed library command names (refusal.SchemaFile file faults.TooLong) r h k = fault_unfailed library names status.Schema (long_document_line (string_bytes file)) r (λ e. cc) h
refusal_failed library command names (refusal.SchemaFile file (faults.Refused rule place)) r h k = fault_unfailed library names status.Schema (document_line rule (string_bytes file) place) r (λ e. cc) h
refusal_failed library command names (refusal.SchemaFile file (faults.Invalid rule path)) r h k = fault_unfailed library names status.Schema (invalid_line rule (string_bytes file) path) r (λ e. cc) h
refusal_failed library command names (refusal.Schema rule file construct) r h k = fault_unfailed library names status.Schema (import_line rule (string_bytes file) construct) r (λ e. cc) h
refusal_failed library command names (refusal.Binding fault) r h k = fault_unfailed library names status.Usage (binding_line (plain_fault fault)) r (λ e. cc) h
refusal_failed library command names (refusal.Document file faults.Unread) r h k = unread_failed library names (read_fault_line (string_bytes file)) r h k
refusal_failed library command names (refusal.Document file faults.TooLong) r h k = fault_unfailed library names status.Document (long_document_line (string_bytes file)) r (λ e. cc) h
refusal_failed library command names (refusal.Document file (faults.Refused rule place)) r h k = fault_unfailed library names status.Document (document_line rule (string_bytes file) place) r (λ e. cc) h
refusal_failed library command names (refusal.Document file (faults.Invalid rule path)) r h k = fault_unfailed library names status.Document (invalid_line rule (string_bytes file) path) r (λ e. cc) h
refusal_failed library command names (refusal.Dynamic code) r h k = fault_unfailed library names status.Dynamic (code_line code) r (λ e. cc) h
refusal_failed library command names refusal.Memory r h k = subst (λ (z : Reply). ReplyFailed library names z) (sym h) tt

refusal_tells : (command : Command) (loads : List (List ℕ)) (e : Refusal) (r : Reply) → IsReplyOf (query_file command) e r → NamesOneOf loads e → ReplyTells loads r
refusal_tells command loads refusal.ReadFault r h n = fault_tells loads status.ReadFault (read_fault_line (query_file command)) r h tt
refusal_tells command loads refusal.TooLong r h n = fault_tells loads status.Query (code_line GLXS0001) r h tt
refusal_tells command loads (refusal.Query code place) r h n = fault_tells loads status.Query (placed_line code place) r h tt
refusal_tells command loads (refusal.SchemaFile file faults.Unread) r h n = fault_tells loads status.ReadFault (read_fault_line (string_bytes file)) r h tt
refusal_tells command loads (refusal.SchemaFile file faults.TooLong) r h n = fault_tells loads status.Schema (long_document_line (string_bytes file)) r h (string_bytes file, inl (n.0, inl refl))
refusal_tells command loads (refusal.SchemaFile file (faults.Refused rule place)) r h n = fault_tells loads status.Schema (document_line rule (string_bytes file) place) r h (string_bytes file, inl (n.0, inr (rule, place, refl)))
refusal_tells command loads (refusal.SchemaFile file (faults.Invalid rule path)) r h n = absurd n.1
refusal_tells command loads (refusal.Schema rule file construct) r h n = fault_tells loads status.Schema (import_line rule (string_bytes file) construct) r h (string_bytes file, inr (n, (rule, construct, refl)))
refusal_tells command loads (refusal.Binding fault) r h n = fault_tells loads status.Usage (binding_line (plain_fault fault)) r h tt
refusal_tells command loads (refusal.Document file faults.Unread) r h n = fault_tells loads status.ReadFault (read_fault_line (string_bytes file)) r h tt
refusal_tells command loads (refusal.Document file faults.TooLong) r h n = fault_tells loads status.Document (long_document_line (string_bytes file)) r h (string_bytes file, n, inl (inl refl))
refusal_tells command loads (refusal.Document file (faults.Refused rule place)) r h n = fault_tells loads status.Document (document_line rule (string_bytes file) place) r h (string_bytes file, n, inl (inr (rule, place, refl)))
refusal_tells command loads (refusal.Document file (faults.Invalid rule path)) r h n = fault_tells loads status.Document (invalid_line rule (string_bytes file) path) r h (string_bytes file, n, inr (rule, path, refl))
refusal_tells command loads (refusal.Dynamic code) r h n = fault_tells loads status.Dynamic (code_line code) r h tt
refusal_tells command loads refusal.Memory r h n = subst (λ (z : Reply). ReplyTells loads z) (sym h) tt

pub refusal_loads : ImportsAreOne → {V : Type 0} (library : LibraryUse) (command : Command) (e : Refusal) (r : Reply) → IsReplyOf (query_file command) e r → OutputLoads {V = V} library command (Err e) → LoadsSo library (Some command) r
refusal_loads single library command e r h l = record {
  names = l.names;
  loaded = l.loaded;
  may = l.may;
  told = told_so (library.files library.before) (λ files. RefusalLoads (CommandLoads files command) l.names e) (λ files. ReplyLoads (LoadsAsked files (Some command)) l.names r)
      (λ files k. refusal_told single files command l.names e r h k) l.told;
  failed = refusal_failed library command l.names e r h l.failed;
  of_loads = refusal_tells command (loads_behind l.names) e r h l.of_loads;
}
