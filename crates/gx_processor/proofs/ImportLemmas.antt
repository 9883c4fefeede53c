-- What the schemas that a query imports say, from the reading of their files.
use Rattle.std.proofs.Common.{◌≡◌, ℕ, zero, suc, List, [], ◌∷◌, length, map, slice_get, Option, Some, Result, Ok, Err, string_bytes, IfErr, MatchResult, inl, inr, refl, sym, ◌∙◌, ap, ap₂, subst}
use Rattle.std.specs.Prelude.{unwrap_or}
use Rattle.std.proofs.lemmas.List.{length-map}
use Rattle.gx_types.specs.SchemaSet.{SchemaSet}
use Rattle.gx_io.specs.LibraryUse.{LibraryUse}
use Rattle.gx_ast.specs.declared.query.Query.{Query as SyntaxQuery}
use Rattle.gx_xml.specs.declared.source.Source.{Source}
use Rattle.gx_validate.specs.declared.invalid.InvalidRule.{InvalidRule}
use Rattle.gx_schema.specs.Import.{breaks}
use Rattle.gx_documents.specs.declared.documents.DocumentFault.TheVariants as faults
use Rattle.gx_documents.specs.declared.documents.DocumentsError.{DocumentsError}
use Rattle.gx_documents.specs.declared.documents.DocumentsError.TheVariants.{Failed, Memory as NoMemory}
use Rattle.gx_documents.specs.Documents.{AreKept, Files, Request, DocumentsLoaded, files_asked, source_request}
use Rattle.gx_documents.specs.Reading.{EndsWith, HasReadFault, LoadsUpTo, OneBreaks, ReadSources}
use Rattle.gx_processor.specs.declared.refusal.Refusal.{Refusal}
use Rattle.gx_processor.specs.declared.refusal.Refusal.TheVariants as refusal
use Rattle.gx_processor.specs.declared.status.Status.TheVariants as status
use Rattle.gx_processor.specs.Answer.{Answer, refuses, AnswersSchemas, AnswersSources}
use Rattle.gx_processor.specs.Command.{Command}
use Rattle.gx_processor.specs.FaultLines.{import_line}
use Rattle.gx_processor.specs.ImportReplies.{unread_schema, BreaksRule, DeclaresIn, DeclaresSo, DeclaredSo, IsOfImport, FailsAtSchema, ImportsSo}
use Rattle.gx_processor.specs.Query.{ImportsSchemas}
use Rattle.gx_processor.specs.SchemaFiles.{schema_files, schema_requests}
use Rattle.gx_processor.specs.Loading.{AreFirstOf, IsOneOfLoads}
use Rattle.gx_processor.specs.Replies.{RefusesSo, IsOfReader, NamesOneOf, OutcomeLoads}
use Rattle.gx_processor.proofs.LoadLemmas.{kept_answer, stopped_answers, all_loaded, stopped_loaded, stopped_first, one_load, whole_is_front}
use Rattle.gx_processor.proofs.Told.{told_so, told_always}

-- nothing is said of validity
abbrev IsOfReading : DocumentsError → Type 0
IsOfReading (Failed file fault) = IsOfReader fault
IsOfReading NoMemory = Unit {0}

not_broken : {A E : Type 0} {x : A} {e : E} → Ok x ≡ Err e → ⊥
not_broken h = absurd (cc h)

-- the files that are asked for, and the one of a number
files_of_sources : (files : List (List ℕ)) → files_asked (map source_request files) ≡ files
files_of_sources [] = refl
files_of_sources (file ∷ files) = ap (λ (ns : List (List ℕ)). file ∷ ns) (files_of_sources files)

one_of_loads : (files : List (List ℕ)) (number : ℕ) (file : List ℕ) → slice_get files number ≡ Some file → IsOneOfLoads files file
one_of_loads [] number file h = cc h
one_of_loads (name ∷ files) zero file h =
    let same : name ≡ file = cc in
    ([], files, ap (λ (f : List ℕ). f ∷ files) same)
one_of_loads (name ∷ files) (suc number) file h =
    let rest = one_of_loads files number file h in
    (name ∷ rest.0, rest.1, ap (λ (ns : List (List ℕ)). name ∷ ns) rest.2)

-- there is a document for each file
kept_count : {T : Type 0} (requests : List (Request T)) (all : List T) → AreKept requests all → length all ≡ length requests
kept_count [] [] h = refl
kept_count [] (kept ∷ all) h = absurd h
kept_count (request ∷ requests) [] h = absurd h
kept_count (request ∷ requests) (kept ∷ all) h = ap suc (kept_count requests all h.1)

pub sources_count : (library : LibraryUse) (names : List (List ℕ)) (sources : List Source) → ReadSources library names (Ok sources) → length sources ≡ length names
sources_count library names sources read = kept_count (map source_request names) sources read.kept ∙ length-map names source_request

module _ (tree : SyntaxQuery) where
  abbrev names : List (List ℕ)
  names = schema_files tree

  abbrev requests : List (Request Source)
  requests = schema_requests tree

  abbrev Followed : Files → Command → List Source → Answer → Type 0
  Followed files command sources next = AnswersSources files command tree sources next

  -- no rule of validity is asked for
  none_breaks : (files : List (List ℕ)) (rule : InvalidRule) (path : List ℕ) → OneBreaks (map source_request files) rule path → ⊥
  none_breaks [] rule path h = h
  none_breaks (file ∷ files) rule path (inl h) = not_broken h.1
  none_breaks (file ∷ files) rule path (inr h) = none_breaks files rule path h

  reads_alone : (library : LibraryUse) (error : DocumentsError) → ReadSources library names (Err error) → IsOfReading error
  reads_alone library (Failed file faults.Unread) read = tt
  reads_alone library (Failed file faults.TooLong) read = tt
  reads_alone library (Failed file (faults.Refused rule place)) read = tt
  reads_alone library (Failed file (faults.Invalid rule path)) read = none_breaks names rule path read.asked_for
  reads_alone library NoMemory read = tt

  abbrev Refused : Files → Refusal → Type 0
  Refused files e = (command : Command) → RefusesSo e (AnswersSchemas files command tree)

  abbrev Answered : Files → Result SchemaSet Refusal → Type 0
  Answered files result = MatchResult result (ImportsSchemas files tree) (Refused files)

  -- files that cannot be read
  unread_answers : (files : Files) (loads : List (List ℕ)) (error : DocumentsError) → IsOfReading error → EndsWith files requests loads (Err error) → Refused files (unread_schema error)
  unread_answers files loads (Failed file faults.Unread) own ends command = tt
  unread_answers files loads (Failed file faults.TooLong) own ends command =
      stopped_answers status.Schema files requests loads (string_bytes file) faults.TooLong (Followed files command) _ ends refl
  unread_answers files loads (Failed file (faults.Refused rule place)) own ends command =
      stopped_answers status.Schema files requests loads (string_bytes file) (faults.Refused rule place) (Followed files command) _ ends refl
  unread_answers files loads (Failed file (faults.Invalid rule path)) own ends command = absurd own
  unread_answers files loads NoMemory own ends command = tt

  memory_first : (files : Files) (loads whole : List (List ℕ)) → EndsWith files requests loads (Err NoMemory) → DocumentsLoaded files requests whole → AreFirstOf loads whole
  memory_first files loads whole (inl e) h = stopped_first files requests loads whole e.0 e.1 h
  memory_first files loads whole (inr e) h =
      whole_is_front loads whole (one_load files requests loads whole (subst (λ (ns : List (List ℕ)). DocumentsLoaded files requests ns) (sym e.2) (all_loaded files requests e.0 e.1)) h)

  unread_loads : (files : Files) (loads : List (List ℕ)) (error : DocumentsError) → EndsWith files requests loads (Err error) → OutcomeLoads {V = SchemaSet} (DocumentsLoaded files requests) loads (Err (unread_schema error))
  unread_loads files loads (Failed file faults.Unread) ends = λ whole h. stopped_first files requests loads whole ends.request ends.stops h
  unread_loads files loads (Failed file faults.TooLong) ends = stopped_loaded files requests loads (string_bytes file) faults.TooLong ends (λ e. cc)
  unread_loads files loads (Failed file (faults.Refused rule place)) ends = stopped_loaded files requests loads (string_bytes file) (faults.Refused rule place) ends (λ e. cc)
  unread_loads files loads (Failed file (faults.Invalid rule path)) ends = stopped_loaded files requests loads (string_bytes file) (faults.Invalid rule path) ends (λ e. cc)
  unread_loads files loads NoMemory ends = λ whole h. memory_first files loads whole ends h

  unread_fails : (library : LibraryUse) (loads : List (List ℕ)) (error : DocumentsError) → HasReadFault {T = Source} library loads (Err error) → FailsAtSchema {V = SchemaSet} library loads (Err (unread_schema error))
  unread_fails library loads (Failed file faults.Unread) f = record { earlier = f.earlier; file = string_bytes file; in_order = f.in_order; failed = f.failed; rose = f.rose; line_is = refl }
  unread_fails library loads (Failed file faults.TooLong) f = tt
  unread_fails library loads (Failed file (faults.Refused rule place)) f = tt
  unread_fails library loads (Failed file (faults.Invalid rule path)) f = tt
  unread_fails library loads NoMemory f = tt

  unread_names : (loads : List (List ℕ)) (error : DocumentsError) → IsOfReading error → LoadsUpTo requests loads (Err error) → NamesOneOf loads (unread_schema error)
  unread_names loads (Failed file fault) own u = (u, own)
  unread_names loads NoMemory own u = tt

  unread_own : (error : DocumentsError) → IsOfReading error → IsOfImport (unread_schema error)
  unread_own (Failed file fault) own = own
  unread_own NoMemory own = tt

  unread_imports : (library : LibraryUse) (error : DocumentsError) → ReadSources library names (Err error) → ImportsSo library tree (Err (unread_schema error))
  unread_imports library error read = record {
    loads = read.loads;
    loaded = read.loaded;
    answers = told_so (library.files library.before) (λ files. EndsWith files requests read.loads (Err error)) (λ files. Answered files (Err (unread_schema error))) (λ files ends. unread_answers files read.loads error (reads_alone library error read) ends) read.told;
    told = told_so (library.files library.before) (λ files. EndsWith files requests read.loads (Err error)) (λ files. OutcomeLoads {V = SchemaSet} (DocumentsLoaded files requests) read.loads (Err (unread_schema error)))
        (λ files ends. unread_loads files read.loads error ends) read.told;
    failed = unread_fails library read.loads error read.failed;
    of_loads = unread_names read.loads error (reads_alone library error read) read.up_to;
    own = unread_own error (reads_alone library error read);
  }

  -- files that are read
  broken_answers : (files : Files) (sources : List Source) (loads : List (List ℕ)) (e : Refusal) → EndsWith files requests loads (Ok sources) → BreaksRule names sources e → Refused files e
  broken_answers files sources loads (refusal.Schema rule file construct) ends b command =
      kept_answer status.Schema files requests sources [] (Followed files command) _ ends.0 (
        breaks rule b.0 b.1 b.2,
        b.3,
        ap₂ (λ (name shown : List ℕ). refuses status.Schema (import_line rule name shown)) (sym (ap (λ (o : Option (List ℕ)). unwrap_or o []) b.4)) b.5,
      )
  broken_answers files sources loads refusal.Memory ends b command = tt
  broken_answers files sources loads refusal.ReadFault ends b command = absurd b
  broken_answers files sources loads refusal.TooLong ends b command = absurd b
  broken_answers files sources loads (refusal.Query code place) ends b command = absurd b
  broken_answers files sources loads (refusal.SchemaFile file fault) ends b command = absurd b
  broken_answers files sources loads (refusal.Binding fault) ends b command = absurd b
  broken_answers files sources loads (refusal.Document file fault) ends b command = absurd b
  broken_answers files sources loads (refusal.Dynamic code) ends b command = absurd b

  declared_answers : (files : Files) (sources : List Source) (loads : List (List ℕ)) (result : Result SchemaSet Refusal) → EndsWith files requests loads (Ok sources)
      → DeclaresIn names sources result → Answered files result
  declared_answers files sources loads (Ok schemas) ends h =
      record { sources = sources; held = ends.0; imports = h }
  declared_answers files sources loads (Err e) ends h = broken_answers files sources loads e ends h

  sources_loaded : (files : Files) (sources : List Source) (loads : List (List ℕ)) → EndsWith files requests loads (Ok sources) → DocumentsLoaded files requests loads
  sources_loaded files sources loads ends = subst (λ (ns : List (List ℕ)). DocumentsLoaded files requests ns) (sym ends.1) (all_loaded files requests sources ends.0)

  declared_loads : (files : Files) (sources : List Source) (loads : List (List ℕ)) (result : Result SchemaSet Refusal) → EndsWith files requests loads (Ok sources)
      → DeclaresIn names sources result → OutcomeLoads (DocumentsLoaded files requests) loads result
  declared_loads files sources loads (Ok schemas) ends h = sources_loaded files sources loads ends
  declared_loads files sources loads (Err (refusal.Schema rule file construct)) ends h = sources_loaded files sources loads ends
  declared_loads files sources loads (Err refusal.Memory) ends h = λ whole k. whole_is_front loads whole (one_load files requests loads whole (sources_loaded files sources loads ends) k)
  declared_loads files sources loads (Err refusal.ReadFault) ends h = absurd h
  declared_loads files sources loads (Err refusal.TooLong) ends h = absurd h
  declared_loads files sources loads (Err (refusal.Query code place)) ends h = absurd h
  declared_loads files sources loads (Err (refusal.SchemaFile file fault)) ends h = absurd h
  declared_loads files sources loads (Err (refusal.Binding fault)) ends h = absurd h
  declared_loads files sources loads (Err (refusal.Document file fault)) ends h = absurd h
  declared_loads files sources loads (Err (refusal.Dynamic code)) ends h = absurd h

  declared_fails : (library : LibraryUse) (sources : List Source) (loads : List (List ℕ)) (result : Result SchemaSet Refusal) → DeclaresIn names sources result
      → FailsAtSchema library loads result × IfErr result IsOfImport
  declared_fails library sources loads (Ok schemas) h = (tt, tt)
  declared_fails library sources loads (Err (refusal.Schema rule file construct)) h = (tt, tt)
  declared_fails library sources loads (Err refusal.Memory) h = (tt, tt)
  declared_fails library sources loads (Err refusal.ReadFault) h = absurd h
  declared_fails library sources loads (Err refusal.TooLong) h = absurd h
  declared_fails library sources loads (Err (refusal.Query code place)) h = absurd h
  declared_fails library sources loads (Err (refusal.SchemaFile file fault)) h = absurd h
  declared_fails library sources loads (Err (refusal.Binding fault)) h = absurd h
  declared_fails library sources loads (Err (refusal.Document file fault)) h = absurd h
  declared_fails library sources loads (Err (refusal.Dynamic code)) h = absurd h

  declared_names : (sources : List Source) (loads : List (List ℕ)) (result : Result SchemaSet Refusal) → loads ≡ names → DeclaresIn names sources result → IfErr result (NamesOneOf loads)
  declared_names sources loads (Ok schemas) same h = tt
  declared_names sources loads (Err (refusal.Schema rule file construct)) same h = subst (λ (ns : List (List ℕ)). IsOneOfLoads ns (string_bytes file)) (sym same) (one_of_loads names h.0 (string_bytes file) h.4)
  declared_names sources loads (Err refusal.Memory) same h = tt
  declared_names sources loads (Err refusal.ReadFault) same h = absurd h
  declared_names sources loads (Err refusal.TooLong) same h = absurd h
  declared_names sources loads (Err (refusal.Query code place)) same h = absurd h
  declared_names sources loads (Err (refusal.SchemaFile file fault)) same h = absurd h
  declared_names sources loads (Err (refusal.Binding fault)) same h = absurd h
  declared_names sources loads (Err (refusal.Document file fault)) same h = absurd h
  declared_names sources loads (Err (refusal.Dynamic code)) same h = absurd h

  declared_imports : (library : LibraryUse) (read : Result (List Source) DocumentsError) (result : Result SchemaSet Refusal) → ReadSources library names read → DeclaresSo names read result → ImportsSo library tree result
  declared_imports library (Ok sources) result read h =
      let rest = declared_fails library sources read.loads result h in
      record {
        loads = read.loads;
        loaded = read.loaded;
        answers = told_so (library.files library.before) (λ files. EndsWith files requests read.loads (Ok sources)) (λ files. Answered files result) (λ files ends. declared_answers files sources read.loads result ends h) read.told;
        told = told_so (library.files library.before) (λ files. EndsWith files requests read.loads (Ok sources)) (λ files. OutcomeLoads (DocumentsLoaded files requests) read.loads result)
            (λ files ends. declared_loads files sources read.loads result ends h) read.told;
        failed = rest.0;
        of_loads = declared_names sources read.loads result (read.up_to ∙ files_of_sources names) h;
        own = rest.1;
      }
  declared_imports library (Err error) result read h = subst (λ (r : Result SchemaSet Refusal). ImportsSo library tree r) (sym h) (unread_imports library error read)

  pub imports_so : (library : LibraryUse) (files : List (List ℕ)) (result : Result SchemaSet Refusal) → files ≡ names → DeclaredSo library files result → ImportsSo library tree result
  imports_so library files result same h =
      declared_imports library h.read result (subst (λ (ns : List (List ℕ)). ReadSources library ns h.read) same h.reads) (subst (λ (ns : List (List ℕ)). DeclaresSo ns h.read result) same h.follows)

  -- where the names find no memory nothing is loaded
  pub starved_imports : (library : LibraryUse) → library.after ≡ library.before → ImportsSo library tree (Err refusal.Memory)
  starved_imports library untouched = record {
    loads = [];
    loaded = untouched;
    answers = told_always (library.files library.before) (λ files. Answered files (Err refusal.Memory)) (λ files command. tt);
    told = told_always (library.files library.before) (λ files. OutcomeLoads {V = SchemaSet} (DocumentsLoaded files requests) [] (Err refusal.Memory)) (λ files whole k. (whole, refl));
    failed = tt;
    of_loads = tt;
    own = tt;
  }

-- what the documents that were read declare
pub declared_so : (library : LibraryUse) (names : List (List ℕ)) (read sources : List Source) (result : Result SchemaSet Refusal) → sources ≡ read → ReadSources library names (Ok read) →
    DeclaresIn names sources result → DeclaredSo library names result
declared_so library names read sources result e reads told = record {
  read = Ok read;
  reads = reads;
  follows = subst (λ (all : List Source). DeclaresIn names all result) e told;
}
