-- What reading and typing a query says, from its steps.
use Rattle.std.proofs.Common.{◌≡◌, ℕ, ◌≤◌, List, [], ◌∷◌, Option, Result, Ok, Err, string_bytes, IfSome, IfOk, IfErr, inl, inr, refl, sym, ◌∙◌, subst}
use Rattle.gx_types.specs.SchemaSet.{SchemaSet}
use Rattle.gx_core.specs.QueryMeaning.{plain_query}
use Rattle.gx_io.specs.Calls.{Loads}
use Rattle.gx_io.specs.LibraryUse.{LibraryUse, LoadsOnly, LibraryFailed}
use Rattle.gx_io.specs.Load.{file_of}
use Rattle.gx_ast.specs.declared.query.Query.{Query as SyntaxQuery}
use Rattle.gx_documents.specs.declared.documents.DocumentFault.TheVariants as faults
use Rattle.gx_documents.specs.Documents.{Files, DocumentsLoaded}
use Rattle.gx_processor.specs.declared.query.TypedQuery.{TypedQuery}
use Rattle.gx_processor.specs.declared.refusal.Refusal.{Refusal}
use Rattle.gx_processor.specs.declared.refusal.Refusal.TheVariants as refusal
use Rattle.gx_processor.specs.Answer.{AnswersNamed, AnswersSchemas, AnswersFile}
use Rattle.gx_processor.specs.Command.{Command}
use Rattle.gx_processor.specs.FaultLines.{read_fault_line}
use Rattle.gx_processor.specs.ImportReplies.{IsOfImport, FailsAtSchema, ImportsSo}
use Rattle.gx_processor.specs.Loading.{QueryLoads, AreFirstOf}
use Rattle.gx_processor.specs.NamedQuery.{named_query, query_named}
use Rattle.gx_processor.specs.Query.{ImportsSchemas, HoldsQuery}
use Rattle.gx_processor.specs.QueryReplies.{HoldsNone, HoldsThisTree, IsOfTree, TreeSo, QuerySo}
use Rattle.gx_processor.specs.SchemaFiles.{schema_requests}
use Rattle.gx_processor.specs.Replies.{RefusesSo, IsOfRules, IsOfText, IsOfQuery, AreFirst, NamesOneOf, RefusalLoads, OutcomeFailed}
use Rattle.gx_processor.proofs.CommandLoads.{before, behind, loads_append, failed_behind, one_tree, first_behind, query_begins, RefusedAlways}
use Rattle.gx_processor.proofs.LoadLemmas.{one_load, whole_is_front}
use Rattle.gx_processor.proofs.QueryLemmas.{refuses_through, schemas_answer, tree_in_file}
use Rattle.gx_processor.proofs.Told.{told_so, told_always, both_told}

-- ---- from a tree

module _ (library : LibraryUse) (tree : SyntaxQuery) where
  abbrev Loaded : Files → List (List ℕ) → Type 0
  Loaded files loads = DocumentsLoaded files (schema_requests tree) loads

  abbrev Refused : Files → Refusal → Type 0
  Refused files e = (command : Command) → RefusesSo e (AnswersSchemas files command tree)

  -- a refusal of the names or of the types under schemas that are imported
  abbrev RefusedUnder : SchemaSet → Refusal → Type 0
  RefusedUnder schemas e = (files : Files) (command : Command) → RefusesSo e (AnswersNamed files command schemas (query_named schemas tree))

  under_refused : (schemas : SchemaSet) (files : Files) (e : Refusal) → ImportsSchemas files tree schemas → RefusedUnder schemas e → Refused files e
  under_refused schemas files e i h command =
      refuses_through e (AnswersNamed files command schemas (query_named schemas tree)) (AnswersSchemas files command tree) (λ a k. schemas_answer files command tree schemas a i k) (h files command)

  under_loads : (files : Files) (loads : List (List ℕ)) (e : Refusal) → IsOfRules e → Loaded files loads → RefusalLoads (Loaded files) loads e
  under_loads files loads refusal.ReadFault own h = absurd own
  under_loads files loads refusal.TooLong own h = absurd own
  under_loads files loads (refusal.Query code place) own h = h
  under_loads files loads refusal.Memory own h = λ whole k. whole_is_front loads whole (one_load files (schema_requests tree) loads whole h k)
  under_loads files loads (refusal.SchemaFile file fault) own h = absurd own
  under_loads files loads (refusal.Schema rule file name) own h = absurd own
  under_loads files loads (refusal.Binding fault) own h = absurd own
  under_loads files loads (refusal.Document file fault) own h = absurd own
  under_loads files loads (refusal.Dynamic code) own h = absurd own

  under_rest : (loads : List (List ℕ)) (e : Refusal) → IsOfRules e → FailsAtSchema {V = TypedQuery} library loads (Err e) × IsOfTree e
  under_rest loads refusal.ReadFault own = absurd own
  under_rest loads refusal.TooLong own = absurd own
  under_rest loads (refusal.Query code place) own = (tt, own)
  under_rest loads refusal.Memory own = (tt, tt)
  under_rest loads (refusal.SchemaFile file fault) own = absurd own
  under_rest loads (refusal.Schema rule file name) own = absurd own
  under_rest loads (refusal.Binding fault) own = absurd own
  under_rest loads (refusal.Document file fault) own = absurd own
  under_rest loads (refusal.Dynamic code) own = absurd own

  under_names : (loads : List (List ℕ)) (e : Refusal) → IsOfRules e → NamesOneOf loads e
  under_names loads (refusal.Query code place) own = tt
  under_names loads refusal.Memory own = tt
  under_names loads refusal.ReadFault own = absurd own
  under_names loads refusal.TooLong own = absurd own
  under_names loads (refusal.SchemaFile file fault) own = absurd own
  under_names loads (refusal.Schema rule file name) own = absurd own
  under_names loads (refusal.Binding fault) own = absurd own
  under_names loads (refusal.Document file fault) own = absurd own
  under_names loads (refusal.Dynamic code) own = absurd own

  -- the query under the schemas
  pub tree_under : (schemas : SchemaSet) (result : Result TypedQuery Refusal) → ImportsSo library tree (Ok schemas) → IfOk result (λ query. query.schemas ≡ schemas) → IfOk result (λ query. query_named schemas tree ≡ named_query (plain_query query.core))
      → IfErr result (RefusedUnder schemas) → IfErr result IsOfRules → TreeSo library tree result
  tree_under schemas (Ok query) i same named refused own = record {
    loads = i.loads;
    loaded = i.loaded;
    answers = told_so (library.files library.before) (λ files. ImportsSchemas files tree schemas) (λ files. ImportsSchemas files tree query.schemas) (λ files h. subst (λ (s : SchemaSet). ImportsSchemas files tree s) (sym same) h) i.answers;
    named = subst (λ (s : SchemaSet). query_named s tree ≡ named_query (plain_query query.core)) (sym same) named;
    told = i.told;
    failed = tt;
    of_loads = tt;
    own = tt;
  }
  tree_under schemas (Err e) i same named refused own =
      let rest = under_rest i.loads e own in
      record {
        loads = i.loads;
        loaded = i.loaded;
        answers = told_so (library.files library.before) (λ files. ImportsSchemas files tree schemas) (λ files. Refused files e) (λ files h. under_refused schemas files e h refused) i.answers;
        named = tt;
        told = told_so (library.files library.before) (λ files. Loaded files i.loads) (λ files. RefusalLoads (Loaded files) i.loads e) (λ files h. under_loads files i.loads e own h) i.told;
        failed = rest.0;
        of_loads = under_names i.loads e own;
        own = rest.1;
      }

  import_rest : (loads : List (List ℕ)) (e : Refusal) → FailsAtSchema {V = SchemaSet} library loads (Err e) → IsOfImport e → FailsAtSchema {V = TypedQuery} library loads (Err e) × IsOfTree e
  import_rest loads refusal.ReadFault f own = absurd own
  import_rest loads refusal.TooLong f own = absurd own
  import_rest loads (refusal.Query code place) f own = absurd own
  import_rest loads refusal.Memory f own = (tt, tt)
  import_rest loads (refusal.SchemaFile file faults.Unread) f own = (f, tt)
  import_rest loads (refusal.SchemaFile file faults.TooLong) f own = (tt, tt)
  import_rest loads (refusal.SchemaFile file (faults.Refused rule place)) f own = (tt, tt)
  import_rest loads (refusal.SchemaFile file (faults.Invalid rule path)) f own = absurd own
  import_rest loads (refusal.Schema rule file name) f own = (tt, tt)
  import_rest loads (refusal.Binding fault) f own = absurd own
  import_rest loads (refusal.Document file fault) f own = absurd own
  import_rest loads (refusal.Dynamic code) f own = absurd own

  -- schema files that are refused
  pub tree_unimported : (e : Refusal) → ImportsSo library tree (Err e) → TreeSo library tree (Err e)
  tree_unimported e i =
      let rest = import_rest i.loads e i.failed i.own in
      record { loads = i.loads; loaded = i.loaded; answers = i.answers; named = tt; told = i.told; failed = rest.0; of_loads = i.of_loads; own = rest.1 }

-- ---- from a file

-- a file that is refused, alone
text_loads : (files : Files) (name : List ℕ) (e : Refusal) (Rose : Type 0) → IsOfText Rose e → HoldsNone files name e → RefusalLoads (QueryLoads files name) (name ∷ []) e
text_loads files name refusal.ReadFault Rose own none = λ whole h. query_begins files name whole h
text_loads files name refusal.Memory Rose own none = λ whole h. query_begins files name whole h
text_loads files name refusal.TooLong Rose own none = inr (none, refl)
text_loads files name (refusal.Query code place) Rose own none = inr (none, refl)
text_loads files name (refusal.SchemaFile file fault) Rose own none = absurd own
text_loads files name (refusal.Schema rule file construct) Rose own none = absurd own
text_loads files name (refusal.Binding fault) Rose own none = absurd own
text_loads files name (refusal.Document file fault) Rose own none = absurd own
text_loads files name (refusal.Dynamic code) Rose own none = absurd own

text_own : (e : Refusal) (Rose : Type 0) → IsOfText Rose e → IsOfQuery e
text_own refusal.ReadFault Rose own = tt
text_own refusal.Memory Rose own = tt
text_own refusal.TooLong Rose own = tt
text_own (refusal.Query code place) Rose own = own
text_own (refusal.SchemaFile file fault) Rose own = absurd own
text_own (refusal.Schema rule file construct) Rose own = absurd own
text_own (refusal.Binding fault) Rose own = absurd own
text_own (refusal.Document file fault) Rose own = absurd own
text_own (refusal.Dynamic code) Rose own = absurd own

text_names : (e : Refusal) (Rose : Type 0) → IsOfText Rose e → NamesOneOf [] e
text_names refusal.ReadFault Rose own = tt
text_names refusal.Memory Rose own = tt
text_names refusal.TooLong Rose own = tt
text_names (refusal.Query code place) Rose own = tt
text_names (refusal.SchemaFile file fault) Rose own = absurd own
text_names (refusal.Schema rule file construct) Rose own = absurd own
text_names (refusal.Binding fault) Rose own = absurd own
text_names (refusal.Document file fault) Rose own = absurd own
text_names (refusal.Dynamic code) Rose own = absurd own

text_fails : (library : LibraryUse) (name : List ℕ) (e : Refusal) → LoadsOnly library (name ∷ []) → IsOfText (LibraryFailed library) e → OutcomeFailed {V = TypedQuery} library name (name ∷ []) (Err e)
text_fails library name refusal.ReadFault loads rose = record {
  earlier = [];
  file = name;
  in_order = refl;
  failed = record {
    between = library.before;
    loaded = refl;
    last = subst (λ (after : library.Library). library.was_loaded library.before name after) (sym loads.2) loads.1;
    rose = rose;
  };
  rose = rose;
  line_is = refl;
}
text_fails library name refusal.Memory loads own = tt
text_fails library name refusal.TooLong loads own = tt
text_fails library name (refusal.Query code place) loads own = tt
text_fails library name (refusal.SchemaFile file fault) loads own = absurd own
text_fails library name (refusal.Schema rule file construct) loads own = absurd own
text_fails library name (refusal.Binding fault) loads own = absurd own
text_fails library name (refusal.Document file fault) loads own = absurd own
text_fails library name (refusal.Dynamic code) loads own = absurd own

pub query_unread : (library : LibraryUse) (name : List ℕ) (e : Refusal) → LoadsOnly library (name ∷ []) → IfSome (library.files library.before) (λ files. RefusedAlways files name e)
    → IfSome (library.files library.before) (λ files. HoldsNone files name e) → IsOfText (LibraryFailed library) e → QuerySo library name (Err e)
query_unread library name e loads refused none own = record {
  loads = name ∷ [];
  loaded = loads;
  first = ([], refl);
  held = told_always (library.files library.before) (λ files. Unit {0}) (λ files. tt);
  refused = refused;
  told = told_so (library.files library.before) (λ files. HoldsNone files name e) (λ files. RefusalLoads (QueryLoads files name) (name ∷ []) e) (λ files h. text_loads files name e (LibraryFailed library) own h) none;
  failed = text_fails library name e loads own;
  of_loads = text_names e (LibraryFailed library) own;
  own = text_own e (LibraryFailed library) own;
}

-- behind the load of the file
module _ (library : LibraryUse) (between : library.Library) (name : List ℕ) (tree : SyntaxQuery) where
  abbrev Rest : LibraryUse
  Rest = behind library between

  this_tree : (files : Files) (loads : List (List ℕ)) → HoldsThisTree files name tree → DocumentsLoaded files (schema_requests tree) loads → QueryLoads files name (name ∷ loads)
  this_tree files loads h l = inl (h.0, (loads, subst (λ (t : SyntaxQuery). DocumentsLoaded files (schema_requests t) loads) (sym h.1) l, refl))

  -- the loads of a query with this tree
  loads_of_tree : (files : Files) (whole : List (List ℕ)) → HoldsThisTree files name tree → QueryLoads files name whole → (rest : List (List ℕ)) × DocumentsLoaded files (schema_requests tree) rest × (whole ≡ name ∷ rest)
  loads_of_tree files whole h (inl l) = (l.1.0, subst (λ (t : SyntaxQuery). DocumentsLoaded files (schema_requests t) l.1.0) (one_tree files name l.0 h.0 ∙ h.1) l.1.1, l.1.2)
  loads_of_tree files whole h (inr l) = absurd (l.0 h.0)

  tree_first : (files : Files) (loads : List (List ℕ)) → HoldsThisTree files name tree → AreFirst (DocumentsLoaded files (schema_requests tree)) loads → AreFirst (QueryLoads files name) (name ∷ loads)
  tree_first files loads h f whole k =
      let l = loads_of_tree files whole h k in
      subst (λ (ns : List (List ℕ)). AreFirstOf (name ∷ loads) ns) (sym l.2) (first_behind name loads l.0 (f l.0 l.1))

  tree_loads : (files : Files) (loads : List (List ℕ)) (e : Refusal) → IsOfTree e → HoldsThisTree files name tree → RefusalLoads (DocumentsLoaded files (schema_requests tree)) loads e → RefusalLoads (QueryLoads files name) (name ∷ loads) e
  tree_loads files loads refusal.ReadFault own h l = absurd own
  tree_loads files loads refusal.TooLong own h l = absurd own
  tree_loads files loads refusal.Memory own h l = tree_first files loads h l
  tree_loads files loads (refusal.Query code place) own h l = this_tree files loads h l
  tree_loads files loads (refusal.SchemaFile file faults.Unread) own h l = tree_first files loads h l
  tree_loads files loads (refusal.SchemaFile file faults.TooLong) own h l = this_tree files loads h l
  tree_loads files loads (refusal.SchemaFile file (faults.Refused rule place)) own h l = this_tree files loads h l
  tree_loads files loads (refusal.SchemaFile file (faults.Invalid rule path)) own h l = absurd own
  tree_loads files loads (refusal.Schema rule file construct) own h l = this_tree files loads h l
  tree_loads files loads (refusal.Binding fault) own h l = absurd own
  tree_loads files loads (refusal.Document file fault) own h l = absurd own
  tree_loads files loads (refusal.Dynamic code) own h l = absurd own

  tree_own : (e : Refusal) → IsOfTree e → IsOfQuery e
  tree_own refusal.ReadFault own = tt
  tree_own refusal.TooLong own = tt
  tree_own refusal.Memory own = tt
  tree_own (refusal.Query code place) own = own
  tree_own (refusal.SchemaFile file fault) own = own
  tree_own (refusal.Schema rule file construct) own = tt
  tree_own (refusal.Binding fault) own = absurd own
  tree_own (refusal.Document file fault) own = absurd own
  tree_own (refusal.Dynamic code) own = absurd own

  tree_fails : (loads : List (List ℕ)) (e : Refusal) → Loads library.was_loaded (name ∷ []) library.before between → library.faults library.before ≤ library.faults between → IsOfTree e → FailsAtSchema {V = TypedQuery} Rest loads (Err e)
      → OutcomeFailed {V = TypedQuery} library name (name ∷ loads) (Err e)
  tree_fails loads refusal.ReadFault l counted own f = absurd own
  tree_fails loads refusal.TooLong l counted own f = absurd own
  tree_fails loads refusal.Memory l counted own f = tt
  tree_fails loads (refusal.Query code place) l counted own f = tt
  tree_fails loads (refusal.SchemaFile file faults.Unread) l counted own f = failed_behind library between (name ∷ []) loads (read_fault_line (string_bytes file)) l counted f
  tree_fails loads (refusal.SchemaFile file faults.TooLong) l counted own f = tt
  tree_fails loads (refusal.SchemaFile file (faults.Refused rule place)) l counted own f = tt
  tree_fails loads (refusal.SchemaFile file (faults.Invalid rule path)) l counted own f = absurd own
  tree_fails loads (refusal.Schema rule file construct) l counted own f = tt
  tree_fails loads (refusal.Binding fault) l counted own f = absurd own
  tree_fails loads (refusal.Document file fault) l counted own f = absurd own
  tree_fails loads (refusal.Dynamic code) l counted own f = absurd own

  tree_refused : (files : Files) (e : Refusal) → HoldsThisTree files name tree → ((command : Command) → RefusesSo e (AnswersSchemas files command tree)) → RefusedAlways files name e
  tree_refused files e h r command =
      refuses_through e (AnswersSchemas files command tree) (AnswersFile files command (file_of files name))
      (λ a k. tree_in_file files name command h.0 a (subst (λ (t : SyntaxQuery). AnswersSchemas files command t a) (sym h.1) k)) (r command)

  tree_held : (files : Files) (query : TypedQuery) → HoldsThisTree files name tree → ImportsSchemas files tree query.schemas → query_named query.schemas tree ≡ named_query (plain_query query.core) → HoldsQuery files name query.schemas (plain_query query.core)
  tree_held files query h i n = record {
    read = h.0;
    imports = subst (λ (t : SyntaxQuery). ImportsSchemas files t query.schemas) (sym h.1) i;
    named = subst (λ (t : SyntaxQuery). query_named query.schemas t ≡ named_query (plain_query query.core)) (sym h.1) n;
  }

  module _ (l : Loads library.was_loaded (name ∷ []) library.before between) (same : library.files between ≡ library.files library.before) (counted : library.faults library.before ≤ library.faults between)
      (held : IfSome (library.files library.before) (λ files. HoldsThisTree files name tree)) where
    told_there : (P : Files → Type 0) → IfSome (library.files between) P → IfSome (library.files library.before) P
    told_there P h = subst (λ (told : Option Files). IfSome told P) same h

    pub query_of_tree : (result : Result TypedQuery Refusal) → TreeSo Rest tree result → QuerySo library name result
    query_of_tree (Ok query) t = record {
      loads = name ∷ t.loads;
      loaded = loads_append library.was_loaded (name ∷ []) t.loads library.before between library.after l t.loaded;
      first = (t.loads, refl);
      held = both_told (library.files library.before) (λ files. HoldsThisTree files name tree) (λ files. ImportsSchemas files tree query.schemas) (λ files. HoldsQuery files name query.schemas (plain_query query.core))
          (λ files h i. tree_held files query h i t.named) held (told_there (λ files. ImportsSchemas files tree query.schemas) t.answers);
      refused = told_always (library.files library.before) (λ files. Unit {0}) (λ files. tt);
      told = both_told (library.files library.before) (λ files. HoldsThisTree files name tree) (λ files. DocumentsLoaded files (schema_requests tree) t.loads) (λ files. QueryLoads files name (name ∷ t.loads))
          (λ files h k. this_tree files t.loads h k) held (told_there (λ files. DocumentsLoaded files (schema_requests tree) t.loads) t.told);
      failed = tt;
      of_loads = tt;
      own = tt;
    }
    query_of_tree (Err e) t = record {
      loads = name ∷ t.loads;
      loaded = loads_append library.was_loaded (name ∷ []) t.loads library.before between library.after l t.loaded;
      first = (t.loads, refl);
      held = told_always (library.files library.before) (λ files. Unit {0}) (λ files. tt);
      refused = both_told (library.files library.before) (λ files. HoldsThisTree files name tree) (λ files. (command : Command) → RefusesSo e (AnswersSchemas files command tree)) (λ files. RefusedAlways files name e)
          (λ files h r. tree_refused files e h r) held (told_there (λ files. (command : Command) → RefusesSo e (AnswersSchemas files command tree)) t.answers);
      told = both_told (library.files library.before) (λ files. HoldsThisTree files name tree) (λ files. RefusalLoads (DocumentsLoaded files (schema_requests tree)) t.loads e) (λ files. RefusalLoads (QueryLoads files name) (name ∷ t.loads) e)
          (λ files h k. tree_loads files t.loads e t.own h k) held (told_there (λ files. RefusalLoads (DocumentsLoaded files (schema_requests tree)) t.loads e) t.told);
      failed = tree_fails t.loads e l counted t.own t.failed;
      of_loads = t.of_loads;
      own = tree_own e t.own;
    }
