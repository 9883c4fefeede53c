-- What the reading of documents says, file by file.
use Rattle.std.specs.Prelude.{◌≡◌, ℕ, ◌<◌, ◌≤◌, List, [], ◌∷◌, ◌++◌, length, map, Option, Some, Result, Ok, Err, IfSome, ◌⊎◌}
use Rattle.std.specs.String.{string_bytes}
use Rattle.gx_base.specs.declared.limits.TheConstants.{FILE_BYTES}
use Rattle.gx_io.specs.Faults.{Rose}
use Rattle.gx_io.specs.LibraryUse.{LibraryUse, LoadsOnly, LibraryFailed, LastLoadFailed}
use Rattle.gx_io.specs.Load.{file_of}
use Rattle.gx_types.specs.SchemaSet.{SchemaSet}
use Rattle.gx_model.specs.Forest.{Forest}
use Rattle.gx_xml.specs.declared.refusal.XmlRefusal.TheVariants as xml
use Rattle.gx_xml.specs.Reading.{IsDocumentOf, IsDocumentRefusal}
use Rattle.gx_xml.specs.declared.source.Source.{Source}
use Rattle.gx_xml.specs.SourceTree.{SourceTree}
use Rattle.gx_documents.specs.declared.documents.DocumentFault.{DocumentFault}
use Rattle.gx_documents.specs.declared.documents.DocumentFault.TheVariants.{Unread, TooLong, Refused, Invalid}
use Rattle.gx_documents.specs.declared.documents.DocumentsError.{DocumentsError}
use Rattle.gx_documents.specs.declared.documents.DocumentsError.TheVariants.{Failed, Memory}
use Rattle.gx_documents.specs.declared.documents.TreeError.{TreeError}
use Rattle.gx_documents.specs.declared.documents.TreeError.TheVariants as tree
use Rattle.gx_validate.specs.Outcome.{Fault}
use Rattle.gx_validate.specs.declared.invalid.InvalidRule.{InvalidRule}
use Rattle.gx_documents.specs.Documents.{Files, Request, Asked, HoldsDocument, HoldsKept, HoldKept, IsKept, AreKept, files_asked, source_request, tree_requests}

-- some document breaks this rule of validity in the form that is asked for
abbrev pub Breaks : {T : Type 0} → Request T → InvalidRule → (path : List ℕ) → Type 0
Breaks request rule path = (root : SourceTree) × (request.outcome root ≡ Err (record { rule = rule; path = path }))

-- why nothing is kept of a file
abbrev pub Lacks : {T : Type 0} → Files → Request T → DocumentFault → Type 0
Lacks files request Unread = Unit {0}
Lacks files request TooLong = (bytes : List ℕ) × (file_of files request.file ≡ Some bytes) × (FILE_BYTES < length bytes)
Lacks files request (Refused rule place) =
    (bytes : List ℕ) × (file_of files request.file ≡ Some bytes) × (length bytes ≤ FILE_BYTES) × IsDocumentRefusal bytes (xml.Refused place rule)
Lacks files request (Invalid rule path) =
    (root : SourceTree) × HoldsDocument files request.file root × (request.outcome root ≡ Err (record { rule = rule; path = path }))

-- a file cannot be read only where a count of faults rose in its load, and a rule of validity is broken only where this is asked for
abbrev pub IsCaused : {T : Type 0} → Request T → DocumentFault → (Rose : Type 0) → Type 0
IsCaused request Unread Rose = Rose
IsCaused request TooLong Rose = Unit {0}
IsCaused request (Refused rule place) Rose = Unit {0}
IsCaused request (Invalid rule path) Rose = Breaks request rule path

-- the documents in front of the file of this request were read, and its load was the last one
pub record StopsAt {T : Type 0} (files : Files) (requests : List (Request T)) (loads : List (List ℕ)) (request : Request T) : Type 0 where
  pub front : List (Request T)
  pub behind : List (Request T)
  pub kept : List T
  pub in_order : requests ≡ front ++ (request ∷ behind)
  pub loaded : loads ≡ files_asked front ++ (request.file ∷ [])
  pub held : HoldKept files front kept

-- so it was at a file of this name, which has this fault
pub record StopsWith {T : Type 0} (files : Files) (requests : List (Request T)) (loads : List (List ℕ)) (file : List ℕ) (fault : DocumentFault) : Type 0 where
  pub request : Request T
  pub stops : StopsAt files requests loads request
  pub named : file ≡ request.file
  pub lacks : Lacks files request fault

-- how reading ended: all files hold documents of which this is kept; one holds none; or memory is wanting, at a file or behind them all
abbrev pub EndsWith : {T : Type 0} → Files → List (Request T) → (loads : List (List ℕ)) → Result (List T) DocumentsError → Type 0
EndsWith files requests loads (Ok all) = HoldKept files requests all × (loads ≡ files_asked requests)
EndsWith files requests loads (Err (Failed name fault)) = StopsWith files requests loads (string_bytes name) fault
EndsWith {T} files requests loads (Err Memory) =
    ((request : Request T) × StopsAt files requests loads request) ⊎ ((all : List T) × HoldKept files requests all × (loads ≡ files_asked requests))

-- a file that cannot be read was loaded last, behind these, and the count of faults rose, in its load
pub record CannotRead (library : LibraryUse) (loads : List (List ℕ)) (file : List ℕ) : Type 0 where
  pub earlier : List (List ℕ)
  pub in_order : loads ≡ earlier ++ (file ∷ [])
  pub failed : LastLoadFailed library earlier file
  pub rose : LibraryFailed library

abbrev pub HasReadFault : {T : Type 0} → LibraryUse → (loads : List (List ℕ)) → Result (List T) DocumentsError → Type 0
HasReadFault library loads (Err (Failed name Unread)) = CannotRead library loads (string_bytes name)
HasReadFault library loads _ = Unit {0}

-- the file of this name is the last of the loads
abbrev pub IsLastLoad : (loads : List (List ℕ)) → (file : List ℕ) → Type 0
IsLastLoad loads file = (earlier : List (List ℕ)) × (loads ≡ earlier ++ (file ∷ []))

-- all files were loaded, or the last that was is the one that has the fault
abbrev pub LoadsUpTo : {T : Type 0} → List (Request T) → (loads : List (List ℕ)) → Result (List T) DocumentsError → Type 0
LoadsUpTo requests loads (Ok all) = loads ≡ files_asked requests
LoadsUpTo requests loads (Err (Failed name fault)) = IsLastLoad loads (string_bytes name)
LoadsUpTo requests loads (Err Memory) = Unit {0}

-- a rule of validity is broken only where one of the requests asks for it
abbrev pub OneBreaks : {T : Type 0} → List (Request T) → InvalidRule → (path : List ℕ) → Type 0
OneBreaks [] rule path = ⊥
OneBreaks (request ∷ others) rule path = Breaks request rule path ⊎ OneBreaks others rule path

abbrev pub IsAskedFor : {T : Type 0} → List (Request T) → Result (List T) DocumentsError → Type 0
IsAskedFor requests (Err (Failed name (Invalid rule path))) = OneBreaks requests rule path
IsAskedFor requests _ = Unit {0}

-- what is kept is of documents, one for each file
abbrev pub AreKeptOf : {T : Type 0} → List (Request T) → Result (List T) DocumentsError → Type 0
AreKeptOf requests (Ok all) = AreKept requests all
AreKeptOf requests (Err error) = Unit {0}

-- the files were loaded, each once and in order, up to the first of which nothing is kept, and this is kept of the documents
pub record ReadsFiles {T : Type 0} (library : LibraryUse) (requests : List (Request T)) (result : Result (List T) DocumentsError) : Type 0 where
  pub loads : List (List ℕ)
  pub loaded : LoadsOnly library loads
  pub first : (rest : List (List ℕ)) × (files_asked requests ≡ loads ++ rest)
  pub kept : AreKeptOf requests result
  pub told : IfSome (library.files library.before) (λ files. EndsWith files requests loads result)
  pub failed : HasReadFault library loads result
  pub up_to : LoadsUpTo requests loads result
  pub asked_for : IsAskedFor requests result

-- their trees
abbrev pub ReadDocuments : LibraryUse → SchemaSet → List Asked → Result Forest DocumentsError → Type 0
ReadDocuments library schemas asked result = ReadsFiles library (tree_requests schemas asked) result

-- the documents as they are written
abbrev pub ReadSources : LibraryUse → (names : List (List ℕ)) → Result (List Source) DocumentsError → Type 0
ReadSources library names result = ReadsFiles library (map source_request names) result

-- ---- file by file

-- the reading ended at the file of this request, whose load was the last one
abbrev pub EndsAt : {T : Type 0} → Option Files → Request T → (Rose : Type 0) → DocumentsError → Type 0
EndsAt told request Rose Memory = Unit {0}
EndsAt told request Rose (Failed name fault) = (string_bytes name ≡ request.file) × IfSome told (λ files. Lacks files request fault) × IsCaused request fault Rose

abbrev pub EndedAt : {T : Type 0} → Option Files → Request T → (Rose : Type 0) → Result (List T) DocumentsError → Type 0
EndedAt told request Rose (Ok all) = ⊥
EndedAt told request Rose (Err error) = EndsAt told request Rose error

-- what is kept of the document in a file that was read
pub record WasRead {T : Type 0} (told : Option Files) (request : Request T) (kept : T) : Type 0 where
  pub document : IsKept request kept
  pub held : IfSome told (λ files. HoldsKept files request kept)

-- the files are loaded in order and read behind what is kept so far, up to the first of which nothing is kept
abbrev pub ReadsFrom : {T Library : Type 0} → (told : Option Files) → (was_loaded : Library → List ℕ → Library → Type 0) → (faults : Library → ℕ)
    → List (Request T) → (kept : List T) → Result (List T) DocumentsError → (before after : Library) → Type 0
ReadsFrom told was_loaded faults [] kept (Ok all) before after = (all ≡ kept) × (after ≡ before)
ReadsFrom told was_loaded faults [] kept (Err error) before after = (error ≡ Memory) × (after ≡ before)
ReadsFrom {T} {Library} told was_loaded faults (request ∷ others) kept result before after =
    (between : Library) × was_loaded before request.file between × (faults before ≤ faults between)
    × (((next : T) × WasRead told request next × ReadsFrom told was_loaded faults others (kept ++ next ∷ []) result between after)
    ⊎ (EndedAt told request (Rose (faults before) (faults between)) result × (after ≡ between)))

-- the parts of reading a file

abbrev pub HasReason : List ℕ → DocumentFault → DocumentsError → Type 0
HasReason file fault (Failed name told) = (string_bytes name ≡ file) × (told ≡ fault)
HasReason file fault Memory = Unit {0}

abbrev pub TreeReason : {T : Type 0} → Option Files → Request T → (Rose : Type 0) → TreeError → Type 0
TreeReason told request Rose (tree.Fault fault) = IfSome told (λ files. Lacks files request fault) × IsCaused request fault Rose
TreeReason told request Rose tree.Memory = Unit {0}

-- a rule refuses the bytes, or the document that they hold
abbrev pub IsRefusedSo : {T : Type 0} → Request T → List ℕ → TreeError → Type 0
IsRefusedSo request bytes (tree.Fault (Refused rule place)) = IsDocumentRefusal bytes (xml.Refused place rule)
IsRefusedSo request bytes (tree.Fault (Invalid rule path)) =
    (root : SourceTree) × IsDocumentOf bytes root × (request.outcome root ≡ Err (record { rule = rule; path = path }))
IsRefusedSo request bytes (tree.Fault Unread) = ⊥
IsRefusedSo request bytes (tree.Fault TooLong) = ⊥
IsRefusedSo request bytes tree.Memory = Unit {0}

-- a document breaks a rule of validity, or memory is wanting
abbrev pub IsInvalidSo : {T : Type 0} → Result T Fault → TreeError → Type 0
IsInvalidSo outcome (tree.Fault (Invalid rule path)) = outcome ≡ Err (record { rule = rule; path = path })
IsInvalidSo outcome (tree.Fault _) = ⊥
IsInvalidSo outcome tree.Memory = Unit {0}
