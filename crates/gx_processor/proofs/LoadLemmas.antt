-- The files that the steps load, and what the documents come to.
use Rattle.std.proofs.Common.{◌≡◌, ℕ, ◌≤◌, ◌<◌, Bool, true, false, List, [], ◌∷◌, ◌++◌, length, Option, Some, Result, Ok, Err, inl, inr, refl, sym, ◌∙◌, ap, subst, arith, nat_le, append_assoc}
use Rattle.std.specs.Bool.{MatchBool}
use Rattle.std.proofs.lemmas.Bool.{le-leb, leb-true}
use Rattle.std.proofs.lemmas.List.{append-nil}
use Rattle.gx_io.specs.Load.{file_of}
use Rattle.gx_xml.specs.declared.refusal.XmlRefusal.TheVariants.{Refused}
use Rattle.gx_xml.specs.Reading.{IsDocumentOf, IsDocumentRefusal}
use Rattle.gx_xml.specs.SourceTree.{SourceTree}
use Rattle.gx_xml.proofs.OneReading.{not_refused, one_document}
use Rattle.gx_validate.specs.Outcome.{Fault}
use Rattle.gx_documents.specs.declared.documents.DocumentFault.{DocumentFault}
use Rattle.gx_documents.specs.declared.documents.DocumentFault.TheVariants as faults
use Rattle.gx_documents.specs.Documents.{Files, Request, HoldsKept, HoldKept, IsHeld, DocumentsLoaded, files_asked}
use Rattle.gx_documents.specs.Reading.{Lacks, StopsAt, StopsWith}
use Rattle.gx_processor.specs.declared.status.Status.{Status}
use Rattle.gx_processor.specs.Answer.{Answer, refuses, AnswersRead, AnswersKept, AnswersLoaded, AnswersFiles}
use Rattle.gx_processor.specs.FaultLines.{long_document_line, document_line, invalid_line}
use Rattle.gx_processor.specs.Loading.{AreFirstOf}

-- ---- answers

module _ (told : Status) where
  short_read : (file bytes : List ℕ) (short : Bool) (Next : SourceTree → Answer → Type 0) (c a : Answer) → short ≡ true → AnswersRead told file bytes Next a → MatchBool short (AnswersRead told file bytes Next a) (a ≡ c)
  short_read file bytes short Next c a e h = subst (λ (s : Bool). MatchBool s (AnswersRead told file bytes Next a) (a ≡ c)) (sym e) h

  -- what follows from the root of a document that is asked for
  abbrev pub OfDocument : {T : Type 0} → Request T → (T → Answer → Type 0) → SourceTree → Answer → Type 0
  OfDocument request Next root a = AnswersKept told request.file (request.outcome root) Next a

  -- a document that is held
  held_answers : {T : Type 0} (files : Files) (request : Request T) (kept : T) (Next : T → Answer → Type 0) (a : Answer) → HoldsKept files request kept → Next kept a
      → AnswersLoaded told request.file (file_of files request.file) (OfDocument request Next) a
  held_answers {T} files request kept Next a h k =
      subst (λ (o : Option (List ℕ)). AnswersLoaded told request.file o (OfDocument request Next) a) (sym h.1.held)
      (short_read request.file h.1.bytes (nat_le (length h.1.bytes) 16777216) (OfDocument request Next) (refuses told (long_document_line request.file)) a (le-leb (length h.1.bytes) 16777216 h.1.within)
      (inl (h.0, h.1.reads, subst (λ (o : Result T Fault). AnswersKept told request.file o Next a) (sym h.2) k)))

  -- all documents are held
  pub kept_answer : {T : Type 0} (files : Files) (requests : List (Request T)) (kept before : List T) (Next : List T → Answer → Type 0) (a : Answer) → HoldKept files requests kept → Next (before ++ kept) a → AnswersFiles told files requests before Next a
  kept_answer {T} files [] [] before Next a h k = subst (λ (f : List T). Next f a) (append-nil before) k
  kept_answer files [] (t ∷ kept) before Next a h k = absurd h
  kept_answer files (request ∷ requests) [] before Next a h k = absurd h
  kept_answer {T} files (request ∷ requests) (t ∷ kept) before Next a h k =
      held_answers files request t (λ u next. AnswersFiles told files requests (before ++ u ∷ []) Next next) a h.0
      (kept_answer files requests kept (before ++ t ∷ []) Next a h.1 (subst (λ (f : List T). Next f a) (sym (append_assoc before (t ∷ []) kept)) k))

  -- the answer where nothing is kept of a file
  abbrev pub DocumentAnswer : List ℕ → DocumentFault → Answer → Type 0
  DocumentAnswer file faults.Unread a = ⊥
  DocumentAnswer file faults.TooLong a = a ≡ refuses told (long_document_line file)
  DocumentAnswer file (faults.Refused rule place) a = a ≡ refuses told (document_line rule file place)
  DocumentAnswer file (faults.Invalid rule path) a = a ≡ refuses told (invalid_line rule file path)

  long_read : (file bytes : List ℕ) (short : Bool) (Next : SourceTree → Answer → Type 0) (a : Answer) → (short ≡ true → ⊥) → a ≡ refuses told (long_document_line file)
      → MatchBool short (AnswersRead told file bytes Next a) (a ≡ refuses told (long_document_line file))
  long_read file bytes true Next a e h = absurd (e refl)
  long_read file bytes false Next a e h = h

  lacking_answers : {T : Type 0} (files : Files) (request : Request T) (fault : DocumentFault) (Next : T → Answer → Type 0) (a : Answer) → Lacks files request fault → DocumentAnswer request.file fault a
      → AnswersLoaded told request.file (file_of files request.file) (OfDocument request Next) a
  lacking_answers files request faults.Unread Next a l h = absurd h
  lacking_answers files request faults.TooLong Next a l h =
      subst (λ (o : Option (List ℕ)). AnswersLoaded told request.file o (OfDocument request Next) a) (sym l.1)
      (long_read request.file l.0 (nat_le (length l.0) 16777216) (OfDocument request Next) a (λ e. let short = leb-true (length l.0) 16777216 e in let long : 16777216 < length l.0 = l.2 in omega arith) h)
  lacking_answers files request (faults.Refused rule place) Next a l h =
      subst (λ (o : Option (List ℕ)). AnswersLoaded told request.file o (OfDocument request Next) a) (sym l.1)
      (short_read request.file l.0 (nat_le (length l.0) 16777216) (OfDocument request Next) (refuses told (long_document_line request.file)) a (le-leb (length l.0) 16777216 l.2) (inr (rule, place, l.3, h)))
  lacking_answers {T} files request (faults.Invalid rule path) Next a l h =
      subst (λ (o : Option (List ℕ)). AnswersLoaded told request.file o (OfDocument request Next) a) (sym l.1.held)
      (short_read request.file l.1.bytes (nat_le (length l.1.bytes) 16777216) (OfDocument request Next) (refuses told (long_document_line request.file)) a (le-leb (length l.1.bytes) 16777216 l.1.within)
      (inl (l.0, l.1.reads, subst (λ (o : Result T Fault). AnswersKept told request.file o Next a) (sym l.2) h)))

  -- the documents in front of it are held
  front_answers : {T : Type 0} (files : Files) (front behind : List (Request T)) (request : Request T) (kept before : List T) (Next : List T → Answer → Type 0) (a : Answer) → HoldKept files front kept
      → ((done : List T) → AnswersFiles told files (request ∷ behind) done Next a) → AnswersFiles told files (front ++ (request ∷ behind)) before Next a
  front_answers files [] behind request [] before Next a h k = k before
  front_answers files [] behind request (t ∷ kept) before Next a h k = absurd h
  front_answers files (first ∷ front) behind request [] before Next a h k = absurd h
  front_answers files (first ∷ front) behind request (t ∷ kept) before Next a h k =
      held_answers files first t (λ u next. AnswersFiles told files (front ++ (request ∷ behind)) (before ++ u ∷ []) Next next) a h.0 (front_answers files front behind request kept (before ++ t ∷ []) Next a h.1 k)

  pub stopped_answers : {T : Type 0} (files : Files) (requests : List (Request T)) (loads : List (List ℕ)) (file : List ℕ) (fault : DocumentFault) (Next : List T → Answer → Type 0) (a : Answer) → StopsWith files requests loads file fault
      → DocumentAnswer file fault a → AnswersFiles told files requests [] Next a
  stopped_answers {T} files requests loads file fault Next a s h =
      let at = s.stops in
      subst (λ (rs : List (Request T)). AnswersFiles told files rs [] Next a) (sym at.in_order)
      (front_answers files at.front at.behind s.request at.kept [] Next a at.held
      (λ done. lacking_answers files s.request fault (λ t next. AnswersFiles told files at.behind (done ++ t ∷ []) Next next) a s.lacks (subst (λ (f : List ℕ). DocumentAnswer f fault a) s.named h)))

-- ---- loads

same_bytes : (files : Files) (file : List ℕ) (bytes others : List ℕ) → file_of files file ≡ Some bytes → file_of files file ≡ Some others → bytes ≡ others
same_bytes files file bytes others e f = cc

kept_not_broken : {T : Type 0} (outcome : Result T Fault) (kept : T) (fault : Fault) → outcome ≡ Ok kept → outcome ≡ Err fault → ⊥
kept_not_broken outcome kept fault e f = absurd (cc)

-- of what lacks a document nothing is kept, where it can be read
lacks_all : {T : Type 0} (files : Files) (request : Request T) (fault : DocumentFault) → Lacks files request fault → (fault ≡ faults.Unread → ⊥) → IsHeld files request → ⊥
lacks_all files request faults.Unread l r h = r refl
lacks_all files request faults.TooLong l r (kept, (root, h, e)) =
    let same = same_bytes files request.file h.bytes l.0 h.held l.1 in
    let long : 16777216 < length l.0 = l.2 in
    let short : length h.bytes ≤ 16777216 = h.within in
    omega (arith, ap (λ (x : List ℕ). length x) same, long, short)
lacks_all files request (faults.Refused rule place) l r (kept, (root, h, e)) =
    not_refused h.bytes root rule place h.reads
    (subst (λ (x : List ℕ). IsDocumentRefusal x (Refused place rule)) (sym (same_bytes files request.file h.bytes l.0 h.held l.1)) l.3)
lacks_all files request (faults.Invalid rule path) l r (kept, (root, h, e)) =
    let same = same_bytes files request.file h.bytes l.1.bytes h.held l.1.held in
    let one = one_document l.1.bytes root l.0 (subst (λ (x : List ℕ). IsDocumentOf x root) same h.reads) l.1.reads in
    kept_not_broken (request.outcome l.0) kept (record { rule = rule; path = path }) (subst (λ (x : SourceTree). request.outcome x ≡ Ok kept) one e) l.2

module _ {T : Type 0} (files : Files) where
  -- all documents are loaded where all are held
  pub all_loaded : (requests : List (Request T)) (kept : List T) → HoldKept files requests kept → DocumentsLoaded files requests (files_asked requests)
  all_loaded [] kept h = refl
  all_loaded (request ∷ requests) [] h = absurd h
  all_loaded (request ∷ requests) (t ∷ kept) h = inl ((t, h.0), (files_asked requests, all_loaded requests kept h.1, refl))

  front_loaded : (front behind : List (Request T)) (request : Request T) (kept : List T) → HoldKept files front kept → (IsHeld files request → ⊥)
      → DocumentsLoaded files (front ++ (request ∷ behind)) (files_asked front ++ (request.file ∷ []))
  front_loaded [] behind request kept h none = inr (none, refl)
  front_loaded (first ∷ front) behind request [] h none = absurd h
  front_loaded (first ∷ front) behind request (t ∷ kept) h none =
      inl ((t, h.0), (files_asked front ++ (request.file ∷ []), front_loaded front behind request kept h.1 none, refl))

  -- those in front of one of which nothing is kept, and it
  pub stopped_loaded : (requests : List (Request T)) (loads : List (List ℕ)) (file : List ℕ) (fault : DocumentFault) → StopsWith files requests loads file fault → (fault ≡ faults.Unread → ⊥) → DocumentsLoaded files requests loads
  stopped_loaded requests loads file fault s r =
      let at = s.stops in
      subst (λ (rs : List (Request T)). DocumentsLoaded files rs loads) (sym at.in_order)
      (subst (λ (ns : List (List ℕ)). DocumentsLoaded files (at.front ++ (s.request ∷ at.behind)) ns) (sym at.loaded) (front_loaded at.front at.behind s.request at.kept at.held (lacks_all files s.request fault s.lacks r)))

  -- the documents in front of a file are held, so the steps load it
  reaches : (front behind : List (Request T)) (whole : List (List ℕ)) (request : Request T) (kept : List T) → HoldKept files front kept → DocumentsLoaded files (front ++ (request ∷ behind)) whole → AreFirstOf (files_asked front ++ (request.file ∷ [])) whole
  reaches [] behind whole request kept h (inl l) = (l.1.0, l.1.2)
  reaches [] behind whole request kept h (inr l) = ([], l.1)
  reaches (first ∷ front) behind whole request [] h l = absurd h
  reaches (first ∷ front) behind whole request (t ∷ kept) h (inl l) =
      let r = reaches front behind l.1.0 request kept h.1 l.1.1 in (r.0, l.1.2 ∙ ap (λ (ns : List (List ℕ)). first.file ∷ ns) r.1)
  reaches (first ∷ front) behind whole request (t ∷ kept) h (inr l) = absurd (l.0 (t, h.0))

  pub stopped_first : (requests : List (Request T)) (loads whole : List (List ℕ)) (request : Request T) → StopsAt files requests loads request → DocumentsLoaded files requests whole → AreFirstOf loads whole
  stopped_first requests loads whole request s l =
      subst (λ (ns : List (List ℕ)). AreFirstOf ns whole) (sym s.loaded)
      (reaches s.front s.behind whole request s.kept s.held (subst (λ (rs : List (Request T)). DocumentsLoaded files rs whole) s.in_order l))

  -- the steps load one list of documents
  pub one_load : (requests : List (Request T)) (a b : List (List ℕ)) → DocumentsLoaded files requests a → DocumentsLoaded files requests b → a ≡ b
  one_load [] a b h k = h ∙ sym k
  one_load (request ∷ requests) a b (inl h) (inl k) = h.1.2 ∙ ap (λ (ns : List (List ℕ)). request.file ∷ ns) (one_load requests h.1.0 k.1.0 h.1.1 k.1.1) ∙ sym k.1.2
  one_load (request ∷ requests) a b (inl h) (inr k) = absurd (k.0 h.0)
  one_load (request ∷ requests) a b (inr h) (inl k) = absurd (h.0 k.0)
  one_load (request ∷ requests) a b (inr h) (inr k) = h.1 ∙ sym k.1

pub whole_is_front : (a b : List (List ℕ)) → a ≡ b → AreFirstOf a b
whole_is_front a b e = ([], sym e ∙ sym (append-nil a))
