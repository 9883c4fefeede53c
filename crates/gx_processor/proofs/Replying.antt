-- What a reply says of the words.
use Rattle.std.proofs.Common.{◌≡◌, ℕ, List, inl, inr, Option, None, Some, IfSome, refl, sym, ap, subst, ◌∙◌, string_bytes}
use Rattle.std.specs.Str.{chars}
use Rattle.gx_processor.specs.declared.status.Status.TheVariants as status
use Rattle.gx_processor.specs.declared.reply.Reply.{Reply}
use Rattle.gx_processor.specs.declared.reply.Reply.TheVariants.{Output, Fault, Starved}
use Rattle.gx_processor.specs.Answer.{Answer, writes, refuses, AnswersTexts, AnswersWords, AnswersCommand, Answers}
use Rattle.gx_base.specs.declared.code.Code.TheVariants.{GLXS0001}
use Rattle.gx_documents.specs.declared.documents.DocumentFault.TheVariants as faults
use Rattle.gx_documents.specs.BindingView.{plain_fault}
use Rattle.gx_documents.specs.Documents.{Files}
use Rattle.gx_processor.specs.declared.status.Status.{Status}
use Rattle.gx_processor.specs.declared.refusal.Refusal.{Refusal}
use Rattle.gx_processor.specs.declared.refusal.Refusal.TheVariants as refusal
use Rattle.gx_processor.specs.Command.{Command, query_file, command_of, texts_to_compare, workload_asked, IsRunCommand}
use Rattle.gx_processor.specs.Replies.{RefusesSo, HasCause, RepliesSo, IsMisuse, IsWellFormed, IsUsageOrStarved, IsFaultOrStarved, IsReplyOf, IsQueryForm, IsQueryReply, IsComparison, IsWorkload}
use Rattle.gx_processor.specs.FaultLines.{read_fault_line, code_line, placed_line, binding_line, long_document_line, document_line, invalid_line, import_line}
use Rattle.gx_processor.proofs.AnswerLemmas.{no_texts, no_workload, workload_compares_not, asked_answer, same_parts}

-- what follows from an answer follows from a reply that says it
pub replies_through : (r : Reply) (P Q : Answer → Type 0) → ((a : Answer) → P a → Q a) → RepliesSo r P → RepliesSo r Q
replies_through (Output text) P Q f h = f _ h
replies_through (Fault status.Done line) P Q f h = f _ h
replies_through (Fault status.Usage line) P Q f h = f _ h
replies_through (Fault status.Query line) P Q f h = f _ h
replies_through (Fault status.Schema line) P Q f h = f _ h
replies_through (Fault status.Document line) P Q f h = f _ h
replies_through (Fault status.Dynamic line) P Q f h = f _ h
replies_through (Fault status.ReadFault line) P Q f h = tt
replies_through (Fault status.WriteFault line) P Q f h = f _ h
replies_through (Fault status.Memory line) P Q f h = f _ h
replies_through Starved P Q f h = tt

-- a reply to a command over a query
pub query_answered : (told : Option (Files)) (words : List (List ℕ)) (command : Command) (r : Reply) → command_of words ≡ Some command
    → IfSome told (λ files. RepliesSo r (AnswersCommand files (Some command))) → IfSome told (λ files. RepliesSo r (Answers words files))
query_answered None words command r e h = tt
query_answered (Some files) words command r e h = replies_through r (AnswersCommand files (Some command)) (Answers words files) (λ a k. asked_answer words files command a e k) h

pub query_formed : (words : List (List ℕ)) (command : Command) (r : Reply) → command_of words ≡ Some command → IsQueryReply command r → IsWellFormed words r
query_formed words command (Output text) e h = inl (command, e)
query_formed words command (Fault status.Done line) e h = absurd h
query_formed words command (Fault status.Usage line) e h = inr ((h.0.0, h.0.1, e ∙ ap Some h.0.2), h.1)
query_formed words command (Fault status.Query line) e h = ((command, e), h)
query_formed words command (Fault status.Schema line) e h = ((command, e), h)
query_formed words command (Fault status.Document line) e h = ((h.0.0, h.0.1, e ∙ ap Some h.0.2), h.1)
query_formed words command (Fault status.Dynamic line) e h = ((h.0.0, h.0.1, e ∙ ap Some h.0.2), h.1)
query_formed words command (Fault status.ReadFault line) e h = tt
query_formed words command (Fault status.WriteFault line) e h = absurd h
query_formed words command (Fault status.Memory line) e h = absurd h
query_formed words command Starved e h = tt

pub query_no_misuse : (words : List (List ℕ)) (command : Command) (line : List ℕ) (r : Reply) → command_of words ≡ Some command → IsMisuse words line → IsUsageOrStarved r
query_no_misuse words command line r e (inl m) = let none = m.0.0 in cc
query_no_misuse words command line r e (inr (left, right, f, h)) = let none = no_texts words command e in cc

-- a comparison of two texts
pub texts_answered : (told : Option (Files)) (words : List (List ℕ)) (left right : List ℕ) (r : Reply) → texts_to_compare words ≡ Some (left, right) → IsComparison (chars left) (chars right) r
    → IfSome told (λ files. RepliesSo r (Answers words files))
texts_answered None words left right r e h = tt
texts_answered (Some files) words left right (Output text) e h = subst (λ (o : Option (List ℕ × List ℕ)). AnswersWords files o (workload_asked words) (command_of words) (writes (string_bytes text))) (sym e) h
texts_answered (Some files) words left right (Fault status.Usage line) e h = subst (λ (o : Option (List ℕ × List ℕ)). AnswersWords files o (workload_asked words) (command_of words) (refuses status.Usage (string_bytes line))) (sym e) h.1
texts_answered (Some files) words left right (Fault status.Done line) e h = cc h.0
texts_answered (Some files) words left right (Fault status.Query line) e h = cc h.0
texts_answered (Some files) words left right (Fault status.Schema line) e h = cc h.0
texts_answered (Some files) words left right (Fault status.Document line) e h = cc h.0
texts_answered (Some files) words left right (Fault status.Dynamic line) e h = cc h.0
texts_answered (Some files) words left right (Fault status.ReadFault line) e h = tt
texts_answered (Some files) words left right (Fault status.WriteFault line) e h = cc h.0
texts_answered (Some files) words left right (Fault status.Memory line) e h = cc h.0
texts_answered (Some files) words left right Starved e h = tt

pub texts_formed : (words : List (List ℕ)) (left right : List ℕ) (r : Reply) → texts_to_compare words ≡ Some (left, right) → IsComparison (chars left) (chars right) r → IsWellFormed words r
texts_formed words left right (Output text) e h = inr (inl (left, right, e, h))
texts_formed words left right (Fault status.Usage line) e h = inl (inr (left, right, e, h.1))
texts_formed words left right (Fault status.Done line) e h = cc h.0
texts_formed words left right (Fault status.Query line) e h = cc h.0
texts_formed words left right (Fault status.Schema line) e h = cc h.0
texts_formed words left right (Fault status.Document line) e h = cc h.0
texts_formed words left right (Fault status.Dynamic line) e h = cc h.0
texts_formed words left right (Fault status.ReadFault line) e h = cc h.0
texts_formed words left right (Fault status.WriteFault line) e h = cc h.0
texts_formed words left right (Fault status.Memory line) e h = cc h.0
texts_formed words left right Starved e h = tt

-- words that compare texts name no command
no_command_of : (words : List (List ℕ)) (texts : List ℕ × List ℕ) (asked : Option Command) → command_of words ≡ asked → texts_to_compare words ≡ Some texts → asked ≡ None
no_command_of words texts None e f = refl
no_command_of words texts (Some command) e f = let none = no_texts words command e in cc

pub no_command : (words : List (List ℕ)) (texts : List ℕ × List ℕ) → texts_to_compare words ≡ Some texts → command_of words ≡ None
no_command words texts f = no_command_of words texts (command_of words) refl f

-- an output is given only where both texts stand for types
written_has_types : (left right bytes line : List ℕ) → AnswersTexts left right (writes bytes) → AnswersTexts left right (refuses status.Usage line) → ⊥
written_has_types left right bytes line (inl h) k = cc h.1
written_has_types left right bytes line (inr (inl h)) k = cc h.3
written_has_types left right bytes line (inr (inr h)) (inl k) = k.0 h.1.lower h.1.left_is
written_has_types left right bytes line (inr (inr h)) (inr (inl k)) = k.2 h.1.upper h.1.right_is
written_has_types left right bytes line (inr (inr h)) (inr (inr k)) = cc k.2

pub texts_misused : (words : List (List ℕ)) (left right line : List ℕ) (r : Reply) → texts_to_compare words ≡ Some (left, right) → IsComparison (chars left) (chars right) r → IsMisuse words line → IsUsageOrStarved r
texts_misused words left right line r e h (inl m) = let none = m.0.1 in cc
texts_misused words left right line (Output text) e h (inr (one, two, f, k)) =
    let same = same_parts (one, two) (left, right) (sym f ∙ e) in
    absurd (written_has_types (chars left) (chars right) (string_bytes text) line h
    (subst (λ (x : List ℕ). AnswersTexts (chars x) (chars right) (refuses status.Usage line)) same.0 (subst (λ (x : List ℕ). AnswersTexts (chars one) (chars x) (refuses status.Usage line)) same.1 k)))
texts_misused words left right line (Fault status.Usage told) e h (inr m) = tt
texts_misused words left right line (Fault status.Done told) e h (inr m) = cc h.0
texts_misused words left right line (Fault status.Query told) e h (inr m) = cc h.0
texts_misused words left right line (Fault status.Schema told) e h (inr m) = cc h.0
texts_misused words left right line (Fault status.Document told) e h (inr m) = cc h.0
texts_misused words left right line (Fault status.Dynamic told) e h (inr m) = cc h.0
texts_misused words left right line (Fault status.ReadFault told) e h (inr m) = cc h.0
texts_misused words left right line (Fault status.WriteFault told) e h (inr m) = cc h.0
texts_misused words left right line (Fault status.Memory told) e h (inr m) = cc h.0
texts_misused words left right line Starved e h (inr m) = tt

-- the workload
pub workload_answered : (told : Option (Files)) (words : List (List ℕ)) (items : ℕ) (r : Reply) → workload_asked words ≡ Some items → IsWorkload items r → IfSome told (λ files. RepliesSo r (Answers words files))
workload_answered None words items r e h = tt
workload_answered (Some files) words items (Output text) e h =
    subst (λ (o : Option (List ℕ × List ℕ)). AnswersWords files o (workload_asked words) (command_of words) (writes (string_bytes text))) (sym (workload_compares_not words items e))
    (subst (λ (o : Option ℕ). AnswersWords files None o (command_of words) (writes (string_bytes text))) (sym e) h)
workload_answered (Some files) words items (Fault told line) e h = absurd h
workload_answered (Some files) words items Starved e h = tt

pub workload_formed : (words : List (List ℕ)) (items : ℕ) (r : Reply) → workload_asked words ≡ Some items → IsWorkload items r → IsWellFormed words r
workload_formed words items (Output text) e h = inr (inr (items, e, h))
workload_formed words items (Fault told line) e h = absurd h
workload_formed words items Starved e h = tt

-- words that ask for the workload name no command over a query
no_query_of : (words : List (List ℕ)) (items : ℕ) (asked : Option Command) → command_of words ≡ asked → workload_asked words ≡ Some items → asked ≡ None
no_query_of words items None e f = refl
no_query_of words items (Some command) e f = let none = no_workload words command e in cc

pub workload_names_no_query : (words : List (List ℕ)) (items : ℕ) → workload_asked words ≡ Some items → command_of words ≡ None
workload_names_no_query words items f = no_query_of words items (command_of words) refl f

pub workload_misused : (words : List (List ℕ)) (items : ℕ) (line : List ℕ) (r : Reply) → workload_asked words ≡ Some items → IsMisuse words line → IsUsageOrStarved r
workload_misused words items line r e (inl m) = let none = m.0.2 in cc
workload_misused words items line r e (inr (left, right, f, h)) = let none = workload_compares_not words items e in cc

-- ---- a reply to a refusal

said : (told here : Status) (line text : List ℕ) (P : Answer → Type 0) → here ≡ told → text ≡ line → P (refuses told line) → P (refuses here text)
said told here line text P e f k = subst (λ (z : Status). P (refuses z text)) (sym e) (subst (λ (xs : List ℕ). P (refuses told xs)) (sym f) k)

fault_replies : (told : Status) (line : List ℕ) (r : Reply) (P : Answer → Type 0) → IsFaultOrStarved told line r → P (refuses told line) → RepliesSo r P
fault_replies told line (Output text) P h k = absurd h
fault_replies told line (Fault status.Done text) P h k = said told status.Done line (string_bytes text) P h.0 h.1 k
fault_replies told line (Fault status.Usage text) P h k = said told status.Usage line (string_bytes text) P h.0 h.1 k
fault_replies told line (Fault status.Query text) P h k = said told status.Query line (string_bytes text) P h.0 h.1 k
fault_replies told line (Fault status.Schema text) P h k = said told status.Schema line (string_bytes text) P h.0 h.1 k
fault_replies told line (Fault status.Document text) P h k = said told status.Document line (string_bytes text) P h.0 h.1 k
fault_replies told line (Fault status.Dynamic text) P h k = said told status.Dynamic line (string_bytes text) P h.0 h.1 k
fault_replies told line (Fault status.ReadFault text) P h k = tt
fault_replies told line (Fault status.WriteFault text) P h k = said told status.WriteFault line (string_bytes text) P h.0 h.1 k
fault_replies told line (Fault status.Memory text) P h k = said told status.Memory line (string_bytes text) P h.0 h.1 k
fault_replies told line Starved P h k = tt

unread_replies : (line : List ℕ) (r : Reply) (P : Answer → Type 0) → IsFaultOrStarved status.ReadFault line r → RepliesSo r P
unread_replies line (Output text) P h = absurd h
unread_replies line (Fault status.Done text) P h = cc h.0
unread_replies line (Fault status.Usage text) P h = cc h.0
unread_replies line (Fault status.Query text) P h = cc h.0
unread_replies line (Fault status.Schema text) P h = cc h.0
unread_replies line (Fault status.Document text) P h = cc h.0
unread_replies line (Fault status.Dynamic text) P h = cc h.0
unread_replies line (Fault status.ReadFault text) P h = tt
unread_replies line (Fault status.WriteFault text) P h = cc h.0
unread_replies line (Fault status.Memory text) P h = cc h.0
unread_replies line Starved P h = tt

refusal_replies : (file : List ℕ) (e : Refusal) (r : Reply) (P : Answer → Type 0) → IsReplyOf file e r → RefusesSo e P → RepliesSo r P
refusal_replies file refusal.ReadFault r P h k = unread_replies (read_fault_line file) r P h
refusal_replies file refusal.TooLong r P h k = fault_replies status.Query (code_line GLXS0001) r P h k
refusal_replies file (refusal.Query code place) r P h k = fault_replies status.Query (placed_line code place) r P h k
refusal_replies file (refusal.SchemaFile name faults.Unread) r P h k = unread_replies (read_fault_line (string_bytes name)) r P h
refusal_replies file (refusal.SchemaFile name faults.TooLong) r P h k = fault_replies status.Schema (long_document_line (string_bytes name)) r P h k
refusal_replies file (refusal.SchemaFile name (faults.Refused rule place)) r P h k = fault_replies status.Schema (document_line rule (string_bytes name) place) r P h k
refusal_replies file (refusal.SchemaFile name (faults.Invalid rule path)) r P h k = absurd k
refusal_replies file (refusal.Schema rule name construct) r P h k = fault_replies status.Schema (import_line rule (string_bytes name) construct) r P h k
refusal_replies file (refusal.Binding fault) r P h k = fault_replies status.Usage (binding_line (plain_fault fault)) r P h k
refusal_replies file (refusal.Document name faults.Unread) r P h k = unread_replies (read_fault_line (string_bytes name)) r P h
refusal_replies file (refusal.Document name faults.TooLong) r P h k = fault_replies status.Document (long_document_line (string_bytes name)) r P h k
refusal_replies file (refusal.Document name (faults.Refused rule place)) r P h k = fault_replies status.Document (document_line rule (string_bytes name) place) r P h k
refusal_replies file (refusal.Document name (faults.Invalid rule path)) r P h k = fault_replies status.Document (invalid_line rule (string_bytes name) path) r P h k
refusal_replies file (refusal.Dynamic code) r P h k = fault_replies status.Dynamic (code_line code) r P h k
refusal_replies file refusal.Memory r P h k = subst (λ (z : Reply). RepliesSo z P) (sym h) tt

pub refusal_answered : (told : Option Files) (file : List ℕ) (e : Refusal) (r : Reply) (P : Files → Answer → Type 0) → IsReplyOf file e r → IfSome told (λ files. RefusesSo e (P files)) → IfSome told (λ files. RepliesSo r (P files))
refusal_answered None file e r P h k = tt
refusal_answered (Some files) file e r P h k = refusal_replies file e r (P files) h k

-- the form of its line
fault_formed : (command : Command) (told : Status) (line : List ℕ) (r : Reply) → IsFaultOrStarved told line r → IsQueryForm command told line → IsQueryReply command r
fault_formed command told line (Output text) h k = absurd h
fault_formed command told line (Fault here text) h k =
    subst (λ (z : Status). IsQueryForm command z (string_bytes text)) (sym h.0) (subst (λ (xs : List ℕ). IsQueryForm command told xs) (sym h.1) k)
fault_formed command told line Starved h k = tt

pub refusal_formed : (command : Command) (e : Refusal) (r : Reply) → IsReplyOf (query_file command) e r → HasCause (IsRunCommand command) e → IsQueryReply command r
refusal_formed command refusal.ReadFault r h k = fault_formed command status.ReadFault (read_fault_line (query_file command)) r h tt
refusal_formed command refusal.TooLong r h k = fault_formed command status.Query (code_line GLXS0001) r h (inl refl)
refusal_formed command (refusal.Query code place) r h k = fault_formed command status.Query (placed_line code place) r h (inr (code, k, place, refl))
refusal_formed command (refusal.SchemaFile name faults.Unread) r h k = fault_formed command status.ReadFault (read_fault_line (string_bytes name)) r h tt
refusal_formed command (refusal.SchemaFile name faults.TooLong) r h k = fault_formed command status.Schema (long_document_line (string_bytes name)) r h (inl (string_bytes name, inl refl))
refusal_formed command (refusal.SchemaFile name (faults.Refused rule place)) r h k =
    fault_formed command status.Schema (document_line rule (string_bytes name) place) r h (inl (string_bytes name, inr (rule, place, refl)))
refusal_formed command (refusal.SchemaFile name (faults.Invalid rule path)) r h k = absurd k
refusal_formed command (refusal.Schema rule name construct) r h k =
    fault_formed command status.Schema (import_line rule (string_bytes name) construct) r h (inr (string_bytes name, (rule, construct, refl)))
refusal_formed command (refusal.Binding fault) r h k = fault_formed command status.Usage (binding_line (plain_fault fault)) r h (k, (plain_fault fault, refl))
refusal_formed command (refusal.Document name faults.Unread) r h k = fault_formed command status.ReadFault (read_fault_line (string_bytes name)) r h tt
refusal_formed command (refusal.Document name faults.TooLong) r h k = fault_formed command status.Document (long_document_line (string_bytes name)) r h (k, (string_bytes name, inl (inl refl)))
refusal_formed command (refusal.Document name (faults.Refused rule place)) r h k =
    fault_formed command status.Document (document_line rule (string_bytes name) place) r h (k, (string_bytes name, inl (inr (rule, place, refl))))
refusal_formed command (refusal.Document name (faults.Invalid rule path)) r h k =
    fault_formed command status.Document (invalid_line rule (string_bytes name) path) r h (k, (string_bytes name, inr (rule, path, refl)))
refusal_formed command (refusal.Dynamic code) r h k = fault_formed command status.Dynamic (code_line code) r h (k.0, (code, k.1, refl))
refusal_formed command refusal.Memory r h k = subst (λ (z : Reply). IsQueryReply command z) (sym h) tt
