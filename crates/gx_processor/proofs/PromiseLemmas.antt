-- The promises of the program, from the course that a run takes.
use Rattle.std.proofs.Common.{◌≡◌, ℕ, Bool, true, false, List, [], ◌∷◌, ◌++◌, ◌⊎◌, inl, inr, length, Option, Some, None, refl, sym, ◌∙◌, ap, subst, arith, nat_le}
use Rattle.std.specs.Bool.{MatchBool}
use Rattle.std.specs.Str.{chars}
use Rattle.gx_subtype.specs.Comparison.{IsAnswerText}
use Rattle.std.proofs.lemmas.List.{append-nil, take_all}
use Rattle.std.proofs.lemmas.Bool.{leb-true}
use Rattle.gx_base.specs.declared.code.Code.TheVariants.{GLXS0001}
use Rattle.gx_io.specs.LibraryUse.{LoadsOnly}
use Rattle.gx_io.specs.Put.{GrowsBy}
use Rattle.gx_io.specs.SinkUse.{SinkUse, IsUntouched, Grew, GrewByPrefix, SinkFailed, Took, TookPart}
use Rattle.gx_schema.specs.Laws.{ImportsAreOne}
use Rattle.gx_processor.specs.declared.status.Status.{Status}
use Rattle.gx_processor.specs.declared.status.Status.TheVariants.{Done, Usage, Query, Schema, Document, Dynamic, ReadFault, WriteFault, Memory}
use Rattle.gx_processor.specs.declared.reply.Reply.{Reply}
use Rattle.gx_processor.specs.declared.reply.Reply.TheVariants.{Output, Fault, Starved}
use Rattle.gx_processor.specs.Command.{Command, run_file, check_file, plan_file, command_of, texts_to_compare, AskOfQuery, AskToRun}
use Rattle.gx_processor.specs.FaultLines.{line, read_fault_line, write_fault_line, code_line}
use Rattle.gx_processor.specs.Answer.{Answer, writes, refuses, status_of, output_of, AnswersBytes, Answers, AreOneButForOutput, AreAlike}
use Rattle.gx_processor.specs.Ending.{Put, PutOutput, Ends}
use Rattle.gx_processor.specs.Replies.{HasForm, IsMisuse, IsMisbinding, TellsOf, TellsOfSchema, IsAsked, IsUsageOrStarved}
use Rattle.gx_processor.specs.Loading.{loads_behind, MayLoad}
use Rattle.gx_documents.specs.Documents.{Files}
use Rattle.gx_processor.specs.Run.{Run, WhereTold, IsFaultless, LoadsQuery}
use Rattle.gx_processor.specs.Promises.{IsCertain, IsCutShort, LeavesAnswer, IsAnswered, MayFollowOutput, PutsOutput, IsLineOf, of_write_fault, of_read_fault, of_refusal, PutsLine, OutputAfter, LineAfter, FailsToWrite, FailsToRead, IsTooLong, ComparesTexts, LeavesPart, LeavesOutput}
use Rattle.gx_processor.proofs.AnswerLemmas.{answers_are_alike, same_alike, answer_at, no_texts, workload_compares_not, same_parts}
use Rattle.gx_processor.proofs.Told.{told_so, told_always}
use Rattle.gx_processor.proofs.Course.{Loaded, Course, to_output, to_read_fault, to_refusal, to_no_memory}

-- growth by nothing, and by the whole
nothing_grows : (before : Option (List ℕ)) → GrowsBy before before []
nothing_grows None = refl
nothing_grows (Some bytes) = ap Some (sym (append-nil bytes))

untouched_grows : (sink : SinkUse) (bytes : List ℕ) → IsUntouched sink → GrewByPrefix sink bytes
untouched_grows sink bytes u =
    (0, omega arith, subst (λ (after : sink.Sink). GrowsBy (sink.written sink.before) (sink.written after) []) (sym u) (nothing_grows (sink.written sink.before)))

took_part : (sink : SinkUse) (bytes : List ℕ) → Took sink bytes → TookPart sink bytes
took_part sink bytes t =
    (t.0, (length bytes, omega arith, subst (λ (xs : List ℕ). Grew sink xs) (sym (take_all (length bytes) bytes (omega arith))) t.1))

put_part : (status : Status) (line : List ℕ) (result : Status) (sink : SinkUse) → Put status line result sink → TookPart sink line
put_part status line result sink (inl p) = took_part sink line p.1
put_part status line result sink (inr (inl p)) = p.1
put_part status line result sink (inr (inr p)) = p.1

output_part : (bytes : List ℕ) (result : Status) (out err : SinkUse) → PutOutput bytes result out err → TookPart out bytes
output_part bytes result out err (inl p) = took_part out bytes p.1
output_part bytes result out err (inr (inl p)) = p.1
output_part bytes result out err (inr (inr p)) = p.0

output_status : (bytes : List ℕ) (result : Status) (out err : SinkUse) → PutOutput bytes result out err → MayFollowOutput result
output_status bytes result out err (inl p) = inl p.0
output_status bytes result out err (inr (inl p)) = inr (inr p.0)
output_status bytes result out err (inr (inr (part, failed, inl p))) = inr (inl p.0)
output_status bytes result out err (inr (inr (part, failed, inr (inl p)))) = inr (inl p.0)
output_status bytes result out err (inr (inr (part, failed, inr (inr p)))) = inr (inr p.0)

-- a certain status is that of the answer
pub put_is_of_it : (status : Status) (line : List ℕ) (result : Status) (err : SinkUse) → IsCertain result → Put status line result err → (result ≡ status) × Took err line
put_is_of_it status line result err c (inl p) = p
put_is_of_it status line result err c (inr (inl p)) = absurd (subst IsCertain p.0 c)
put_is_of_it status line result err c (inr (inr p)) = absurd (subst IsCertain p.0 c)

output_answered : (run : Run) (files : Files) (bytes : List ℕ) → Answers run.words files (writes bytes) → PutOutput bytes run.status run.out run.err → IsCertain run.status → IsAnswered run files
output_answered run files bytes h (inl p) c = record { answer = writes bytes; answers = h; status = p.0; sinks = (p.1, p.2) }
output_answered run files bytes h (inr (inl p)) c = absurd (subst IsCertain p.0 c)
output_answered run files bytes h (inr (inr (part, failed, p))) c = absurd (subst IsCertain (put_is_of_it WriteFault write_fault_line run.status run.err c p).0 c)

refusal_answered : (run : Run) (files : Files) (status : Status) (line : List ℕ) → Answers run.words files (refuses status line) → IsUntouched run.out → Put status line run.status run.err → IsCertain run.status → IsAnswered run files
refusal_answered run files status line h u p c =
    let q = put_is_of_it status line run.status run.err c p in record { answer = refuses status line; answers = h; status = q.0; sinks = (u, q.1) }

pub answer_promised : (run : Run) → Course run → WhereTold run (λ files. IsCertain run.status → IsAnswered run files)
answer_promised run (to_output bytes asked a p) =
    told_so (run.library.files run.library.before) (λ files. Answers run.words files (writes bytes)) (λ files. IsCertain run.status → IsAnswered run files)
    (λ files h c. output_answered run files bytes h p c) a
answer_promised run (to_read_fault file f rose u p) =
    told_always (run.library.files run.library.before) (λ files. IsCertain run.status → IsAnswered run files)
    (λ files c. absurd (subst IsCertain (put_is_of_it ReadFault (read_fault_line file) run.status run.err c p).0 c))
answer_promised run (to_refusal status line form l a u p) =
    told_so (run.library.files run.library.before) (λ files. Answers run.words files (refuses status line)) (λ files. IsCertain run.status → IsAnswered run files)
    (λ files h c. refusal_answered run files status line h u p c) a
answer_promised run (to_no_memory m u v) =
    told_always (run.library.files run.library.before) (λ files. IsCertain run.status → IsAnswered run files) (λ files c. absurd (subst IsCertain m c))

-- the puts
puts_output : (run : Run) (bytes : List ℕ) → WhereTold run (λ files. Answers run.words files (writes bytes)) → PutOutput bytes run.status run.out run.err → PutsOutput run
puts_output run bytes a p = record {
  bytes = bytes;
  complete = a;
  put = output_part bytes run.status run.out run.err p;
  status = output_status bytes run.status run.out run.err p;
}

puts_line : (run : Run) (status : Status) (line : List ℕ) → IsLineOf run line → Put status line run.status run.err → PutsLine run
puts_line run status line cause p = record { line = line; cause = cause; put = put_part status line run.status run.err p }

pub output_put_promised : (run : Run) → Course run → IsUntouched run.out ⊎ PutsOutput run
output_put_promised run (to_output bytes asked a p) = inr (puts_output run bytes a p)
output_put_promised run (to_read_fault file f rose u p) = inl u
output_put_promised run (to_refusal status line form l a u p) = inl u
output_put_promised run (to_no_memory m u v) = inl u

pub line_put_promised : (run : Run) → Course run → IsUntouched run.err ⊎ PutsLine run
line_put_promised run (to_output bytes asked a (inl p)) = inl p.2
line_put_promised run (to_output bytes asked a (inr (inl p))) = inl p.2
line_put_promised run (to_output bytes asked a (inr (inr (part, failed, p)))) = inr (puts_line run WriteFault write_fault_line (of_write_fault failed refl) p)
line_put_promised run (to_read_fault file f rose u p) = inr (puts_line run ReadFault (read_fault_line file) (of_read_fault file f refl) p)
line_put_promised run (to_refusal status line form l a u p) = inr (puts_line run status line (of_refusal status form a) p)
line_put_promised run (to_no_memory m u v) = inl v

-- what holds of a status that a put of a line ends with
put_ends : (P : Status → Type 0) (status : Status) (line : List ℕ) (result : Status) (err : SinkUse) → (Took err line → P status) → (SinkFailed err → P WriteFault) → P Memory → Put status line result err → P result
put_ends P status line result err here failed starved (inl p) = subst P (sym p.0) (here p.1)
put_ends P status line result err here failed starved (inr (inl p)) = subst P (sym p.0) (failed p.2)
put_ends P status line result err here failed starved (inr (inr p)) = subst P (sym p.0) starved

-- the output after each status
form_output : (run : Run) (status : Status) (line : List ℕ) → HasForm run.words status line → IsUntouched run.out → OutputAfter status run
form_output run Usage line form u = u
form_output run Query line form u = u
form_output run Dynamic line form u = u
form_output run Done line form u = absurd form
form_output run Schema line form u = u
form_output run Document line form u = u
form_output run ReadFault line form u = absurd form
form_output run WriteFault line form u = absurd form
form_output run Memory line form u = absurd form

pub output_promised : (run : Run) → Course run → OutputAfter run.status run
output_promised run (to_output bytes asked a (inl p)) = subst (λ (s : Status). OutputAfter s run) (sym p.0) (bytes, p.1)
output_promised run (to_output bytes asked a (inr (inl p))) = subst (λ (s : Status). OutputAfter s run) (sym p.0) tt
output_promised run (to_output bytes asked a (inr (inr (part, failed, p)))) =
    put_ends (λ (s : Status). OutputAfter s run) WriteFault write_fault_line run.status run.err (λ _. inr failed) (λ _. inr failed) tt p
output_promised run (to_read_fault file f rose u p) =
    put_ends (λ (s : Status). OutputAfter s run) ReadFault (read_fault_line file) run.status run.err (λ _. u) (λ _. inl u) tt p
output_promised run (to_refusal status line form l a u p) =
    put_ends (λ (s : Status). OutputAfter s run) status line run.status run.err (λ _. form_output run status line form u) (λ _. inl u) tt p
output_promised run (to_no_memory m u v) = subst (λ (s : Status). OutputAfter s run) (sym m) tt

-- the file of the query was loaded first
query_behind : (run : Run) (names : List (List ℕ)) (command : Command) → command_of run.words ≡ Some command → LoadsOnly run.library names → MayLoad (Some command) names
    → (others : List (List ℕ)) × LoadsQuery run others × (loads_behind names ≡ others)
query_behind run names (check_file name) asked loaded may = (
  may.0,
  record { command = check_file name; asked = asked; loaded = subst (λ (ns : List (List ℕ)). LoadsOnly run.library ns) may.1 loaded },
  ap loads_behind may.1,
)
query_behind run names (plan_file name) asked loaded may = (
  may.0,
  record { command = plan_file name; asked = asked; loaded = subst (λ (ns : List (List ℕ)). LoadsOnly run.library ns) may.1 loaded },
  ap loads_behind may.1,
)
query_behind run names (run_file name bindings) asked loaded may = (
  may.0 ++ may.1,
  record { command = run_file name bindings; asked = asked; loaded = subst (λ (ns : List (List ℕ)). LoadsOnly run.library ns) may.2 loaded },
  ap loads_behind may.2,
)

query_loaded : (run : Run) (status : Status) (line : List ℕ) → AskOfQuery run.words → Loaded run status line → (others : List (List ℕ)) × LoadsQuery run others × TellsOf others status line
query_loaded run status line asked l =
    let q = query_behind run l.names asked.0 asked.1 l.loaded (subst (λ (o : Option Command). MayLoad o l.names) asked.1 l.may) in
    (q.0, q.1, subst (λ (ns : List (List ℕ)). TellsOf ns status line) q.2 l.tells)

-- and then a file of schemas, of which the line tells
some_loaded : (others : List (List ℕ)) (file : List ℕ) (front behind : List (List ℕ)) → others ≡ front ++ (file ∷ behind) → (first : List ℕ) × (rest : List (List ℕ)) × (others ≡ first ∷ rest)
some_loaded others file [] behind e = (file, behind, e)
some_loaded others file (first ∷ front) behind e = (first, front ++ (file ∷ behind), e)

schema_told : (others : List (List ℕ)) (line : List ℕ) → TellsOfSchema others line → (first : List ℕ) × (rest : List (List ℕ)) × (others ≡ first ∷ rest)
schema_told others line (file, inl t) = some_loaded others file t.0.0 [] t.0.1
schema_told others line (file, inr t) = some_loaded others file t.0.0 t.0.1 t.0.2

schema_loaded : (run : Run) (line : List ℕ) → AskOfQuery run.words → Loaded run Schema line → (file : List ℕ) × (others : List (List ℕ)) × LoadsQuery run (file ∷ others)
schema_loaded run line asked l =
    let q = query_loaded run Schema line asked l in
    let some = schema_told q.0 line q.2 in
    (some.0, some.1, subst (λ (ns : List (List ℕ)). LoadsQuery run ns) some.2 q.1)

-- a run is a command over a query
run_of_query : (words : List (List ℕ)) → AskToRun words → AskOfQuery words
run_of_query words h = (run_file h.0 h.1, h.2)

-- the line after each status
form_line : (run : Run) (status : Status) (line : List ℕ) → HasForm run.words status line → Loaded run status line → Took run.err line → LineAfter status run
form_line run Usage line form l t = (line, form, t)
form_line run Query line form l t = (line, form.1, t)
form_line run Dynamic line form l t = (form.1.0, form.1.1, subst (λ (xs : List ℕ). Took run.err xs) form.1.2 t)
form_line run Done line form l t = absurd form
form_line run Schema line form l t = let q = query_loaded run Schema line form.0 l in (q.0, q.1, line, q.2, t)
form_line run Document line form l t = let q = query_loaded run Document line (run_of_query run.words form.0) l in (q.0, q.1, line, q.2, t)
form_line run ReadFault line form l t = absurd form
form_line run WriteFault line form l t = absurd form
form_line run Memory line form l t = absurd form

pub line_promised : (run : Run) → Course run → LineAfter run.status run
line_promised run (to_output bytes asked a (inl p)) = subst (λ (s : Status). LineAfter s run) (sym p.0) p.2
line_promised run (to_output bytes asked a (inr (inl p))) = subst (λ (s : Status). LineAfter s run) (sym p.0) tt
line_promised run (to_output bytes asked a (inr (inr (part, failed, p)))) =
    put_ends (λ (s : Status). LineAfter s run) WriteFault write_fault_line run.status run.err (λ t. inl t) (λ lost. inr lost) tt p
line_promised run (to_read_fault file f rose u p) =
    put_ends (λ (s : Status). LineAfter s run) ReadFault (read_fault_line file) run.status run.err (λ t. (file, t)) (λ lost. inr lost) tt p
line_promised run (to_refusal status line form l a u p) =
    put_ends (λ (s : Status). LineAfter s run) status line run.status run.err (form_line run status line form l) (λ lost. inr lost) tt p
line_promised run (to_no_memory m u v) = subst (λ (s : Status). LineAfter s run) (sym m) tt

-- a part of the output
abbrev PartOfOutput : Run → Files → Type 0
PartOfOutput run files = (answer : Answer) → Answers run.words files answer → IsCutShort run.status → LeavesPart run files answer

untouched_is_part : (run : Run) → IsUntouched run.out → WhereTold run (PartOfOutput run)
untouched_is_part run u =
    told_always (run.library.files run.library.before) (PartOfOutput run)
    (λ files answer h cut. (record { other = answer; answers = h; alike = same_alike (command_of run.words) answer answer refl }, untouched_grows run.out (output_of answer) u))

pub part_promised : ImportsAreOne → (run : Run) → Course run → WhereTold run (PartOfOutput run)
part_promised single run (to_output bytes asked a p) =
    told_so (run.library.files run.library.before) (λ files. Answers run.words files (writes bytes)) (PartOfOutput run)
    (λ files h answer k cut.
    (record { other = writes bytes; answers = h; alike = answers_are_alike single run.words files (writes bytes) answer h k }, (output_part bytes run.status run.out run.err p).1)) a
part_promised single run (to_read_fault file f rose u p) = untouched_is_part run u
part_promised single run (to_refusal status line form l a u p) = untouched_is_part run u
part_promised single run (to_no_memory m u v) = untouched_is_part run u

-- the cause of each status
abbrev pub CauseOf : Run → Status → Type 0
CauseOf run Usage = (line : List ℕ) × (IsMisuse run.words line ⊎ IsMisbinding run.words line)
CauseOf run Query = (others : List (List ℕ)) × LoadsQuery run others
CauseOf run Schema = (file : List ℕ) × (others : List (List ℕ)) × LoadsQuery run (file ∷ others)
CauseOf run Document = AskToRun run.words
CauseOf run Dynamic = AskToRun run.words
CauseOf run ReadFault = FailsToRead run
CauseOf run WriteFault = FailsToWrite run
CauseOf run _ = Unit {0}

form_cause : (run : Run) (status : Status) (line : List ℕ) → HasForm run.words status line → Loaded run status line → CauseOf run status
form_cause run Usage line form l = (line, form)
form_cause run Query line form l = let q = query_loaded run Query line form.0 l in (q.0, q.1)
form_cause run Dynamic line form l = form.0
form_cause run Done line form l = absurd form
form_cause run Schema line form l = schema_loaded run line form.0 l
form_cause run Document line form l = form.0
form_cause run ReadFault line form l = absurd form
form_cause run WriteFault line form l = absurd form
form_cause run Memory line form l = absurd form

pub cause_promised : (run : Run) → Course run → CauseOf run run.status
cause_promised run (to_output bytes asked a (inl p)) = subst (CauseOf run) (sym p.0) tt
cause_promised run (to_output bytes asked a (inr (inl p))) = subst (CauseOf run) (sym p.0) tt
cause_promised run (to_output bytes asked a (inr (inr (part, failed, p)))) =
    let fails : FailsToWrite run = inl (puts_output run bytes a (inr (inr (part, failed, p))), failed) in
    put_ends (CauseOf run) WriteFault write_fault_line run.status run.err (λ _. fails) (λ _. fails) tt p
cause_promised run (to_read_fault file f rose u p) =
    put_ends (CauseOf run) ReadFault (read_fault_line file) run.status run.err (λ t. (file, f, t))
    (λ lost. inr (puts_line run ReadFault (read_fault_line file) (of_read_fault file f refl) p, lost)) tt p
cause_promised run (to_refusal status line form l a u p) =
    put_ends (CauseOf run) status line run.status run.err (λ _. form_cause run status line form l)
    (λ lost. inr (puts_line run status line (of_refusal status form a) p, lost)) tt p
cause_promised run (to_no_memory m u v) = subst (CauseOf run) (sym m) tt

-- words that name no command
usage_or_cut : (line : List ℕ) (result : Status) (err : SinkUse) → Put Usage line result err → (result ≡ Usage) ⊎ IsCutShort result
usage_or_cut line result err (inl p) = inl p.0
usage_or_cut line result err (inr (inl p)) = inr (inl p.0)
usage_or_cut line result err (inr (inr p)) = inr (inr p.0)

pub usage_promised : (reply : Reply) (result : Status) (out err : SinkUse) → IsUsageOrStarved reply → Ends reply result out err → (result ≡ Usage) ⊎ IsCutShort result
usage_promised (Output text) result out err u e = absurd u
usage_promised (Fault Usage line) result out err u e = usage_or_cut _ result err e.1
usage_promised (Fault _ line) result out err u e = absurd u
usage_promised Starved result out err u e = inr (inr e.0)

-- a file that is too long
long_answer : (files : Files) (command : Command) (short : Bool) (bytes : List ℕ) (a b : Answer) → (short ≡ true → ⊥) → MatchBool short (AnswersBytes files command bytes a) (a ≡ b) → a ≡ b
long_answer files command true bytes a b e m = absurd (e refl)
long_answer files command false bytes a b e m = m

pub too_long_refused : (run : Run) (files : Files) → IsAnswered run files → IsTooLong run.words files → (run.status ≡ Query) × Took run.err (code_line GLXS0001)
too_long_refused run files answered long =
    let at = answer_at run.words files long.command long.bytes answered.answer long.asked long.held answered.answers in
    let is = long_answer files long.command (nat_le (length long.bytes) 16777216) long.bytes answered.answer (refuses Query (code_line GLXS0001)) (λ e. let short = leb-true (length long.bytes) 16777216 e in omega (arith, short, long.long)) at in
    (answered.status ∙ ap status_of is, (subst (λ (b : Answer). LeavesAnswer b run) is answered.sinks).1)

-- without faults a run ends with the answer, or finds no memory
abbrev CertainOrStarved : Status → Type 0
CertainOrStarved status = IsCertain status ⊎ (status ≡ Memory)

form_certain : (words : List (List ℕ)) (status : Status) (line : List ℕ) → HasForm words status line → IsCertain status
form_certain words Usage line form = tt
form_certain words Query line form = tt
form_certain words Dynamic line form = tt
form_certain words Done line form = absurd form
form_certain words Schema line form = tt
form_certain words Document line form = tt
form_certain words ReadFault line form = absurd form
form_certain words WriteFault line form = absurd form
form_certain words Memory line form = absurd form

faultless_is_certain : (run : Run) → Course run → IsFaultless run → CertainOrStarved run.status
faultless_is_certain run (to_output bytes asked a (inl p)) f = inl (subst IsCertain (sym p.0) tt)
faultless_is_certain run (to_output bytes asked a (inr (inl p))) f = inr p.0
faultless_is_certain run (to_output bytes asked a (inr (inr p))) f = absurd (f.out p.1)
faultless_is_certain run (to_read_fault file g rose u p) f = absurd (f.library rose)
faultless_is_certain run (to_refusal status line form l a u (inl p)) f = inl (subst IsCertain (sym p.0) (form_certain run.words status line form))
faultless_is_certain run (to_refusal status line form l a u (inr (inl p))) f = absurd (f.err p.2)
faultless_is_certain run (to_refusal status line form l a u (inr (inr p))) f = inr p.0
faultless_is_certain run (to_no_memory m u v) f = inr m

abbrev pub AnsweredOrStarved : Run → Files → Type 0
AnsweredOrStarved run files = IsAnswered run files ⊎ (run.status ≡ Memory)

pub faultless_answered : (run : Run) → Course run → (files : Files) → (IsCertain run.status → IsAnswered run files) → IsFaultless run → AnsweredOrStarved run files
faultless_answered run course files answered f = elim (faultless_is_certain run course f) [ inl c ↦ inl (answered c) | inr m ↦ inr m ]

-- an answer that is alike to an output is an output
output_or_not : (a : Answer) (bytes : List ℕ) → AreOneButForOutput a (writes bytes) → a ≡ writes (output_of a)
output_or_not (writes others) bytes h = refl
output_or_not (refuses status line) bytes h = cc h

output_itself : (a : Answer) (bytes : List ℕ) → a ≡ writes bytes → a ≡ writes (output_of a)
output_itself a bytes e = e ∙ sym (ap (λ (x : Answer). writes (output_of x)) e)

output_alike : (asked : Option Command) (a : Answer) (bytes : List ℕ) → AreAlike asked a (writes bytes) → a ≡ writes (output_of a)
output_alike None a bytes h = output_itself a bytes h
output_alike (Some (run_file name bindings)) a bytes h = output_itself a bytes h
output_alike (Some (check_file name)) a bytes h = output_itself a bytes h
output_alike (Some (plan_file name)) a bytes h = output_or_not a bytes h

pub complete_at : ImportsAreOne → (run : Run) (files : Files) (bytes : List ℕ) → Answers run.words files (writes bytes) → AnsweredOrStarved run files → ((run.status ≡ Done) × LeavesOutput run files (writes bytes)) ⊎ (run.status ≡ Memory)
complete_at single run files bytes h (inr m) = inr m
complete_at single run files bytes h (inl answered) =
    let alike = answers_are_alike single run.words files answered.answer (writes bytes) answered.answers h in
    let is = output_alike (command_of run.words) answered.answer bytes alike in
    inl (
      answered.status ∙ ap status_of is,
      (record { other = answered.answer; answers = answered.answers; alike = alike }, (subst (λ (b : Answer). LeavesAnswer b run) is answered.sinks).0),
    )

-- a status other than Done
abbrev NotDone : Status → Type 0
NotDone status = status ≡ Done → ⊥

form_not_done : (words : List (List ℕ)) (status : Status) (line : List ℕ) → HasForm words status line → NotDone status
form_not_done words Usage line form e = cc
form_not_done words Query line form e = cc
form_not_done words Dynamic line form e = cc
form_not_done words Done line form e = form
form_not_done words Schema line form e = cc
form_not_done words Document line form e = cc
form_not_done words ReadFault line form e = cc
form_not_done words WriteFault line form e = cc
form_not_done words Memory line form e = cc

-- what a comparison writes
texts_written : (words : List (List ℕ)) (left right bytes : List ℕ) → texts_to_compare words ≡ Some (left, right) → IsAsked words bytes → (answer : List ℕ) × IsAnswerText (chars left) (chars right) answer × (bytes ≡ line answer)
texts_written words left right bytes e (inl q) = let none = no_texts words q.0 q.1 in cc
texts_written words left right bytes e (inr (inr q)) = let none = workload_compares_not words q.0 q.1 in cc
texts_written words left right bytes e (inr (inl (one, two, f, inl h))) = cc h.1
texts_written words left right bytes e (inr (inl (one, two, f, inr (inl h)))) = cc h.3
texts_written words left right bytes e (inr (inl (one, two, f, inr (inr h)))) =
    let same = same_parts (one, two) (left, right) (sym f ∙ e) in
    (h.0, subst (λ (x : List ℕ). IsAnswerText (chars x) (chars right) h.0) same.0 (subst (λ (x : List ℕ). IsAnswerText (chars one) (chars x) h.0) same.1 h.1), ap output_of h.2)

pub compared_promised : (run : Run) → Course run → ComparesTexts run
compared_promised run (to_output bytes asked a (inl p)) left right e done =
    let w = texts_written run.words left right bytes e asked in
    (w.0, w.1, subst (λ (xs : List ℕ). Took run.out xs) w.2 p.1)
compared_promised run (to_output bytes asked a (inr (inl p))) left right e done = cc p.0
compared_promised run (to_output bytes asked a (inr (inr (part, failed, p)))) left right e done = absurd (put_ends NotDone WriteFault write_fault_line run.status run.err (λ _ e. cc) (λ _ e. cc) (λ e. cc) p done)
compared_promised run (to_read_fault file f rose u p) left right e done = absurd (put_ends NotDone ReadFault (read_fault_line file) run.status run.err (λ _ e. cc) (λ _ e. cc) (λ e. cc) p done)
compared_promised run (to_refusal status line form l a u p) left right e done = absurd (put_ends NotDone status line run.status run.err (λ _. form_not_done run.words status line form) (λ _ e. cc) (λ e. cc) p done)
compared_promised run (to_no_memory m u v) left right e done = cc
