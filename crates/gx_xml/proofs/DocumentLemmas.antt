-- How whole documents are read.
use Rattle.std.proofs.Common.{◌≡◌, ◌≢◌, ℕ, suc, ◌+◌, ◌-◌, Bool, true, false, List, [], ◌∷◌, length, length-append, take, min, inl, inr, refl, sym, ap, ◌∙◌, subst, arith, Result, Ok, Err, Option, Some, None}
use Rattle.gx_grammar.specs.Value.{nothing, pair, characters}
use Rattle.gx_grammar.specs.Grammar.{rule}
use Rattle.gx_grammar.specs.Reading.{State, Reading, Refusal, Unfit, Faulty, start, read_with, reads}
use Rattle.gx_grammar.specs.Levels.{IsNotTooDeep}
use Rattle.gx_grammar.specs.Ran.{Standing, Going, GaveUp, Lost, Ran, IsDone}
use Rattle.gx_grammar.specs.Text.{IsVerdict, with_rest, whole_only, IsUnfit, IsFaulty}
use Rattle.gx_grammar.specs.Opening.{OpensUpTo}
use Rattle.gx_grammar.specs.Places.{place_at}
use Rattle.gx_grammar.proofs.PublicLaws.{exact_text, never_too_deep}
use Rattle.gx_tree.specs.Binding.{outermost_scope}
use Rattle.gx_xml.specs.declared.runs.Run.TheVariants as run_of
use Rattle.gx_xml.specs.declared.marks.Maybe.TheVariants as maybe
use Rattle.gx_xml.specs.declared.marks.Mark.{Mark}
use Rattle.gx_xml.specs.declared.marks.Mark.TheVariants as mark
use Rattle.gx_xml.specs.declared.reader.End.{End}
use Rattle.gx_xml.specs.declared.reader.End.TheVariants as ended
use Rattle.gx_xml.specs.SourceTree.{SourceTree}
use Rattle.gx_xml.specs.Nodes.{Made, mark_value, rooted, earlier, mark_of}
use Rattle.gx_xml.specs.Marks.{is_misc}
use Rattle.gx_xml.specs.Tokens.{maybe_choice, maybe_run, prolog_mark}
use Rattle.gx_xml.specs.Grammar.{Phrase, on, spaced, past_declaration, past_misc, root_and_behind, behind_prolog, behind_epilog, behind_start, prolog, epilog, element, rules, whole_document, documents}
use Rattle.gx_xml.specs.declared.refusal.XmlRule.TheVariants as xml_rule
use Rattle.std.specs.Str.{chars, IsUtf8}
use Rattle.std.proofs.lemmas.Str.{encodes-chars, scalars-chars}
use Rattle.gx_xml.specs.declared.refusal.XmlRefusal.{XmlRefusal}
use Rattle.gx_xml.specs.declared.refusal.XmlRefusal.TheVariants.{Refused, Memory}
use Rattle.gx_xml.specs.Reading.{Encodes, IsDocument, IsDocumentRefusal, IsTextRefusal, IsRefusalOf, last_less}
use Rattle.gx_xml.proofs.DocumentLevels.{all_low, documents_levelled, documents_readable, takings}
use Rattle.gx_xml.specs.Standings.{Did, LedTo, WentPast, Chose, HasEndedWith, code_of_rule, reading, read_document_token}
use Rattle.gx_xml.proofs.Steps.{did_on, did_made, did_both, did_rule, did_empty, did_other}

pub no_misc : (m : Mark) (A : Phrase) (w : Made) (a b : Standing) → (m ≡ mark.Comment → ⊥) → (m ≡ mark.Instruction → ⊥) → Did w a b A → Did w a b (past_misc m A)
unfolding past_misc
no_misc mark.Comment A w a b n k h = absurd (n refl)
no_misc mark.Instruction A w a b n k h = absurd (k refl)
no_misc _ A w a b n k h = h

-- in front of the root
prolog_read : (m : Mark) (s : Bool) (w : Made) (a b c d : Standing) → Chose s spaced a b → Ran (mark_value m) b c (read_document_token prolog_mark) → Did w c d (behind_prolog m) → Did w a d (rule prolog)
unfolding rules
prolog_read m s w a b c d space h k = did_rule prolog w a d (space (λ x. on prolog_mark (λ v. behind_prolog (mark_of v))) w d (did_on prolog_mark _ (mark_value m) w b c d h k))

module _ (m : Mark) (s : Bool) (origin a b c : Standing) (so_far : LedTo (rule prolog) (rule prolog) origin a) (space : Chose s spaced a b) (read : Ran (mark_value m) b c (read_document_token prolog_mark)) where
  pub prolog_stops : IsDone c → LedTo (rule prolog) root_and_behind origin c
  prolog_stops done = λ w d h. so_far w d (prolog_read m s w a b c d space read (did_other root_and_behind (behind_prolog m) w c d done h))

  pub prolog_ends : is_misc m ≡ false → LedTo (rule prolog) root_and_behind origin c
  prolog_ends e = λ w d h. so_far w d (prolog_read m s w a b c d space read (rw e h))

  pub prolog_goes_on : (here : Standing) → is_misc m ≡ true → WentPast (past_misc m) c here → LedTo (rule prolog) (rule prolog) origin here
  prolog_goes_on here e past = λ w d h. so_far w d (prolog_read m s w a b c d space read (rw e (past (rule prolog) w d h)))

-- behind the root
epilog_read : (m : Mark) (s : Bool) (w : Made) (a b c d : Standing) → Chose s spaced a b → Ran (mark_value m) b c (read_document_token (maybe_choice maybe.Epilog)) → Did w c d (behind_epilog m) → Did w a d (rule epilog)
unfolding rules
epilog_read m s w a b c d space h k = did_rule epilog w a d (space (λ x. on (maybe_choice maybe.Epilog) (λ v. behind_epilog (mark_of v))) w d (did_on (maybe_choice maybe.Epilog) _ (mark_value m) w b c d h k))

module _ (m : Mark) (s : Bool) (origin a b c : Standing) (so_far : LedTo (rule epilog) (rule epilog) origin a) (space : Chose s spaced a b) (read : Ran (mark_value m) b c (read_document_token (maybe_choice maybe.Epilog))) where
  pub epilog_ends : is_misc m ≡ false → Did nothing origin c (rule epilog)
  epilog_ends e = so_far nothing c (epilog_read m s nothing a b c c space read (rw e (did_empty c)))

  pub epilog_goes_on : (here : Standing) → is_misc m ≡ true → WentPast (past_misc m) c here → LedTo (rule epilog) (rule epilog) origin here
  epilog_goes_on here e past = λ w d h. so_far w d (epilog_read m s w a b c d space read (rw e (past (rule epilog) w d h)))

-- the start
pub start_read : (x : List ℕ) (m : Mark) (w : Made) (a b c d : Standing) → Ran (characters x) a b (read_document_token (maybe_run run_of.ByteOrderMark 0)) → Ran (mark_value m) b c (read_document_token (maybe_choice maybe.DeclarationStart))
    → Did w c d (behind_start m) → Did w a d whole_document
unfolding whole_document
start_read x m w a b c d h k r = did_on (maybe_run run_of.ByteOrderMark 0) _ (characters x) w a b d h (did_on (maybe_choice maybe.DeclarationStart) _ (mark_value m) w b c d k r)

pub declared_start : (m : Mark) (here : Standing) (w : Made) (a b : Standing) → m ≡ mark.Declaration → WentPast past_declaration a here → Did w here b (rule prolog) → Did w a b (behind_start m)
unfolding behind_start
declared_start m here w a b e past h = rw e (past (rule prolog) w b h)

pub plain_start : (m : Mark) (w : Made) (a b : Standing) → (m ≡ mark.Declaration → ⊥) → Did w a b (rule prolog) → Did w a b (behind_start m)
unfolding behind_start
plain_start mark.Declaration w a b n h = absurd (n refl)
plain_start _ w a b n h = h

-- the whole
pub whole_read : (t : SourceTree) (a b c d e : Standing) → LedTo whole_document (rule prolog) a b → LedTo (rule prolog) root_and_behind b c → Did (rooted t) c d (rule (element 200 outermost_scope)) → Did nothing d e (rule epilog) → Did (rooted t) a e whole_document
unfolding root_and_behind
whole_read t a b c d e start before root behind =
    start (rooted t) e (before (rooted t) e (did_made (λ left v. earlier v) _ (pair (rooted t) nothing) c e (did_both (rule (element 200 outermost_scope)) (rule epilog) (rooted t) nothing c d e root behind)))

-- what the reading of a text says

rest_left : {A : Type 0} (v : A) (far : ℕ) (x : List ℕ) → x ≢ [] → with_rest v far x ≡ Err (Unfit far)
rest_left v far [] n = absurd (n refl)
rest_left v far (c ∷ x) n = refl

-- how a text is told of, where reading ended so
abbrev pub TextTold : List ℕ → SourceTree → Option End → Type 0
TextTold text t None = IsDocument text t
TextTold text t (Some (ended.Unfit far)) = IsUnfit documents whole_document text far
TextTold text t (Some (ended.Faulty r left)) = IsFaulty documents whole_document text (code_of_rule r) left

module _ (text : List ℕ) (t : SourceTree) where
  abbrev levels : ℕ
  levels = suc (length text)

  abbrev whole : State → Reading Made
  whole s = read_with documents (reads documents levels) whole_document s

  reaches : IsNotTooDeep (whole (start text))
  reaches = never_too_deep documents whole_document documents_readable takings documents_levelled 1 (all_low whole_document) levels text (omega arith)

  verdict_of : (r : Reading Made) (q : Result Made Refusal) → whole (start text) ≡ r → whole_only r ≡ q → IsVerdict documents whole_document text q
  verdict_of r q e f =
      subst (λ x. IsVerdict documents whole_document text x) (ap whole_only e ∙ f)
      (exact_text documents documents_readable.tokens documents_readable.productions whole_document documents_readable.top levels text reaches)

  judged : (c : Standing) (o : Option End) → Ran (rooted t) (Going (start text)) c whole → HasEndedWith o c → TextTold text t o
  judged (Going s) None h e = verdict_of (Ok (rooted t, s)) (Ok (rooted t)) h (ap (λ x. with_rest (rooted t) s.far x) e)
  judged (Going s) (Some (ended.Unfit far)) h e = verdict_of (Ok (rooted t, s)) (Err (Unfit far)) h (rest_left (rooted t) s.far s.rest e.0 ∙ ap (λ n. Err (Unfit n)) (sym e.1))
  judged (Going s) (Some (ended.Faulty r left)) h e = absurd e
  judged (GaveUp r) None h e = absurd e
  judged (GaveUp r) (Some (ended.Unfit far)) h e = verdict_of (Err r) (Err (Unfit far)) h (ap (λ x. Err x) e)
  judged (GaveUp r) (Some (ended.Faulty k left)) h e = verdict_of (Err r) (Err (Faulty (code_of_rule k) left)) h (ap (λ x. Err x) e)
  judged Lost None h e = absurd e
  judged Lost (Some (ended.Unfit far)) h e = absurd e
  judged Lost (Some (ended.Faulty k left)) h e = absurd e

  pub told : (a c : Standing) (o : Option End) → a ≡ Going (start text) → Did (rooted t) a c whole_document → HasEndedWith o c → TextTold text t o
  unfolding reading
  told a c o q did e =
      let did_here : Did (rooted t) (Going (start text)) c whole_document = subst (λ x. Did (rooted t) x c whole_document) q did in
      elim (did_here levels) [
        | inl r ↦ judged c o r e
        | inr deep ↦ let n : ⊥ = subst IsNotTooDeep deep reaches in absurd n
      ]

-- why a text is refused

left_within : (text : List ℕ) (left : ℕ) → OpensUpTo documents whole_document text left → min left (length text) ≡ left
left_within text left o = let n : length text ≡ length o.front + length o.rest = ap length o.whole ∙ length-append o.front o.rest in omega (arith, n, o.place)

pub refused : (text : List ℕ) (t : SourceTree) (end : End) (e : XmlRefusal) → TextTold text t (Some end) → IsRefusalOf text end e → IsTextRefusal text e
refused text t (ended.Unfit far) e h r =
    subst (IsTextRefusal text) (sym r) (record { far = far; unfit = h; at = ap (λ n. place_at text (length text - n)) (left_within text far h.longest.opens) })
refused text t (ended.Faulty xml_rule.NotUtf8 left) e h r = subst (IsTextRefusal text) (sym r) tt
refused text t (ended.Faulty xml_rule.Malformed left) e h r = subst (IsTextRefusal text) (sym r) tt
refused text t (ended.Faulty xml_rule.Doctype left) e h r =
    subst (IsTextRefusal text) (sym r) (record { left = left; fault = h; at = ap (λ n. place_at text (length text - n)) (left_within text left h.opens) })
refused text t (ended.Faulty xml_rule.UnboundPrefix left) e h r =
    subst (IsTextRefusal text) (sym r) (record { left = left; fault = h; at = ap (λ n. place_at text (last_less (take (length text - n) text))) (left_within text left h.opens) })
refused text t (ended.Faulty xml_rule.DuplicateAttribute left) e h r =
    subst (IsTextRefusal text) (sym r) (record { left = left; fault = h; at = ap (λ n. place_at text (last_less (take (length text - n) text))) (left_within text left h.opens) })
refused text t (ended.Faulty xml_rule.TooDeep left) e h r =
    subst (IsTextRefusal text) (sym r) (record { left = left; fault = h; at = ap (λ n. place_at text (last_less (take (length text - n) text))) (left_within text left h.opens) })

-- the characters that bytes spell
pub encodes_own : (text bytes : List ℕ) → IsUtf8 text → bytes ≡ text → Encodes bytes (chars text)
encodes_own text bytes u e = record { spelled = encodes-chars text u ∙ sym e; scalars = scalars-chars text u }

-- what refuses a text refuses the bytes that spell it
pub bytes_refused : (bytes text : List ℕ) → Encodes bytes text → (e : XmlRefusal) → IsTextRefusal text e → IsDocumentRefusal bytes e
bytes_refused bytes text e Memory h = tt
bytes_refused bytes text e (Refused place xml_rule.NotUtf8) h = absurd h
bytes_refused bytes text e (Refused place xml_rule.Malformed) h = (text, e, h)
bytes_refused bytes text e (Refused place xml_rule.Doctype) h = (text, e, h)
bytes_refused bytes text e (Refused place xml_rule.UnboundPrefix) h = (text, e, h)
bytes_refused bytes text e (Refused place xml_rule.DuplicateAttribute) h = (text, e, h)
bytes_refused bytes text e (Refused place xml_rule.TooDeep) h = (text, e, h)
