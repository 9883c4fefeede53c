-- How the import of files ends: in one way.
use Rattle.std.proofs.Common.{◌≡◌, ◌∙◌, ℕ, Bool, List, Option, None, refl, sym, ap, subst, arith}
use Rattle.gx_base.specs.declared.limits.TheConstants.{INCLUSION_PAIRS}
use Rattle.gx_types.specs.Derivation.{bases_of}
use Rattle.gx_types.specs.Grounded.{Grounded}
use Rattle.gx_types.specs.SchemaSet.{SchemaSet}
use Rattle.gx_types.specs.declared.shape.Shape.{Shape}
use Rattle.gx_xml.specs.declared.source.Source.{Source}
use Rattle.gx_schema_syntax.specs.DocumentTree.{DocumentTree}
use Rattle.gx_schema_syntax.specs.Profile.{outside_files}
use Rattle.gx_schema_content.specs.Laws.{ContentsAreBounded}
use Rattle.gx_schema_restriction.specs.declared.restrictions.Restrictions.{Restrictions}
use Rattle.gx_schema_restriction.specs.declared.restrictions.Restrictions.TheVariants.{Sound, Unsound, Undecided}
use Rattle.gx_schema_restriction.specs.Laws.{AJudgementExists, AreCountable, IsSameJudgement, JudgementsAreOne}
use Rattle.gx_schema.specs.declared.found.Found.{Found}
use Rattle.gx_schema.specs.declared.refusal.SchemaRefusal.{SchemaRefusal}
use Rattle.gx_schema.specs.declared.refusal.SchemaRule.TheVariants.{NotARestriction, NotInProfile}
use Rattle.gx_schema.specs.Found.{found_by_number, types_found}
use Rattle.gx_schema.specs.Import.{AreRestrictionsTold, Imported, IsImported, IsJudged, IsRefusalTold, IsRefusalWith, after_judgement, breaks, broken_at, declares, documents_judged, documents_of, read_in_files, unless_broken}
use Rattle.gx_schema.specs.Laws.{AnImportExists, ImportsAreOne, ImportsAreSchemaSets}
use Rattle.gx_schema.specs.RestrictedTypes.{restricted_types}
use Rattle.gx_schema.specs.SeenComponents.{seen_components}
use Rattle.gx_schema.proofs.CountableTypes.{written_are_countable}
use Rattle.gx_schema.proofs.EverythingRead.{everything_read}
use Rattle.gx_schema.proofs.NothingFound.{none_found, rest_told}
use Rattle.gx_schema.proofs.ReadDeclarations.{IsEverythingRead}
use Rattle.gx_schema.proofs.Refusals.{broken_is_told}
use Rattle.gx_schema.proofs.SchemaSets.{Laws, judged_are_schema_sets, written_where_judged}

-- ---- imports of files whose documents are judged

-- what is read in files is what is judged of their documents
read_where_judged : (files : List Source) → outside_files 0 files ≡ None → documents_judged (documents_of files) ≡ read_in_files files
read_where_judged files e = sym (ap (λ (found : Option (ℕ × List ℕ)). unless_broken NotInProfile found (documents_judged (documents_of files))) e)

pub imported_where_judged : (files : List Source) (documents : List DocumentTree) → outside_files 0 files ≡ None → documents ≡ documents_of files → (Of : (Imported → Type 0) → Type 0) →
    Of (IsJudged documents (documents_judged documents)) → Of (IsImported files)
unfolding IsImported
imported_where_judged files documents inside same Of h =
    subst (λ (read : Imported). Of (IsJudged (documents_of files) read)) (read_where_judged files inside)
    (subst (λ (d : List DocumentTree). Of (IsJudged d (documents_judged d))) same h)

pub outside_is_told : (files : List Source) (refusal : SchemaRefusal) → IsRefusalWith (read_in_files files) refusal → IsRefusalTold (IsImported files) refusal
unfolding IsImported
outside_is_told files refusal e = broken_is_told (documents_of files) (read_in_files files) refusal e

-- ---- what is declared was read

declared_after : (types : List Found) (read schemas : SchemaSet) (judgement : Restrictions) → after_judgement types read judgement ≡ declares schemas → declares read ≡ declares schemas
declared_after types read schemas Sound e = e
declared_after types read schemas (Unsound number list) e = absurd (cc)
declared_after types read schemas (Undecided number) e = absurd (cc)

pub declared_is_read : (documents : List DocumentTree) (read : Imported) (schemas : SchemaSet) → IsJudged documents read (declares schemas) → read ≡ declares schemas
declared_is_read documents (declares read) schemas h = declared_after (types_found 0 documents) read schemas h.0 (sym h.2)
declared_is_read documents (breaks rule file name list) schemas h = absurd (cc)

-- where files declare schemas, everything in them is read
read_within : (files : List Source) (schemas : SchemaSet) → read_in_files files ≡ declares schemas → IsEverythingRead (documents_of files)
read_within files schemas e = everything_read (documents_of files) (files, none_found NotInProfile (outside_files 0 files) (documents_judged (documents_of files)) schemas e, refl)

pub imports_are_schema_sets : Laws → ImportsAreSchemaSets
unfolding IsImported
imports_are_schema_sets laws files schemas h =
    let read = declared_is_read (documents_of files) (read_in_files files) schemas h in
    judged_are_schema_sets laws (documents_of files) schemas (read_within files schemas read) (rest_told NotInProfile (outside_files 0 files) (documents_judged (documents_of files)) schemas read)

-- ---- one import

same_after : (types : List Found) (schemas : SchemaSet) (one other : Restrictions) → IsSameJudgement one other → after_judgement types schemas one ≡ after_judgement types schemas other
same_after types schemas Sound Sound same = refl
same_after types schemas Sound (Unsound number list) same = absurd same
same_after types schemas Sound (Undecided number) same = absurd same
same_after types schemas (Unsound number list) Sound same = absurd same
same_after types schemas (Unsound number list) (Unsound other others) same =
    ap (λ (n : ℕ). broken_at NotARestriction (found_by_number types n) list.items) same.0 ∙ ap (λ (shapes : List Shape). broken_at NotARestriction (found_by_number types other) shapes) same.1
same_after types schemas (Unsound number list) (Undecided other) same = absurd same
same_after types schemas (Undecided number) Sound same = absurd same
same_after types schemas (Undecided number) (Unsound other list) same = absurd same
same_after types schemas (Undecided number) (Undecided other) same = ap (λ (n : ℕ). after_judgement types schemas (Undecided n)) same

told_once : JudgementsAreOne → (types : List Found) (schemas : SchemaSet) (restricted : List Bool) (one other : Imported) → AreRestrictionsTold types schemas restricted one →
    AreRestrictionsTold types schemas restricted other → one ≡ other
told_once one_judgement types schemas restricted one other h k =
    h.2 ∙ same_after types schemas h.0 k.0 (one_judgement schemas INCLUSION_PAIRS restricted h.0 k.0 h.1 k.1) ∙ sym k.2

judged_once : JudgementsAreOne → (documents : List DocumentTree) (read one other : Imported) → IsJudged documents read one → IsJudged documents read other → one ≡ other
judged_once one_judgement documents (declares schemas) one other h k =
    told_once one_judgement (types_found 0 documents) schemas (restricted_types (seen_components documents).types) one other h k
judged_once one_judgement documents (breaks rule file name list) one other h k = h ∙ sym k

pub imports_are_one : JudgementsAreOne → ImportsAreOne
unfolding IsImported
imports_are_one one_judgement files one other h k = judged_once one_judgement (documents_of files) (read_in_files files) one other h k

-- ---- an import

some_told : AJudgementExists → (types : List Found) (schemas : SchemaSet) (restricted : List Bool) → Grounded (bases_of schemas) → AreCountable schemas.types →
    (told : Imported) × AreRestrictionsTold types schemas restricted told
some_told some_judgement types schemas restricted grounded countable =
    let judged = some_judgement schemas INCLUSION_PAIRS restricted grounded countable (omega arith) in
    (after_judgement types schemas judged.0, (judged.0, judged.1, refl))

some_judged : AJudgementExists → (documents : List DocumentTree) (read : Imported) → ((schemas : SchemaSet) → read ≡ declares schemas → Grounded (bases_of schemas) × AreCountable schemas.types) →
    (told : Imported) × IsJudged documents read told
some_judged some_judgement documents (declares schemas) fits =
    let fit = fits schemas refl in
    some_told some_judgement (types_found 0 documents) schemas (restricted_types (seen_components documents).types) fit.0 fit.1
some_judged some_judgement documents (breaks rule file name list) fits = (breaks rule file name list, refl)

read_fits : Laws → ContentsAreBounded → (files : List Source) (schemas : SchemaSet) → read_in_files files ≡ declares schemas → Grounded (bases_of schemas) × AreCountable schemas.types
read_fits laws bounded files schemas e =
    let judged = rest_told NotInProfile (outside_files 0 files) (documents_judged (documents_of files)) schemas e in
    let read = read_within files schemas e in (
      (judged_are_schema_sets laws (documents_of files) schemas read judged).grounded,
      subst (λ (s : SchemaSet). AreCountable s.types) (sym (written_where_judged (documents_of files) schemas read judged)) (written_are_countable bounded (documents_of files)),
    )

pub an_import_exists : Laws → ContentsAreBounded → AJudgementExists → AnImportExists
unfolding IsImported
an_import_exists laws bounded some_judgement files =
    some_judged some_judgement (documents_of files) (read_in_files files) (read_fits laws bounded files)
