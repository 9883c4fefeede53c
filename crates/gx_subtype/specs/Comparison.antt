-- What is answered on two type texts.
use Rattle.std.specs.Prelude.{◌≡◌, ℕ, ◌⊎◌, List, ◌++◌, codes, Some}
use Rattle.std.specs.Str.{encode_utf8_all}
use Rattle.gx_base.specs.declared.limits.TheConstants.{INCLUSION_PAIRS}
use Rattle.gx_types.specs.SchemaSet.{no_declarations}
use Rattle.gx_types.specs.SequenceType.{SequenceType}
use Rattle.gx_typetext.specs.ShapeText.{shapes_text}
use Rattle.gx_typetext.specs.TypeReading.{IsTypeText}
use Rattle.gx_include.specs.Answer.{IsAnswer, ReachesTooManyPairs}
use Rattle.gx_include.specs.declared.verdict.Verdict.{Verdict}
use Rattle.gx_include.specs.declared.verdict.Verdict.TheVariants.{Yes, No}
use Rattle.gx_subtype.specs.declared.subtype.Side.{Side}
use Rattle.gx_subtype.specs.declared.subtype.Side.TheVariants.{Left, Right}
use Rattle.gx_subtype.specs.declared.subtype.SubtypeError.{SubtypeError}
use Rattle.gx_subtype.specs.declared.subtype.SubtypeError.TheVariants.{NoType, Memory}

-- the bytes of a verdict: a No has the list of shapes behind it
abbrev pub verdict_bytes : Verdict → List ℕ
verdict_bytes Yes = codes "yes"
verdict_bytes (No list) = codes "no: " ++ encode_utf8_all (shapes_text list.items)

-- what is answered on two types: the bytes of the verdict on them; or that more than 200,000 pairs are reached
abbrev pub IsAnswerOn : (lower upper : SequenceType) → List ℕ → Type 0
IsAnswerOn lower upper bytes =
    ((verdict : Verdict) × IsAnswer no_declarations lower upper (Some INCLUSION_PAIRS) verdict × (bytes ≡ verdict_bytes verdict))
    ⊎ (ReachesTooManyPairs no_declarations lower upper (Some INCLUSION_PAIRS) × (bytes ≡ codes "unknown"))

-- a text stands for no type
abbrev pub IsNoType : List ℕ → Type 0
IsNoType text = (t : SequenceType) → IsTypeText no_declarations text t → ⊥

-- the texts stand for types, and this is answered on them
pub record IsAnswerText (left right bytes : List ℕ) : Type 0 where
  pub lower : SequenceType
  pub upper : SequenceType
  pub left_is : IsTypeText no_declarations left lower
  pub right_is : IsTypeText no_declarations right upper
  pub answer : IsAnswerOn lower upper bytes

-- the text of this side stands for no type; want of memory says nothing
abbrev pub IsNoTypeOn : Side → List ℕ → SubtypeError → Type 0
IsNoTypeOn side text (NoType of) = (of ≡ side) × IsNoType text
IsNoTypeOn side text Memory = Unit {0}

-- the left text stands for no type; or it does, and the right one stands for none
abbrev pub IsUnanswered : (left right : List ℕ) → SubtypeError → Type 0
IsUnanswered left right (NoType Left) = IsNoType left
IsUnanswered left right (NoType Right) = (t : SequenceType) × IsTypeText no_declarations left t × IsNoType right
IsUnanswered left right Memory = Unit {0}

-- two texts have one answer
abbrev pub AnswerTextsAreOne : Type 0
AnswerTextsAreOne = (left right bytes others : List ℕ) → IsAnswerText left right bytes → IsAnswerText left right others → bytes ≡ others

-- of two texts the left one stands for no type, or the right one alone, or they have an answer
abbrev pub AnAnswerTextExists : Type 0
AnAnswerTextExists =
    (left right : List ℕ)
    → IsNoType left ⊎ (((t : SequenceType) × IsTypeText no_declarations left t × IsNoType right) ⊎ ((bytes : List ℕ) × IsAnswerText left right bytes))
