-- How the readings of two texts say what is answered.
use Rattle.std.proofs.Common.{◌≢◌, ℕ, List}
use Rattle.gx_types.specs.SchemaSet.{no_declarations}
use Rattle.gx_types.specs.SequenceType.{SequenceType}
use Rattle.gx_typetext.specs.TypeReading.{IsTypeText, IsTypeRefused}
use Rattle.gx_typetext.specs.declared.read.TypeRead.{TypeRead}
use Rattle.gx_typetext.specs.declared.read.TypeRead.TheVariants as read
use Rattle.gx_typetext.proofs.TypesRead.{refused_no_type}
use Rattle.gx_subtype.specs.declared.subtype.Side.TheVariants.{Left, Right}
use Rattle.gx_subtype.specs.declared.subtype.SubtypeError.{SubtypeError}
use Rattle.gx_subtype.specs.declared.subtype.SubtypeError.TheVariants.{NoType, Memory}
use Rattle.gx_subtype.specs.Comparison.{IsNoType, IsNoTypeOn, IsUnanswered}

pub no_type : (text : List ℕ) (e : TypeRead) → e ≢ read.Memory → IsTypeRefused no_declarations text e → IsNoType text
no_type text e n h t k = refused_no_type no_declarations text e t h n k

pub left_unanswered : (left right : List ℕ) (e : SubtypeError) → IsNoTypeOn Left left e → IsUnanswered left right e
left_unanswered left right (NoType Left) h = h.1
left_unanswered left right (NoType Right) h = cc
left_unanswered left right Memory h = tt

pub right_unanswered : (left right : List ℕ) (t : SequenceType) (e : SubtypeError) → IsTypeText no_declarations left t → IsNoTypeOn Right right e → IsUnanswered left right e
right_unanswered left right t (NoType Left) k h = cc
right_unanswered left right t (NoType Right) k h = (t, k, h.1)
right_unanswered left right t Memory k h = tt
