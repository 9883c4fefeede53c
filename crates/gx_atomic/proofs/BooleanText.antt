-- A text that is cast to xs:boolean gives a boolean, or FORG0001.
use Rattle.std.proofs.Common.{ℕ, Bool, true, false, cond, ◌||◌, codes, List, Result, Ok, Err}
use Rattle.gx_base.specs.Text.{same_text}
use Rattle.gx_base.specs.declared.type_name.Builtin.TheVariants as types
use Rattle.gx_facets.specs.declared.AtomValue.{AtomValue}
use Rattle.gx_facets.specs.declared.AtomValue.TheVariants.{Truth}
use Rattle.gx_facets.specs.declared.ValueRead.TheVariants as reads
use Rattle.gx_facets.specs.Value.{lexical_form}
use Rattle.gx_atomic.specs.declared.casting.CastError.{CastError}
use Rattle.gx_atomic.specs.declared.casting.CastError.TheVariants.{FORG0001}
use Rattle.gx_atomic.specs.Cast.{with_fault, read_at}

module _ (P : Result AtomValue CastError → Type 0) (value : (b : Bool) → P (Ok (Truth b))) (fault : P (Err FORG0001)) where
  by_words : (p q : Bool) → P (with_fault types.Boolean (cond p (Ok (Truth true)) (cond q (Ok (Truth false)) (Err reads.NotLexical))))
  by_words true q = value true
  by_words false true = value false
  by_words false false = fault

  pub by_boolean : (text : List ℕ) → P (read_at types.Boolean text)
  by_boolean text =
      let form = lexical_form text in
      by_words (same_text form (codes "true") || same_text form (codes "1")) (same_text form (codes "false") || same_text form (codes "0"))
