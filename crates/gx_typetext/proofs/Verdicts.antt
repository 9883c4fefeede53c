-- What a text reads as says all of it.
use Rattle.std.proofs.Common.{◌≡◌, ◌≢◌, ℕ, suc, List, [], ◌∷◌, length, sym, refl, ap, subst, ◌∙◌, Option, Some, None, Result, Ok, Err, arith}
use Rattle.gx_grammar.specs.Value.{nothing, pair}
use Rattle.gx_grammar.specs.Grammar.{token, rule}
use Rattle.gx_grammar.specs.Levels.{IsNotTooDeep}
use Rattle.gx_grammar.specs.Reading.{State, Reading, Refusal, Unfit, start, read_with, reads}
use Rattle.gx_grammar.specs.Ran.{Standing, Going, GaveUp, Lost, Ran}
use Rattle.gx_grammar.specs.Text.{IsVerdict, with_rest, whole_only}
use Rattle.gx_grammar.proofs.PublicLaws.{exact_text, never_too_deep, ran_both}
use Rattle.gx_typetext.specs.declared.reader.End.{End}
use Rattle.gx_typetext.specs.declared.reader.End.TheVariants as ended
use Rattle.gx_typetext.specs.declared.pieces.PiecesError.{PiecesError}
use Rattle.gx_typetext.specs.declared.written.Piece.{Piece}
use Rattle.gx_typetext.specs.Nodes.{Made, pieces}
use Rattle.gx_typetext.specs.Tokens.{gap}
use Rattle.gx_typetext.specs.Grammar.{operand, type_phrase, type_texts, fronts}
use Rattle.gx_typetext.specs.Pieces.{Finished, PiecesAre, error_of}
use Rattle.gx_typetext.specs.Standings.{HasEndedAs, read_type_token}
use Rattle.gx_typetext.specs.Verdicts.{read_pieces}
use Rattle.gx_typetext.proofs.Phrases.{one}
use Rattle.gx_typetext.proofs.TypeSorted.{types_readable, types_levelled, all_low}

pub verdict : (text : List ℕ) → IsVerdict type_texts type_phrase text (read_pieces text)
unfolding read_pieces
verdict text =
    exact_text type_texts types_readable.tokens types_readable.productions type_phrase types_readable.top (suc (length text)) text
    (never_too_deep type_texts type_phrase types_readable fronts.takings types_levelled 1 (all_low type_phrase) (suc (length text)) text (omega arith))

rest_left : {A : Type 0} (v : A) (far : ℕ) (x : List ℕ) → x ≢ [] → with_rest v far x ≡ Err (Unfit far)
rest_left v far [] n = absurd (n refl)
rest_left v far (c ∷ x) n = refl

-- what an outcome says of a text with these pieces
abbrev pub Told : List ℕ → List Piece → Option End → Type 0
Told text items None = IsVerdict type_texts type_phrase text (Ok (pair nothing (pieces items)))
Told text items (Some (ended.Unfit far)) = IsVerdict type_texts type_phrase text (Err (Unfit far))
Told text items (Some ended.Lost) = Unit {0}

module _ (text : List ℕ) (items : List Piece) (m : ℕ) where
  abbrev reading : State → Reading Made
  reading s = read_with type_texts (reads type_texts m) type_phrase s

  abbrev whole : Made
  whole = pair nothing (pieces items)

  verdict_of : (r : Reading Made) (q : Result Made Refusal) → reading (start text) ≡ r → IsNotTooDeep r → whole_only r ≡ q → IsVerdict type_texts type_phrase text q
  verdict_of r q e d f =
      subst (λ x. IsVerdict type_texts type_phrase text x) (ap whole_only e ∙ f)
      (exact_text type_texts types_readable.tokens types_readable.productions type_phrase types_readable.top m text (subst IsNotTooDeep (sym e) d))

  judged : (c : Standing) (o : Option End) → Ran whole (Going (start text)) c reading → HasEndedAs o c → Told text items o
  judged (Going t) None h e = verdict_of (Ok (whole, t)) (Ok whole) h tt (ap (λ x. with_rest whole t.far x) e)
  judged (Going t) (Some (ended.Unfit far)) h e = verdict_of (Ok (whole, t)) (Err (Unfit far)) h tt (rest_left whole t.far t.rest e.0 ∙ ap (λ n. Err (Unfit n)) (sym e.1))
  judged (Going t) (Some ended.Lost) h e = tt
  judged (GaveUp r) None h e = absurd e
  judged (GaveUp r) (Some (ended.Unfit far)) h e = verdict_of (Err (Unfit far)) (Err (Unfit far)) (h ∙ ap (λ x. Err x) e) tt refl
  judged (GaveUp r) (Some ended.Lost) h e = tt
  judged Lost None h e = absurd e
  judged Lost (Some (ended.Unfit far)) h e = absurd e
  judged Lost (Some ended.Lost) h e = tt

pub told : (text : List ℕ) (items : List Piece) (a b c : Standing) (o : Option End) → a ≡ Going (start text) → Ran nothing a b (read_type_token gap) → Finished items b c → HasEndedAs o c → Told text items o
told text items a b c o q h f e =
    let begun : Ran nothing (Going (start text)) b (read_type_token gap) = subst (λ x. Ran nothing x b (read_type_token gap)) q h in
    judged text items f.0 c o
    (ran_both type_texts (reads type_texts f.0) (token gap) (rule (operand 0 1024)) nothing (pieces items) (Going (start text)) b c (one (reads type_texts f.0) gap nothing (Going (start text)) b begun) f.1) e

told_error : (text : List ℕ) (items : List Piece) (end : End) → Told text items (Some end) → PiecesAre text (Err (error_of end))
told_error text items (ended.Unfit far) h = h
told_error text items ended.Lost h = h

pub refused : (text : List ℕ) (items : List Piece) (a b c : Standing) (end : End) (e : PiecesError) → a ≡ Going (start text) → Ran nothing a b (read_type_token gap) → Finished items b c → HasEndedAs (Some end) c → e ≡ error_of end → PiecesAre text (Err e)
refused text items a b c end e q h f g m = subst (λ x. PiecesAre text (Err x)) (sym m) (told_error text items end (told text items a b c (Some end) q h f g))
