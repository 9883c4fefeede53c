-- The letters of an alphabet have well-formed shapes, so an answer of No excludes inclusion.
use Rattle.std.proofs.Common.{◌≡◌, ℕ, List, [], ◌∷◌, ◌++◌, Option, None, Some, refl, slice_get}
use Rattle.gx_types.specs.declared.shape.Shape.{Shape}
use Rattle.gx_types.specs.SchemaSet.{SchemaSet}
use Rattle.gx_types.specs.Takes.{EachShape}
use Rattle.gx_types.specs.SequenceType.{SequenceType}
use Rattle.gx_include_positions.proofs.Lists.{In, got_in}
use Rattle.gx_include_letters.specs.declared.letter.Letter.{Letter}
use Rattle.gx_include_letters.specs.Alphabet.{IsAlphabet}
use Rattle.gx_include_letters.specs.WellFormed.{IsWellFormedShape}
use Rattle.gx_include_letters.proofs.FormedLetters.{letter_is}
use Rattle.gx_include.specs.declared.verdict.Verdict.TheVariants.{Yes, No}
use Rattle.gx_include.specs.Runs.{shapes_of_letter, shapes_of}
use Rattle.gx_include.specs.Laws.{NoExcludesInclusion}

module _ (s : SchemaSet) where
  each_append : (xs ys : List Shape) → EachShape (IsWellFormedShape s) xs → EachShape (IsWellFormedShape s) ys → EachShape (IsWellFormedShape s) (xs ++ ys)
  each_append [] ys h k = k
  each_append (x ∷ xs) ys h k = (h.0, each_append xs ys h.1 k)

  module _ (a b : SequenceType) (letters : List Letter) (is : IsAlphabet s a b letters) where
    one_shape : (o : Option Letter) → ((l : Letter) → o ≡ Some l → In l letters) → EachShape (IsWellFormedShape s) (shapes_of_letter o)
    one_shape None f = tt
    one_shape (Some l) f = (letter_is s a b letters is l (f l refl), tt)

    pub run_is_well_formed : (run : List ℕ) → EachShape (IsWellFormedShape s) (shapes_of letters run)
    run_is_well_formed [] = tt
    run_is_well_formed (number ∷ run) =
        each_append (shapes_of letters run) (shapes_of_letter (slice_get letters number)) (run_is_well_formed run) (one_shape (slice_get letters number) (λ l e. got_in letters number l e))

pub no_excludes_inclusion : NoExcludesInclusion
no_excludes_inclusion s a b limit Yes answer h included = absurd h
no_excludes_inclusion s a b limit (No list) answer h included =
    let refuted = answer.verdict_is.1.2 in
    let run = answer.verdict_is.1.0 in
    refuted.refused (included (shapes_of answer.letters run) (run_is_well_formed s a b answer.letters answer.alphabet run) refuted.taken)
