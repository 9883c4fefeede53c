-- The tokens with which the productions begin.
use Rattle.std.specs.Prelude.{ℕ, true, List, [], ◌∷◌}
use Rattle.gx_base.specs.declared.place.Place.{Place}
use Rattle.gx_grammar.specs.First.{Fronts}
use Rattle.gx_parse_grammar.specs.declared.word.Barrier.TheVariants as barrier
use Rattle.gx_parse_grammar.specs.declared.word.Word.TheVariants as word
use Rattle.gx_parse_grammar.specs.declared.word.WordSet.TheVariants as set
use Rattle.gx_parse_grammar.specs.Tokens.{Token, one_of, qname, number, barred, takes}
use Rattle.gx_parse_grammar.specs.Grammar.{query_language, word_of, behind, Production, single, within, nested}
use Rattle.gx_parse_grammar.specs.Direct.{start_of}

-- of a Single, and of a direct element in the content of another
abbrev pub first_of_single : List Token
first_of_single = qname ∷ one_of set.Signs ∷ word_of word.Dollar ∷ word_of word.Open ∷ word_of word.TagOpen ∷ one_of set.Dots ∷ word_of word.AtSign ∷ word_of word.AnyPrefix ∷ word_of word.AnyName ∷ word_of word.Quote ∷ word_of word.Apostrophe ∷ number ∷ barred barrier.Single ∷ []

abbrev pub first_tokens : Production → List Token
first_tokens (single n) = first_of_single
first_tokens (within n) = first_of_single
first_tokens (nested n) = start_of n ∷ []

abbrev pub fronts : (at : ℕ → Place) → Fronts (query_language at)
fronts at = record {
  takings = record { token_takes = takes; production_takes = λ p. true };
  first = first_tokens;
  next = behind at;
}

-- Each Single holds Singles of one level less, as does a direct element.
abbrev pub rank : Production → ℕ
rank (single n) = n
rank (within n) = n
rank (nested n) = n
