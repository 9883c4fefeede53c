-- The terms of the public laws, for the proofs of the crates above. Each is what a clause of a law of `laws` says.
pub use Rattle.gx_grammar.proofs.Apart.{apart_by_heads, computed_apart, computed_heads, computed_words}
pub use Rattle.gx_grammar.proofs.Avoiding.{avoids_behind, avoids_empty, avoids_made, avoids_more, closed_decides, joined_never, joined_opening, leftmost_cut, leftmost_until}
pub use Rattle.gx_grammar.proofs.ByCharacter.{character_chooses, character_repeats}
pub use Rattle.gx_grammar.proofs.ByTokens.{apart_avoids, avoided_choose, avoided_repeat, tokens_choose, tokens_repeat}
pub use Rattle.gx_grammar.proofs.Decoding.{unreadable_at}
pub use Rattle.gx_grammar.proofs.Either.{lawful_either, lawful_mapped}
pub use Rattle.gx_grammar.proofs.First.{before_begins, begins_in, ends_in, until_starts}
pub use Rattle.gx_grammar.proofs.Fitting.{fitting_firm, lawful_barred, lawful_fitting, lawful_stop}
pub use Rattle.gx_grammar.proofs.Gaps.{lawful_gap}
pub use Rattle.gx_grammar.proofs.Joined.{lawful_joined, lawful_optional}
pub use Rattle.gx_grammar.proofs.Levels.{below_shields, never_too_deep}
pub use Rattle.gx_grammar.proofs.Ran.{ran_both, ran_empty, ran_full, ran_idle, ran_item, ran_keyed, ran_left, ran_looked, ran_made, ran_makes, ran_map, ran_none, ran_right}
pub use Rattle.gx_grammar.proofs.Sorted.{before_cut_less, decides_less, shortens, sorted_decides, sorted_readable, until_less}
pub use Rattle.gx_grammar.proofs.Text.{exact_text, same_verdict}
pub use Rattle.gx_grammar.proofs.Tokens.{behind_short, head_cut, lawful_name, lawful_run, lawful_tokens, lawful_word, run_passes, run_short, run_whole}
pub use Rattle.gx_grammar.proofs.Unique.{unique}
pub use Rattle.gx_grammar.proofs.Walks.{lawful_walk, walk_short}
pub use Rattle.gx_grammar.proofs.Words.{lawful_one_of, one_of_opened, one_of_opening, one_of_spells}
