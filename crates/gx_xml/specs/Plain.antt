-- Plain characters: those of ASCII with which runs of some kinds always go on.
use Rattle.std.specs.Prelude.{ℕ, ◌≡◌, ◌==◌, ◌||◌, Bool, true}
use Rattle.gx_base.specs.NameCharacters.{lies_between}
use Rattle.gx_grammar.specs.Walks.{Walk}
use Rattle.gx_xml.specs.declared.plain.Plain.{Plain}
use Rattle.gx_xml.specs.declared.plain.Plain.TheVariants as plain

-- text: all from the space to the tilde but those round `&` and `=`, and the brackets; names: letters, digits and `_`
abbrev pub is_plain_character : Plain → ℕ → Bool
is_plain_character plain.Text c = lies_between 97 126 c || ((c == 32) || (lies_between 40 59 c || lies_between 64 92 c))
is_plain_character plain.Name c = lies_between 97 122 c || (lies_between 65 90 c || (lies_between 48 57 c || (c == 95)))

-- the state of a run behind them
abbrev pub state_behind : Plain → ℕ
state_behind plain.Text = 0
state_behind plain.Name = 1

-- each of them goes on the run from the state n on
pub record RunsOnWith (p : Plain) (w : Walk) (n : ℕ) : Type 0 where
  pub goes : (c : ℕ) → is_plain_character p c ≡ true → w.goes n c ≡ true
  pub next : (c : ℕ) → is_plain_character p c ≡ true → w.next n c ≡ state_behind p
  pub goes_behind : (c : ℕ) → is_plain_character p c ≡ true → w.goes (state_behind p) c ≡ true
  pub stays : (c : ℕ) → is_plain_character p c ≡ true → w.next (state_behind p) c ≡ state_behind p
