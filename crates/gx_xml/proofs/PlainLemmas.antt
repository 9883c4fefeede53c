-- Plain characters and runs.
use Rattle.std.proofs.Common.{◌≡◌, ℕ, zero, suc, ◌+◌, ◌-◌, ◌<◌, ◌≤◌, Bool, true, false, List, [], ◌∷◌, ◌++◌, length, take, drop, get_or, All, refl, sym, ap, ◌∙◌, subst, append_assoc, length-append, arith}
use Rattle.std.specs.Prelude.{if◌then◌else◌, ◌==◌, ◌||◌, ◌&&◌}
use Rattle.std.specs.Str.{chars, IsUtf8, IsAscii, IsCharBoundary}
use Rattle.std.proofs.lemmas.Bool.{and_parts}
use Rattle.std.proofs.lemmas.Bool.Decides.{nat_tests}
use Rattle.std.proofs.lemmas.List.{take-append-drop, take-take, drop-take, take_more, length-take-le, get_or-take}
use Rattle.std.proofs.Math.Seq.{take-append_seam}
use Rattle.std.proofs.lemmas.Str.{chars-append, chars-IsAscii, IsUtf8-from_ascii, IsCharBoundary-start, IsCharBoundary-after_ascii}
use Rattle.std.proofs.lemmas.Str.Ascii.{IsAscii-nil, IsAscii-cons}
use Rattle.gx_base.specs.NameCharacters.{is_xml_character, is_ncname_start, is_ncname_character}
use Rattle.gx_grammar.specs.Tokens.{all_pass}
use Rattle.gx_grammar.specs.Walks.{Walk, all_walk, reached, walk_of, behind_walk}
use Rattle.gx_xml.specs.Plain.{RunsOnWith, is_plain_character, state_behind}
use Rattle.gx_xml.specs.Runs.{walk_for, quote_character}
use Rattle.gx_xml.specs.declared.plain.Plain.{Plain}
use Rattle.gx_xml.specs.declared.plain.Plain.TheVariants as plain
use Rattle.gx_xml.specs.declared.runs.Quote.{Quote}
use Rattle.gx_xml.specs.declared.runs.Quote.TheVariants as quote
use Rattle.gx_xml.specs.declared.runs.Run.TheVariants as run
use Rattle.gx_xml.proofs.RunLemmas.{Walked, walked_on}

plain_low : (p : Plain) (c : ℕ) → is_plain_character p c ≡ true → c < 128
plain_low plain.Text c h = grind (arith, nat_tests)
plain_low plain.Name c h = grind (arith, nat_tests)

plain_ascii : (p : Plain) (x : List ℕ) → all_pass (is_plain_character p) x ≡ true → IsAscii x
plain_ascii p [] h = IsAscii-nil
plain_ascii p (c ∷ x) h = let both = and_parts _ _ h in IsAscii-cons c x (plain_low p c both.0) (plain_ascii p x both.1)

-- of two parts all pass where all of each do
and_assoc : (a b c : Bool) → (a && (b && c)) ≡ ((a && b) && c)
and_assoc true b c = refl
and_assoc false b c = refl

pub all_pass_parts : (test : ℕ → Bool) (x y : List ℕ) → all_pass test (x ++ y) ≡ (all_pass test x && all_pass test y)
all_pass_parts test [] y = refl
all_pass_parts test (c ∷ x) y = ap (λ b. test c && b) (all_pass_parts test x y) ∙ and_assoc (test c) (all_pass test x) (all_pass test y)

take_parts : (n m : ℕ) (x : List ℕ) → take (n + m) x ≡ take n x ++ take m (drop n x)
take_parts n m x = sym (take-append-drop n (take (n + m) x)) ∙ ap (λ y. y ++ drop n (take (n + m) x)) (take-take n (n + m) x (omega arith)) ∙ ap (λ y. take n x ++ y) (drop-take n m x)

-- a part more of plain characters
pub part_more : (p : Plain) (x : List ℕ) (n m : ℕ) → all_pass (is_plain_character p) (take n x) ≡ true → all_pass (is_plain_character p) (take m (drop n x)) ≡ true
    → all_pass (is_plain_character p) (take (n + m) x) ≡ true
part_more p x n m h k = ap (all_pass (is_plain_character p)) (take_parts n m x) ∙ all_pass_parts (is_plain_character p) (take n x) (take m (drop n x)) ∙ ap (λ b. b && all_pass (is_plain_character p) (take m (drop n x))) h ∙ k

-- one byte more
byte_more : (p : Plain) (x : List ℕ) (i : ℕ) (b : Bool) → i < length x → is_plain_character p (get_or x i 0) ≡ b
    → all_pass (is_plain_character p) (take (i + 1) x) ≡ (all_pass (is_plain_character p) (take i x) && (b && true))
byte_more p x i b l e =
    ap (all_pass (is_plain_character p)) (take_more x i 0 l) ∙ all_pass_parts (is_plain_character p) (take i x) (get_or x i 0 ∷ []) ∙ ap (λ c. all_pass (is_plain_character p) (take i x) && (c && true)) e

and_true : (a : Bool) → (a && true) ≡ a
and_true true = refl
and_true false = refl

pub byte_joins : (p : Plain) (x : List ℕ) (i : ℕ) (all b : Bool) → i < length x → all ≡ all_pass (is_plain_character p) (take i x) → b ≡ is_plain_character p (get_or x i 0)
    → (all && b) ≡ all_pass (is_plain_character p) (take (i + 1) x)
byte_joins p x i all b l e f =
    ap (λ a. a && b) e ∙ ap (λ c. all_pass (is_plain_character p) (take i x) && c) (sym (and_true b)) ∙ sym (byte_more p x i b l (sym f))

-- a text is cut behind plain characters
pub record PlainCut (p : Plain) (text : List ℕ) (n : ℕ) : Type 0 where
  pub boundary : IsCharBoundary text n
  pub whole : chars text ≡ chars (take n text) ++ chars (drop n text)
  pub plain : all_pass (is_plain_character p) (chars (take n text)) ≡ true
  pub each : length (chars (take n text)) ≡ length (take n text)

boundary_of : (text : List ℕ) (n : ℕ) → IsUtf8 text → n ≤ length text → IsAscii (take n text) → IsCharBoundary text n
boundary_of text zero u l h = IsCharBoundary-start text u
boundary_of text (suc n) u l h =
    let low : get_or text n 0 < 128 = omega (arith, h n, get_or-take (suc n) text n 0 (omega arith)) in
    subst (λ k. IsCharBoundary text k) (omega arith) (IsCharBoundary-after_ascii text n u (omega arith) low)

pub plain_cut : (p : Plain) (text : List ℕ) (n : ℕ) → IsUtf8 text → n ≤ length text → all_pass (is_plain_character p) (take n text) ≡ true → PlainCut p text n
plain_cut p text n u l h =
    let ascii = plain_ascii p (take n text) h in
    let same : chars (take n text) ≡ take n text = chars-IsAscii (take n text) ascii in
    record {
      boundary = boundary_of text n u l ascii;
      whole = ap chars (sym (take-append-drop n text)) ∙ chars-append (take n text) (drop n text) (IsUtf8-from_ascii (take n text) ascii);
      plain = ap (λ t. all_pass (is_plain_character p) t) same ∙ h;
      each = ap length same;
    }

-- one more plain character
pub plain_more : (p : Plain) (x : List ℕ) (n : ℕ) → n < length x → all_pass (is_plain_character p) (take n x) ≡ true → is_plain_character p (get_or x n 0) ≡ true → all_pass (is_plain_character p) (take (n + 1) x) ≡ true
plain_more p [] n l h e = absurd (omega arith)
plain_more p (c ∷ x) zero l h e = ap (λ b. b && true) e
plain_more p (c ∷ x) (suc n) l h e =
    let both = and_parts _ _ h in
    let on : suc n + 1 ≡ suc (n + 1) = omega arith in
    ap (λ k. all_pass (is_plain_character p) (take k (c ∷ x))) on ∙ ap (λ b. b && all_pass (is_plain_character p) (take (n + 1) x)) both.0 ∙ plain_more p x n (omega arith) both.1 e

still_walks : (p : Plain) (w : Walk) (n : ℕ) (x : List ℕ) → RunsOnWith p w n → all_pass (is_plain_character p) x ≡ true → (all_walk w (state_behind p) x ≡ true) × (reached w (state_behind p) x ≡ state_behind p)
still_walks p w n [] g h = (refl, refl)
still_walks p w n (c ∷ x) g h =
    let both = and_parts _ _ h in
    let rest = still_walks p w n x g both.1 in
    let on = g.stays c both.0 in (
      ap (λ b. b && all_walk w (w.next (state_behind p) c) x) (g.goes_behind c both.0) ∙ ap (λ m. all_walk w m x) on ∙ rest.0,
      ap (λ m. reached w m x) on ∙ rest.1,
    )

-- a run goes on with plain characters
pub record PlainWalked (p : Plain) (w : Walk) (n : ℕ) (x : List ℕ) : Type 0 where
  pub walks : all_walk w n x ≡ true
  pub none : (length x == 0) ≡ true → n ≡ reached w n x
  pub some : (length x == 0) ≡ false → state_behind p ≡ reached w n x

pub plain_walks : (p : Plain) (w : Walk) (n : ℕ) (x : List ℕ) → RunsOnWith p w n → all_pass (is_plain_character p) x ≡ true → PlainWalked p w n x
plain_walks p w n [] g h = record { walks = refl; none = λ e. refl; some = λ e. absurd (grind (arith, nat_tests)) }
plain_walks p w n (c ∷ x) g h =
    let both = and_parts _ _ h in
    let rest = still_walks p w n x g both.1 in
    let on = g.next c both.0 in
    record {
      walks = ap (λ b. b && all_walk w (w.next n c) x) (g.goes c both.0) ∙ ap (λ m. all_walk w m x) on ∙ rest.0;
      none = λ e. absurd (grind (arith, nat_tests));
      some = λ e. sym (ap (λ m. reached w m x) on ∙ rest.1);
    }

pub text_goes_on : (n : ℕ) → RunsOnWith plain.Text (walk_for run.Text) n
unfolding is_xml_character
text_goes_on n = record {
  goes = λ c h. grind (arith, nat_tests);
  next = λ c h. grind (arith, nat_tests);
  goes_behind = λ c h. grind (arith, nat_tests);
  stays = λ c h. grind (arith, nat_tests);
}

pub value_goes_on : (q : Quote) (n : ℕ) → RunsOnWith plain.Text (walk_for (run.Value q)) n
unfolding is_xml_character
value_goes_on quote.Double n = record {
  goes = λ c h. grind (arith, nat_tests);
  next = λ c h. refl;
  goes_behind = λ c h. grind (arith, nat_tests);
  stays = λ c h. refl;
}
value_goes_on quote.Single n = record {
  goes = λ c h. grind (arith, nat_tests);
  next = λ c h. refl;
  goes_behind = λ c h. grind (arith, nat_tests);
  stays = λ c h. refl;
}

pub name_goes_on : (n : ℕ) → n ≡ 1 → RunsOnWith plain.Name (walk_for run.Name) n
unfolding is_ncname_start is_ncname_character
name_goes_on n e = record {
  goes = λ c h. grind (arith, nat_tests);
  next = λ c h. refl;
  goes_behind = λ c h. grind (arith, nat_tests);
  stays = λ c h. refl;
}

-- what was read, with more behind it
walked_far : (w : Walk) (start : ℕ) (text front : List ℕ) (n : ℕ) (x rest : List ℕ) → all_walk w n x ≡ true
    → Walked w start text front n (x ++ rest) → Walked w start text (front ++ x) (reached w n x) rest
walked_far w start text front n x rest e h = record {
  whole = h.whole ∙ sym (append_assoc front x rest);
  run = append_assoc front x (walk_of w (reached w n x) rest) ∙ ap (λ t. front ++ t) (sym (run_far w n x rest e)) ∙ h.run;
  behind = sym (behind_far w n x rest e) ∙ h.behind;
  state = sym (state_far w n x (walk_of w (reached w n x) rest)) ∙ ap (λ t. reached w n t) (sym (run_far w n x rest e)) ∙ h.state;
}
  where
    run_far : (w : Walk) (n : ℕ) (x rest : List ℕ) → all_walk w n x ≡ true → walk_of w n (x ++ rest) ≡ x ++ walk_of w (reached w n x) rest
    run_far w n [] rest e = refl
    run_far w n (c ∷ x) rest e = let both = and_parts _ _ e in
        ap (λ b. if b then (c ∷ walk_of w (w.next n c) (x ++ rest)) else []) both.0 ∙ ap (λ t. c ∷ t) (run_far w (w.next n c) x rest both.1)

    behind_far : (w : Walk) (n : ℕ) (x rest : List ℕ) → all_walk w n x ≡ true → behind_walk w n (x ++ rest) ≡ behind_walk w (reached w n x) rest
    behind_far w n [] rest e = refl
    behind_far w n (c ∷ x) rest e = let both = and_parts _ _ e in
        ap (λ b. if b then (behind_walk w (w.next n c) (x ++ rest)) else (c ∷ (x ++ rest))) both.0 ∙ behind_far w (w.next n c) x rest both.1

    state_far : (w : Walk) (n : ℕ) (x y : List ℕ) → reached w n (x ++ y) ≡ reached w (reached w n x) y
    state_far w n [] y = refl
    state_far w n (c ∷ x) y = state_far w (w.next n c) x y

taken_far : (text : List ℕ) (k : ℕ) (x y : List ℕ) → text ≡ take k text ++ (x ++ y) → k + length (x ++ y) ≡ length text → take (k + length x) text ≡ take k text ++ x
taken_far text k x y e n =
    let long : length (take k text) ≡ k = length-take-le k text (omega arith) in
    let whole : text ≡ (take k text ++ x) ++ y = e ∙ sym (append_assoc (take k text) x y) in
    let at : k + length x ≡ length (take k text ++ x) = omega (arith, long, length-append (take k text) x) in
    ap (λ i. take i text) at ∙ ap (take (length (take k text ++ x))) whole ∙ take-append_seam (take k text ++ x) y

-- one more character, and plain ones behind it
pub record WalkedFar (w : Walk) (start : ℕ) (text : List ℕ) (i n : ℕ) (rest : List ℕ) : Type 0 where
  pub counted : i + length rest ≡ length text
  pub walked : Walked w start text (take i text) n rest

pub walked_on_far : (w : Walk) (start : ℕ) (text : List ℕ) (i n m k l c : ℕ) (rest tail run behind : List ℕ) → rest ≡ c ∷ tail → w.goes n c ≡ true → i + length rest ≡ length text
    → m ≡ w.next n c → tail ≡ run ++ behind → all_walk w m run ≡ true → k ≡ reached w m run → l ≡ length run
    → Walked w start text (take i text) n rest → WalkedFar w start text (i + (1 + l)) k behind
walked_on_far w start text i n m k l c rest tail run behind e g counted next whole walks state long h =
    let one : Walked w start text (take (i + 1) text) m tail = subst (λ m. Walked w start text (take (i + 1) text) m tail) (sym next) (walked_on w start text i n c rest tail e g counted h) in
    let two : Walked w start text (take (i + 1) text) m (run ++ behind) = subst (λ t. Walked w start text (take (i + 1) text) m t) whole one in
    let far : Walked w start text (take (i + 1) text ++ run) (reached w m run) behind = walked_far w start text (take (i + 1) text) m run behind walks two in
    let left : (i + 1) + length (run ++ behind) ≡ length text = omega (arith, counted, ap length e, ap length whole) in
    let taken : take ((i + 1) + length run) text ≡ take (i + 1) text ++ run = taken_far text (i + 1) run behind two.whole left in
    let at : i + (1 + l) ≡ (i + 1) + length run = omega (arith, long) in
    record {
      counted = omega (arith, at, left, length-append run behind);
      walked = subst (λ s. Walked w start text (take (i + (1 + l)) text) s behind) (sym state) (subst (λ f. Walked w start text f (reached w m run) behind) (sym (ap (λ j. take j text) at ∙ taken)) far);
    }
