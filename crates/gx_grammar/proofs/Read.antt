use Rattle.std.proofs.Common.{ℕ, zero, suc, Err}
use Rattle.gx_grammar.specs.Grammar.{token, empty, ◌&◌, keyed, choose, many, rule, made}
use Rattle.gx_grammar.specs.Language.{Language, Part, Made}
use Rattle.gx_grammar.specs.Reading.{State, TooDeep, Reading, read_with, reads}
use Rattle.gx_grammar.specs.Decision.{Texts, Until, BeforeCut, Decides}
use Rattle.gx_grammar.specs.Laws.{LawfulTokens, IsExact}
use Rattle.gx_grammar.proofs.Exact.{exact_token, exact_empty, exact_rule}
use Rattle.gx_grammar.proofs.ExactBoth.{exact_both, exact_made}
use Rattle.gx_grammar.proofs.ExactKeyed.{exact_keyed}
use Rattle.gx_grammar.proofs.ExactChoose.{exact_choose}
use Rattle.gx_grammar.proofs.ExactMany.{exact_many}

module _ (L : Language) (lawful : LawfulTokens L) where
  -- A grammar whose guards decide is read exactly where the productions are.
  pub exact_with : (call : L.Production → State → Reading (Made L))
      → ((p : L.Production) → IsExact L (L.rules p) (L.follows p) (L.follows_cut p) (call p))
      → (A : Part L) (K C : Texts) → Decides L A K C → IsExact L A K C (read_with L call A)
  exact_with call calls (token t) K C d = exact_token L lawful t K C
  exact_with call calls empty K C d = exact_empty L lawful K C
  exact_with call calls (A & B) K C d = exact_both L lawful A B K C (read_with L call A) (read_with L call B) (exact_with call calls A (Until L B K) (BeforeCut L B C) d.0) (exact_with call calls B K C d.1)
  exact_with call calls (keyed t f) K C d = exact_keyed L lawful t f K C (λ v. read_with L call (f v)) (λ v. exact_with call calls (f v) K C (d v))
  exact_with call calls (choose g A B) K C d = exact_choose L g A B K C (read_with L call A) (read_with L call B) d.0 (exact_with call calls A K C d.1) (exact_with call calls B K C d.2)
  exact_with call calls (many g A) K C d = exact_many L lawful g A K C (read_with L call A) d.0 d.1 (exact_with call calls A (Until L (many g A) K) (BeforeCut L (many g A) C) d.2)
  exact_with call calls (rule p) K C d = exact_rule L lawful p d.0 d.1 (calls p)
  exact_with call calls (made f A) K C d = exact_made L lawful f A K C (read_with L call A) (exact_with call calls A K C d)

  too_deep : (A : Part L) (K C : Texts) → IsExact L A K C (λ s. Err TooDeep)
  too_deep A K C = record {
    kept = λ s n h. tt;
    sound = λ s. tt;
    complete = λ s v y d k. tt;
    halts = λ s code z h. tt;
    covers = λ s x z e h o. tt;
    meets = λ s v x y z e h d n c. tt;
    reaches = λ s. tt;
  }

  -- Where the guards of each production decide, each is read exactly.
  pub exact_reads : ((p : L.Production) → Decides L (L.rules p) (L.follows p) (L.follows_cut p))
      → (levels : ℕ) (p : L.Production) → IsExact L (L.rules p) (L.follows p) (L.follows_cut p) (reads L levels p)
  exact_reads decided zero p = too_deep (L.rules p) (L.follows p) (L.follows_cut p)
  exact_reads decided (suc levels) p = exact_with (reads L levels) (exact_reads decided levels) (L.rules p) (L.follows p) (L.follows_cut p) (decided p)
