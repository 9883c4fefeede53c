use Rattle.std.proofs.Common.{◌≡◌, ℕ, List, [], ◌∷◌, codes, ap, ◌∙◌, refl}
use Rattle.gx_io.specs.LibraryState.{LibraryState, with_file}
use Rattle.gx_demo.specs.Workload.{workload_query}
use Rattle.gx_demo.proofs.workload.workload.Goals as goal

abbrev Files : Type 0
Files = List (List ℕ × List ℕ)

-- the files of a library with three files more, each of another name
three_files : (query schema document : List ℕ)
    → with_file (with_file (with_file [] workload_query query) (codes "site.xsd") schema) (codes "site.xml") document
    ≡ (workload_query, query) ∷ (codes "site.xsd", schema) ∷ (codes "site.xml", document) ∷ []
three_files query schema document = refl

pub returns : goal.returns
returns c =
    let query = c.as_bytes.result.now in
    let schema = c.as_bytes-2.result.now in
    let document = c.as_bytes-3.result.now in
    ap (λ (library : LibraryState). library.files) c.in_ok-add-3.ensures.ok
    ∙ ap (λ (library : LibraryState). with_file library.files (codes "site.xml") document) c.in_ok-add-2.ensures.ok
    ∙ ap (λ (library : LibraryState). with_file (with_file library.files (codes "site.xsd") schema) (codes "site.xml") document) c.in_ok-add.ensures.ok
    ∙ ap (λ (library : LibraryState). with_file (with_file (with_file library.files workload_query query) (codes "site.xsd") schema) (codes "site.xml") document) c.new-library.ensures
    ∙ three_files query schema document
    ∙ (λ i. (workload_query, c.as_bytes.ensures.value i) ∷ (codes "site.xsd", c.as_bytes-2.ensures.value i) ∷ (codes "site.xml", (c.as_bytes-3.ensures.value ∙ c.in_ok-document.ensures) i) ∷ [])
