use Rattle.std.proofs.Common.{◌≡◌, ◌<◌, ◌∷◌, ◌++◌, ◌+◌, length, take, drop, ap, sym, ◌∙◌, arith}
use Rattle.std.specs.Prelude.{slice_set, ℕ, List}
use Rattle.gx_io.specs.LibraryState.{LibraryState, with_file}
use Rattle.gx_io.proofs.FilesLemmas.{set-split}
use Rattle.gx_io.proofs.memory_library.MemoryLibrary.add.Goals as goal

pub returns-then-i-len-clause-ok : goal.returns-then-i-len-clause-ok
returns-then-i-len-clause-ok c =
    let inside = c.self.inside in
    let name = c.args.name.now in
    let bytes = c.args.bytes.now in
    let i = c.place_of-i.result in
    let in_list : i < length inside.files.items = omega (arith, c.if-i-len.true, c.len.ensures, inside.files.ok.0) in
    let set : slice_set inside.files.items i c.in_ok-file.file ≡ with_file inside.files.items name bytes =
    set-split inside.files.items i c.in_ok-file.file in_list
    ∙ ap (λ (file : List ℕ × List ℕ). take i inside.files.items ++ (file ∷ drop (i + 1) inside.files.items)) c.in_ok-file.ensures
    ∙ sym (rw c.as_slice.ensures.value at (c.place_of-i.ensures.replaced bytes)) in
    rw (← c.self.view_is)
    (ap (λ (files : List (List ℕ × List ℕ)). let state : LibraryState = record { files = files; failing = inside.failing.items; calls = inside.calls; faults = inside.faults } in state) set)
