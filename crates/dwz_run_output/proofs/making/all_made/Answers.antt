use Rattle.std.proofs.Common.{◌≡◌, ◌≢◌, ℕ, ◌+◌, ◌<◌, ◌≤◌, List, [], Option, None, Vec, Global, length, map, get_or, sym, subst, ◌∙◌, arith}
use Rattle.std.proofs.lemmas.Option.{get_or_from_slice_get}
use Rattle.std.proofs.lemmas.Result.{err_from_is_err_and}
use Rattle.dwz_def_readback.specs.Files.{CommonFile, Run}
use Rattle.dwz_def_output.specs.declared.new_file.NewFile.{NewFile}
use Rattle.dwz_run_output.specs.Making.{AreMadeSo, CanMake}
use Rattle.dwz_def_output.proofs.FilesRead.{content_at}
use Rattle.dwz_run_output.proofs.FileAnswers.{one_made, one_refused}
use Rattle.dwz_run_output.proofs.making.all_made.Goals as goal

-- what is new in the file at hand can be given to it
can_here : (graph : List (List ℕ)) (contents : List (Vec ℕ Global)) (made rows : List (Option NewFile)) (cf : CommonFile) (r : Run) (file : ℕ) (v : Vec ℕ Global) (bytes : List ℕ) (new : Option NewFile)
    → graph ≡ map (λ c. c.items) contents → file < length contents → v ≡ get_or contents file v → bytes ≡ v.items → new ≡ get_or rows file None
    → ((k : ℕ) → file ≤ k → get_or rows k None ≡ get_or made k None)
    → ((n : ℕ) → n < length contents → CanMake cf r n (get_or graph n []) (get_or made n None)) → CanMake cf r file bytes new
can_here graph contents made rows cf r file v bytes new read less row is taken left can =
    let at = content_at (λ (c : Vec ℕ Global). c.items) graph contents file v bytes read less row is in
    subst (λ (n : Option NewFile). CanMake cf r file bytes n) (sym (taken ∙ left file (omega arith)))
    (subst (λ (b : List ℕ). CanMake cf r file b (get_or made file None)) (get_or_from_slice_get graph file bytes [] at) (can file less))

pub made_file-requires : goal.made_file-requires
made_file-requires c =
    (c.file.ensures c.as_slice.result.now
    (content_at (λ v. v.items) c.args.graph.now.given c.args.contents.now c.loop-file.file c.index-contents-file.result c.as_slice.result.now c.requires.read c.loop-file-test.true
    c.index-contents-file.is c.as_slice.ensures.value)).read.elf

pub returns-in_err-bytes : goal.returns-in_err-bytes
returns-in_err-bytes c cf name r is can =
    let p = err_from_is_err_and c.from_residual.result c.from_residual.ensures.1 in
    let made = c.in_err-bytes.ensures cf name r is (can_here c.args.graph.now.given c.args.contents.now c.args.made.items c.loop-file.made.items cf r c.loop-file.file c.index-contents-file.result
    c.as_slice.result.now c.take_row-new.result c.requires.read c.loop-file-test.true c.index-contents-file.is c.as_slice.ensures.value c.take_row-new.ensures.row c.loop-file.invariant.0 can) in
    rw (p.1, p.2) (one_refused (λ (files : Vec (Option (List ℕ)) Global). files.items) cf name r (length c.args.contents.now) c.loop-file.file c.loop-file.files.items c.in_err-bytes.field-0.0
    (c.loop-file.invariant.1 cf name r is can) c.loop-file-test.true made)

pub loop-file-preserved : goal.loop-file-preserved
loop-file-preserved c = (
  λ k above. (let other : k ≢ c.loop-file.file = omega arith in c.take_row-new.ensures.others k other ∙ c.loop-file.invariant.0 k (omega arith)),
  λ cf name r is can.
      (let made = c.in_ok-bytes.ensures cf name r is (can_here c.args.graph.now.given c.args.contents.now c.args.made.items c.loop-file.made.items cf r c.loop-file.file c.index-contents-file.result
      c.as_slice.result.now c.take_row-new.result c.requires.read c.loop-file-test.true c.index-contents-file.is c.as_slice.ensures.value c.take_row-new.ensures.row c.loop-file.invariant.0 can) in
      subst (AreMadeSo cf name r (c.loop-file.file + 1)) (sym c.in_ok-push.ensures.items)
      (one_made cf name r c.loop-file.file c.loop-file.files.items c.in_ok-bytes.bytes (c.loop-file.invariant.1 cf name r is can) made.0 made.1)),
)

pub returns : goal.returns
returns c cf name r is can =
    let end : c.loop-file.file ≡ length c.args.contents.now = omega (arith, c.loop-file-test.false, c.loop-file.auto.file-end) in
    subst (λ (n : ℕ). AreMadeSo cf name r n c.loop-file.files.items) end (c.loop-file.invariant.1 cf name r is can)
