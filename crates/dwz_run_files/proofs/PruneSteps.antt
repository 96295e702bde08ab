-- What stays of the texts of a file is by what is written of it: file by file, and then by what is known of all of them.
use Rattle.std.proofs.Common.{◌≡◌, ℕ, zero, suc, ◌+◌, ◌<◌, ◌^◌, Bool, true, false, All, List, [], ◌∷◌, ◌++◌, length, take, get_or, Option, Some, None, slice_get, refl, sym, ap, subst, ◌∙◌, inl, inr}
use Rattle.std.proofs.Common.{ltb, arith}
use Rattle.std.specs.Prelude.{IsSome}
use Rattle.std.proofs.lemmas.Bool.{ltb-true}
use Rattle.std.proofs.lemmas.List.{length-append}
use Rattle.std.proofs.lemmas.Option.{get_or_from_slice_get}
use Rattle.dwz_def_reading.specs.Texts.{text_at}
use Rattle.dwz_def_reading.proofs.ListFacts.{got_below, got_there as get_there, item_got, same_got}
use Rattle.dwz_def_reading.specs.Files.{no_files_before, sources_of}
use Rattle.dwz_def_reading.specs.Meanings.{Sources}
use Rattle.dwz_def_reading.proofs.FileLemmas.{file_agrees}
use Rattle.dwz_def_readback.proofs.FewTexts.{read_few}
use Rattle.dwz_unit.specs.Rows.{units_of as raw_units}
use Rattle.dwz_graph.specs.declared.file.File.{File}
use Rattle.dwz_graph.specs.Files.{HasRead}
use Rattle.dwz_graph.proofs.TopLemmas.{get_cases}
use Rattle.dwz_graph.proofs.FileCounts.{are_many}
use Rattle.dwz_layout.specs.declared.known.EntryTable.{EntryTable}
use Rattle.dwz_layout.specs.declared.order.UnitItems.{UnitItems}
use Rattle.dwz_encode.specs.Shown.{unit_count}
use Rattle.dwz_law_layout.specs.Beside.{Beside}
use Rattle.dwz_law_layout.specs.Facts.{RunFacts}
use Rattle.dwz_law_layout.proofs.FilesFound.{bytes_there, file_there}
use Rattle.dwz_encode_texts.specs.declared.pruning.PrunedFile.{PrunedFile}
use Rattle.dwz_encode_texts.specs.PrunedFiles.{IsPrunedFile}
use Rattle.dwz_encode_texts.specs.Used.{order_uses}
use Rattle.dwz_law_layout.specs.Either.{first_unit_by}
use Rattle.dwz_run_files.specs.Moved.{ArePruned, IsPrunedIf}
use Rattle.dwz_run_files.specs.declared.pruned.Written.{Written}
use Rattle.dwz_run_files.specs.Pruned.{AreFilesWritten, FileKeeps, IsFileOf, KeepsUsed}
use Rattle.dwz_run_files.proofs.FirstSteps.{first_got}
use Rattle.dwz_run_files.proofs.RankSteps.{rank_of_written}

-- ---- a file that was read

module _ (contents : List (List ℕ)) (n : ℕ) (bytes : List ℕ) (x : File) (h : HasRead contents n bytes x) where
  -- its slots are few
  pub offsets_few : length x.sections.offsets.now < 2 ^ 32
  offsets_few =
      let reads = ((file_agrees h.limits bytes).ok (raw_units x.units, h.read.doc)).0 h.read.means in
      let few = read_few h.limits bytes (raw_units x.units) h.read.doc reads 5 in
      let same = ap (λ (s : Sources). length s.offsets) h.read.sections in
      omega arith

  -- its texts are those of its sections
  pub own_texts : (uses : List ℕ) → All (λ used. IsSome (text_at (sources_of bytes).strs used)) uses
      → All (λ used. IsSome (text_at x.sections.strs.bytes.now used)) uses
  own_texts uses all = subst (λ (s : Sources). All (λ used. IsSome (text_at s.strs used)) uses) (sym h.read.sections) all

  pub own_pruned : (uses : List ℕ) (p : PrunedFile) → IsPrunedFile x.sections.strs.bytes.now x.sections.offsets.now uses p
      → IsPrunedFile (sources_of bytes).strs (sources_of bytes).offsets uses p
  own_pruned uses p is = subst (λ (s : Sources). IsPrunedFile s.strs s.offsets uses p) h.read.sections is

-- ---- a file that is written

module _ (contents : List (List ℕ)) (k : EntryTable) (w : Written) (n : ℕ) where
  -- there is one rank, and one order
  pub record SameFile (bytes others : List ℕ) (first next : ℕ) (order units : List UnitItems) : Type 0 where
    pub bytes_same : bytes ≡ others
    pub first_same : first ≡ next
    pub order_same : order ≡ units

  pub same_file : (bytes others : List ℕ) (first next : ℕ) (order units : List UnitItems) → IsFileOf contents w n bytes first order
      → IsFileOf contents w n others next units
      → SameFile bytes others first next order units
  same_file bytes others first next order units a b =
      let rank : Some a.rank ≡ Some b.rank = same_got w.ranks.now n (Some a.rank) (Some b.rank) a.rank_is b.rank_is in
      let one : a.rank ≡ b.rank = cc in
      let place : suc b.rank ≡ suc a.rank = omega arith in
      record {
        bytes_same = same_got contents n bytes others a.bytes_are b.bytes_are;
        first_same = same_got w.firsts.now (suc a.rank) first next a.first_is (ap (slice_get w.firsts.now) (sym place) ∙ b.first_is);
        order_same = same_got w.orders.now (suc a.rank) order units a.order_is (ap (slice_get w.orders.now) (sym place) ∙ b.order_is);
      }

  got_there : {X : Type 0} (xs : List X) (i : ℕ) (x : X) → true ≡ ltb i (length xs) → x ≡ get_or xs i x → slice_get xs i ≡ Some x
  got_there xs i x lt is = item_got xs i x (ltb-true i (length xs) (sym lt)) is

  -- what was looked up is of it
  pub looked_up : (bytes : List ℕ) (rank first : ℕ) (o : Option ℕ) (order units : List UnitItems) → slice_get contents n ≡ Some bytes
      → true ≡ ltb n (length w.ranks.now) → o ≡ get_or w.ranks.now n o → o ≡ Some rank
      → true ≡ ltb (rank + 1) (length w.orders.now) → order ≡ get_or w.orders.now (rank + 1) order → units ≡ order
      → true ≡ ltb (rank + 1) (length w.firsts.now) → first ≡ get_or w.firsts.now (rank + 1) first
      → IsFileOf contents w n bytes first units
  looked_up bytes rank first o order units there ranks ranked is orders ordered same firsts counted =
      let next : suc rank ≡ rank + 1 = omega arith in
      record {
        rank = rank;
        bytes_are = there;
        rank_is = got_there w.ranks.now n o ranks ranked ∙ ap (λ (r : Option ℕ). Some r) is;
        order_is = ap (slice_get w.orders.now) next ∙ got_there w.orders.now (rank + 1) order orders ordered
            ∙ ap (λ (u : List UnitItems). Some u) (sym same);
        first_is = ap (slice_get w.firsts.now) next ∙ got_there w.firsts.now (rank + 1) first firsts counted;
      }

  -- what stays by what is written of it
  pub keeps_some : (prunes : Bool) (bytes : List ℕ) (first : ℕ) (order : List UnitItems) (p : PrunedFile) → prunes ≡ true
      → IsFileOf contents w n bytes first order
      → IsPrunedFile (sources_of bytes).strs (sources_of bytes).offsets (order_uses k first order) p
      → FileKeeps contents k w prunes n (Some p)
  keeps_some prunes bytes first order p set a is = λ others next units b. (
      let s = same_file bytes others first next order units a b in (
        set,
        subst (λ (w : List ℕ). IsPrunedFile (sources_of w).strs (sources_of w).offsets (order_uses k next units) p) s.bytes_same
            (subst (λ (w : ℕ). IsPrunedFile (sources_of bytes).strs (sources_of bytes).offsets (order_uses k w units) p) s.first_same
            (subst (λ (w : List UnitItems). IsPrunedFile (sources_of bytes).strs (sources_of bytes).offsets (order_uses k first w) p)
            s.order_same is)),
      ))

-- ---- file by file

module _ (contents : List (List ℕ)) (k : EntryTable) (w : Written) (prunes : List Bool) where
  pub record Keeping (i : ℕ) (pruned : List (Option PrunedFile)) : Type 0 where
    pub many : length pruned ≡ i
    pub each : (n : ℕ) (o : Option PrunedFile) → slice_get pruned n ≡ Some o → FileKeeps contents k w (get_or prunes n false) n o

  pub keeping_first : (pruned : List (Option PrunedFile)) → pruned ≡ [] → Keeping 0 pruned
  keeping_first pruned none = subst (Keeping 0) (sym none) (record { many = refl; each = λ n o got. absurd cc })

  pub keeping_next : (i : ℕ) (flag : Bool) (o : Option PrunedFile) (old new : List (Option PrunedFile)) → flag ≡ get_or prunes i false
      → FileKeeps contents k w flag i o → new ≡ old ++ o ∷ []
      → Keeping i old → Keeping (i + 1) new
  keeping_next i flag o old new is here put h =
      subst (Keeping (i + 1)) (sym put) (record {
        many = (let many = h.many in omega (arith, length-append old (o ∷ [])));
        each = λ n other got. elim (get_cases old (o ∷ []) n other got) [
          | inl a ↦ h.each n other a
          | inr b ↦ last n other b.0 b.1 b.2
        ];
      })
    where
      last : (n : ℕ) (other : Option PrunedFile) (j : ℕ) → n ≡ length old + j → slice_get (o ∷ []) j ≡ Some other
          → FileKeeps contents k w (get_or prunes n false) n other
      last n other zero at got =
          let same : o ≡ other = cc in
          let many = h.many in
          let place : i ≡ n = omega arith in
          subst (λ (m : ℕ). FileKeeps contents k w (get_or prunes m false) m other) place
          (subst (λ (q : Option PrunedFile). FileKeeps contents k w (get_or prunes i false) i q) same
          (subst (λ (b : Bool). FileKeeps contents k w b i o) is here))
      last n other (suc j) at got = absurd cc

  -- ---- all files

  pruned_if : {beside : Beside} (f : RunFacts beside) (n : ℕ) (bytes uses : List ℕ) (flag : Bool) (o : Option PrunedFile) → f.input.prunes n ≡ flag
      → f.input.bytes n ≡ bytes → KeepsUsed flag bytes uses o → IsPrunedIf f n uses o
  pruned_if f n bytes uses flag None same are h = same ∙ h
  pruned_if f n bytes uses flag (Some p) same are h =
      (same ∙ h.0, subst (λ (b : List ℕ). IsPrunedFile (sources_of b).strs (sources_of b).offsets uses p) (sym are) h.1)

  module _ {beside : Beside} (f : RunFacts beside) (a : AreFilesWritten f contents w prunes) (long : length w.ranks.now ≡ length contents) where
    stored_bytes : (n : ℕ) (bytes : List ℕ) → slice_get contents n ≡ Some bytes → f.input.bytes n ≡ bytes
    stored_bytes n bytes e =
        let many = are_many f.contents f.files f.indexes a.facts.kept a.facts.indexed in
        let indexes = many.1 in
        let files = many.2 in
        let same = ap (λ (w : List (List ℕ)). length w) a.contents_are in
        let low = got_below contents n bytes e in
        let index = get_there f.indexes n (omega arith) in
        let r = file_there f a.facts n index.0 index.1 in
        let at = bytes_there no_files_before f.contents n r.has.read.limits r.bytes (raw_units r.x.units) r.has.read.read.doc
        r.has.read.there in
        (a.facts.stored n r.bytes r.x r.index r.has).0
        ∙ same_got contents n r.bytes bytes (ap (λ (w : List (List ℕ)). slice_get w n) (sym a.contents_are) ∙ at) e

    pub pruned_so : (pruned : List (Option PrunedFile)) → Keeping (length w.ranks.now) pruned → ArePruned f k w.orders.now pruned
    pruned_so pruned h = λ n rank first order is. (
        let r = rank_of_written f w.ranks.now a.ranks n rank is.file in
        let low = got_below w.ranks.now n (Some rank) r in
        let many = h.many in
        let bytes = get_there contents n (omega arith) in
        let o = get_there pruned n (omega arith) in
        let counted = first_got w.orders.now (suc rank) (first_unit_by beside) (got_below w.orders.now (suc rank) order is.order_is) in
        let from = is.first_is in
        let count : first_unit_by beside + unit_count (take (suc rank) w.orders.now) ≡ first = sym from in
        let of_file : IsFileOf contents w n bytes.0 first order = record {
          rank = rank;
          bytes_are = bytes.1;
          rank_is = r;
          order_is = is.order_is;
          first_is = ap (λ (l : List ℕ). slice_get l (suc rank)) a.firsts ∙ counted ∙ ap (λ (m : ℕ). Some m) count;
        } in
        subst (IsPrunedIf f n (order_uses k first order)) (sym (get_or_from_slice_get pruned n o.0 None o.1))
        (pruned_if f n bytes.0 (order_uses k first order) (get_or prunes n false) o.0 (a.prunes_are n) (stored_bytes n bytes.0 bytes.1)
        (h.each n o.0 o.1 bytes.0 first order of_file)))
