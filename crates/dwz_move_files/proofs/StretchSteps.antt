-- Stretches of tops, one behind the other.
use Rattle.std.proofs.Common.{◌≡◌, ℕ, zero, suc, ◌+◌, ◌-◌, ◌<◌, ◌≤◌, ◌^◌, List, [], ◌∷◌, ◌++◌, length, Option, Some, None, slice_get, refl, sym, ap, subst, ◌∙◌, ⊎_elim, arith}
use Rattle.std.specs.Prelude.{IfSome, slice_index_or}
use Rattle.std.proofs.lemmas.Option.{get_or_from_slice_get}
use Rattle.dwz_def_reading.proofs.ListFacts.{got_below, same_got}
use Rattle.dwz_def_reading.specs.Documents.{Doc}
use Rattle.dwz_def_tops.specs.Spots.{tops_of, units_of}
use Rattle.dwz_graph.specs.declared.file.File.{File}
use Rattle.dwz_graph.specs.declared.index.Starts.{Starts}
use Rattle.dwz_graph.specs.Files.{docs_of}
use Rattle.dwz_graph.specs.Index.{Index}
use Rattle.dwz_graph.specs.Across.{IsFileAmong, starts_at}
use Rattle.dwz_graph.specs.AcrossLaws.{IsAmong}
use Rattle.dwz_graph.proofs.FileCounts.{are_many, starts_are}
use Rattle.dwz_graph.proofs.FileWalk.{is_among}
use Rattle.dwz_unit.specs.Rows.{units_of as raw_units}
use Rattle.dwz_move_files.specs.declared.draft.Draft.{Draft}
use Rattle.dwz_move_files.specs.declared.draft.KnownFile.{KnownFile}
use Rattle.dwz_move_files.specs.declared.stretches.Stretch.{Stretch}
use Rattle.dwz_move_files.specs.declared.stretches.Work.{Work}
use Rattle.dwz_move_files.specs.Drafts.{AreParts, AreWithin, IsDraft, IsKnown}
use Rattle.dwz_move_files.specs.Stretches.{AreStretches, IsStretch, IsStretchDraft, IsWork, first_top, many_tops}
use Rattle.dwz_move_files.proofs.DraftSteps.{pushed}
use Rattle.dwz_move_files.proofs.MarkSteps.{starts_zero}
use Rattle.dwz_move_files.proofs.OutlineFileSteps.{room, tops_within}

-- ---- one more stretch

module _ (docs : List (Doc ℕ)) (indexes : List Index) where
  pub none_cut : (all : List Stretch) → all ≡ [] → AreStretches docs indexes 0 (starts_at docs indexes 0).top all
  none_cut all e = subst (λ (w : List Stretch). AreStretches docs indexes 0 (starts_at docs indexes 0).top w) (sym e) (sym (ap (λ (s : Starts). s.top) (starts_zero docs indexes)))

  behind : (from to : ℕ) (all : List Stretch) (s : Stretch) → AreStretches docs indexes from to all → IsStretch docs indexes to s → AreStretches docs indexes from (to + many_tops s) (all ++ s ∷ [])
  behind from to [] s h is = (subst (λ (n : ℕ). IsStretch docs indexes n s) (sym h) is, ap (λ (n : ℕ). n + many_tops s) h)
  behind from to (y ∷ all) s h is = (h.0, behind (from + many_tops y) to all s h.1 is)

  pub one_cut : (old new : List Stretch) (file start end : ℕ) (x : Index) → slice_get indexes file ≡ Some x → start ≤ end → end ≤ length x.tops
      → new ≡ old ++ record { file = file; start = start; end = end } ∷ []
      → AreStretches docs indexes 0 ((starts_at docs indexes file).top + start) old → AreStretches docs indexes 0 ((starts_at docs indexes file).top + end) new
  one_cut old new file start end x there rises within are h =
      let at = (starts_at docs indexes file).top in
      let s : Stretch = record { file = file; start = start; end = end } in
      let to : at + start + (end - start) ≡ at + end = omega arith in
      subst (λ (w : List Stretch). AreStretches docs indexes 0 (at + end) w) (sym are)
      (subst (λ (n : ℕ). AreStretches docs indexes 0 n (old ++ s ∷ [])) to
      (behind 0 (at + start) old s h (record { x = x; there = there; rises = rises; within = within; begins = refl })))

  -- ---- one of them

  pub stretch_at : (from to : ℕ) (all : List Stretch) (k : ℕ) (s : Stretch) → AreStretches docs indexes from to all → slice_get all k ≡ Some s → IsStretch docs indexes (first_top docs indexes s) s
  stretch_at from to [] k s h e = absurd cc
  stretch_at from to (y ∷ all) zero s h e =
      let same : y ≡ s = cc in
      let is = h.0 in
      subst (λ (w : Stretch). IsStretch docs indexes (first_top docs indexes w) w) same
      (record { x = is.x; there = is.there; rises = is.rises; within = is.within; begins = refl })
  stretch_at from to (y ∷ all) (suc k) s h e = stretch_at (from + many_tops y) to all k s h.1 e

  -- what is gathered of each
  pub parts_are : (from to : ℕ) (all : List Stretch) (parts : List (Option Draft)) → length parts ≡ length all → AreStretches docs indexes from to all
      → ((k : ℕ) (s : Stretch) → k < length parts → slice_get all k ≡ Some s → IfSome (slice_index_or parts k None) (IsStretchDraft docs indexes s)) → AreParts docs from to parts
  parts_are from to [] [] many h each = h
  parts_are from to [] (part ∷ parts) many h each = absurd (omega arith)
  parts_are from to (s ∷ all) [] many h each = absurd (omega arith)
  parts_are from to (s ∷ all) (None ∷ parts) many h each = tt
  parts_are from to (s ∷ all) (Some part ∷ parts) many h each = (
    many_tops s,
    subst (λ (n : ℕ). IsDraft docs n (many_tops s) part) h.0.begins (each 0 s (omega arith) refl),
    parts_are (from + many_tops s) to all parts (omega arith) h.1 (λ k t lt e. each (suc k) t (omega arith) e),
  )

-- ---- what is known of files

module _ (files : List File) (indexes : List Index) where
  abbrev EachKnown : List KnownFile → Type 0
  EachKnown known = (k : ℕ) (f : File) (x : Index) (one : KnownFile) → slice_get files k ≡ Some f → slice_get indexes k ≡ Some x → slice_get known k ≡ Some one → IsKnown f x one

  pub one_known : (old new : List KnownFile) (f : File) (x : Index) (one : KnownFile) → slice_get files (length old) ≡ Some f → slice_get indexes (length old) ≡ Some x → IsKnown f x one
      → new ≡ old ++ one ∷ [] → EachKnown old → EachKnown new
  one_known old new f x one p q is are h k g y another file index there = ⊎_elim
      (λ a. h k g y another file index a.0)
      (λ b.
      subst (λ (w : KnownFile). IsKnown g y w) b.1
      (subst (λ (w : Index). IsKnown g w one) (same_got indexes (length old) x y q (ap (slice_get indexes) (sym b.0) ∙ index))
      (subst (λ (w : File). IsKnown w x one) (same_got files (length old) f g p (ap (slice_get files) (sym b.0) ∙ file)) is)))
      (pushed old one k another (sym (ap (λ (w : List KnownFile). slice_get w k) are) ∙ there))

-- ---- a stretch of the files

module _ (w : Work) (is : IsWork w) (k : ℕ) (s : Stretch) (got : slice_get w.stretches.items k ≡ Some s) where
  abbrev contents : List (List ℕ)
  contents = w.graph.now.given

  pub own : IsStretch (docs_of contents) w.indexes.now (first_top (docs_of contents) w.indexes.now s) s
  own = stretch_at (docs_of contents) w.indexes.now 0 (length (tops_of (units_of (docs_of contents)))) w.stretches.items k s is.stretches got

  pub index_low : s.file < length w.indexes.now
  index_low = got_below w.indexes.now s.file own.x own.there

  pub file_low : s.file < length w.files.now
  file_low =
      let low = index_low in
      let many = are_many contents w.files.now w.indexes.now is.kept is.indexed in
      let a = many.0 in
      let b = many.1 in
      omega arith

  module _ (f : File) (x : Index) (file_is : slice_get w.files.now s.file ≡ Some f) (index_is : slice_get w.indexes.now s.file ≡ Some x) where
    pub own_room : x.starts.top + length x.tops < 2 ^ 32
    own_room = room contents w.files.now w.indexes.now s.file f x is.kept is.indexed file_low (sym (get_or_from_slice_get w.files.now s.file f f file_is))
        (sym (get_or_from_slice_get w.indexes.now s.file x x index_is))

    pub own_tops : AreWithin (raw_units f.units) x.tops
    own_tops = tops_within contents w.files.now w.indexes.now s.file f x is.kept is.indexed file_low (sym (get_or_from_slice_get w.files.now s.file f f file_is))
        (sym (get_or_from_slice_get w.indexes.now s.file x x index_is))

    pub own_within : (s.start ≤ s.end) × (s.end ≤ length x.tops)
    own_within = (own.rises, subst (λ (y : Index). s.end ≤ length y.tops) (same_got w.indexes.now s.file own.x x own.there index_is) own.within)

    -- what is gathered of it
    pub own_draft : (draft : Draft)
        → ((bytes : List ℕ) → IsFileAmong contents s.file bytes f x → IsDraft (docs_of contents) (x.starts.top + s.start) (many_tops s) draft)
        → IsStretchDraft (docs_of contents) w.indexes.now s draft
    own_draft draft put =
        let r : IsAmong contents s.file f x = is_among contents w.files.now w.indexes.now s.file f x is.kept is.indexed file_is index_is in
        let begins : x.starts.top ≡ (starts_at (docs_of contents) w.indexes.now s.file).top = ap (λ (t : Starts). t.top)
        (starts_are contents w.files.now w.indexes.now s.file f x is.kept is.indexed file_is index_is).0 in
        subst (λ (n : ℕ). IsDraft (docs_of contents) (n + s.start) (many_tops s) draft) begins (put r.bytes r.is)
