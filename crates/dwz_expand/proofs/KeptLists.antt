-- What a graph of one file has kept of its location lists is of that file.
use Rattle.std.proofs.Common.{◌≡◌, ℕ, ◌+◌, true, false, List, [], ◌∷◌, get_or, length, map, Option, Some, None, refl, sym, ap, subst, ◌∙◌, arith}
use Rattle.dwz_def_reading.specs.Files.{Limits, limits_after, no_files_before, sources_of}
use Rattle.dwz_def_reading.specs.Finished.{common_read, rule_of_back}
use Rattle.dwz_def_reading.specs.Meanings.{all_places}
use Rattle.dwz_def_reading.specs.NamedLists.{lists_of_units}
use Rattle.dwz_def_reading.specs.Rules.{ReadingRule}
use Rattle.dwz_def_reading.specs.Shared.{AreRows, NamedList}
use Rattle.dwz_def_reading.specs.Units.{RawUnit}
use Rattle.dwz_def_reading.proofs.ListsMapped.{lists_mapped}
use Rattle.dwz_def_expand.specs.OneFile.{FileRead, OneFile, around}
use Rattle.dwz_unit.specs.declared.mode.FileKind.{FileKind}
use Rattle.dwz_unit.specs.declared.mode.FileKind.TheVariants.{Back}
use Rattle.dwz_unit.specs.Rows.{units_of}
use Rattle.dwz_graph.specs.declared.file.File.{File}
use Rattle.dwz_graph.specs.ByRule.{AreReadAs, IsReadBy, numbered_rule}
use Rattle.dwz_graph.specs.Surroundings.{sources_view}
use Rattle.dwz_graph.specs.Files.{AreBack, FilesRead, HasCommon}
use Rattle.dwz_graph.specs.ListRows.{operand_view}
use Rattle.dwz_expand_sections.specs.ListLaws.{AreListed}

own_sources : (file : FileRead) (common : Option FileRead) → (around (record { file = file; common = common }) 0).sources ≡ sources_of file.bytes
own_sources file None = refl
own_sources file (Some c) = refl

own_all : (file : FileRead) (common : Option FileRead) → (around (record { file = file; common = common }) 0).all ≡ all_places file.raw
own_all file None = refl
own_all file (Some c) = refl

-- ---- a file that was read by a rule whose sections and entries are its own

module _ (rule : ReadingRule ℕ) (k : FileKind) (l : Limits) (n : ℕ) (first : List ℕ) (own : File) (is : IsReadBy rule k l n first own)
    (sources : (rule.around first (units_of own.units)).sources ≡ sources_of first)
    (all : (rule.around first (units_of own.units)).all ≡ all_places (units_of own.units)) (f : OneFile) (content : first ≡ f.file.bytes)
    (raw : f.file.raw ≡ units_of own.units) where
  same_lists : lists_of_units (around f 0) f.file.raw ≡ lists_of_units (rule.around first (units_of own.units)) (units_of own.units)
  same_lists =
      let mine : (around f 0).sources ≡ (rule.around first (units_of own.units)).sources = own_sources f.file f.common ∙ ap sources_of (sym content) ∙ sym sources in
      let places : (around f 0).all ≡ (rule.around first (units_of own.units)).all = own_all f.file f.common ∙ ap all_places raw ∙ sym all in
      lists_mapped (rule.around first (units_of own.units)) (around f 0) mine places f.file.raw
      ∙ ap (λ (us : List RawUnit). lists_of_units (rule.around first (units_of own.units)) us) raw

  listed : AreListed f own.resolved.operands.items × (own.sections.lists.now ≡ (sources_of f.file.bytes).lists) × (sources_view own.sections ≡ sources_of f.file.bytes)
  listed = (
    subst (λ (us : List RawUnit). AreRows (lists_of_units (around f 0) f.file.raw) (map (operand_view us) own.resolved.operands.items)) (sym raw)
        (subst (λ (ls : List NamedList). AreRows ls (map (operand_view (units_of own.units)) own.resolved.operands.items)) (sym same_lists) is.operands),
    ap (λ s. s.lists) is.sections ∙ ap (λ (b : List ℕ). (sources_of b).lists) content,
    is.sections ∙ ap sources_of content,
  )

-- ---- of a graph

one_of : {X : Type 0} (xs : List X) → length xs ≡ 1 → (x : X) × (xs ≡ x ∷ [])
one_of [] e = absurd (omega (arith, e))
one_of (x ∷ []) e = (x, refl)
one_of (x ∷ y ∷ xs) e = absurd (omega (arith, e))

one_read : (Is : Limits → ℕ → List ℕ → File → Type 0) (l : Limits) (x : List ℕ) (files : List File) (end : Limits) → AreReadAs Is l 0 (x ∷ []) files end
    → (f : File) × (files ≡ f ∷ []) × Is l 0 x f
one_read Is l x [] end h = absurd h
one_read Is l x (f ∷ []) end h = (f, refl, h.0)
one_read Is l x (f ∷ g ∷ files) end h = absurd h.1

the_one : (files : List File) (f own : File) → files ≡ f ∷ [] → own ≡ get_or files 0 own → f ≡ own
the_one files f own are is = sym (is ∙ ap (λ (w : List File). get_or w 0 own) are)

head_is : (x y : List ℕ) → x ∷ [] ≡ y ∷ [] → x ≡ y
head_is x y e = ap (λ (xs : List (List ℕ)). get_or xs 0 x) e

module _ (o : Option (List ℕ)) (first : List ℕ) (files : List File) (own : File) (is : own ≡ get_or files 0 own) (f : OneFile) (content : first ≡ f.file.bytes)
    (raw : f.file.raw ≡ units_of own.units) where
  back_lists : AreBack o (first ∷ []) files → AreListed f own.resolved.operands.items × (own.sections.lists.now ≡ (sources_of f.file.bytes).lists) × (sources_view own.sections ≡ sources_of f.file.bytes)
  back_lists = case-back o where
    case-back : (o : Option (List ℕ)) → AreBack o (first ∷ []) files → AreListed f own.resolved.operands.items × (own.sections.lists.now ≡ (sources_of f.file.bytes).lists) × (sources_view own.sections ≡ sources_of f.file.bytes)
    case-back None h =
        let rule = numbered_rule (rule_of_back None 0) in
        let p = one_read (IsReadBy rule (Back false)) no_files_before first files h.end h.are in
        let read = subst (λ (g : File). IsReadBy rule (Back false) no_files_before 0 first g) (the_one files p.0 own p.1 is) p.2 in
        listed rule (Back false) no_files_before 0 first own read refl refl f content raw
    case-back (Some bytes) h =
        let rule = numbered_rule (rule_of_back (Some (common_read (first ∷ []) bytes h.0)) 0) in
        let l = limits_after no_files_before bytes h.0 in
        let p = one_read (IsReadBy rule (Back true)) l first files h.3.end h.3.are in
        let read = subst (λ (g : File). IsReadBy rule (Back true) l 0 first g) (the_one files p.0 own p.1 is) p.2 in
        listed rule (Back true) l 0 first own read refl refl f content raw

pub kept_lists : (r : FilesRead) (files : List File) (own : File) (common : Option File) → length r.back ≡ 1
    → HasCommon (length r.given + length r.back) r.common common → AreBack r.common r.back files → own ≡ get_or files 0 own
    → (f : OneFile) → r.back ≡ f.file.bytes ∷ [] → f.file.raw ≡ units_of own.units
    → AreListed f own.resolved.operands.items × (own.sections.lists.now ≡ (sources_of f.file.bytes).lists) × (sources_view own.sections ≡ sources_of f.file.bytes)
kept_lists r files own common long has h is f content raw =
    back_lists r.common f.file.bytes files own is f refl raw (subst (λ (xs : List (List ℕ)). AreBack r.common xs files) content h)
