-- What labels of two files are written from, without a common file and beside one.
use Rattle.std.proofs.Common.{◌≡◌, ℕ, List, [], Option, Some, None, Result, Ok, Err, refl, sym, ap, subst, ◌∙◌, arith}
use Rattle.std.specs.Prelude.{IfOk}
use Rattle.dwz_def_reading.specs.Documents.{DwUnit}
use Rattle.dwz_def_reading.specs.Meanings.{Common}
use Rattle.dwz_def_check.specs.CrossNames.{CrossName}
use Rattle.dwz_graph.specs.declared.file.File.{File}
use Rattle.dwz_graph.specs.Here.{Here}
use Rattle.dwz_unit.specs.Rows.{units_of}
use Rattle.dwz_check_index.specs.Both.{from_top}
use Rattle.dwz_check_index.specs.declared.both.CrossIndexes.{CrossIndexes}
use Rattle.dwz_check_index.specs.Index.{CrossIndex, IsCrossIndex}
use Rattle.dwz_check_labels.specs.declared.named_file.NamedFile.{NamedFile}
use Rattle.dwz_check_labels.specs.declared.source.Source.{Source}
use Rattle.dwz_check_labels.specs.Beside.{AreFew, IsBesideReady, IsSourceReady}
use Rattle.dwz_check_labels.specs.Both.{KnowsBeside, KnowsNamed, Named, all_labels, all_targets}
use Rattle.dwz_check_labels.specs.Files.{AreHeres, IsCommonReady, KnowsCommon, common_of}
use Rattle.dwz_check_labels.specs.FilesSaid.{AreFilesSaid, AreLabelsFor, IsFileSaid, given_by, with_index}
use Rattle.dwz_check_labels.proofs.SaidLemmas.{IsNamedOf, IsSourceOf, common_known, few_all, named_ready, source_known, source_ready}

pub named_of : (n : NamedFile) (f : File) (strs : List ℕ) (index : CrossIndex) (heres shown : List Here) → n.units.now ≡ f.units → n.sections.now ≡ f.sections → n.common_strs.now ≡ strs
    → n.index.now ≡ index
    → n.heres.now ≡ shown → shown ≡ heres → AreHeres (units_of f.units) heres → IsNamedOf n f strs index
named_of n f strs index heres shown a b c d e g h = record { units = a; sections = b; texts_are = c; index_is = d; heres = subst (λ (w : List Here). AreHeres (units_of f.units) w) (sym (e ∙ g)) h }

pub source_is : (x : Source) (n : NamedFile) (o : Option NamedFile) (f : File) (strs : List ℕ) (index : CrossIndex) (common : Option (Common ℕ)) → x.own ≡ n → x.common ≡ o → common_of o ≡ common
    → x.refs.now ≡ f.resolved.refs.items → x.starts.now ≡ f.resolved.starts.items → x.tables.now ≡ f.resolved.tables.items → x.lines.now ≡ f.resolved.lines.items → IsNamedOf n f strs index
    → IsSourceOf x f strs index common
source_is x n o f strs index common own beside given refs starts tables lines is = record {
  own = subst (λ (w : NamedFile). IsNamedOf w f strs index) (sym own) is;
  given = ap common_of beside ∙ given;
  refs = refs;
  starts = starts;
  tables = tables;
  lines = lines;
}

-- ---- what is asked of all

pub record AllReady (p q : Source) (o : Option Source) : Type 0 where
  pub old : IsSourceReady p
  pub new : IsSourceReady q
  pub common : IsBesideReady o
  pub few : AreFew p q o

-- whatever they know, these are all labels
abbrev pub ToldBy : Source → Source → Option Source → List (List ℕ) → List (List ℕ) → Type 0
ToldBy p q o labels targets = (a b c : Named) → KnowsNamed p a → KnowsNamed q b → KnowsBeside o c → (labels ≡ all_labels a b c) × (targets ≡ all_targets a b c)

pub told_by : {X E : Type 0} (p q : Source) (o : Option Source) (l t : X → List (List ℕ)) (r : Result X E)
    → ((a b c : Named) → KnowsNamed p a → KnowsNamed q b → KnowsBeside o c → IfOk r (λ x. (l x ≡ all_labels a b c) × (t x ≡ all_targets a b c))) → IfOk r (λ x. ToldBy p q o (l x) (t x))
told_by p q o l t (Ok x) h = h
told_by p q o l t (Err e) h = tt

-- ---- without a common file

module _ (old new : File) (x : CrossIndexes) (p q : Source) (p_is : IsSourceOf p old [] x.old None) (q_is : IsSourceOf q new [] x.new None) (p_none : p.common ≡ None) (q_none : q.common ≡ None) where
  no_common : (w : Source) → w.common ≡ None → IsCommonReady w.common
  no_common w none = subst IsCommonReady (sym none) tt

  none_known : (w : Source) (name : ℕ → CrossName) → w.common ≡ None → KnowsCommon w.common name
  none_known w name none = subst (λ o. KnowsCommon o name) (sym none) tt

  pub alone_ready : AreFilesSaid old new None x → AllReady p q None
  alone_ready s =
      let a = source_ready p old [] x.old None p_is s.old_said s.old_top s.old_is s.old_index (no_common p p_none) in
      let b = source_ready q new [] x.new None q_is s.new_said s.new_top s.new_is s.new_index (no_common q q_none) in
      record { old = a.is; new = b.is; common = tt; few = few_all _ _ 0 _ _ a.tops b.tops (omega arith) a.lone b.lone }

  pub alone_labels : (labels targets : List (List ℕ)) → ToldBy p q None labels targets → AreLabelsFor old new None x labels targets
  alone_labels labels targets h s a b c n =
      h a b c
      (source_known p old [] x.old None p_is a.said s.old_top a.name (subst (λ (us : List (DwUnit ℕ)). IsFileSaid old None us) n.old_said s.old_is)
      (subst (λ (us : List (DwUnit ℕ)). IsCrossIndex (from_top s.old_top) us x.old) n.old_said s.old_index) refl n.old_own (none_known p a.name p_none))
      (source_known q new [] x.new None q_is b.said s.new_top b.name (subst (λ (us : List (DwUnit ℕ)). IsFileSaid new None us) n.new_said s.new_is)
      (subst (λ (us : List (DwUnit ℕ)). IsCrossIndex (from_top s.new_top) us x.new) n.new_said s.new_index) refl n.new_own (none_known q b.name q_none))
      (sym n.common_said ∙ s.common_is)

-- ---- beside one

module _ (old new common : File) (x : CrossIndexes) (index : CrossIndex) (p q w : Source) (t : NamedFile) (p_is : IsSourceOf p old common.sections.strs.bytes.now x.old (given_by (Some common)))
    (q_is : IsSourceOf q new common.sections.strs.bytes.now x.new (given_by (Some common))) (w_is : IsSourceOf w common [] index None) (t_is : IsNamedOf t common [] index) (p_some : p.common ≡ Some t)
    (q_some : q.common ≡ Some t) (w_none : w.common ≡ None) where
  abbrev strs : List ℕ
  strs = common.sections.strs.bytes.now

  pub beside_ready : AreFilesSaid old new (Some common) (with_index x index) → AllReady p q (Some w)
  beside_ready s =
      let third = named_ready t common [] index None s.common_said s.common_top t_is s.common_is s.common_index in
      let a = source_ready p old strs x.old (given_by (Some common)) p_is s.old_said s.old_top s.old_is s.old_index (subst IsCommonReady (sym p_some) third) in
      let b = source_ready q new strs x.new (given_by (Some common)) q_is s.new_said s.new_top s.new_is s.new_index (subst IsCommonReady (sym q_some) third) in
      let c = source_ready w common [] index None w_is s.common_said s.common_top s.common_is s.common_index (subst IsCommonReady (sym w_none) tt) in
      record { old = a.is; new = b.is; common = c.is; few = few_all _ _ _ _ _ a.tops b.tops c.tops a.lone b.lone }

  pub beside_labels : (labels targets : List (List ℕ)) → ToldBy p q (Some w) labels targets → AreLabelsFor old new (Some common) (with_index x index) labels targets
  beside_labels labels targets h s a b c n =
      let is = subst (λ (us : List (DwUnit ℕ)). IsFileSaid common None us) n.common_said s.common_is in
      let k = subst (λ (us : List (DwUnit ℕ)). IsCrossIndex (from_top s.common_top) us index) n.common_said s.common_index in
      h a b c
      (source_known p old strs x.old (given_by (Some common)) p_is a.said s.old_top a.name (subst (λ (us : List (DwUnit ℕ)). IsFileSaid old (given_by (Some common)) us) n.old_said s.old_is)
      (subst (λ (us : List (DwUnit ℕ)). IsCrossIndex (from_top s.old_top) us x.old) n.old_said s.old_index) refl n.old_own
      (subst (λ o. KnowsCommon o a.name) (sym p_some) (common_known t common index c.said s.common_top a.name t_is is k n.old_common)))
      (source_known q new strs x.new (given_by (Some common)) q_is b.said s.new_top b.name (subst (λ (us : List (DwUnit ℕ)). IsFileSaid new (given_by (Some common)) us) n.new_said s.new_is)
      (subst (λ (us : List (DwUnit ℕ)). IsCrossIndex (from_top s.new_top) us x.new) n.new_said s.new_index) refl n.new_own
      (subst (λ o. KnowsCommon o b.name) (sym q_some) (common_known t common index c.said s.common_top b.name t_is is k n.new_common)))
      (source_known w common [] index None w_is c.said s.common_top c.name is k refl n.common_own (subst (λ o. KnowsCommon o c.name) (sym w_none) tt))
