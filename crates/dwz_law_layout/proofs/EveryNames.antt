-- The names of all documents are those of the files, and behind them those of the common file, if it stands.
use Rattle.std.proofs.Common.{◌≡◌, ◌⊎◌, ℕ, ◌+◌, List, [], ◌++◌, length, Some, slice_get, sym, ap, ◌∙◌, inl, inr}
use Rattle.std.proofs.lemmas.List.{append-nil, append_assoc}
use Rattle.dwz_def_reading.specs.Documents.{Doc}
use Rattle.dwz_def_reading.proofs.ListFacts.{get_first}
use Rattle.dwz_def_tops.specs.Spots.{EntryName}
use Rattle.dwz_graph.proofs.TopLemmas.{get_cases}
use Rattle.dwz_graph.specs.AllNames.{StandFrom, all_names}
use Rattle.dwz_layout_numbers.specs.OverLaws.{common_names}
use Rattle.dwz_layout_numbers.proofs.BesideNames.{every_names}
use Rattle.dwz_law_layout.specs.Beside.{Alone, Beside, Over, every_by}
use Rattle.dwz_law_layout.specs.Facts.{RunFacts, docs, every}

abbrev names_by : (b : Beside) (docs : List (Doc ℕ)) → (rest : List EntryName) × (all_names (every_by b docs) ≡ all_names docs ++ rest)
names_by Alone docs = ([], sym (append-nil (all_names docs)))
names_by (Over s) docs = (common_names docs s.doc, every_names docs s.doc)

module _ {beside : Beside} (f : RunFacts beside) where
  abbrev pub rest : List EntryName
  rest = (names_by beside (docs f)).0

  pub names_are : all_names (every f) ≡ all_names (docs f) ++ rest
  names_are = (names_by beside (docs f)).1

  -- of an entry of a file
  pub to_every : (n : ℕ) (s : EntryName) → slice_get (all_names (docs f)) n ≡ Some s → slice_get (all_names (every f)) n ≡ Some s
  to_every n s e = ap (λ (w : List EntryName). slice_get w n) names_are ∙ get_first (all_names (docs f)) rest n s e

  -- the entry is one of the common file
  pub record IsBehind (n : ℕ) (s : EntryName) : Type 0 where
    pub j : ℕ
    pub at : n ≡ length (all_names (docs f)) + j
    pub is : slice_get (all_names (every f)) (length (all_names (docs f)) + j) ≡ Some s

  pub every_cases : (n : ℕ) (s : EntryName) → slice_get (all_names (every f)) n ≡ Some s → (slice_get (all_names (docs f)) n ≡ Some s) ⊎ IsBehind n s
  every_cases n s e = elim (get_cases (all_names (docs f)) rest n s (ap (λ (w : List EntryName). slice_get w n) (sym names_are) ∙ e)) [
    | inl own ↦ inl own
    | inr b ↦ inr (record { j = b.0; at = b.1; is = ap (slice_get (all_names (every f))) (sym b.1) ∙ e })
  ]

  -- names that stand among those of the files stand there among all
  pub stand_every : (names : List EntryName) (start : ℕ) → StandFrom (all_names (docs f)) names start → StandFrom (all_names (every f)) names start
  stand_every names start at = record {
    before = at.before;
    after = at.after ++ rest;
    parts =
        names_are ∙ ap (λ (w : List EntryName). w ++ rest) at.parts ∙ append_assoc at.before (names ++ at.after) rest
        ∙ ap (λ (w : List EntryName). at.before ++ w) (append_assoc names at.after rest);
    start_is = at.start_is;
  }
