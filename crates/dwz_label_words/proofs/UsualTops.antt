-- The entries of tops that may move name entries only as references.
use Rattle.std.proofs.Common.{◌≡◌, ℕ, ◌||◌, false, List, None, refl, sym, subst, ◌∙◌, inl, inr}
use Rattle.std.specs.List.{list_any}
use Rattle.dwz_model.specs.Lists.{Each, In}
use Rattle.dwz_model.proofs.ListFacts.{in_map}
use Rattle.dwz_model.proofs.Members.{each_append, each_of}
use Rattle.dwz_def_reading.specs.Documents.{Attr, Entries, Node, attr_map, entries_map, node_map}
use Rattle.dwz_def_reading.specs.Meanings.{MeaningContext}
use Rattle.dwz_def_reading.specs.Rows.{has}
use Rattle.dwz_def_reading.specs.Trees.{End, Entry}
use Rattle.dwz_def_reading.proofs.CaseFacts.{or_left, or_right}
use Rattle.dwz_def_tops.specs.Alike.{Movable, binding_forms, has_operand, holds_place, leaves}
use Rattle.dwz_def_tops.specs.Spots.{EntryName, FileUnit, Top, tops_of}
use Rattle.dwz_def_tops.proofs.Targets.{NodeIn, NodeOf, free_attr}
use Rattle.dwz_graph.specs.FlatTops.{HasTop}
use Rattle.dwz_graph.specs.Rows.{nodes}
use Rattle.dwz_graph.proofs.TreeLemmas.{tree_means}
use Rattle.dwz_label_words.specs.Told.{AreUsual}
use Rattle.dwz_label_words.specs.Usual.{AreFree}
use Rattle.dwz_label_words.proofs.UsualLemmas.{usual_rows}
use Rattle.dwz_unit.specs.Rows.{EntryRow, rows_below}

-- no expression of these entries has an operand
abbrev NoOperandsIn : Entries EntryName → Type 0
NoOperandsIn f = (e : Node EntryName) → NodeIn e f → (a : Attr EntryName) → In a e.attrs → has_operand a.value.plain ≡ false

free_nodes : (name : ℕ → EntryName) (f : Entries ℕ) → NoOperandsIn (entries_map name f) → Each AreFree (nodes f)
unfolding nodes entries_map
free_nodes name End h = tt
free_nodes name (Entry d c n) h = (
  each_of (λ a. has_operand a.value.plain ≡ false) d.attrs (λ a there. h (node_map name d) (inl refl) (attr_map name a) (in_map (attr_map name) a d.attrs there)),
  each_append AreFree (nodes c) (nodes n) (free_nodes name c (λ e is. h e (inr (inl is)))) (free_nodes name n (λ e is. h e (inr (inr is)))),
)

no_operands : (units : List (FileUnit EntryName)) (t : Top) → In t (tops_of units) → Movable units t.number → (e : Node EntryName) → NodeOf e t → (a : Attr EntryName) → In a e.attrs
    → has_operand a.value.plain ≡ false
no_operands units t is m e node a attr =
    let leaving = list_any (leaves (tops_of units) t.unit) a.value.refs in
    let rest = or_right (has a.form binding_forms) (holds_place a.value || leaving) (free_attr units t is m e node a attr) in
    or_left (has_operand a.value.plain) a.value.address (or_left (holds_place a.value) leaving rest)

pub usual_top : (units : List (FileUnit EntryName)) (t : Top) → In t (tops_of units) → Movable units t.number → (s : MeaningContext ℕ) (name : ℕ → EntryName) (rows : List EntryRow) (unit depth : ℕ)
    → s.around.common ≡ None → (h : HasTop s name rows unit depth t.spaces t) → Each AreUsual (nodes (Entry h.d h.g End))
unfolding entries_map
usual_top units t is m s name rows unit depth none h =
    usual_rows s (rows_below (Entry h.e h.c End) unit h.p) (nodes (Entry h.d h.g End)) none (tree_means s (Entry h.e h.c End) (Entry h.d h.g End) unit h.p h.means)
    (free_nodes name (Entry h.d h.g End) all) where
      all : NoOperandsIn (entries_map name (Entry h.d h.g End))
      all e (inl here) = no_operands units t is m e (inl (h.node ∙ here))
      all e (inr (inl inside)) = no_operands units t is m e (inr (subst (NodeIn e) (sym h.below) inside))
      all e (inr (inr none)) = absurd none
