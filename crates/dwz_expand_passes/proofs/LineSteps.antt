-- What was made of an entry is its copy.
use Rattle.std.proofs.Common.{◌≡◌, ℕ, ◌<◌, List, length, map, Some, Result, Ok, Err, slice_get, sym, ap, ◌∙◌, arith}
use Rattle.std.proofs.lemmas.List.{length-map}
use Rattle.dwz_expand_sources.specs.Index.{ListedEntry}
use Rattle.dwz_def_cross.specs.Tops.{WithCommon, units_with_common}
use Rattle.dwz_def_expand.specs.Chosen.{chosen_attr}
use Rattle.dwz_def_expand.specs.Refusals.{Where}
use Rattle.dwz_def_expand.specs.Source.{Copy, copy}
use Rattle.dwz_def_reading.specs.Documents.{Attr, Node, attr_map}
use Rattle.dwz_model.proofs.ListFacts.{got_below, got_map, got_there}
use Rattle.dwz_model.specs.declared.fault.ReadErr.{ReadErr}
use Rattle.dwz_model.specs.declared.fault.ReadErr.TheVariants.{NoMemory, Refused}
use Rattle.dwz_expand_layout.specs.Lines.{Line}
use Rattle.dwz_expand_layout.specs.Shown.{HeldAttr, attr_held, held_of, keys_of}
use Rattle.dwz_expand_layout.specs.Entries.{attr_view}
use Rattle.dwz_expand_layout.specs.declared.entries.NewAttr.{NewAttr}
use Rattle.dwz_expand_layout.specs.declared.entries.NewOperand.{NewOperand}
use Rattle.dwz_expand_sources.specs.Sources.{all_entries}
use Rattle.dwz_expand_passes.proofs.OperandLemmas.{map_twice}
use Rattle.dwz_expand_passes.specs.Files.{AnswersEntry, forms_of}
use Rattle.dwz_expand_passes.specs.declared.files.Known.{Known}
use Rattle.dwz_expand_passes.specs.Heads.{IsHeadOf}
use Rattle.dwz_expand_passes.specs.Steps.{AnswersLine}
use Rattle.dwz_expand_passes.specs.declared.heads.Head.{Head}
use Rattle.dwz_expand_passes.proofs.LineLemmas.{all_nodes, listed_node, node_of}
use Rattle.dwz_expand_passes.specs.CopiesOf.{named_copy}
use Rattle.dwz_expand_passes.specs.Lined.{all_lines}
use Rattle.dwz_expand_passes.specs.Numbered.{key_in}

-- an entry by its number, with what is below it
pub node_there : (w : WithCommon ℕ) (i : ℕ) (l : Line ℕ) → slice_get (all_lines w) i ≡ Some l → (d : ListedEntry ℕ) × (slice_get (all_entries w) i ≡ Some d) × (d.0 ≡ l.node)
node_there w i l found =
    let nodes = all_nodes (units_with_common w) in
    let here : slice_get (map node_of (all_lines w)) i ≡ Some l.node = got_map node_of (all_lines w) i l found in
    let there : slice_get (map listed_node (all_entries w)) i ≡ Some l.node = ap (λ (ns : List (Node ℕ)). slice_get ns i) (sym nodes) ∙ here in
    let lt : i < length (all_entries w) = omega (arith, got_below (map listed_node (all_entries w)) i l.node there, length-map (all_entries w) listed_node) in
    let d = got_there (all_entries w) i lt in
    let mapped : slice_get (map listed_node (all_entries w)) i ≡ Some d.0.0 = got_map listed_node (all_entries w) i d.0 d.1 in
    let both : Some d.0.0 ≡ Some l.node = sym mapped ∙ there in
    (d.0, d.1, (let one : d.0.0 ≡ l.node = cc in one))

pub line_answer : {Y : Type 0} (x : Known) (w : WithCommon ℕ) (stands : Where ℕ) (l : Line ℕ) (h : Head) (attrs : List NewAttr) (operands : List NewOperand) (r : Result Y ReadErr) → IsHeadOf l h
    → AnswersEntry x w (keys_of (key_in w)) stands l.node attrs operands r → AnswersLine x w stands l (record { depth = h.depth; tag = h.tag; attrs = map (attr_view operands) attrs }) r
line_answer x w stands l h attrs operands (Ok y) head answer =
    let c = forms_of x w in
    let k = copy x.unit l.node.at in
    let held : NewAttr → HeldAttr (Copy ℕ) = λ a. attr_held (keys_of (key_in w)) (attr_view operands a) in
    let named : Attr ℕ → Attr (Copy ℕ) = attr_map (named_copy w x.unit) in
    record {
      copy = record {
        depth = head.depth;
        tag = head.tag;
        attrs = sym (map_twice (attr_held (keys_of (key_in w))) (attr_view operands) attrs)
            ∙ answer.0
            ∙ map_twice (λ (b : Attr (Copy ℕ)). held_of b) (λ (a : Attr ℕ). chosen_attr c k (named a)) l.node.attrs
            ∙ ap (map held_of) (map_twice (chosen_attr c k) named l.node.attrs);
      };
      free = answer.1;
    }
line_answer x w stands l h attrs operands (Err NoMemory) head answer = tt
line_answer x w stands l h attrs operands (Err (Refused f)) head answer = answer
